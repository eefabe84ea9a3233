use Rattle.std.proofs.Common.{sym, ◌∙◌}
use Rattle.state_service.proofs.ResumedLemmas.Common.{live_view, on_ok_map}
use Rattle.state_service.proofs.ResumedLemmas.ItemLemmas.{line_answered, snapshot_answered}
use Rattle.state_service.proofs.resumed.items.answer_item.Goals as goal

pub returns-then-is_held-clause-answered : goal.returns-then-is_held-clause-answered
returns-then-is_held-clause-answered g c =
    on_ok_map c.answer_snapshot.result _ _
    (λ wrote plant start before shown after line held.
    snapshot_answered c.args.file.now plant start before shown c.args.number line _ _ (live_view c.args.core.now)
    (sym (c.is_held.ensures line held) ∙ c.if-is_held.true) after wrote) c.answer_snapshot.ensures

pub returns-else-is_held-clause-answered : goal.returns-else-is_held-clause-answered
returns-else-is_held-clause-answered g c =
    on_ok_map c.answer_held.result _ _
    (λ answers plant start before shown after line held.
    line_answered c.args.file.now plant start before shown c.args.number line _ _ (live_view c.answer_held.new.core)
    (c.requires.no_plant line held) (sym (c.is_held.ensures line held) ∙ c.if-is_held.false) (c.requires.no_frame line held) (answers plant start before shown after line held)) c.answer_held.ensures.answered
