use Rattle.std.proofs.Common.{◌∙◌, List, ℕ, subst}
use Rattle.line_service.proofs.Common.{Appends-kept, live_view, TooLong, LineIsAnswered}
use Rattle.line_service.proofs.LineLemmas.{end_written, none_answered, long_said, whole_held}
use Rattle.line_service.proofs.StepLemmas.{on_ok, on_ok_map, reachable_on}
use Rattle.line_service.proofs.serving.answer_held.Goals as goal

pub returns-then-held-clause-reached : goal.returns-then-held-clause-reached
returns-then-held-clause-reached g c = on_ok c.flush.result _ c.requires.reached

pub returns-then-held-clause-answered : goal.returns-then-held-clause-answered
returns-then-held-clause-answered g c =
    rw (← c.note_line.ensures) (on_ok c.flush.result _
    (λ plant start before shown after line held.
    end_written plant start before shown c.args.number line _ _ _ _ _
    (none_answered plant start before shown c.args.number line TooLong _ _ after (long_said plant c.args.number c.args.held.now.bytes.items line c.args.held.now.is_long c.if-held.true held))
    (Appends-kept _ _ _ _ c.in_ok-write_end.ensures c.flush.ensures.bytes)))

pub returns-clause-reached : goal.returns-clause-reached
returns-clause-reached g c =
    on_ok_map c.answer_line.result _ _
    (λ answers. reachable_on (live_view c.args.core.now) (live_view c.answer_line.new.core) c.requires.reached
    (λ plant start before shown after. let is = (answers plant start before shown after).is in (_, _, is.after)))
    c.answer_line.ensures

pub returns-clause-answered : goal.returns-clause-answered
returns-clause-answered g c =
    rw (← c.note_line.ensures) (on_ok_map c.answer_line.result _ _
    (λ answers plant start before shown after line held.
    subst (λ (l : List ℕ). LineIsAnswered plant start before shown c.args.number l (live_view c.answer_line.new.core) (g.W.Write.contents c.note_line.new.writer) (g.W.Write.contents c.answer_line.new.writer))
    (c.as_slice.ensures.value ∙ whole_held c.args.held.now.bytes.items line c.args.held.now.is_long c.if-held.false held) (answers plant start before shown after))
    c.answer_line.ensures)
