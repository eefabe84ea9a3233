use Rattle.std.proofs.Common.{List, [], ◌∷◌, ◌++◌, sym, ap, ap₂, subst, ◌∙◌}
use Rattle.plant_core.proofs.Common.{SliceRow, Entry, Reslices, Performs, live_view, reslice_fault, SliceChange, histories_after_reslice, record_view}
use Rattle.plant_core.proofs.RecordLemmas.{is_of, reslices_recorded}
use Rattle.plant_core.proofs.StepLemmas.{same_reslice_fault}
use Rattle.plant_core.proofs.recorded.RecordedCore.give.Goals as goal

pub give-requires : goal.give-requires
give-requires c =
    let core = c.args.self.now in
    ap (λ (rows : List SliceRow). reslice_fault c.args.from (live_view core.live).books rows) c.as_slice-given.ensures
    ∙ (sym (same_reslice_fault (live_view core.live) (record_view core) (is_of _ _ _ c.always.ensures.gathering core.belongs) c.args.from c.args.rows.now) ∙ c.requires)

pub invariant_of-self-2 : goal.invariant_of-self-2
invariant_of-self-2 c =
    let core = c.args.self.now in
    record {
      belongs = (reslices_recorded (live_view core.live) (live_view c.give.new.self) _ core.changes.items [] c.always.ensures.gathering core.belongs c.args.from c.args.rows.now _ c.push_reserved.new.self.items
          (c.record_rows.ensures ∙ ap₂ (λ (rows : List SliceRow) (histories : List (List Entry)). histories_after_reslice c.args.from rows histories) c.as_slice-given.ensures c.make_room.ensures.entries)
          (c.push_reserved.ensures.items ∙ ap₂ (λ (changes : List SliceChange) (rows : List SliceRow). changes ++ record { from = c.args.from; rows = rows } ∷ []) c.in_ok-reserve.ensures.items c.in_ok-copy.ensures)
          (subst (λ (rows : List SliceRow). Performs (Reslices c.args.from rows) (live_view core.live) (live_view c.give.new.self) []) c.as_slice-given.ensures c.in_ok-give.ensures.ok)).belongs;
    }

pub returns-clause-ok : goal.returns-clause-ok
returns-clause-ok c =
    let core = c.args.self.now in
    (reslices_recorded (live_view core.live) (live_view c.give.new.self) _ core.changes.items [] c.always.ensures.gathering core.belongs c.args.from c.args.rows.now _ c.push_reserved.new.self.items
    (c.record_rows.ensures ∙ ap₂ (λ (rows : List SliceRow) (histories : List (List Entry)). histories_after_reslice c.args.from rows histories) c.as_slice-given.ensures c.make_room.ensures.entries)
    (c.push_reserved.ensures.items ∙ ap₂ (λ (changes : List SliceChange) (rows : List SliceRow). changes ++ record { from = c.args.from; rows = rows } ∷ []) c.in_ok-reserve.ensures.items c.in_ok-copy.ensures)
    (subst (λ (rows : List SliceRow). Performs (Reslices c.args.from rows) (live_view core.live) (live_view c.give.new.self) []) c.as_slice-given.ensures c.in_ok-give.ensures.ok)).done
