use Rattle.std.proofs.Common.{◌+◌, ap, sym, ◌∙◌, arith, rules}
use Rattle.std.proofs.lemmas.List.{length-drop}
use Rattle.flow_table.proofs.Common.{flow_in}
use Rattle.flow_table.proofs.PlacedLemmas.{scheduled_all, scheduled_of, pushed, passed}
use Rattle.flow_table.proofs.rows.FlowRows.flowing_into.Goals as goal
use Rattle.flow_table.proofs.rows.FlowRows.flowing_into.Goals.{in-Some, in_default}

pub loop-sfid-init : goal.loop-sfid-init
loop-sfid-init c =
    let at = flow_in c.self.inside.flows in
    let start = ap (scheduled_of at) c.self.invariant.rows ∙ scheduled_all at c.self.inside.places.entries in
    record {
      items = rw (c.deref-sfid-items.ensures.value, ← c.self.view_is) (search (rules, start));
      room = omega (arith, c.in_ok-reserve.ensures.ok, c.len.ensures, c.deref-sfid-items.ensures.len, c.reserve.ensures.len);
    }

pub loop-sfid-preserved : goal.loop-sfid-preserved
loop-sfid-preserved c =
    let at = flow_in c.self.inside.flows in
    let rows = c.deref-sfid-items.result.now in
    let i = c.loop-sfid.sfid-index in
    let so_far = rw (← c.self.view_is) at c.loop-sfid.invariant.items in
    elim c.match-scheduled_at.branch [
      | in-Some w ↦ record {
        items = rw (w.flowing-is, w.push_reserved.ensures.items, ← c.self.view_is) (pushed at _ _ _ _ _ c.loop-sfid-test.true (sym w.in-Some.is ∙ c.scheduled_at.ensures) so_far);
        room = rw w.flowing-is (omega (arith, c.loop-sfid.invariant.room, w.push_reserved.ensures.len, w.push_reserved.ensures.capacity, length-drop i rows, length-drop (i + 1) rows, c.loop-sfid-test.true));
      }
      | in_default w ↦ record {
        items = rw (w.flowing-is, ← c.self.view_is) (passed at _ _ _ _ c.loop-sfid-test.true (sym w.in_default.is ∙ c.scheduled_at.ensures) so_far);
        room = rw w.flowing-is (omega (arith, c.loop-sfid.invariant.room, length-drop i rows, length-drop (i + 1) rows, c.loop-sfid-test.true));
      }
    ]
