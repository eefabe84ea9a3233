use Rattle.std.proofs.Common.{◌≡◌, ℕ, ◌+◌, ◌≤◌, Option, length, refl, ap, sym, ◌∙◌, arith}
use Rattle.std.specs.Prelude.{option_map, vec_capacity}
use Rattle.flow_table.specs.Index.{with_place}
use Rattle.flow_table.proofs.Common.{Flow, insert_entry, nat_cmp, sid_if}
use Rattle.flow_table.proofs.PlacedLemmas.{active_absent, active_ascends, active_place, changed_active, changed_room, kept_more, new_flows, new_room, new_rows, placed_at, placed_none, written_flows}
use Rattle.flow_table.proofs.rows.FlowRows.put.Goals as goal

-- ---- a flow in place of another

pub mark-requires-clause-ascending : goal.mark-requires-clause-ascending
mark-requires-clause-ascending c = rw c.make_room.ensures.items (active_ascends c.self.invariant)

pub mark-requires-clause-same : goal.mark-requires-clause-same
mark-requires-clause-same c =
    rw c.make_room.ensures.items (λ p row. active_place c.self.invariant c.args.sfid _ p (sym c.in_ok-place.ensures.had ∙ c.in-Some.is) row)

pub mark-requires-clause-room : goal.mark-requires-clause-room
mark-requires-clause-room c =
    let changed = rw c.reserve.ensures.rest_kept at c.replace_at-had.ensures.flows in
    rw (c.make_room.ensures.items, c.activity-activity.ensures, c.deref.ensures)
    (changed_room (kept_more c.self.invariant c.make_room.ensures.grows) c.args.sfid _ (sym c.in_ok-place.ensures.had ∙ c.in-Some.is) (λ old. c.args.flow.value) changed _ (λ flow old. refl))

pub invariant_of-self-in-Some : goal.invariant_of-self-in-Some
invariant_of-self-in-Some c =
    let changed = rw c.reserve.ensures.rest_kept at c.replace_at-had.ensures.flows in
    let places = rw c.in-Some.is at c.in_ok-place.ensures.places in
    rw (c.mark.ensures.items, c.mark.ensures.capacity, c.make_room.ensures.items, c.activity-activity.ensures, c.deref.ensures, places)
    (changed_active (kept_more c.self.invariant c.make_room.ensures.grows) c.args.sfid _ (sym c.in_ok-place.ensures.had ∙ c.in-Some.is) (λ old. c.args.flow.value) changed _ (λ flow old. refl))

pub returns-in-Some-clause-had : goal.returns-in-Some-clause-had
returns-in-Some-clause-had c =
    let there = placed_at c.self.invariant.placed c.args.sfid _ (sym c.in_ok-place.ensures.had ∙ c.in-Some.is) in
    let had = rw c.reserve.ensures.rest_kept at c.replace_at-had.ensures.had in
    rw (← c.self.view_is) (had ∙ sym (ap sid_if there))

pub returns-in-Some-clause-flows : goal.returns-in-Some-clause-flows
returns-in-Some-clause-flows c =
    let changed = rw c.reserve.ensures.rest_kept at c.replace_at-had.ensures.flows in
    let places = rw c.in-Some.is at c.in_ok-place.ensures.places in
    rw (places, ← c.self.view_is)
    (written_flows c.self.invariant c.args.sfid _ (sym c.in_ok-place.ensures.had ∙ c.in-Some.is) (λ old. c.args.flow.value) changed c.args.flow.value (λ old. refl))

-- ---- a flow of an SFID that had none

pub mark-requires-in-None-clause-ascending : goal.mark-requires-in-None-clause-ascending
mark-requires-in-None-clause-ascending c = rw c.make_room.ensures.items (active_ascends c.self.invariant)

pub mark-requires-in-None-clause-same : goal.mark-requires-in-None-clause-same
mark-requires-in-None-clause-same c =
    rw c.make_room.ensures.items (λ p row. absurd (active_absent c.self.invariant c.args.sfid p (sym c.in_ok-place.ensures.had ∙ c.in-None.is) row))

pub mark-requires-in-None-clause-room : goal.mark-requires-in-None-clause-room
mark-requires-in-None-clause-room c =
    let room : length c.self.inside.places.entries + 1 ≤ vec_capacity c.make_room.new.active = omega (arith, c.in_ok-make_room.ensures.ok, c.len.ensures.len) in
    rw c.make_room.ensures.items (new_room c.self.invariant c.args.sfid _ _ _ room)

pub invariant_of-self-in-None : goal.invariant_of-self-in-None
invariant_of-self-in-None c =
    let room : length c.self.inside.places.entries + 1 ≤ vec_capacity c.make_room.new.active = omega (arith, c.in_ok-make_room.ensures.ok, c.len.ensures.len) in
    let free = rw c.reserve.ensures.rest_kept at c.insert_reserved-place.ensures.was_vacant in
    let updates = rw c.reserve.ensures.rest_kept at c.insert_reserved-place.ensures.updates in
    let place = c.vacant_key-free.ensures.value ∙ sym c.insert_reserved-place.ensures.key in
    let places = rw (c.in-None.is, place) at c.in_ok-place.ensures.places in
    rw (c.mark-in-None.ensures.items, c.mark-in-None.ensures.capacity, c.make_room.ensures.items, c.activity-activity.ensures, c.deref.ensures, places)
    (new_rows c.self.invariant c.args.sfid _ c.args.flow.value (sym c.in_ok-place.ensures.had ∙ c.in-None.is) (ap (option_map (λ boxed. boxed.value)) free)
    (ap (option_map (λ boxed. boxed.value)) updates.changed) (λ other apart. ap (option_map (λ boxed. boxed.value)) (updates.others other apart)) _ room)

pub returns-in-None-clause-had : goal.returns-in-None-clause-had
returns-in-None-clause-had c =
    rw (← c.self.view_is) (sym (ap sid_if (placed_none c.self.invariant.placed c.args.sfid (sym c.in_ok-place.ensures.had ∙ c.in-None.is))))

pub returns-in-None-clause-flows : goal.returns-in-None-clause-flows
returns-in-None-clause-flows c =
    let free = rw c.reserve.ensures.rest_kept at c.insert_reserved-place.ensures.was_vacant in
    let updates = rw c.reserve.ensures.rest_kept at c.insert_reserved-place.ensures.updates in
    let place = c.vacant_key-free.ensures.value ∙ sym c.insert_reserved-place.ensures.key in
    let places = rw (c.in-None.is, place) at c.in_ok-place.ensures.places in
    rw (places, ← c.self.view_is)
    (new_flows c.self.invariant c.args.sfid _ c.args.flow.value (sym c.in_ok-place.ensures.had ∙ c.in-None.is) (ap (option_map (λ boxed. boxed.value)) free)
    (ap (option_map (λ boxed. boxed.value)) updates.changed) (λ other apart. ap (option_map (λ boxed. boxed.value)) (updates.others other apart)))
