use Rattle.std.proofs.Common.{inl, List, ℕ, refl, [], subst}
use Rattle.state_service.proofs.Common.{live_view, IsKeptState}
use Rattle.state_service.proofs.BeginLemmas.{none_read, plant_changes}
use Rattle.state_service.proofs.ServeLemmas.{state_due}
use Rattle.state_service.proofs.starting.change_service.Goals as goal

pub returns-clause-on : goal.returns-clause-on
returns-clause-on g c found input led is_saved =
    let service = c.args.service in
    let given = c.args.given.file.items in
    let first = live_view c.in-Ok.core in
    let mid = g.W.Write.contents c.write_greeting.new.writer in
    let kept = c.in_ok-state_to_keep.field-0 in
    record {
      first = first;
      count = service.count;
      is_first = record {
        led = live_view service.core;
        leads = led;
        saved = service.file;
        is_saved_with = is_saved;
        is_under = plant_changes service.file given (live_view service.core) first c.requires.other (c.args.given.plant, c.requires.given, c.in-Ok.ensures.ok);
      };
      frame = c.resting_frame.result;
      is_frame = c.resting_frame.ensures;
      mid = mid;
      greeted = c.in_ok-write_greeting.ensures;
      so_far = state_due given first service.count input input [] first service.count mid mid (record { kept = kept; answer = c.new.result }) c.new.ensures.items
          (subst (λ (f : List ℕ). IsKeptState first f service.count kept.snapshot kept.start.plant kept.start.saved) c.from_vec.ensures c.in_ok-state_to_keep.ensures)
          (none_read given first service.count input [] mid refl);
      left = inl refl;
    }
