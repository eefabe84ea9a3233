use Rattle.std.proofs.Common.{sym, ap, option_map, ◌∙◌}
use Rattle.plant_restart.proofs.Common.{live_view, sound_of, book_by}
use Rattle.plant_restart.proofs.SaveLemmas.{saved_more}
use Rattle.plant_restart.proofs.saving.states_to_save.Goals as goal

pub loop-op-preserved : goal.loop-op-preserved
loop-op-preserved c =
    let at = c.loop-op in
    saved_more (live_view c.args.core.now).books at.op (sound_of c.in-Some.machine.now) at.operators.items _ c.in_ok-state_to_save.field-0
    (sym c.machine.ensures ∙ ap (option_map (λ machine. book_by machine.now)) c.in-Some.is) c.in_ok-state_to_save.ensures c.in_ok-push.ensures.items at.invariant
