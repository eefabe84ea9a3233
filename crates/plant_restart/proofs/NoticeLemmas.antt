-- What an operator notices of a change of its plant.
use Rattle.std.proofs.Common.{[], ◌∷◌, refl, ap, ◌∙◌}
use Rattle.plant_restart.proofs.Common.{RowFields, Start, IsPlantChange, start_by_name, states_by_name}
use Rattle.run_model.specs.Periods.{Period, ArePeriodsOf}
use Rattle.run_model.proofs.PeriodLemmas.{alike}
use Rattle.plant_restart.specs.Noticing.{IsRunOverChange, ChangeKeepsState, ChangeIsNotNoticed}

module _ (row : RowFields) (before after : Period) (over : IsRunOverChange row before after) where
  changed : IsPlantChange (record { plant = before.plant; start = before.start; steps = before.steps; outs = before.outs })
      (record { plant = after.plant; start = start_by_name after.plant over.change.frame (states_by_name over.old); steps = []; outs = [] })
  changed = over.change.changes before.plant before.start before.steps before.outs over.led_to_old

pub keeps_state : ChangeKeepsState
keeps_state row before after over =
    ap (λ (s : Start). s.state row) over.starts ∙ (changed row before after over).go_on before.place after.place row row over.row_before over.row_after refl

both_periods : (row : RowFields) (before after : Period) → IsRunOverChange row before after → ArePeriodsOf before.plant.consts row (before.start.state row) (before ∷ after ∷ [])
both_periods row before after over = (
  record { shown = over.led_to_old.shown; consts_are = refl; row_is = over.row_before; starts = refl },
  (record { shown = over.led_to_last.shown; consts_are = over.consts_are; row_is = over.row_after; starts = keeps_state row before after over }, tt),
)

pub not_noticed : ChangeIsNotNoticed
not_noticed row before after others over are same = alike before.plant.consts row (before.start.state row) (before ∷ after ∷ []) others (both_periods row before after over) are same
