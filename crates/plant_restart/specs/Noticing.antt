-- What an operator notices of a change of its plant (implementation-specific).
use Rattle.std.specs.Prelude.{◌≡◌, List, [], ◌∷◌, slice_get, Some}
use Rattle.plant.specs.declared.operator_row.RowFields.{RowFields}
use Rattle.run_model.specs.IsStateAfter.{CoreView}
use Rattle.run_model.specs.Changing.{state_now}
use Rattle.run_model.specs.Periods.{Period, ArePeriodsOf, steps_over, NoticesAlike}
use Rattle.plant_core.specs.live.After.{IsAfterFrom}
use Rattle.plant_restart.specs.ByName.{start_by_name}
use Rattle.plant_restart.specs.Saving.{states_by_name}
use Rattle.plant_restart.specs.Changing.{IsChangeOf}

-- a run over a change of plant: it led to the old core, whose plant was changed, and from the new core it led to the last one. Both
-- plants have the same constants, so no class was added. At these places an operator has this row in both plants.
pub record IsRunOverChange (row : RowFields) (before after : Period) : Type 0 where
  pub old : CoreView
  pub new : CoreView
  pub last : CoreView
  pub led_to_old : IsAfterFrom before.plant before.start before.steps before.outs old
  pub change : IsChangeOf old after.plant new
  pub starts : after.start ≡ start_by_name after.plant change.frame (states_by_name old)
  pub led_to_last : IsAfterFrom after.plant after.start after.steps after.outs last
  pub consts_are : after.plant.consts ≡ before.plant.consts
  pub row_before : slice_get before.plant.rows before.place ≡ Some row
  pub row_after : slice_get after.plant.rows after.place ≡ Some row

-- the operator goes on in the state in which it was
abbrev pub ChangeKeepsState : Type 0
ChangeKeepsState = (row : RowFields) (before after : Period) → IsRunOverChange row before after
    → after.start.state row ≡ state_now (record { plant = before.plant; start = before.start; steps = before.steps; outs = before.outs }) before.place row

-- the operator notices the same as in any other course of periods in which it starts as before the change and has the same own steps:
-- of other operators, changed in any way, at any time, or never
abbrev pub ChangeIsNotNoticed : Type 0
ChangeIsNotNoticed = (row : RowFields) (before after : Period) (others : List Period) → IsRunOverChange row before after
    → ArePeriodsOf before.plant.consts row (before.start.state row) others → steps_over row (before ∷ after ∷ []) ≡ steps_over row others
    → NoticesAlike row (before ∷ after ∷ []) others
