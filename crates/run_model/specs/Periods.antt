-- Non-interference over changes of plant (implementation-specific).
use Rattle.std.specs.Prelude.{◌≡◌, ℕ, List, [], ◌∷◌, slice_get, Some, ⊤}
use Rattle.std.specs.List.{Contains, flat_map}
use Rattle.plant.specs.declared.consts.ConstsFields.{ConstsFields}
use Rattle.plant.specs.declared.operator_row.RowFields.{RowFields}
use Rattle.plant.specs.declared.plant.PlantFields.{PlantFields}
use Rattle.operator_model.specs.declared.action.Action.{Action}
use Rattle.operator_model.specs.declared.output.Output.{Output}
use Rattle.operator_model.specs.State.{OperatorState, operator}
use Rattle.operator_model.specs.Machine.{own_run}
use Rattle.map_assembly.specs.declared.map_bytes.MapBytes.{MapBytes}
use Rattle.map_assembly.specs.declared.view.MapView.{MapView}
use Rattle.map_assembly.specs.Reading.{MapReads}
use Rattle.map_assembly.specs.Tiled.{part_of}
use Rattle.run_model.specs.declared.step.Step.{Step}
use Rattle.run_model.specs.declared.step.Out.{Out}
use Rattle.run_model.specs.OwnSteps.{own_steps, answers_of, maps_in}
use Rattle.run_model.specs.Starts.{Start}
use Rattle.run_model.specs.IsTraceOf.{IsTraceFrom}

-- one plant between two changes: where it started, its steps and outputs, and the place of the operator that is looked at
pub record Period : Type 0 where
  pub plant : PlantFields
  pub start : Start
  pub steps : List Step
  pub outs : List Out
  pub place : ℕ

-- the period is a run of its plant, which has these constants, and in which the operator has this row and starts in this state
pub record IsPeriodOf (consts : ConstsFields) (row : RowFields) (state : OperatorState) (x : Period) : Type 0 where
  pub shown : IsTraceFrom x.plant x.start x.steps x.outs
  pub consts_are : x.plant.consts ≡ consts
  pub row_is : slice_get x.plant.rows x.place ≡ Some row
  pub starts : x.start.state row ≡ state

-- one period after the other: the operator keeps its row and what all operators share, and starts each in the state in which it ended the
-- one before
abbrev pub ArePeriodsOf : ConstsFields → RowFields → OperatorState → List Period → Type 0
ArePeriodsOf consts row state [] = ⊤
ArePeriodsOf consts row state (x ∷ xs) =
    IsPeriodOf consts row state x × ArePeriodsOf consts row (own_run (operator consts row state) (own_steps row x.place x.steps)).state xs

-- over all periods the operator's own steps
abbrev pub steps_over : RowFields → List Period → List Action
steps_over row xs = flat_map (λ x. own_steps row x.place x.steps) xs

-- what is under the operator in all periods: its modems' replies, drop reasons and its frames
abbrev pub answers_over : List Period → List Output
answers_over xs = flat_map (λ x. answers_of x.place x.outs) xs

-- the MAPs of all periods, in order
abbrev pub maps_over : List Period → List MapBytes
maps_over xs = flat_map (λ x. maps_in x.outs) xs

-- what the operator notices of both is the same
pub record NoticesAlike (row : RowFields) (xs ys : List Period) : Type 0 where
  pub answers : answers_over xs ≡ answers_over ys
  pub parts : (a b : MapBytes) (v w : MapView) → Contains (maps_over xs) a → Contains (maps_over ys) b → a.frame ≡ b.frame
      → MapReads a.bytes v → MapReads b.bytes w → part_of row.sids v ≡ part_of row.sids w

-- Non-interference over changes of plant. Two courses of periods are compared. If an operator keeps its row and the constants, starts in
-- one state and has the same own steps in both, its outputs and its part of every MAP are equal, however, whenever and how often the plants
-- are changed for others.
abbrev pub ChangesAreNotNoticed : Type 0
ChangesAreNotNoticed = (consts : ConstsFields) (row : RowFields) (state : OperatorState) (xs ys : List Period)
    → ArePeriodsOf consts row state xs → ArePeriodsOf consts row state ys → steps_over row xs ≡ steps_over row ys → NoticesAlike row xs ys
