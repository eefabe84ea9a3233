-- Where a run starts (implementation-specific).
use Rattle.std.specs.Prelude.{◌≡◌, ℕ, List, [], map, slice_get, Option, Some, None}
use Rattle.slice_scheduler.specs.Minislots.{Minislots}
use Rattle.plant.specs.declared.operator_row.RowFields.{RowFields}
use Rattle.plant.specs.declared.plant.PlantFields.{PlantFields}
use Rattle.operator_model.specs.State.{OperatorState, opened_state, operator}
use Rattle.operator_model.specs.Slices.{SliceFrom, waiting_slice}
use Rattle.operator_model.specs.Sound.{IsSound}
use Rattle.map_assembly.specs.declared.slicing.Reslicing.{Reslicing}
use Rattle.run_model.specs.Places.{AtEachOperator}

-- where a run starts: the frame of its first MAP, the state of each row's operator, and the slice changes that wait
pub record Start : Type 0 where
  pub frame : ℕ
  pub state : RowFields → OperatorState
  pub waiting : List Reslicing

-- a plant as it is opened: it starts at its first frame, with each operator opened and no slice change waiting
abbrev pub first_start : PlantFields → Start
first_start plant = record { frame = plant.consts.channel.first_frame; state = opened_state plant.consts; waiting = [] }

-- ---- slices that wait

-- the operator's slice of a slice change
abbrev pub slice_else : Option Minislots → Minislots
slice_else None = record { start = 0; length = 0 }
slice_else (Some slice) = slice

-- an operator's own slice of a slice change that waits
abbrev pub own_of : ℕ → Reslicing → SliceFrom
own_of i r = record { from = r.from; slice = slice_else (slice_get r.slicing i) }

-- ---- a valid start

-- all operators are at the frame of the first MAP
abbrev pub StandAtOneFrame : PlantFields → Start → Type 0
StandAtOneFrame plant start = AtEachOperator plant (λ i row. (start.state row).frame ≡ start.frame)

-- each state is sound under its row, all are at one frame, and what waits of each is its own slice of the changes that wait
pub record IsStart (plant : PlantFields) (start : Start) : Type 0 where
  pub sound : AtEachOperator plant (λ i row. IsSound (operator plant.consts row (start.state row)))
  pub at_one_frame : StandAtOneFrame plant start
  pub waits : AtEachOperator plant (λ i row. map (own_of i) start.waiting ≡ waiting_slice (start.state row).next)
