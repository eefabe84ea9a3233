-- Which Tick finds its operator's frame numbers spent (implementation-specific).
use Rattle.std.specs.Prelude.{◌≡◌, not, Bool, true, false, ℕ, ◌+◌, ◌<◌, ◌≤◌, List, length, take, slice_get, Option, Some, None}
use Rattle.std.specs.List.{take_while}
use Rattle.plant.specs.declared.plant.PlantFields.{PlantFields}
use Rattle.run_model.specs.declared.step.Step.{Step}
use Rattle.run_model.specs.declared.step.Step.TheVariants as steps
use Rattle.plant_workers.specs.audit.Outcome.{ticks_of}

-- the step at this place is a Tick of the operator, which has no frame number left: it is at the last of 32 bits
pub record IsSpentAt (first_frame op : ℕ) (all : List Step) (place : ℕ) : Type 0 where
  pub step_is : slice_get all place ≡ Some (steps.Tick op)
  pub spent : 4294967295 ≤ first_frame + ticks_of op (take place all)

-- the operator has its frame numbers spent at no place, or at this place and at none before it
abbrev pub IsOwnSpent : ℕ → ℕ → List Step → Option ℕ → Type 0
IsOwnSpent first_frame op all None = (i : ℕ) → IsSpentAt first_frame op all i → ⊥
IsOwnSpent first_frame op all (Some place) =
    IsSpentAt first_frame op all place × ((i : ℕ) → i < place → IsSpentAt first_frame op all i → ⊥)

-- no operator of the plant has its frame numbers spent at an earlier place
abbrev pub NoneSpentBefore : PlantFields → List Step → ℕ → Type 0
NoneSpentBefore plant all place =
    (i op : ℕ) → i < place → op < length plant.rows → IsSpentAt plant.consts.channel.first_frame op all i → ⊥

-- at this place, and at none before it, an operator of the plant has its frame numbers spent
pub record IsFirstSpent (plant : PlantFields) (all : List Step) (place : ℕ) : Type 0 where
  pub op : ℕ
  pub known : op < length plant.rows
  pub spent : IsSpentAt plant.consts.channel.first_frame op all place
  pub before : NoneSpentBefore plant all place

-- ---- before new slices are given

-- the step is a slice change
abbrev pub is_reslice : Step → Bool
is_reslice (steps.Arrive modem heard) = false
is_reslice (steps.Work op) = false
is_reslice (steps.Tick op) = false
is_reslice (steps.Collect op) = false
is_reslice (steps.Reslice from rows) = true

-- the steps before the first `Reslice`
abbrev pub before_reslice : List Step → List Step
before_reslice all = take_while (λ step. not (is_reslice step)) all
