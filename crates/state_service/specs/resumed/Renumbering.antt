-- A service whose frames get other numbers (implementation-specific).
use Rattle.std.specs.Prelude.{◌≡◌, ◌⊎◌, ℕ, List, [], ◌∷◌}
use Rattle.run_model.specs.Starts.{IsStart}
use Rattle.run_model.specs.IsTraceOf.{IsTraceFrom}
use Rattle.run_model.specs.Places.{AtEachOperator}
use Rattle.run_model.specs.Changing.{RunSoFar, state_now, IsAtRest, IsPlantChange}
use Rattle.frame_numbers.specs.Renumbered.{IsRenumbered}
use Rattle.frame_numbers.specs.Time.{KeepsTime}

-- The frames of a run get other numbers. The plant is at rest before the frame `from`, and the same plant starts before a frame of the
-- same Alloc Start Time. Each operator goes on in its state, of which only the frame numbers are others.
pub record IsRunRenumbered (old new : RunSoFar) : Type 0 where
  pub from : ℕ
  pub rests : IsAtRest old from
  pub same_plant : new.plant ≡ old.plant
  pub time : KeepsTime old.plant.consts.channel from new.start.frame
  pub starts : IsStart new.plant new.start
  pub states : AtEachOperator old.plant (λ i row. IsRenumbered old.plant.consts.units (state_now old i row) (new.start.state row))
  pub nothing_done : (new.steps ≡ []) × (new.outs ≡ [])

-- one run after the other, each shown, and each from how the one before it ended: its plant is changed, or its frames are renumbered
abbrev pub AreRuns : RunSoFar → List RunSoFar → Type 0
AreRuns first [] = IsTraceFrom first.plant first.start first.steps first.outs
AreRuns first (next ∷ more) =
    IsTraceFrom first.plant first.start first.steps first.outs
    × (IsPlantChange first (record next { steps = []; outs = [] }) ⊎ IsRunRenumbered first (record next { steps = []; outs = [] })) × AreRuns next more
