-- Flows that a slice can serve (implementation-specific).
use Rattle.std.specs.Prelude.{◌≡◌, ℕ, ◌≤◌, ◌<◌, List, [], ◌∷◌, sum_by}
use Rattle.std.specs.List.{AllByRecursion}
use Rattle.param_sets.specs.Need.{need_of}
use Rattle.param_sets.specs.ParamSet.{IsOfKind}
use Rattle.param_sets.specs.declared.scheduling.Scheduling.TheVariants.{UnsolicitedGrant}
use Rattle.slice_scheduler.specs.declared.flowing.AtFields.{AtFields}
use Rattle.slice_scheduler.specs.declared.flowing.Flowing.{Flowing}

-- each key is below those of the later elements
abbrev pub Ascends : {X : Type 0} → (X → ℕ) → List X → Type 0
Ascends key [] = Unit {0}
Ascends key (x ∷ xs) = AllByRecursion (λ y. key x < key y) xs × Ascends key xs

-- the flows are sorted by SFID, each once
abbrev pub SfidsAscend : List Flowing → Type 0
SfidsAscend flows = Ascends (λ f. f.sfid) flows

-- neither the frame from which the flow's intervals count nor that since which its backlog waits is after this frame
pub record IsPast (frame : ℕ) (f : Flowing) : Type 0 where
  pub start : f.start ≤ frame
  pub since : f.since ≤ frame

-- the flow's parameter set keeps what its kind of scheduling keeps
abbrev pub IsOfItsKind : Flowing → Type 0
IsOfItsKind f = IsOfKind f.set.scheduling f.set

-- a flow with unsolicited grants has an empty backlog
abbrev pub AsksWhereItMay : Flowing → Type 0
AsksWhereItMay f = f.set.scheduling ≡ UnsolicitedGrant → f.backlog ≡ 0

-- the minislots that the parameter set of a flow needs of each frame
abbrev pub need_at : AtFields → Flowing → ℕ
need_at at f = (need_of f.set at.units).minislots

-- the minislots that the parameter sets of all flows need of each frame
abbrev pub total_need : AtFields → List Flowing → ℕ
total_need at flows = sum_by (need_at at) flows

-- the elements that the parameter sets of all flows need of each frame's MAP
abbrev pub elements_needed : AtFields → List Flowing → ℕ
elements_needed at flows = sum_by (λ f. (need_of f.set at.units).elements) flows
