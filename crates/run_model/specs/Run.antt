-- Steps one after the other (implementation-specific).
use Rattle.std.specs.Prelude.{◌≡◌, List, [], ◌∷◌, ◌++◌}
use Rattle.map_assembly.specs.Gathering.{IsGathering}
use Rattle.run_model.specs.declared.step.Step.{Step}
use Rattle.run_model.specs.declared.step.Out.{Out}
use Rattle.run_model.specs.IsStateAfter.{CoreView}
use Rattle.run_model.specs.Steps.{Steps}

-- the steps lead from one core to another with these outputs, in order; each finds the assembly as its type keeps it
abbrev pub IsRun : List Step → CoreView → CoreView → List Out → Type 0
IsRun [] old new outs = (new ≡ old) × (outs ≡ [])
IsRun (step ∷ later) old new outs =
    (mid : CoreView) × (now : List Out) × (rest : List Out) × IsGathering old.gathering × Steps step old mid now × IsRun later mid new rest × (outs ≡ now ++ rest)
