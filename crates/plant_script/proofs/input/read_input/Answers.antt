use Rattle.std.proofs.Common.{List, ℕ, subst}
use Rattle.std.specs.Str.{IsUtf8}
use Rattle.plant_script.proofs.Unreadable.{readable}
use Rattle.plant_script.proofs.input.read_input.Goals as goal

pub returns-in-Ok-clause-read : goal.returns-in-Ok-clause-read
returns-in-Ok-clause-read g c =
    (readable c.in_ok-input.input.items c.in_ok-input.ensures.fits (subst (λ (x : List ℕ). IsUtf8 x) c.as_slice.ensures.value c.in-Ok.ensures.cases.1), c.in_ok-input.ensures.all)
