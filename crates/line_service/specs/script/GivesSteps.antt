-- What reading a script answered.
use Rattle.std.specs.Prelude.{◌≡◌, ℕ, List, Result, Ok, Err}
use Rattle.std.specs.Global.{Vec}
use Rattle.line_service.specs.declared.script.lines.LineFault.{LineFault}
use Rattle.line_service.specs.declared.script.lines.LineFault.TheVariants.{Shape, NoMemory}
use Rattle.line_service.specs.declared.script.script.LineStep.{LineStep}

-- it says this line's number, unless memory ran out
abbrev pub FailsAt : LineFault → Result (List LineStep) ℕ → Type 0
FailsAt (Shape number) said = said ≡ Err number
FailsAt NoMemory said = Unit {0}

-- the steps or the invalid line, unless memory ran out
abbrev pub GivesSteps : Result (Vec LineStep) LineFault → Result (List LineStep) ℕ → Type 0
GivesSteps (Ok steps) said = said ≡ Ok steps.items
GivesSteps (Err fault) said = FailsAt fault said
