-- How steps end of which the core does not do the next one, and how a line ends whose steps ended so (implementation-specific).
use Rattle.std.specs.Prelude.{ℕ}
use Rattle.plant_core.specs.declared.live.core_fault.CoreFault.{CoreFault}
use Rattle.plant_core.specs.declared.live.core_fault.CoreFault.TheVariants as faults
use Rattle.line_service.specs.declared.line_outcome.LineOutcome.{LineOutcome}
use Rattle.line_service.specs.declared.line_outcome.LineOutcome.TheVariants as lines
use Rattle.line_service.specs.declared.steps_end.StepsEnd.{StepsEnd}
use Rattle.line_service.specs.declared.steps_end.StepsEnd.TheVariants.{Done, Refused, NoMemory}

-- how steps end of which the core does not do the next one: out of memory, or refused, with the number of the step's line
abbrev pub steps_end : ℕ → CoreFault → StepsEnd
steps_end number faults.NoMemory = NoMemory
steps_end number fault = Refused number

-- how a line ends whose steps ended so: one whose step is refused is invalid
abbrev pub line_outcome : StepsEnd → LineOutcome
line_outcome Done = lines.Done
line_outcome (Refused number) = lines.AtFault
line_outcome NoMemory = lines.NoMemory
