-- The number of the line at which the reader of lines stops (implementation-specific).
use Rattle.std.specs.Prelude.{ℕ, Option, Some, None}
use Rattle.line_service.specs.declared.script.lines.LineFault.{LineFault}
use Rattle.line_service.specs.declared.script.lines.LineFault.TheVariants.{Shape, NoMemory}

-- the invalid line that a fault stands for: none where memory ran out
abbrev pub line_cause : LineFault → Option ℕ
line_cause (Shape number) = Some number
line_cause NoMemory = None
