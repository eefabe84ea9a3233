-- What a service says of the output that comes next: the line of the script, and the check that decides it (implementation-specific).
use Rattle.std.specs.Prelude.{ℕ, Option, Some, None}
use Rattle.json_lines.specs.declared.context.DecidingCheck.{DecidingCheck}
use Rattle.json_lines.specs.declared.writer.LineSource.{LineSource}
use Rattle.json_lines.specs.declared.writer.LineSource.TheVariants.{Alone, Trace, Run, Service}

-- a service begins a line, and no check is known yet
abbrev pub begun_line : ℕ → LineSource → LineSource
begun_line number Alone = Alone
begun_line number (Trace context) = Trace context
begun_line number (Run notes) = Run notes
begun_line number (Service context) = Service (record { line = Some number; check = None })

-- a service knows which check decides the next output, if one does
abbrev pub with_next_check : Option DecidingCheck → LineSource → LineSource
with_next_check check Alone = Alone
with_next_check check (Trace context) = Trace context
with_next_check check (Run notes) = Run notes
with_next_check check (Service context) = Service (record { line = context.line; check = check })
