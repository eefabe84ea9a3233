-- How objects have the numbers that a check compares (implementation-specific).
use Rattle.std.specs.Prelude.{Some, None}
use Rattle.json_lines.specs.declared.context.Comparison.{Comparison}
use Rattle.trace_report.specs.declared.comparison.CheckComparison.{CheckComparison}
use Rattle.trace_report.specs.declared.comparison.CheckComparison.TheVariants as comparisons

-- what a check compared, as an object has it: what is held, the limit, and where there are these what is needed and from which frame on
abbrev pub numbers_of : CheckComparison → Comparison
numbers_of (comparisons.Budget held limit needed from_frame) = record { held = held; limit = limit; needed = Some needed; from_frame = from_frame }
numbers_of (comparisons.Quota held limit needed) = record { held = held; limit = limit; needed = Some needed; from_frame = None }
numbers_of (comparisons.Flows held limit) = record { held = held; limit = limit; needed = None; from_frame = None }
numbers_of (comparisons.Transactions held limit) = record { held = held; limit = limit; needed = None; from_frame = None }
