-- Interval Usage Codes (CM-SP-MULPIv3.1, 6.4.4).
use Rattle.std.specs.Prelude.{ℕ}
use Rattle.slice_scheduler.specs.declared.span.Iuc.{Iuc}
use Rattle.slice_scheduler.specs.declared.span.Iuc.TheVariants.{Request, Short, Long}

-- the number of a code on the wire
abbrev pub iuc_number : Iuc → ℕ
iuc_number Request = 1
iuc_number Short = 5
iuc_number Long = 6
