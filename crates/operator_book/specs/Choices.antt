-- What the choices of this crate are in the definitions of `operator_model` (implementation-specific).
use Rattle.std.specs.Prelude.{Bool, true, false}
use Rattle.operator_book.specs.declared.verdict.SidOrigin.{SidOrigin}
use Rattle.operator_book.specs.declared.verdict.SidOrigin.TheVariants.{Kept, New}

-- the SID of a changed flow came with the change
abbrev pub is_new_sid : SidOrigin → Bool
is_new_sid Kept = false
is_new_sid New = true
