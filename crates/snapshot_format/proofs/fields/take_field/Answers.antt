use Rattle.std.proofs.Common.{◌≡◌, ℕ, ◌+◌, ◌-◌, ◌==◌, List, length, take, drop, Some, None, Ok, refl}
use Rattle.snapshot_format.proofs.Common.{position, take_rest, Cut, stop_at}
use Rattle.snapshot_format.specs.Fields.{take_field}
use Rattle.snapshot_format.proofs.fields.take_field.Goals as goal

field_of : (end place : ℕ) (bytes : List ℕ) → Some place ≡ position (λ b. b == end) bytes → take_field end bytes ≡ Ok (take place bytes, take (length bytes - (place + 1)) (drop (place + 1) bytes))
unfolding take_field
field_of end place bytes e = rw (← e, take_rest bytes (place + 1)) refl

no_field : (end : ℕ) (bytes : List ℕ) → None ≡ position (λ b. b == end) bytes → take_field end bytes ≡ stop_at Cut bytes
unfolding take_field
no_field end bytes e = rw (← e) refl

pub returns-in-Some : goal.returns-in-Some
returns-in-Some c = field_of c.args.end c.in-Some.place c.args.bytes.now c.in-Some.ensures.value

pub returns-in-None : goal.returns-in-None
returns-in-None c = rw c.stop_at.ensures (no_field c.args.end c.args.bytes.now c.in-None.ensures.value)
