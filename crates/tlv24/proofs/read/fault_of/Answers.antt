use Rattle.std.proofs.Common.{◌≡◌, ℕ, ◌<◌, ◌≤◌, ◌⊎◌, inl, inr, Bool, cond, List, length, Some, None, refl, sym, ap}
use Rattle.tlv24.proofs.Common.{is_some, lt-ltb, le-ltb, Tlv, WrongLength, Twice, Range, tlv}
use Rattle.tlv24.specs.Flow.{lengths_of, value_of, in_range, fault_of}
use Rattle.tlv24.proofs.read.fault_of.Goals as goal

-- of a TLV with another length
module _ (before : List Tlv) (t : Tlv) (least greatest : ℕ) (known : Some (least, greatest) ≡ lengths_of t.kind) where
  misfit : (length t.value < least) ⊎ ((least ≤ length t.value) × (greatest < length t.value)) → Some (WrongLength t.kind) ≡ fault_of before t
  unfolding fault_of
  misfit (inl few) = rw (← known, lt-ltb _ _ few) refl
  misfit (inr (some, many)) = rw (← known, le-ltb _ _ some, lt-ltb _ _ many) refl

-- of a TLV with its length
module _ (before : List Tlv) (t : Tlv) (least greatest : ℕ) (known : Some (least, greatest) ≡ lengths_of t.kind) (long : least ≤ length t.value) (short : length t.value ≤ greatest) where
  judged : (twice fine : Bool) → is_some (value_of t.kind before) ≡ twice → in_range t.kind t.value ≡ fine → cond twice (Some (Twice t.kind)) (cond fine None (Some (Range t.kind))) ≡ fault_of before t
  unfolding fault_of
  judged twice fine is_twice is_fine = rw (← known, le-ltb _ _ long, le-ltb _ _ short, is_twice, is_fine) refl

pub returns-then-value-least : goal.returns-then-value-least
returns-then-value-least c before stated =
    misfit before (tlv c.args.subtype c.args.value.now) _ _ c.in_ok-least.ensures c.then-value-least.either

pub returns-then-stands : goal.returns-then-stands
returns-then-stands c before stated =
    judged before (tlv c.args.subtype c.args.value.now) _ _ c.in_ok-least.ensures c.if-value-least.false c.if-greatest-value.false _ _
    (sym (c.if-stands.ensures before stated (sym (ap is_some c.in_ok-least.ensures)))) refl

pub returns-then-in_range : goal.returns-then-in_range
returns-then-in_range c before stated =
    judged before (tlv c.args.subtype c.args.value.now) _ _ c.in_ok-least.ensures c.if-value-least.false c.if-greatest-value.false _ _
    (sym (c.if-stands.ensures before stated (sym (ap is_some c.in_ok-least.ensures)))) (sym c.if-in_range.ensures)

pub returns-else-in_range : goal.returns-else-in_range
returns-else-in_range c before stated =
    judged before (tlv c.args.subtype c.args.value.now) _ _ c.in_ok-least.ensures c.if-value-least.false c.if-greatest-value.false _ _
    (sym (c.if-stands.ensures before stated (sym (ap is_some c.in_ok-least.ensures)))) (sym c.if-in_range.ensures)
