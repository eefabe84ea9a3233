use Rattle.std.proofs.Common.{◌≡◌, ℕ, ◌↔◌, ◌&&◌, nat_le, le-leb, true, false, List, length, Option, Some, None, if◌then◌else◌, IsSome, IfSome, refl, sym, ap, ◌∙◌, arith}
use Rattle.slice_table.proofs.Common.{is_ascii_alphanumeric, list_all, and_parts, false≢true, false_from_ne_true}
use Rattle.tlv24.specs.Name.{IsClassName}
use Rattle.slice_table.specs.ReadConsts.{is_class_name}
use Rattle.slice_table.proofs.Values.{letters_not_zero}
use Rattle.slice_table.proofs.read_consts.class_name.Goals as goal

named : (text : List ℕ) → is_class_name text ≡ true → IsClassName text
unfolding is_class_name
named text h =
    let parts = and_parts (nat_le 1 (length text) && nat_le (length text) 15) (list_all is_ascii_alphanumeric text) h in
    let sizes = and_parts (nat_le 1 (length text)) (nat_le (length text) 15) parts.0 in
    record { some = grind (arith, sizes.0); few = grind (arith, sizes.1); no_zero = letters_not_zero text parts.1 }

is_named : (text : List ℕ) → list_all is_ascii_alphanumeric text ≡ true → IsClassName text → is_class_name text ≡ true
unfolding is_class_name
is_named text letters h = rw (le-leb 1 (length text) h.some, le-leb (length text) 15 h.few) letters

decided : (text : List ℕ) (made : Option (List ℕ)) → list_all is_ascii_alphanumeric text ≡ true → IfSome made (λ m. m ≡ text)
    → (IsSome made ↔ IsClassName text) → made ≡ (if is_class_name text then Some text else None)
decided text None letters same valid =
    let no : is_class_name text ≡ false = false_from_ne_true (is_class_name text) (λ e. false≢true (valid.1 (named text e))) in
    rw no refl
decided text (Some m) letters same valid = rw (is_named text letters (valid.0 refl)) (ap Some same)

refused : (text : List ℕ) → list_all is_ascii_alphanumeric text ≡ false → is_class_name text ≡ false
unfolding is_class_name
refused text h = false_from_ne_true _ (λ e. false≢true (sym h ∙ (and_parts (nat_le 1 (length text) && nat_le (length text) 15) (list_all is_ascii_alphanumeric text) e).1))

pub returns-then-is_alphanumeric : goal.returns-then-is_alphanumeric
returns-then-is_alphanumeric c =
    decided c.args.text.now c.new.result (sym c.is_alphanumeric.ensures ∙ c.if-is_alphanumeric.true) c.new.ensures.value c.new.ensures.valid

pub returns-else-is_alphanumeric : goal.returns-else-is_alphanumeric
returns-else-is_alphanumeric c =
    rw (refused c.args.text.now (sym c.is_alphanumeric.ensures ∙ c.if-is_alphanumeric.false)) refl
