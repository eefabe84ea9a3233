use Rattle.std.proofs.Common.{◌≡◌, ℕ, ◌↔◌, ◌&&◌, nat_le, le-leb, true, false, List, length, Option, Some, None, if◌then◌else◌, IsSome, IfSome, refl, ap}
use Rattle.slice_table.proofs.Common.{is_ascii_alphanumeric, list_all, and_parts, false≢true, false_from_ne_true}
use Rattle.plant.specs.Name.{IsOperatorName, is_operator_name}
use Rattle.slice_table.proofs.Values.{at_most}
use Rattle.slice_table.proofs.read_rows.operator_name.Goals as goal

named : (text : List ℕ) → is_operator_name text ≡ true → IsOperatorName text
unfolding is_operator_name
named text h =
    let parts = and_parts (nat_le 1 (length text) && nat_le (length text) 16) (list_all is_ascii_alphanumeric text) h in
    let sizes = and_parts (nat_le 1 (length text)) (nat_le (length text) 16) parts.0 in
    record { some = at_most 1 (length text) sizes.0; few = at_most (length text) 16 sizes.1; letters = parts.1 }

is_named : (text : List ℕ) → IsOperatorName text → is_operator_name text ≡ true
unfolding is_operator_name
is_named text h = rw (le-leb 1 (length text) h.some, le-leb (length text) 16 h.few) h.letters

decided : (text : List ℕ) (made : Option (List ℕ)) → IfSome made (λ m. m ≡ text)
    → (IsSome made ↔ IsOperatorName text) → made ≡ (if is_operator_name text then Some text else None)
decided text None same valid =
    let no : is_operator_name text ≡ false = false_from_ne_true (is_operator_name text) (λ e. false≢true (valid.1 (named text e))) in
    rw no refl
decided text (Some m) same valid = rw (is_named text (valid.0 refl)) (ap Some same)

pub returns : goal.returns
returns c = decided c.args.text.now c.new.result c.new.ensures.value c.new.ensures.valid
