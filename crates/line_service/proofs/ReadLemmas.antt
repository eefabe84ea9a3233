-- Reading a line.
use Rattle.std.proofs.Common.{◌≡◌, ◌<◌, ◌≤◌, ℕ, zero, suc, ◌+◌, ◌==◌, Bool, true, false, List, [], ◌∷◌, ◌++◌, length, take, drop, Option, Some, None, IfSome, refl, sym, ap, subst, ◌∙◌, arith, append_assoc, append-nil, add-one, take-append-drop}
use Rattle.std.specs.Io.{StartsWith}
use Rattle.line_service.proofs.Common.{Keeps, DropsConsumable, drop_all, drop-append-le, Another, End, WhereKnown, IsPartRead, IsLineRead, IsHeld}
use Rattle.std.proofs.lemmas.Bool.{false_from_ne_true}
use Rattle.memchr.specs.Find.{Nowhere, NoneBefore, Passes, is_byte}
use Rattle.line_service.specs.script.Lines.{parts_of, parts_from}

-- ---- bytes of a line

pub begun : (input bytes : List ℕ) (is_long : Bool) → IsHeld bytes is_long [] → IsPartRead input input bytes is_long
unfolding parts_of
begun input bytes is_long held = record { part = []; is_held = held; lines_are = refl }

from_byte : (part : List ℕ) (b : ℕ) (bytes : List ℕ) (t : Bool) → (b == 10) ≡ t
    → parts_from 10 part (b ∷ bytes) ≡ elim t [ true ↦ part ∷ parts_from 10 [] bytes | false ↦ parts_from 10 (part ++ b ∷ []) bytes ]
from_byte part b bytes t e = ap (λ (v : Bool). elim v [ true ↦ part ∷ parts_from 10 [] bytes | false ↦ parts_from 10 (part ++ b ∷ []) bytes ]) e

-- no line ends in these bytes
within : (part shown rest : List ℕ) → Nowhere (Passes (is_byte 10) shown) 0 (length shown) → parts_from 10 part (shown ++ rest) ≡ parts_from 10 (part ++ shown) rest
within part [] rest none = ap (λ (p : List ℕ). parts_from 10 p rest) (sym (append-nil part))
within part (b ∷ shown) rest none =
    from_byte part b (shown ++ rest) false (false_from_ne_true (b == 10) (λ hit. none 0 (omega arith) (omega arith) hit))
    ∙ within (part ++ b ∷ []) shown rest (λ k low high hit. none (suc k) (omega arith) (omega (arith, high)) hit)
    ∙ ap (λ (p : List ℕ). parts_from 10 p rest) (append_assoc part (b ∷ []) shown)

-- the line ends at this place
up_to : (part shown rest : List ℕ) (place : ℕ) → place < length shown → Nowhere (Passes (is_byte 10) shown) 0 place → Passes (is_byte 10) shown place
    → parts_from 10 part (shown ++ rest) ≡ (part ++ take place shown) ∷ parts_from 10 [] (drop (suc place) shown ++ rest)
up_to part [] rest place lt none is = absurd (omega (arith, lt))
up_to part (b ∷ shown) rest zero lt none is =
    from_byte part b (shown ++ rest) true is ∙ ap (λ (p : List ℕ). p ∷ parts_from 10 [] (shown ++ rest)) (sym (append-nil part))
up_to part (b ∷ shown) rest (suc place) lt none is =
    from_byte part b (shown ++ rest) false (false_from_ne_true (b == 10) (λ hit. none 0 (omega arith) (omega arith) hit))
    ∙ up_to (part ++ b ∷ []) shown rest place (omega (arith, lt)) (λ k low high hit. none (suc k) (omega arith) (omega (arith, high)) hit) is
    ∙ ap (λ (p : List ℕ). p ∷ parts_from 10 [] (drop (suc place) shown ++ rest)) (append_assoc part (b ∷ []) (take place shown))

module _ (input rest shown : List ℕ) (bytes new_bytes : List ℕ) (is_long new_long : Bool) (so_far : IsPartRead input (shown ++ rest) bytes is_long) where
  -- more of the line is read
  pub part_read : Nowhere (Passes (is_byte 10) shown) 0 (length shown) → ((part : List ℕ) → IsHeld bytes is_long part → IsHeld new_bytes new_long (part ++ shown))
      → IsPartRead input (drop (length shown) shown ++ rest) new_bytes new_long
  part_read none held = record {
    part = so_far.part ++ shown;
    is_held = held so_far.part so_far.is_held;
    lines_are = so_far.lines_are ∙ within so_far.part shown rest none ∙ ap (λ (left : List ℕ). parts_from 10 (so_far.part ++ shown) (left ++ rest)) (sym (drop_all (length shown) shown (omega arith)));
  }

  -- the rest of the line is read
  pub line_broken : (place : ℕ) (front : List ℕ) → NoneBefore (Passes (is_byte 10) shown) 0 (length shown) place × Passes (is_byte 10) shown place → front ≡ take place shown
      → ((part : List ℕ) → IsHeld bytes is_long part → IsHeld new_bytes new_long (part ++ front)) → IsLineRead input (drop (place + 1) shown ++ rest) new_bytes new_long Another
  unfolding parts_of
  line_broken place front found front_is held = record {
    line = so_far.part ++ front;
    is_held = held so_far.part so_far.is_held;
    lines_are =
        so_far.lines_are ∙ up_to so_far.part shown rest place found.0.high found.0.before found.1
        ∙ ap (λ (l : List ℕ). (so_far.part ++ l) ∷ parts_from 10 [] (drop (suc place) shown ++ rest)) (sym front_is)
        ∙ ap (λ (n : ℕ). (so_far.part ++ front) ∷ parts_from 10 [] (drop n shown ++ rest)) (sym (add-one place));
  }

pub line_ended : (input bytes : List ℕ) (is_long : Bool) → IsPartRead input [] bytes is_long → IsLineRead input [] bytes is_long End
line_ended input bytes is_long so_far = record { line = so_far.part; is_held = so_far.is_held; lines_are = so_far.lines_are }

-- ---- where the reader's bytes are known

-- the reader has these bytes at hand, and n of them are consumed
module _ (P Q : List ℕ → List ℕ → Type 0) (shown : List ℕ) (n : ℕ) (inside : n ≤ length shown)
    (takes : (input rest : List ℕ) → P input (shown ++ rest) → Q input (drop n shown ++ rest)) where
  split : (bytes : List ℕ) → StartsWith bytes shown → shown ++ drop (length shown) bytes ≡ bytes
  split bytes front = ap (λ (l : List ℕ). l ++ drop (length shown) bytes) (sym front) ∙ take-append-drop (length shown) bytes

  left : (bytes : List ℕ) → StartsWith bytes shown → drop n shown ++ drop (length shown) bytes ≡ drop n bytes
  left bytes front = sym (drop-append-le n shown (drop (length shown) bytes) inside) ∙ ap (λ (l : List ℕ). drop n l) (split bytes front)

  taken : (input bytes : List ℕ) → StartsWith bytes shown → P input bytes → Q input (drop n bytes)
  taken input bytes front so_far =
      subst (λ (l : List ℕ). Q input l) (left bytes front)
      (takes input (drop (length shown) bytes) (subst (λ (l : List ℕ). P input l) (sym (split bytes front)) so_far))

  pub consumed : (known a b c : Option (List ℕ)) (buffered : Option ℕ) → IfSome a (λ bytes. StartsWith bytes shown) → Keeps a b
      → IfSome a (λ _. IfSome buffered (λ most. length shown ≤ most)) → DropsConsumable b c buffered n → WhereKnown known a P → WhereKnown known c Q
  consumed None a b c buffered front keeps fits drops so_far = tt
  consumed (Some input) None b c buffered front keeps fits drops so_far = absurd so_far
  consumed (Some input) (Some bytes) None c buffered front keeps fits drops so_far = absurd keeps
  consumed (Some input) (Some bytes) (Some kept) c buffered front keeps fits drops so_far =
      let now : c ≡ Some (drop n bytes) = drops (fitting buffered fits) ∙ ap (λ (l : List ℕ). let o : Option (List ℕ) = Some (drop n l) in o) keeps in
      subst (λ (o : Option (List ℕ)). WhereKnown (Some input) o Q) (sym now) (taken input bytes front so_far)
    where
      fitting : (most : Option ℕ) → IfSome most (λ m. length shown ≤ m) → IfSome most (λ m. n ≤ m)
      fitting None fits = tt
      fitting (Some m) fits = omega (arith, fits, inside)

-- the reader is at its end
pub at_end : (P Q : List ℕ → List ℕ → Type 0) (known a b : Option (List ℕ)) → ((input : List ℕ) → P input [] → Q input []) → IfSome a (λ bytes. bytes ≡ []) → Keeps a b
    → WhereKnown known a P → WhereKnown known b Q
at_end P Q None a b ends none keeps so_far = tt
at_end P Q (Some input) None b ends none keeps so_far = absurd so_far
at_end P Q (Some input) (Some bytes) None ends none keeps so_far = absurd keeps
at_end P Q (Some input) (Some bytes) (Some kept) ends none keeps so_far =
    subst (λ (l : List ℕ). Q input l) (sym (keeps ∙ none)) (ends input (subst (λ (l : List ℕ). P input l) none so_far))
