-- Writers one after the other.
use Rattle.std.proofs.Common.{◌≡◌, ◌≢◌, ◌∙◌, refl, sym, ap, subst, arith, ℕ, ◌+◌, ◌<◌, ◌≤◌, ◌⊎◌, inl, inr, suc, zero, List, [], ◌∷◌, length, Option, Some, None, map, Bool, true}
use Rattle.std.specs.Prelude.{slice_get, slice_set, slice_index_or}
use Rattle.std.proofs.lemmas.Option.{slice_get_within, slice_get-get_or}
use Rattle.std.proofs.lemmas.List.{length-set}
use Rattle.std.proofs.lemmas.Bool.{cases_eq}
use Rattle.own_answers.specs.Writing.{AreWritten}

get_set_same : {A : Type 0} (xs : List A) (i : ℕ) (x : A) → i < length xs → slice_get (slice_set xs i x) i ≡ Some x
get_set_same [] i x less = absurd (omega (arith, less))
get_set_same (y ∷ xs) zero x less = refl
get_set_same (y ∷ xs) (suc i) x less = get_set_same xs i x (omega (arith, less))

get_set_other : {A : Type 0} (xs : List A) (i j : ℕ) (x : A) → j ≢ i → slice_get (slice_set xs i x) j ≡ slice_get xs j
get_set_other [] i j x other = refl
get_set_other (y ∷ xs) zero zero x other = absurd (other refl)
get_set_other (y ∷ xs) zero (suc j) x other = refl
get_set_other (y ∷ xs) (suc i) zero x other = refl
get_set_other (y ∷ xs) (suc i) (suc j) x other = get_set_other xs i j x (λ e. other (ap (λ (n : ℕ). suc n) e))

same_some : {A : Type 0} (x y : A) → Some x ≡ Some y → x ≡ y
same_some x y e = cc

-- the first k writers are done, and the others are as they were
pub record SoFar {W : Type 0} (puts : List ℕ → W → W → Type 0) (texts : List (List ℕ)) (k : ℕ) (old now : List W) (notes : List Bool) : Type 0 where
  pub as_many : length now ≡ length old
  pub as_many_notes : length notes ≡ length old
  pub done : (i : ℕ) (w w' : W) (text : List ℕ) → slice_get old i ≡ Some w → slice_get now i ≡ Some w' → slice_get texts i ≡ Some text
      → slice_get notes i ≡ Some true → i < k → puts text w w'
  pub left : (i : ℕ) → k ≤ i → slice_get now i ≡ slice_get old i

pub begun : {W : Type 0} (puts : List ℕ → W → W → Type 0) (texts : List (List ℕ)) (old : List W) (notes : List Bool) → length notes ≡ length old
    → SoFar puts texts 0 old old notes
begun puts texts old notes as_many = record {
  as_many = refl;
  as_many_notes = as_many;
  done = λ i w w' text at at' here noted less. absurd (omega (arith, less));
  left = λ i less. refl;
}

done_more : {W : Type 0} (puts : List ℕ → W → W → Type 0) (texts : List (List ℕ)) (k : ℕ) (old now : List W) (notes : List Bool) (was is : W) (text : List ℕ) (note : Bool)
    → SoFar puts texts k old now notes → slice_get now k ≡ Some was → slice_get texts k ≡ Some text → (note ≡ true → puts text was is)
    → (i : ℕ) (w w' : W) (t : List ℕ) → slice_get old i ≡ Some w → slice_get (slice_set now k is) i ≡ Some w' → slice_get texts i ≡ Some t
    → slice_get (slice_set notes k note) i ≡ Some true → i < k + 1 → (i ≡ k) ⊎ (i ≡ k → ⊥) → puts t w w'
done_more {W = W} puts texts k old now notes was is text note so at here put i w w' t at0 at1 at2 at3 less (inl same) =
    let within : k < length now = slice_get_within now k was at in
    let is' : is ≡ w' = same_some is w' (sym (get_set_same now k is within) ∙ subst (λ (n : ℕ). slice_get (slice_set now k is) n ≡ Some w') same at1) in
    let was' : was ≡ w = same_some was w (sym at ∙ (so.left k (omega arith) ∙ subst (λ (n : ℕ). slice_get old n ≡ Some w) same at0)) in
    let text' : text ≡ t = same_some text t (sym here ∙ subst (λ (n : ℕ). slice_get texts n ≡ Some t) same at2) in
    let noted : note ≡ true = same_some note true (sym (get_set_same notes k note (omega (arith, within, so.as_many, so.as_many_notes)))
    ∙ subst (λ (n : ℕ). slice_get (slice_set notes k note) n ≡ Some true) same at3) in
    subst (λ (a : W). puts t a w') was' (subst (λ (b : W). puts t was b) is' (subst (λ (s : List ℕ). puts s was is) text' (put noted)))
done_more puts texts k old now notes was is text note so at here put i w w' t at0 at1 at2 at3 less (inr other) =
    so.done i w w' t at0 (sym (get_set_other now k i is other) ∙ at1) at2 (sym (get_set_other notes k i note other) ∙ at3) (omega (arith, less, other))

pub one_more : {W : Type 0} (puts : List ℕ → W → W → Type 0) (texts : List (List ℕ)) (k : ℕ) (old now : List W) (notes : List Bool) (was is : W) (text : List ℕ) (note : Bool)
    → SoFar puts texts k old now notes → slice_get now k ≡ Some was → slice_get texts k ≡ Some text → (note ≡ true → puts text was is)
    → SoFar puts texts (k + 1) old (slice_set now k is) (slice_set notes k note)
one_more puts texts k old now notes was is text note so at here put = record {
  as_many = length-set now k is ∙ so.as_many;
  as_many_notes = length-set notes k note ∙ so.as_many_notes;
  done = λ i w w' t at0 at1 at2 at3 less. done_more puts texts k old now notes was is text note so at here put i w w' t at0 at1 at2 at3 less (cases_eq i k);
  left = λ i less. get_set_other now k i is (λ e. absurd (omega (arith, less, e))) ∙ so.left i (omega (arith, less));
}

pub all_done : {W : Type 0} (puts : List ℕ → W → W → Type 0) (texts : List (List ℕ)) (k : ℕ) (old now : List W) (notes : List Bool) → SoFar puts texts k old now notes
    → length now ≤ k → AreWritten puts texts notes old now
all_done puts texts k old now notes so all = record {
  as_many = so.as_many;
  as_many_notes = so.as_many_notes;
  each = λ i w w' t at at' here noted. so.done i w w' t at at' here noted (omega (arith, all, slice_get_within now i w' at'));
}
