-- Each step of marking the used numbers of one window.
use Rattle.std.proofs.Common.{◌≡◌, ℕ, ◌+◌, ◌-◌, ◌<◌, ◌≤◌, Bool, true, false, ◌||◌, eqb, List, [], length, get_or, set, take, ◌⊎◌, inl, inr, refl, replicate, sym, ap, ◌∙◌, arith}
use Rattle.admission.proofs.Common.{cases_eq, eq-eqb, ne_eqb, or_right, get_or-replicate, get_or-set_same, get_or-set_other, length-set, length-replicate, IsWindow}
use Rattle.std.proofs.lemmas.List.Folds.{list_any_more}
use Rattle.admission.specs.Free.{is_used}

pub marks_none : (base : ℕ) → IsWindow [] base (replicate 128 false)
marks_none base = record { long = length-replicate 128 false; marks = λ place lt. get_or-replicate 128 place false false lt }

module _ (used : List ℕ) (i : ℕ) (in_range : i < length used) where
  used_here : (n : ℕ) → n ≡ get_or used i 0 → is_used (take (i + 1) used) n ≡ true
  used_here n e = list_any_more (eqb n) used i 0 in_range ∙ or_right _ _ (eq-eqb n (get_or used i 0) e)

  used_elsewhere : (n : ℕ) → (n ≡ get_or used i 0 → ⊥) → is_used (take (i + 1) used) n ≡ is_used (take i used) n
  used_elsewhere n ne = list_any_more (eqb n) used i 0 in_range ∙ (ap (λ b. is_used (take i used) n || b) (ne_eqb n (get_or used i 0) ne) ∙ or_false (is_used (take i used) n))
    where
      or_false : (b : Bool) → (b || false) ≡ b
      or_false true = refl
      or_false false = refl

  -- a number of the window is marked
  pub marks_hit : (base : ℕ) (taken : List Bool) → base ≤ get_or used i 0 → get_or used i 0 - base < 128 → IsWindow (take i used) base taken → IsWindow (take (i + 1) used) base (set taken (get_or used i 0 - base) true)
  marks_hit base taken from below window = record {
    long = length-set taken (get_or used i 0 - base) true ∙ window.long;
    marks = λ place lt. elim (cases_eq place (get_or used i 0 - base)) [
      | inl e ↦
          rw e (get_or-set_same taken (get_or used i 0 - base) true false (omega (arith, window.long)) ∙ sym (used_here (base + (get_or used i 0 - base)) (omega arith)))
      | inr ne ↦
          get_or-set_other taken (get_or used i 0 - base) place true false ne ∙ (window.marks place lt ∙ sym (used_elsewhere (base + place) (λ e. ne (omega arith))))
    ];
  }

  -- a number outside the window changes nothing
  pub marks_miss : (base : ℕ) (taken : List Bool) → (get_or used i 0 < base) ⊎ (128 ≤ get_or used i 0 - base) → IsWindow (take i used) base taken → IsWindow (take (i + 1) used) base taken
  marks_miss base taken outside window = record {
    long = window.long;
    marks = λ place lt. window.marks place lt ∙ sym (used_elsewhere (base + place) (λ e. elim outside [ inl below ↦ omega arith | inr above ↦ omega arith ]));
  }
