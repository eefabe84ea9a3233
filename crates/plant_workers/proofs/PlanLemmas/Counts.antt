-- What stands at a place of a list; and one more element, counted or not.
use Rattle.std.proofs.Common.{◌≡◌, ℕ, ◌+◌, ◌<◌, length, get_or, refl, subst, Bool, true, false, List, take, count_by, Some, ap, ◌∙◌}
use Rattle.plant_workers.proofs.PlanLemmas.Common.{slice_get, count_by_more_yes, count_by_more_no, slice_get_within, slice_get_read, get_or_from_slice_get, same_at}

module _ {X : Type 0} (p : X → Bool) (xs : List X) (at : ℕ) (x : X) (here : slice_get xs at ≡ Some x) where
  pub one_more : p x ≡ true → count_by p (take (at + 1) xs) ≡ count_by p (take at xs) + 1
  one_more is_so = count_by_more_yes p xs at x (slice_get_within xs at x here) (ap p (get_or_from_slice_get xs at x x here) ∙ is_so)

  pub no_more : p x ≡ false → count_by p (take (at + 1) xs) ≡ count_by p (take at xs)
  no_more not_so = count_by_more_no p xs at x (slice_get_within xs at x here) (ap p (get_or_from_slice_get xs at x x here) ∙ not_so)

module _ {X : Type 0} (xs : List X) (at : ℕ) where
  -- what is read at a place stands there
  pub stands_at : (x y : X) → at < length xs → x ≡ get_or xs at x → x ≡ y → slice_get xs at ≡ Some y
  stands_at x y lt is same = slice_get_read xs (length xs) at x refl lt is ∙ ap (λ (z : X). Some z) same

  -- a fact of what stands at a place is one of whatever stands there
  pub at_place : (P : X → Type 0) (x : X) → slice_get xs at ≡ Some x → P x → (y : X) → slice_get xs at ≡ Some y → P y
  at_place P x there p y here = subst P (same_at xs at x y there here) p
