-- Lists whose elements are all seen otherwise: what a search, an insert and a removal make of them.
use Rattle.std.proofs.Common.{◌≡◌, ℕ, ◌+◌, Bool, true, false, cond, List, [], ◌∷◌, find, filter_map, map, option_map, sum_by, Option, Some, refl, sym, ap, ◌∙◌}
use Rattle.frame_numbers.proofs.Common.{cons_option, nat_cmp, match_ordering, remove_entry, insert_entry, sum_by-cons}
use Rattle.std.specs.declared.cmp.Ordering.{Ordering}
use Rattle.std.specs.declared.cmp.Ordering.TheVariants.{Less, Equal, Greater}

-- ---- any elements

module _ {A B : Type 0} where
  pub find-map : (p : B → Bool) (f : A → B) (xs : List A) → find p (map f xs) ≡ option_map f (find (λ x. p (f x)) xs)
  find-map p f [] = refl
  find-map p f (x ∷ xs) = by (p (f x)) (find-map p f xs)
    where
      by : (b : Bool) → find p (map f xs) ≡ option_map f (find (λ x. p (f x)) xs) → cond b (Some (f x)) (find p (map f xs)) ≡ option_map f (cond b (Some x) (find (λ x. p (f x)) xs))
      by true others = refl
      by false others = others

module _ {A B C : Type 0} where
  pub filter_map-map : (h : B → Option C) (f : A → B) (xs : List A) → filter_map h (map f xs) ≡ filter_map (λ x. h (f x)) xs
  filter_map-map h f [] = refl
  filter_map-map h f (x ∷ xs) = ap (cons_option (h (f x))) (filter_map-map h f xs)

module _ {A B : Type 0} where
  pub sum_by-map : (h : B → ℕ) (f : A → B) (xs : List A) → sum_by h (map f xs) ≡ sum_by (λ x. h (f x)) xs
  sum_by-map h f [] = refl
  sum_by-map h f (x ∷ xs) = sum_by-cons h (f x) (map f xs) ∙ (ap (λ (n : ℕ). h (f x) + n) (sum_by-map h f xs) ∙ sym (sum_by-cons (λ y. h (f y)) x xs))

-- ---- entries under numbers

module _ {X : Type 0} (g : X → X) where
  abbrev pub on_value : ℕ × X → ℕ × X
  on_value entry = (entry.0, g entry.1)

  pub insert-map : (es : List (ℕ × X)) (k : ℕ) (v : X) → insert_entry nat_cmp (map on_value es) k (g v) ≡ map on_value (insert_entry nat_cmp es k v)
  insert-map [] k v = refl
  insert-map (e ∷ es) k v = by (nat_cmp k e.0) (insert-map es k v)
    where
      by : (o : Ordering) → insert_entry nat_cmp (map on_value es) k (g v) ≡ map on_value (insert_entry nat_cmp es k v) →
          match_ordering o ((k, g v) ∷ on_value e ∷ map on_value es) ((e.0, g v) ∷ map on_value es) (on_value e ∷ insert_entry nat_cmp (map on_value es) k (g v))
          ≡ map on_value (match_ordering o ((k, v) ∷ e ∷ es) ((e.0, v) ∷ es) (e ∷ insert_entry nat_cmp es k v))
      by Less others = refl
      by Equal others = refl
      by Greater others = ap (λ (rest : List (ℕ × X)). on_value e ∷ rest) others

  pub remove-map : (test : ℕ → Bool) (es : List (ℕ × X)) → remove_entry test (map on_value es) ≡ map on_value (remove_entry test es)
  remove-map test [] = refl
  remove-map test (e ∷ es) = by (test e.0) (remove-map test es)
    where
      by : (b : Bool) → remove_entry test (map on_value es) ≡ map on_value (remove_entry test es) → cond b (map on_value es) (on_value e ∷ remove_entry test (map on_value es)) ≡ map on_value (cond b es (e ∷ remove_entry test es))
      by true others = refl
      by false others = ap (λ (rest : List (ℕ × X)). on_value e ∷ rest) others
