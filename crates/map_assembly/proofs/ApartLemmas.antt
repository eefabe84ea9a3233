-- When no two slices meet.
use Rattle.std.proofs.Common.{◌≡◌, List, [], ◌∷◌, true, false, not, refl}
use Rattle.map_assembly.proofs.Common.{AllByRecursion, AllPairs, list_all, and_parts, and_from, not-true, not_from_false, Minislots, slices_overlap}
use Rattle.map_assembly.specs.Apart.{all_apart}
use Rattle.map_assembly.proofs.OrderLemmas.{PairsByRecursion, pairs_from_AllPairs}
use Rattle.map_assembly.proofs.NewLemmas.{AllPairs-from_pairs}

none_met : (m : Minislots) (ms : List Minislots) → list_all (λ o. not (slices_overlap m o)) ms ≡ true → AllByRecursion (λ o. slices_overlap m o ≡ false) ms
none_met m [] h = tt
none_met m (o ∷ ms) h =
    let p : (not (slices_overlap m o) ≡ true) × (list_all (λ (x : Minislots). not (slices_overlap m x)) ms ≡ true) = and_parts (not (slices_overlap m o)) (list_all (λ (x : Minislots). not (slices_overlap m x)) ms) h in
    (not-true (slices_overlap m o) p.0, none_met m ms p.1)

met_none : (m : Minislots) (ms : List Minislots) → AllByRecursion (λ o. slices_overlap m o ≡ false) ms → list_all (λ o. not (slices_overlap m o)) ms ≡ true
met_none m [] h = refl
met_none m (o ∷ ms) h = and_from (not (slices_overlap m o)) (list_all (λ (x : Minislots). not (slices_overlap m x)) ms) (not_from_false (slices_overlap m o) h.0) (met_none m ms h.1)

pairs_apart : (ms : List Minislots) → all_apart ms ≡ true → PairsByRecursion (λ a b. slices_overlap a b ≡ false) ms
pairs_apart [] h = tt
pairs_apart (m ∷ ms) h =
    let p : (list_all (λ (x : Minislots). not (slices_overlap m x)) ms ≡ true) × (all_apart ms ≡ true) = and_parts (list_all (λ (x : Minislots). not (slices_overlap m x)) ms) (all_apart ms) h in
    (none_met m ms p.0, pairs_apart ms p.1)

apart_pairs : (ms : List Minislots) → PairsByRecursion (λ a b. slices_overlap a b ≡ false) ms → all_apart ms ≡ true
apart_pairs [] h = refl
apart_pairs (m ∷ ms) h = and_from (list_all (λ (x : Minislots). not (slices_overlap m x)) ms) (all_apart ms) (met_none m ms h.0) (apart_pairs ms h.1)

pub apart_if : (ms : List Minislots) → all_apart ms ≡ true → AllPairs (λ a b. slices_overlap a b ≡ false) ms
apart_if ms h = AllPairs-from_pairs (λ (a b : Minislots). slices_overlap a b ≡ false) ms (pairs_apart ms h)

pub apart_only : (ms : List Minislots) → AllPairs (λ a b. slices_overlap a b ≡ false) ms → all_apart ms ≡ true
apart_only ms h = apart_pairs ms (pairs_from_AllPairs (λ (a b : Minislots). slices_overlap a b ≡ false) ms h)
