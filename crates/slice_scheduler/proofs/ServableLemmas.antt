-- What a walk over flows keeps.
use Rattle.std.proofs.Common.{◌≡◌, ℕ, ◌+◌, ◌-◌, ◌<◌, ◌≤◌, List, [], ◌∷◌, ◌++◌, length, get_or, take, sym, subst, arith}
use Rattle.slice_scheduler.proofs.Common.{AllByRecursion, take_more, Flowing, Ascends, SfidsAscend, need_at, total_need, AtFields, sum_by_more}
use Rattle.slice_scheduler.proofs.SumLemmas.{recursion-weaker}

recursion-push : {X : Type 0} (P : X → Type 0) (xs : List X) (y : X) → AllByRecursion P xs → P y → AllByRecursion P (xs ++ y ∷ [])
recursion-push P [] y a h = (h, tt)
recursion-push P (x ∷ xs) y a h = (a.0, recursion-push P xs y a.1 h)

Ascends-push : {X : Type 0} (key : X → ℕ) (xs : List X) (y : X) → Ascends key xs → AllByRecursion (λ x. key x < key y) xs → Ascends key (xs ++ y ∷ [])
Ascends-push key [] y a below = (tt, tt)
Ascends-push key (x ∷ xs) y a below = (recursion-push (λ z. key x < key z) xs y a.0 below.0, Ascends-push key xs y a.1 below.1)

pub ascend-more : (flows : List Flowing) (i : ℕ) (e : Flowing) (next : ℕ) → i < length flows → SfidsAscend (take i flows) → AllByRecursion (λ f. f.sfid < next) (take i flows) → next ≤ (get_or flows i e).sfid → SfidsAscend (take (i + 1) flows)
ascend-more flows i e next lt ascend below le = subst (λ (fs : List Flowing). SfidsAscend fs) (sym (take_more flows i e lt))
    (Ascends-push (λ (f : Flowing). f.sfid) (take i flows) (get_or flows i e) ascend (recursion-weaker (λ f. f.sfid < next) (λ f. f.sfid < (get_or flows i e).sfid) (λ f h. omega arith) (take i flows) below))

pub below-more : (flows : List Flowing) (i : ℕ) (e : Flowing) (next after : ℕ) → i < length flows → AllByRecursion (λ f. f.sfid < next) (take i flows) → next ≤ (get_or flows i e).sfid → after ≡ (get_or flows i e).sfid + 1 → AllByRecursion (λ f. f.sfid < after) (take (i + 1) flows)
below-more flows i e next after lt below le is = subst (λ (fs : List Flowing). AllByRecursion (λ f. f.sfid < after) fs) (sym (take_more flows i e lt))
    (recursion-push (λ (f : Flowing). f.sfid < after) (take i flows) (get_or flows i e) (recursion-weaker (λ f. f.sfid < next) (λ f. f.sfid < after) (λ f h. omega arith) (take i flows) below) (omega arith))

pub servable-room : (at : AtFields) (flows : List Flowing) (i : ℕ) (e : Flowing) (room need : ℕ) → i < length flows → room + total_need at (take i flows) ≡ at.slice.length → need ≤ room → need ≡ need_at at (get_or flows i e) → room - need + total_need at (take (i + 1) flows) ≡ at.slice.length
servable-room at flows i e room need lt so_far fits is = omega (arith, sum_by_more (need_at at) flows i e lt)
