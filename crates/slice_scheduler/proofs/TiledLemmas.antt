-- The grants to flows that a slice can serve tile it.
use Rattle.std.proofs.Common.{◌≡◌, ℕ, zero, suc, ◌+◌, ◌*◌, ◌<◌, ◌≤◌, ◌⊎◌, inl, inr, Bool, true, false, cond, List, [], ◌∷◌, refl, sym, ap, ◌∙◌, subst, sum_by, arith}
use Rattle.std.specs.Int.{div_ceil}
use Rattle.slice_scheduler.proofs.Common.{AllByRecursion, flat_map, div-zero, zero-div, eq-eqb, ne_eqb, cases_eq, div_ceil_times, UnitSizes, minislots_of, reserve_of, need_of_kind, Scheduling, BestEffort, NonRealTimePolling, RealTimePolling, UnsolicitedGrant, Policy, Piece, Award, AtFields, Flowing, is_due, minislots_when_due, due_pieces, pieces_when_due, iuc_of, base_of, taken_of, awards_of, by_rank, award_pieces, pieces_of, elements_of, SfidsAscend, IsOfItsKind, need_at, total_need, IsTiled, HasMinislots}
use Rattle.std.proofs.lemmas.Nat.{div-add-mod'}
use Rattle.param_sets.specs.ParamSet.{IsOfKind}
use Rattle.slice_scheduler.proofs.SumLemmas.{sum_by-le, recursion-weaker, recursion-append, recursion-flat_map, recursion-replicate, recursion-each}
use Rattle.slice_scheduler.proofs.PackedLemmas.{packed_whole}
use Rattle.slice_scheduler.proofs.TotalLemmas.{pieces-fit}

-- ---- each grant is of some minislots

some_minislots : (bytes n : ℕ) → 1 ≤ bytes → 0 < div_ceil bytes n
some_minislots bytes zero some = omega (arith, div-zero bytes, div-add-mod' bytes 0)
some_minislots bytes (suc n) some = by (div_ceil bytes (suc n)) refl
  where
    low : bytes ≤ div_ceil bytes (suc n) * suc n
    low = (div_ceil_times bytes (suc n) (omega arith)).0

    by : (minislots : ℕ) → div_ceil bytes (suc n) ≡ minislots → 0 < minislots
    by zero is = absurd (omega (arith, low, ap (λ (m : ℕ). m * suc n) is))
    by (suc minislots) is = omega arith

some_due : (at : AtFields) (f : Flowing) → IsOfItsKind f → AllByRecursion HasMinislots (due_pieces at f)
some_due at f kind = by (is_due at f) f.set.scheduling kind
  where
    by : (b : Bool) (s : Scheduling) → IsOfKind s f.set → AllByRecursion HasMinislots (cond b (pieces_when_due s at f) [])
    by false s kind = tt
    by true BestEffort kind = tt
    by true NonRealTimePolling kind = (omega arith, tt)
    by true RealTimePolling kind = (omega arith, tt)
    by true UnsolicitedGrant kind = recursion-replicate HasMinislots f.set.grants_per_interval
        (record { sid = f.sid; iuc = iuc_of at (minislots_of f.set.grant_size at.units); len = minislots_of f.set.grant_size at.units })
        (some_minislots f.set.grant_size at.units.bytes_per_minislot kind.1.grant_size)

some_awarded : (at : AtFields) (a : Award) → AllByRecursion HasMinislots (award_pieces at a)
some_awarded at a = by (cases_eq a.grant 0)
  where
    piece : Piece
    piece = record { sid = a.sid; iuc = iuc_of at a.grant; len = a.grant }

    by : (a.grant ≡ 0) ⊎ (a.grant ≡ 0 → ⊥) → AllByRecursion HasMinislots (award_pieces at a)
    by (inl e) = subst (λ (b : Bool). AllByRecursion HasMinislots (cond b [] (piece ∷ []))) (sym (eq-eqb a.grant 0 e)) tt
    by (inr e) = subst (λ (b : Bool). AllByRecursion HasMinislots (cond b [] (piece ∷ []))) (sym (ne_eqb a.grant 0 e)) (omega arith, tt)

some_pieces : (policy : Policy) (at : AtFields) (flows : List Flowing) → AllByRecursion IsOfItsKind flows → AllByRecursion HasMinislots (pieces_of policy at flows)
some_pieces policy at flows kinds = recursion-append HasMinislots (flat_map (due_pieces at) flows) (flat_map (award_pieces at) (by_rank (awards_of policy at flows)))
    (recursion-flat_map HasMinislots (due_pieces at) flows (recursion-weaker IsOfItsKind (λ f. AllByRecursion HasMinislots (due_pieces at f)) (some_due at) flows kinds))
    (recursion-flat_map HasMinislots (award_pieces at) (by_rank (awards_of policy at flows)) (recursion-each (λ a. AllByRecursion HasMinislots (award_pieces at a)) (some_awarded at) (by_rank (awards_of policy at flows))))

-- ---- what is taken before the rest is shared is needed

no_reserve : (units : UnitSizes) (rate : ℕ) → rate ≡ 0 → reserve_of rate units ≡ 0
no_reserve units rate none = ap (λ (r : ℕ). reserve_of r units) none ∙ omega (arith, zero-div (8000000 * units.bytes_per_minislot), div-add-mod' 0 (8000000 * units.bytes_per_minislot))

taken-needed : (at : AtFields) (f : Flowing) → IsOfItsKind f → taken_of at f ≤ need_at at f
taken-needed at f kind = by (is_due at f) f.set.scheduling kind
  where
    by : (b : Bool) (s : Scheduling) → IsOfKind s f.set → cond b (minislots_when_due s f.set at.units) 0 + base_of at f ≤ (need_of_kind s f.set at.units).minislots
    by true BestEffort kind = omega arith
    by false BestEffort kind = omega arith
    by true NonRealTimePolling kind = omega arith
    by false NonRealTimePolling kind = omega arith
    by true RealTimePolling kind = omega arith
    by false RealTimePolling kind = omega arith
    by true UnsolicitedGrant kind = omega (arith, no_reserve at.units f.set.min_reserved_rate kind.1.min_reserved_rate)
    by false UnsolicitedGrant kind = omega (arith, no_reserve at.units f.set.min_reserved_rate kind.1.min_reserved_rate)

-- ---- all of it

pub elements-tiled : (policy : Policy) (at : AtFields) (flows : List Flowing) → SfidsAscend flows → total_need at flows ≤ at.slice.length → AllByRecursion IsOfItsKind flows → IsTiled (elements_of policy at flows)
elements-tiled policy at flows ascend fits kinds =
    let taken : sum_by (taken_of at) flows ≤ total_need at flows = sum_by-le (taken_of at) (need_at at) flows (recursion-weaker IsOfItsKind (λ f. taken_of at f ≤ need_at at f) (taken-needed at) flows kinds) in
    record { tiles = packed_whole at.slice.start at.slice.length (pieces_of policy at flows) (some_pieces policy at flows kinds) (pieces-fit policy at flows ascend (omega arith)) }
