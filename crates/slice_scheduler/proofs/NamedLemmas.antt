-- Which SIDs the elements of a schedule name.
use Rattle.std.proofs.Common.{◌≡◌, ℕ, zero, suc, ◌+◌, ◌-◌, ◌==◌, Bool, true, false, cond, List, [], ◌∷◌, get_or, map, filter, All, ◌⊎◌, inl, inr, refl, arith}
use Rattle.slice_scheduler.proofs.Common.{nat_lt, AllByRecursion, Contains, flat_map, get_or-map, length-map, All-from_recursion, recursion_from_All, minislots_of, Scheduling, BestEffort, NonRealTimePolling, RealTimePolling, UnsolicitedGrant, Policy, Piece, Span, Claim, Award, AtFields, Flowing, is_due, due_pieces, pieces_when_due, iuc_of, claim_of, claims_of, room_of, award_of, awards_of}
use Rattle.slice_scheduler.specs.Schedule.{ranked_below, by_rank, award_pieces, pieces_of, idle, spans_from, minislots_in, spans_of, pending_of}
use Rattle.slice_scheduler.proofs.PackedLemmas.{spare}
use Rattle.slice_scheduler.proofs.SumLemmas.{recursion-weaker, recursion-filter, recursion-append, recursion-flat_map, recursion-map, recursion-replicate}

-- what holds of all holds of those of a rank below n
ranked : {X : Type 0} (P : X → Type 0) (rank : X → ℕ) (n : ℕ) (xs : List X) → AllByRecursion P xs → AllByRecursion P (ranked_below rank n xs)
unfolding ranked_below
ranked P rank zero xs a = tt
ranked P rank (suc n) xs a = recursion-append P (filter (λ x. rank x == n) xs) (ranked_below rank n xs) (recursion-filter P (λ x. rank x == n) xs a) (ranked P rank n xs a)

-- what holds of the SID of each flow
module _ (P : ℕ → Type 0) where
  abbrev OfPiece : Piece → Type 0
  OfPiece piece = P piece.sid

  abbrev OfAward : Award → Type 0
  OfAward a = P a.sid

  due-named : (at : AtFields) (f : Flowing) → P f.sid → AllByRecursion OfPiece (due_pieces at f)
  due-named at f h = by (is_due at f) f.set.scheduling
    where
      by : (b : Bool) (s : Scheduling) → AllByRecursion OfPiece (cond b (pieces_when_due s at f) [])
      by false s = tt
      by true BestEffort = tt
      by true NonRealTimePolling = (h, tt)
      by true RealTimePolling = (h, tt)
      by true UnsolicitedGrant = recursion-replicate OfPiece f.set.grants_per_interval
          (record { sid = f.sid; iuc = iuc_of at (minislots_of f.set.grant_size at.units); len = minislots_of f.set.grant_size at.units }) h

  award-named : (at : AtFields) (a : Award) → P a.sid → AllByRecursion OfPiece (award_pieces at a)
  award-named at a h = by (a.grant == 0)
    where
      by : (b : Bool) → AllByRecursion OfPiece (cond b [] (record { sid = a.sid; iuc = iuc_of at a.grant; len = a.grant } ∷ []))
      by true = tt
      by false = (h, tt)

  idle-named : (n : ℕ) → P 0 → AllByRecursion OfPiece (idle n)
  idle-named n h = elim (n == 0) as (λ b. AllByRecursion OfPiece (cond b [] (spare n ∷ []))) [ true ↦ tt | false ↦ (h, tt) ]

  packed-named : (start : ℕ) (pieces : List Piece) → AllByRecursion OfPiece pieces → AllByRecursion (λ (span : Span). P span.sid) (spans_from start pieces)
  packed-named start [] a = tt
  packed-named start (piece ∷ pieces) a = (a.0, packed-named (start + piece.len) pieces a.1)

  module _ (policy : Policy) (at : AtFields) (flows : List Flowing) (named : AllByRecursion (λ (f : Flowing). P f.sid) flows) where
    served-named : AllByRecursion OfAward (by_rank (awards_of policy at flows))
    served-named = ranked OfAward (λ a. a.rank) 64 (awards_of policy at flows)
        (recursion-map OfAward (award_of (room_of at flows) (claims_of policy at flows)) (claims_of policy at flows)
        (recursion-map (λ (c : Claim). P c.sid) (claim_of policy at) flows named))

    pub pieces-named : AllByRecursion OfPiece (pieces_of policy at flows)
    pieces-named = recursion-append OfPiece (flat_map (due_pieces at) flows) (flat_map (award_pieces at) (by_rank (awards_of policy at flows)))
        (recursion-flat_map OfPiece (due_pieces at) flows (recursion-weaker (λ (f : Flowing). P f.sid) (λ f. AllByRecursion OfPiece (due_pieces at f)) (due-named at) flows named))
        (recursion-flat_map OfPiece (award_pieces at) (by_rank (awards_of policy at flows)) (recursion-weaker OfAward (λ a. AllByRecursion OfPiece (award_pieces at a)) (award-named at) (by_rank (awards_of policy at flows)) served-named))

    -- it holds of the SID of each span, if it holds of nobody's
    pub spans-named : P 0 → AllByRecursion (λ (span : Span). P span.sid) (spans_of policy at flows)
    spans-named nobody = packed-named at.slice.start _
        (recursion-append OfPiece (pieces_of policy at flows) (idle (at.slice.length - minislots_in (pieces_of policy at flows))) pieces-named (idle-named (at.slice.length - minislots_in (pieces_of policy at flows)) nobody))

    -- and of each that is pending
    pub pending-named : AllByRecursion P (pending_of policy at flows)
    pending-named = recursion-map P (λ (a : Award). a.sid) (filter (λ (a : Award). nat_lt a.grant a.backlog) (by_rank (awards_of policy at flows)))
        (recursion-filter OfAward (λ a. nat_lt a.grant a.backlog) (by_rank (awards_of policy at flows)) served-named)

-- ---- the SIDs are the flows'

module _ (policy : Policy) (at : AtFields) (flows : List Flowing) where
  abbrev sids : List ℕ
  sids = map (λ (f : Flowing). f.sid) flows

  own_sids : AllByRecursion (λ (f : Flowing). Contains sids f.sid) flows
  own_sids = recursion_from_All (λ (f : Flowing). Contains sids f.sid) flows
      (λ i d lt. (i, omega (arith, length-map flows (λ (f : Flowing). f.sid)), get_or-map (λ (f : Flowing). f.sid) flows i d (get_or flows i d).sid lt))

  pub each-span : All (λ (span : Span). (span.sid ≡ 0) ⊎ Contains sids span.sid) (spans_of policy at flows)
  each-span = All-from_recursion (λ (span : Span). (span.sid ≡ 0) ⊎ Contains sids span.sid) (spans_of policy at flows)
      (spans-named (λ sid. (sid ≡ 0) ⊎ Contains sids sid) policy at flows
      (recursion-weaker (λ (f : Flowing). Contains sids f.sid) (λ (f : Flowing). (f.sid ≡ 0) ⊎ Contains sids f.sid) (λ f h. inr h) flows own_sids) (inl refl))

  pub each-pending : All (Contains sids) (pending_of policy at flows)
  each-pending = All-from_recursion (Contains sids) (pending_of policy at flows) (pending-named (Contains sids) policy at flows own_sids)
