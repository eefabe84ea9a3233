-- How many elements a schedule has.
use Rattle.std.proofs.Common.{◌≡◌, ◌≢◌, ℕ, count_by, ◌+◌, ◌-◌, ◌==◌, ◌≤◌, Bool, true, false, cond, List, [], ◌∷◌, ◌++◌, length, filter, sum_by, refl, ap, arith}
use Rattle.slice_scheduler.proofs.Common.{nat_lt, AllByRecursion, flat_map, eq-eqb, ne_eqb, le-ltb, length-append, length-map, length-replicate, length-filter, sum_by-cons, sum_by-append, count_by-le-length, minislots_of, need_of_kind, need_of, Scheduling, BestEffort, NonRealTimePolling, RealTimePolling, UnsolicitedGrant, Policy, Piece, Span, Award, AtFields, Flowing, is_due, due_pieces, pieces_when_due, iuc_of, claim_of, claims_of, room_of, award_of, awards_of, by_rank, award_pieces, pieces_of, idle, spans_from, minislots_in, spans_of, pending_of, AsksWhereItMay, elements_needed}
use Rattle.std.proofs.lemmas.List.Concat.{length-flat_map}
use Rattle.slice_scheduler.proofs.SumLemmas.{sum_by-add, sum_by-le, filtered-le, recursion-weaker}
use Rattle.slice_scheduler.proofs.RankLemmas.{sum_by-ranked_below}
use Rattle.slice_scheduler.proofs.PackedLemmas.{placed, spare}
use Rattle.slice_scheduler.proofs.NamedLemmas.{pieces-named}
use Rattle.slice_scheduler.proofs.TotalLemmas.{sum_by-map}

-- ---- an award

-- its grant as it is put, where it is more than none
abbrev piece_of : AtFields → Award → Piece
piece_of at a = record { sid = a.sid; iuc = iuc_of at a.grant; len = a.grant }

-- its grant, and its SID where it asks for more
abbrev for_award : AtFields → Award → ℕ
for_award at a = length (award_pieces at a) + cond (nat_lt a.grant a.backlog) 1 0

two_at_most : (at : AtFields) (a : Award) → for_award at a ≤ 2
two_at_most at a = by (a.grant == 0) (nat_lt a.grant a.backlog)
  where
    by : (b c : Bool) → length (cond b [] (piece_of at a ∷ [])) + cond {A = ℕ} c 1 0 ≤ 2
    by true true = omega arith
    by true false = omega arith
    by false true = omega arith
    by false false = omega arith

-- none where nothing is asked
none_asked : (at : AtFields) (a : Award) → a.grant ≡ 0 → a.backlog ≡ 0 → for_award at a ≡ 0
none_asked at a granted asked = omega (
  arith,
  ap (λ (b : Bool). length (cond b [] (piece_of at a ∷ []))) (eq-eqb a.grant 0 granted),
  ap (λ (b : Bool). cond {A = ℕ} b 1 0) (le-ltb a.grant a.backlog (omega arith)),
)

for_awards : (at : AtFields) (awards : List Award) → length (flat_map (award_pieces at) awards) + length (filter (λ (a : Award). nat_lt a.grant a.backlog) awards) ≡ sum_by (for_award at) awards
for_awards at awards = omega (
  arith,
  length-flat_map (award_pieces at) awards,
  length-filter (λ (a : Award). nat_lt a.grant a.backlog) awards,
  sum_by-add (for_award at) (λ a. length (award_pieces at a)) (λ a. cond (nat_lt a.grant a.backlog) 1 0) (λ a. refl) awards,
)

-- ---- a flow

for_flow : (at : AtFields) (f : Flowing) (a : Award) → (f.backlog ≡ 0 → for_award at a ≡ 0) → AsksWhereItMay f → length (due_pieces at f) + for_award at a ≤ (need_of f.set at.units).elements
for_flow at f a none asks = by (is_due at f) f.set.scheduling (λ s. none (asks s))
  where
    by : (b : Bool) (s : Scheduling) → (s ≡ UnsolicitedGrant → for_award at a ≡ 0) → length (cond b (pieces_when_due s at f) []) + for_award at a ≤ (need_of_kind s f.set at.units).elements
    by false BestEffort h = omega (arith, two_at_most at a)
    by true BestEffort h = omega (arith, two_at_most at a)
    by false NonRealTimePolling h = omega (arith, two_at_most at a)
    by true NonRealTimePolling h = omega (arith, two_at_most at a)
    by false RealTimePolling h = omega (arith, two_at_most at a)
    by true RealTimePolling h = omega (arith, two_at_most at a)
    by false UnsolicitedGrant h = omega (arith, h refl)
    by true UnsolicitedGrant h = omega (
      arith,
      h refl,
      length-replicate {A = Piece} f.set.grants_per_interval
          (record { sid = f.sid; iuc = iuc_of at (minislots_of f.set.grant_size at.units); len = minislots_of f.set.grant_size at.units }),
    )

-- ---- all of it

length-packed : (start : ℕ) (pieces : List Piece) → length (spans_from start pieces) ≡ length pieces
length-packed start [] = refl
length-packed start (piece ∷ pieces) = omega (arith, length-packed (start + piece.len) pieces)

one_idle : (n : ℕ) → length (idle n) ≤ 1
one_idle n = elim (n == 0) as (λ b. length (cond b [] (spare n ∷ [])) ≤ 1) [ true ↦ omega arith | false ↦ omega arith ]

module _ (policy : Policy) (at : AtFields) (flows : List Flowing) where
  abbrev award_for : Flowing → Award
  award_for f = award_of (room_of at flows) (claims_of policy at flows) (claim_of policy at f)

  for_served : sum_by (for_award at) (by_rank (awards_of policy at flows)) ≤ sum_by (λ f. for_award at (award_for f)) flows
  for_served = omega (
    arith,
    sum_by-ranked_below (for_award at) (λ (a : Award). a.rank) 64 (awards_of policy at flows),
    filtered-le (for_award at) (λ a. nat_lt a.rank 64) (awards_of policy at flows),
    sum_by-map (for_award at) (award_of (room_of at flows) (claims_of policy at flows)) (claims_of policy at flows),
    sum_by-map (λ c. for_award at (award_of (room_of at flows) (claims_of policy at flows) c)) (claim_of policy at) flows,
  )

  pub elements-few : AllByRecursion AsksWhereItMay flows → length (spans_of policy at flows) + length (pending_of policy at flows) ≤ elements_needed at flows + 1
  elements-few asks =
      let left : ℕ = at.slice.length - minislots_in (pieces_of policy at flows) in
      let awards = by_rank (awards_of policy at flows) in
      let each : AllByRecursion (λ f. length (due_pieces at f) + for_award at (award_for f) ≤ (need_of f.set at.units).elements) flows =
      recursion-weaker AsksWhereItMay (λ f. length (due_pieces at f) + for_award at (award_for f) ≤ (need_of f.set at.units).elements)
      (λ f. for_flow at f (award_for f) (λ none. none_asked at (award_for f) (omega arith) (omega arith))) flows asks in
      omega (
        arith,
        length-packed at.slice.start (pieces_of policy at flows ++ idle left),
        length-append (pieces_of policy at flows) (idle left),
        one_idle left,
        length-append (flat_map (due_pieces at) flows) (flat_map (award_pieces at) awards),
        length-flat_map (due_pieces at) flows,
        length-map (filter (λ (a : Award). nat_lt a.grant a.backlog) awards) (λ (a : Award). a.sid),
        for_awards at awards,
        for_served,
        sum_by-add (λ f. length (due_pieces at f) + for_award at (award_for f)) (λ f. length (due_pieces at f)) (λ f. for_award at (award_for f)) (λ f. refl) flows,
        sum_by-le (λ f. length (due_pieces at f) + for_award at (award_for f)) (λ f. (need_of f.set at.units).elements) flows each,
      )

-- ---- nobody's

nobody-packed : (start : ℕ) (pieces : List Piece) → count_by (λ (span : Span). span.sid == 0) (spans_from start pieces) ≡ count_by (λ (piece : Piece). piece.sid == 0) pieces
nobody-packed start [] = refl
nobody-packed start (piece ∷ pieces) = omega (
  arith,
  sum_by-cons (λ (span : Span). cond {A = ℕ} (span.sid == 0) 1 0) (placed start piece) (spans_from (start + piece.len) pieces),
  sum_by-cons (λ (p : Piece). cond {A = ℕ} (p.sid == 0) 1 0) piece pieces,
  nobody-packed (start + piece.len) pieces,
)

none-nobody : (pieces : List Piece) → AllByRecursion (λ (piece : Piece). piece.sid ≢ 0) pieces → count_by (λ (piece : Piece). piece.sid == 0) pieces ≡ 0
none-nobody [] named = refl
none-nobody (piece ∷ pieces) named = omega (
  arith,
  sum_by-cons (λ (p : Piece). cond {A = ℕ} (p.sid == 0) 1 0) piece pieces,
  ap (λ (b : Bool). cond {A = ℕ} b 1 0) (ne_eqb piece.sid 0 named.0),
  none-nobody pieces named.1,
)

pub one-nobody : (policy : Policy) (at : AtFields) (flows : List Flowing) → AllByRecursion (λ (f : Flowing). f.sid ≢ 0) flows → count_by (λ (span : Span). span.sid == 0) (spans_of policy at flows) ≤ 1
one-nobody policy at flows named =
    let left : ℕ = at.slice.length - minislots_in (pieces_of policy at flows) in
    omega (
      arith,
      nobody-packed at.slice.start (pieces_of policy at flows ++ idle left),
      sum_by-append (λ (piece : Piece). cond {A = ℕ} (piece.sid == 0) 1 0) (pieces_of policy at flows) (idle left),
      none-nobody (pieces_of policy at flows) (pieces-named (λ sid. sid ≢ 0) policy at flows named),
      count_by-le-length (λ (piece : Piece). piece.sid == 0) (idle left),
      one_idle left,
    )
