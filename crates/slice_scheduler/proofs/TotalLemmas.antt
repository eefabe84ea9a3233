-- All that is granted fits the slice.
use Rattle.std.proofs.Common.{◌≡◌, ℕ, zero, suc, ◌+◌, ◌-◌, ◌*◌, ◌<◌, ◌≤◌, ◌⊎◌, inl, inr, Bool, true, false, cond, List, [], ◌∷◌, refl, sym, ap, ◌∙◌, zero-add, arith, map, sum_by, replicate, All, length, get_or, subst}
use Rattle.slice_scheduler.proofs.Common.{AllByRecursion, flat_map, eq-eqb, ne_eqb, cases_eq, sum_by-cons, sum_by-append, minislots_of, Scheduling, BestEffort, NonRealTimePolling, RealTimePolling, UnsolicitedGrant, Policy, Piece, Claim, Award, AtFields, Flowing, is_due, due_minislots, minislots_when_due, due_pieces, pieces_when_due, iuc_of, claim_of, claims_of, base_of, taken_of, room_of, goes_before, wanted_before, award_of, awards_of, granted_share, ranked_below, by_rank, award_pieces, pieces_of, minislots_in, SfidsAscend, IsClaim, nat_lt, nat_tests, get_or-map, length-map}
use Rattle.slice_scheduler.proofs.SumLemmas.{sum_by-add, sum_by-flat_map, filtered-le, filtered-without, recursion-map, recursion-weaker}
use Rattle.slice_scheduler.specs.Busy.{LeavesNothingIdle}
use Rattle.slice_scheduler.proofs.RankLemmas.{sum_by-ranked_below, sum_by-ranked, Ascends-map}
use Rattle.slice_scheduler.proofs.ShareLemmas.{ClaimsAscend, wanted_from, served-grants, served-below, served-by_rank}

pub sum_by-map : {X Y : Type 0} (f : Y → ℕ) (g : X → Y) (xs : List X) → sum_by f (map g xs) ≡ sum_by (λ x. f (g x)) xs
sum_by-map f g [] = refl
sum_by-map f g (x ∷ xs) = omega (arith, sum_by-cons f (g x) (map g xs), sum_by-cons (λ y. f (g y)) x xs, sum_by-map f g xs)

-- ---- what is due

minislots-replicate : (n : ℕ) (p : Piece) → minislots_in (replicate n p) ≡ n * p.len
minislots-replicate zero p = omega arith
minislots-replicate (suc n) p = sum_by-cons (λ (q : Piece). q.len) p (replicate n p) ∙ omega (arith, minislots-replicate n p)

due_when : (at : AtFields) (f : Flowing) (kind : Scheduling) → minislots_in (pieces_when_due kind at f) ≡ minislots_when_due kind f.set at.units
due_when at f BestEffort = refl
due_when at f NonRealTimePolling = refl
due_when at f RealTimePolling = refl
due_when at f UnsolicitedGrant = minislots-replicate f.set.grants_per_interval
    (record { sid = f.sid; iuc = iuc_of at (minislots_of f.set.grant_size at.units); len = minislots_of f.set.grant_size at.units })

pub due_is : (at : AtFields) (f : Flowing) → minislots_in (due_pieces at f) ≡ due_minislots at f
due_is at f = elim (is_due at f) as (λ b. minislots_in (cond b (pieces_when_due f.set.scheduling at f) []) ≡ cond b (minislots_when_due f.set.scheduling f.set at.units) 0) [
  | true ↦ due_when at f f.set.scheduling
  | false ↦ refl
]

-- ---- what is awarded

abbrev piece_of : AtFields → Award → Piece
piece_of at a = record { sid = a.sid; iuc = iuc_of at a.grant; len = a.grant }

award_is : (at : AtFields) (a : Award) → minislots_in (award_pieces at a) ≡ a.grant
award_is at a = by (cases_eq a.grant 0)
  where
    by : (a.grant ≡ 0) ⊎ (a.grant ≡ 0 → ⊥) → minislots_in (award_pieces at a) ≡ a.grant
    by (inl e) = ap (λ (b : Bool). minislots_in (cond b [] (piece_of at a ∷ []))) (eq-eqb a.grant 0 e) ∙ sym e
    by (inr e) = ap (λ (b : Bool). minislots_in (cond b [] (piece_of at a ∷ []))) (ne_eqb a.grant 0 e) ∙ zero-add a.grant

-- what is granted of the ranks that are served is at most the bases and the room
awards-all : (room : ℕ) (claims : List Claim) → ClaimsAscend claims
    → sum_by (λ (a : Award). a.grant) (by_rank (map (award_of room claims) claims)) ≤ sum_by (λ (c : Claim). c.base) claims + room
awards-all room claims ascend = rw (← served-below room claims 64 ascend) (omega (
  arith,
  served-grants (room - wanted_from claims 64) (ranked_below (λ (c : Claim). c.rank) 64 claims),
  sum_by-ranked_below (λ (c : Claim). c.base) (λ (c : Claim). c.rank) 64 claims,
  filtered-le (λ (c : Claim). c.base) (λ c. nat_lt c.rank 64) claims,
))

-- a claim that is not all granted leaves no room
itself : (c : Claim) → goes_before c c ≡ false
itself c = grind (arith, nat_tests)

awards-full : (room : ℕ) (claims : List Claim) (i : ℕ) (e : Claim) → AllByRecursion IsClaim claims → ClaimsAscend claims → i < length claims
    → granted_share room claims (get_or claims i e) < (get_or claims i e).left
    → sum_by (λ (a : Award). a.grant) (by_rank (map (award_of room claims) claims)) ≡ sum_by (λ (c : Claim). c.base) claims + room
awards-full room claims i e sound ascend lt less =
    let ranked : AllByRecursion (λ (c : Claim). c.rank < 64) claims = recursion-weaker IsClaim (λ c. c.rank < 64) (λ c h. omega (arith, h.rank)) claims sound in
    let before : wanted_before claims (get_or claims i e) + (get_or claims i e).left ≤ sum_by (λ (c : Claim). c.left) claims =
    filtered-without (λ (c : Claim). c.left) (λ d. goes_before d (get_or claims i e)) claims i e lt (itself (get_or claims i e)) in
    rw (← served-by_rank room claims sound ascend) (omega (
      arith,
      served-grants room (ranked_below (λ (c : Claim). c.rank) 64 claims),
      sum_by-ranked (λ (c : Claim). c.base) (λ (c : Claim). c.rank) 64 claims ranked,
      sum_by-ranked (λ (c : Claim). c.left) (λ (c : Claim). c.rank) 64 claims ranked,
    ))

-- ---- all of it

pub claims-ascend : (policy : Policy) (at : AtFields) (flows : List Flowing) → SfidsAscend flows → ClaimsAscend (claims_of policy at flows)
claims-ascend policy at flows ascend = Ascends-map (λ (c : Claim). c.sfid) (claim_of policy at) flows ascend

pub pieces-fit : (policy : Policy) (at : AtFields) (flows : List Flowing) → SfidsAscend flows → sum_by (taken_of at) flows ≤ at.slice.length
    → minislots_in (pieces_of policy at flows) ≤ at.slice.length
pieces-fit policy at flows ascend fits =
    let due : minislots_in (flat_map (due_pieces at) flows) ≡ sum_by (due_minislots at) flows = sum_by-flat_map (λ (q : Piece). q.len) (due_pieces at) (due_minislots at) (due_is at) flows in
    let awarded : minislots_in (flat_map (award_pieces at) (by_rank (awards_of policy at flows))) ≡ sum_by (λ (a : Award). a.grant) (by_rank (awards_of policy at flows)) =
    sum_by-flat_map (λ (q : Piece). q.len) (award_pieces at) (λ (a : Award). a.grant) (award_is at) (by_rank (awards_of policy at flows)) in
    let within : sum_by (λ (a : Award). a.grant) (by_rank (awards_of policy at flows)) ≤ sum_by (λ (c : Claim). c.base) (claims_of policy at flows) + room_of at flows =
    awards-all (room_of at flows) (claims_of policy at flows) (claims-ascend policy at flows ascend) in
    let bases : sum_by (λ (c : Claim). c.base) (claims_of policy at flows) ≡ sum_by (base_of at) flows = sum_by-map (λ (c : Claim). c.base) (claim_of policy at) flows in
    let taken : sum_by (taken_of at) flows ≡ sum_by (due_minislots at) flows + sum_by (base_of at) flows = sum_by-add (taken_of at) (due_minislots at) (base_of at) (λ f. refl) flows in
    let all : minislots_in (pieces_of policy at flows) ≡ minislots_in (flat_map (due_pieces at) flows) + minislots_in (flat_map (award_pieces at) (by_rank (awards_of policy at flows))) =
    sum_by-append (λ (q : Piece). q.len) (flat_map (due_pieces at) flows) (flat_map (award_pieces at) (by_rank (awards_of policy at flows))) in
    omega arith

-- the minislots that are granted, part by part
parts : (policy : Policy) (at : AtFields) (flows : List Flowing)
    → minislots_in (pieces_of policy at flows) + sum_by (base_of at) flows ≡ sum_by (taken_of at) flows + sum_by (λ (a : Award). a.grant) (by_rank (awards_of policy at flows))
parts policy at flows =
    let due : minislots_in (flat_map (due_pieces at) flows) ≡ sum_by (due_minislots at) flows = sum_by-flat_map (λ (q : Piece). q.len) (due_pieces at) (due_minislots at) (due_is at) flows in
    let awarded : minislots_in (flat_map (award_pieces at) (by_rank (awards_of policy at flows))) ≡ sum_by (λ (a : Award). a.grant) (by_rank (awards_of policy at flows)) =
    sum_by-flat_map (λ (q : Piece). q.len) (award_pieces at) (λ (a : Award). a.grant) (award_is at) (by_rank (awards_of policy at flows)) in
    let taken : sum_by (taken_of at) flows ≡ sum_by (due_minislots at) flows + sum_by (base_of at) flows = sum_by-add (taken_of at) (due_minislots at) (base_of at) (λ f. refl) flows in
    let all : minislots_in (pieces_of policy at flows) ≡ minislots_in (flat_map (due_pieces at) flows) + minislots_in (flat_map (award_pieces at) (by_rank (awards_of policy at flows))) =
    sum_by-append (λ (q : Piece). q.len) (flat_map (due_pieces at) flows) (flat_map (award_pieces at) (by_rank (awards_of policy at flows))) in
    omega arith

pub nothing-idle : (policy : Policy) (at : AtFields) (flows : List Flowing) → AllByRecursion (λ f. IsClaim (claim_of policy at f)) flows → SfidsAscend flows → sum_by (taken_of at) flows ≤ at.slice.length
    → All (LeavesNothingIdle policy at flows) flows
nothing-idle policy at flows sound ascend fits i e lt less =
    let f : Flowing = get_or flows i e in
    let claims : List Claim = claims_of policy at flows in
    let here : get_or claims i (claim_of policy at e) ≡ claim_of policy at f = get_or-map (claim_of policy at) flows i e (claim_of policy at e) lt in
    let wants : granted_share (room_of at flows) claims (claim_of policy at f) < (claim_of policy at f).left = omega arith in
    let wants_here : granted_share (room_of at flows) claims (get_or claims i (claim_of policy at e)) < (get_or claims i (claim_of policy at e)).left =
    subst (λ (c : Claim). granted_share (room_of at flows) claims c < c.left) (sym here) wants in
    let inside : i < length claims = omega (arith, length-map flows (claim_of policy at)) in
    let full : sum_by (λ (a : Award). a.grant) (by_rank (awards_of policy at flows)) ≡ sum_by (λ (c : Claim). c.base) claims + room_of at flows =
    awards-full (room_of at flows) claims i (claim_of policy at e) (recursion-map IsClaim (claim_of policy at) flows sound) (claims-ascend policy at flows ascend) inside wants_here in
    let bases : sum_by (λ (c : Claim). c.base) claims ≡ sum_by (base_of at) flows = sum_by-map (λ (c : Claim). c.base) (claim_of policy at) flows in
    omega (arith, parts policy at flows)
