-- How the room is shared: those before a claim, and that the shares fit the room.
use Rattle.std.proofs.Common.{◌≡◌, ℕ, zero, suc, ◌+◌, ◌-◌, ◌<◌, ◌≤◌, true, false, cond, List, [], ◌∷◌, ◌++◌, length, get_or, take, refl, sym, ap, ◌∙◌, arith, filter, map, sum_by, min, add-one}
use Rattle.slice_scheduler.proofs.Common.{nat_lt, nat_le, ◌==◌, AllByRecursion, lt-ltb, le-ltb, lt-leb, eqb-true, nat_tests, sum_by-cons, take_more, append_assoc, append-nil, Award, Claim, goes_before, wanted_before, granted_share, award_of, award_with, served, by_rank, Ascends, IsClaim, AreBuckets}
use Rattle.slice_scheduler.specs.Schedule.{ranked_below}
use Rattle.slice_scheduler.proofs.SumLemmas.{filtered-cons, filtered_twice-cons, filtered-split, filtered-none, kept-map, kept-pass, recursion-weaker}
use Rattle.slice_scheduler.proofs.RankLemmas.{Ascends-filter, ranked_below-more, ranked_below-none}

abbrev left : Claim → ℕ
left c = c.left

abbrev pub ClaimsAscend : List Claim → Type 0
ClaimsAscend claims = Ascends (λ (c : Claim). c.sfid) claims

-- what is wanted in a list by those of a smaller SFID
abbrev wanted_earlier : List Claim → Claim → ℕ
wanted_earlier claims c = sum_by (λ (d : Claim). d.left) (filter (λ d. nat_lt d.sfid c.sfid) claims)

-- what is wanted beyond their bases by the claims of one rank, and by those of rank n and above
abbrev wanted_at : List Claim → ℕ → ℕ
wanted_at claims r = sum_by (λ (c : Claim). c.left) (filter (λ c. c.rank == r) claims)

abbrev pub wanted_from : List Claim → ℕ → ℕ
wanted_from claims n = sum_by (λ (c : Claim). c.left) (filter (λ c. nat_le n c.rank) claims)

abbrev of_rank : List Claim → ℕ → List Claim
of_rank claims r = filter (λ c. c.rank == r) claims

-- ---- by rank

rank_and_above : (n : ℕ) (x : Claim) (m : ℕ) → cond (nat_le n x.rank) m 0 ≡ cond (x.rank == n) m 0 + cond (nat_le (n + 1) x.rank) m 0
rank_and_above n x m = grind (arith, nat_tests)

wanted_from-split : (claims : List Claim) (n : ℕ) → wanted_from claims n ≡ wanted_at claims n + wanted_from claims (n + 1)
wanted_from-split claims n = filtered-split left (λ c. nat_le n c.rank) (λ c. c.rank == n) (λ c. nat_le (n + 1) c.rank) (rank_and_above n) claims

-- ---- those before a claim are of a greater rank, or earlier in its own

before_is : (c x : Claim) (m : ℕ) → cond (goes_before x c) m 0 ≡ cond (nat_le (c.rank + 1) x.rank) m 0 + cond (x.rank == c.rank) (cond (nat_lt x.sfid c.sfid) m 0) 0
before_is c x m = grind (arith, nat_tests)

wanted_before-split : (claims : List Claim) (c : Claim) → wanted_before claims c ≡ wanted_from claims (c.rank + 1) + wanted_earlier (of_rank claims c.rank) c
wanted_before-split [] c = refl
wanted_before-split (x ∷ claims) c = omega (
  arith,
  filtered-cons left (λ d. goes_before d c) x claims,
  filtered-cons left (λ d. nat_le (c.rank + 1) d.rank) x claims,
  filtered_twice-cons left (λ d. nat_lt d.sfid c.sfid) (λ d. d.rank == c.rank) x claims,
  before_is c x x.left,
  wanted_before-split claims c,
)

none_earlier : (c : Claim) (claims : List Claim) → AllByRecursion (λ d. c.sfid < d.sfid) claims → AllByRecursion (λ d. nat_lt d.sfid c.sfid ≡ false) claims
none_earlier c claims above = recursion-weaker (λ d. c.sfid < d.sfid) (λ d. nat_lt d.sfid c.sfid ≡ false) (λ d h. le-ltb d.sfid c.sfid (omega arith)) claims above

-- ---- claims that are served one after the other

served-append : (room : ℕ) (xs ys : List Claim) → served room (xs ++ ys) ≡ served room xs ++ served (room - sum_by left xs) ys
served-append room [] ys = ap (λ (n : ℕ). served n ys) (omega arith)
served-append room (c ∷ xs) ys =
    ap (λ (given : List Award). award_with c (min c.left room) ∷ given)
    (served-append (room - c.left) xs ys ∙ ap (λ (n : ℕ). served (room - c.left) xs ++ served n ys) (omega (arith, sum_by-cons left c xs)))

-- one more claim of a bucket, as a loop serves it
pub serve-more : (room : ℕ) (claims : List Claim) (i : ℕ) (e : Claim) (here share : ℕ) (before awards after : List Award) → i < length claims
    → awards ≡ before ++ served room (take i claims) → here ≡ room - sum_by (λ (c : Claim). c.left) (take i claims)
    → share ≡ min (get_or claims i e).left here → after ≡ awards ++ award_with (get_or claims i e) share ∷ [] → after ≡ before ++ served room (take (i + 1) claims)
serve-more room claims i e here share before awards after lt so_far lowered is put =
    put ∙ (ap (λ (given : List Award). given ++ award_with (get_or claims i e) share ∷ []) so_far
    ∙ (append_assoc before (served room (take i claims)) (award_with (get_or claims i e) share ∷ [])
    ∙ ap (λ (given : List Award). before ++ given)
    (ap (λ (n : ℕ). served room (take i claims) ++ award_with (get_or claims i e) n ∷ []) (is ∙ ap (λ (n : ℕ). min (get_or claims i e).left n) lowered)
    ∙ (sym (served-append room (take i claims) (get_or claims i e ∷ []))
    ∙ ap (λ (cs : List Claim). served room cs) (sym (take_more claims i e lt))))))

-- what is granted: all bases, and of the room what is wanted
pub served-grants : (room : ℕ) (claims : List Claim) → sum_by (λ (a : Award). a.grant) (served room claims) + (room - sum_by left claims) ≡ sum_by (λ (c : Claim). c.base) claims + room
served-grants room [] = omega arith
served-grants room (c ∷ claims) = omega (
  arith,
  sum_by-cons (λ (a : Award). a.grant) (award_with c (min c.left room)) (served (room - c.left) claims),
  sum_by-cons left c claims,
  sum_by-cons (λ (d : Claim). d.base) c claims,
  served-grants (room - c.left) claims,
)

-- ---- the shares of one rank

-- what a claim of a list gets of the room, after so many minislots for others
abbrev share_in : ℕ → ℕ → List Claim → Claim → ℕ
share_in room others claims c = min c.left (room - (others + wanted_earlier claims c))

map-same : {X Y : Type 0} (f g : X → Y) (xs : List X) → AllByRecursion (λ x. f x ≡ g x) xs → map f xs ≡ map g xs
map-same f g [] h = refl
map-same {X} {Y} f g (x ∷ xs) h = ap (λ (y : Y). y ∷ map f xs) h.0 ∙ ap (λ (ys : List Y). g x ∷ ys) (map-same f g xs h.1)

served-shares : (room others : ℕ) (claims : List Claim) → ClaimsAscend claims → served (room - others) claims ≡ map (λ c. award_with c (share_in room others claims c)) claims
served-shares room others [] ascend = refl
served-shares room others (c ∷ claims) ascend =
    let first : wanted_earlier (c ∷ claims) c ≡ 0 = filtered-none left (λ d. nat_lt d.sfid c.sfid) (c ∷ claims) (le-ltb c.sfid c.sfid (omega arith), none_earlier c claims ascend.0) in
    let share : min c.left (room - others) ≡ share_in room others (c ∷ claims) c = ap (λ (n : ℕ). min c.left (room - n)) (omega (arith, first)) in
    let later : AllByRecursion (λ d. award_with d (share_in room (others + c.left) claims d) ≡ award_with d (share_in room others (c ∷ claims) d)) claims =
    recursion-weaker (λ d. c.sfid < d.sfid) (λ d. award_with d (share_in room (others + c.left) claims d) ≡ award_with d (share_in room others (c ∷ claims) d))
    (λ d h. ap (λ (n : ℕ). award_with d (min d.left (room - n))) (omega (arith, filtered-cons left (λ e. nat_lt e.sfid d.sfid) c claims, ap (λ b. cond b c.left 0) (lt-ltb c.sfid d.sfid h))))
    claims ascend.0 in
    ap (λ (s : ℕ). award_with c s ∷ served (room - others - c.left) claims) share
    ∙ ap (λ (given : List Award). award_with c (share_in room others (c ∷ claims) c) ∷ given)
    (ap (λ (n : ℕ). served n claims) (omega arith)
    ∙ (served-shares room (others + c.left) claims ascend.1
    ∙ map-same (λ d. award_with d (share_in room (others + c.left) claims d)) (λ d. award_with d (share_in room others (c ∷ claims) d)) claims later))

-- ---- the shares of all

share-in_rank : (room : ℕ) (claims : List Claim) (r : ℕ) (c : Claim) → (c.rank == r) ≡ true → share_in room (wanted_from claims (r + 1)) (of_rank claims r) c ≡ granted_share room claims c
share-in_rank room claims r c e = ap (λ (n : ℕ). min c.left (room - n))
    (sym (wanted_before-split claims c ∙ ap (λ (k : ℕ). wanted_from claims (k + 1) + wanted_earlier (of_rank claims k) c) (eqb-true c.rank r e)))

one_rank : (room : ℕ) (claims : List Claim) (r : ℕ) → ClaimsAscend claims → served (room - wanted_from claims (r + 1)) (of_rank claims r) ≡ map (award_of room claims) (of_rank claims r)
one_rank room claims r ascend =
    served-shares room (wanted_from claims (r + 1)) (of_rank claims r) (Ascends-filter (λ (c : Claim). c.sfid) (λ c. c.rank == r) claims ascend)
    ∙ map-same (λ c. award_with c (share_in room (wanted_from claims (r + 1)) (of_rank claims r) c)) (award_of room claims) (of_rank claims r)
    (kept-pass (λ (c : Claim). award_with c (share_in room (wanted_from claims (r + 1)) (of_rank claims r) c) ≡ award_of room claims c) (λ c. c.rank == r)
    (λ c e. ap (λ (s : ℕ). award_with c s) (share-in_rank room claims r c e)) claims)

-- served by rank, each claim has its award
pub served-below : (room : ℕ) (claims : List Claim) (n : ℕ) → ClaimsAscend claims
    → served (room - wanted_from claims n) (ranked_below (λ c. c.rank) n claims) ≡ ranked_below (λ a. a.rank) n (map (award_of room claims) claims)
unfolding ranked_below
served-below room claims zero ascend = refl
served-below room claims (suc n) ascend =
    let above : wanted_from claims (suc n) ≡ wanted_from claims (n + 1) = ap (λ (k : ℕ). wanted_from claims k) (sym (add-one n)) in
    let rest : List Claim = ranked_below (λ c. c.rank) n claims in
    let first : served (room - wanted_from claims (suc n)) (of_rank claims n) ≡ filter (λ (a : Award). a.rank == n) (map (award_of room claims) claims) =
    ap (λ (k : ℕ). served (room - k) (of_rank claims n)) above
    ∙ (one_rank room claims n ascend ∙ kept-map (award_of room claims) (λ c. c.rank == n) (λ (a : Award). a.rank == n) (λ c. refl) claims) in
    let next : room - wanted_from claims (suc n) - wanted_at claims n ≡ room - wanted_from claims n = omega (arith, above, wanted_from-split claims n) in
    served-append (room - wanted_from claims (suc n)) (of_rank claims n) rest
    ∙ (ap (λ (given : List Award). given ++ served (room - wanted_from claims (suc n) - wanted_at claims n) rest) first
    ∙ ap (λ (given : List Award). filter (λ (a : Award). a.rank == n) (map (award_of room claims) claims) ++ given)
    (ap (λ (k : ℕ). served k rest) next ∙ served-below room claims n ascend))

-- no claim has a rank of 64
wanted_from-none : (claims : List Claim) → AllByRecursion IsClaim claims → wanted_from claims 64 ≡ 0
wanted_from-none claims are = filtered-none (λ (c : Claim). c.left) (λ c. nat_le 64 c.rank) claims (recursion-weaker IsClaim (λ c. nat_le 64 c.rank ≡ false) (λ c h. lt-leb 64 c.rank (omega (arith, h.rank))) claims are)

pub served-by_rank : (room : ℕ) (claims : List Claim) → AllByRecursion IsClaim claims → ClaimsAscend claims → served room (ranked_below (λ c. c.rank) 64 claims) ≡ by_rank (map (award_of room claims) claims)
served-by_rank room claims sound ascend = ap (λ (k : ℕ). served k (ranked_below (λ c. c.rank) 64 claims)) (omega (arith, wanted_from-none claims sound)) ∙ served-below room claims 64 ascend

-- ---- the loop over the buckets, from the greatest rank down

pub serve-next : (claims bucket : List Claim) (n here lowered : ℕ) (before after : List Award) → 0 < n → bucket ≡ filter (λ c. c.rank == n - 1) claims
    → after ≡ before ++ served here bucket → lowered ≡ here - sum_by (λ (c : Claim). c.left) bucket
    → after ++ served lowered (ranked_below (λ c. c.rank) (n - 1) claims) ≡ before ++ served here (ranked_below (λ c. c.rank) n claims)
serve-next claims bucket n here lowered before after some is put low =
    let rest : List Claim = ranked_below (λ c. c.rank) (n - 1) claims in
    ap (λ (given : List Award). given ++ served lowered rest) put
    ∙ (append_assoc before (served here bucket) (served lowered rest)
    ∙ ap (λ (given : List Award). before ++ given)
    (ap (λ (k : ℕ). served here bucket ++ served k rest) low
    ∙ (sym (served-append here bucket rest)
    ∙ ap (λ (cs : List Claim). served here cs) (ap (λ (b : List Claim). b ++ rest) is ∙ sym (ranked_below-more (λ c. c.rank) n claims some)))))

pub serve-end : (claims : List Claim) (n here : ℕ) (awards : List Award) → n ≤ 0 → awards ++ served here (ranked_below (λ c. c.rank) n claims) ≡ awards
serve-end claims n here awards none =
    ap (λ (k : ℕ). awards ++ served here (ranked_below (λ c. c.rank) k claims)) (omega arith)
    ∙ (ap (λ (cs : List Claim). awards ++ served here cs) (ranked_below-none (λ c. c.rank) claims) ∙ append-nil awards)

-- no bucket has a claim
pub serve-none : (claims : List Claim) → AreBuckets claims [] → (n : ℕ) → n ≤ 64 → ranked_below (λ c. c.rank) n claims ≡ []
unfolding ranked_below
serve-none claims are zero le = refl
serve-none claims are (suc n) le =
    ap (λ (cs : List Claim). cs ++ ranked_below (λ c. c.rank) n claims) (sym (are n (omega arith))) ∙ serve-none claims are n (omega arith)
