-- What a schedule gives, it gives to the flows that ask: those that do not ask may be left out before anything is shared.
use Rattle.std.proofs.Common.{◌≡◌, ℕ, zero, suc, ◌-◌, ◌+◌, ◌<◌, inl, inr, Bool, true, false, cond, List, [], ◌∷◌, ◌++◌, refl, sym, ap, ◌∙◌, arith, filter, map, min, sum_by, eq-zero-or-pos, take, get_or, length}
use Rattle.slice_scheduler.proofs.Common.{nat_lt, ◌==◌, flat_map, lt-ltb, le-ltb, take_more, map-append, filter-append, sum_by-cons, Policy, Claim, Award, AtFields, Flowing, claim_of, claims_of, room_of, goes_before, award_of, awards_of, asking}
use Rattle.slice_scheduler.specs.Schedule.{ranked_below, by_rank, award_pieces}
use Rattle.slice_scheduler.proofs.SumLemmas.{kept-map}

-- ---- lists with some left out

-- leaving out what a second test leaves out too changes nothing
kept-filter : {X : Type 0} (p s : X → Bool) → ((x : X) → p x ≡ false → s x ≡ false) → (xs : List X) → filter s (filter p xs) ≡ filter s xs
kept-filter p s none [] = refl
kept-filter {X} p s none (x ∷ xs) = one (kept-filter p s none xs) (p x) refl
  where
    one : filter s (filter p xs) ≡ filter s xs → (b : Bool) → p x ≡ b → filter s (cond b (x ∷ filter p xs) (filter p xs)) ≡ cond (s x) (x ∷ filter s xs) (filter s xs)
    one rest true e = ap (λ (ys : List X). cond (s x) (x ∷ ys) ys) rest
    one rest false e = rest ∙ sym (ap (λ (b : Bool). cond b (x ∷ filter s xs) (filter s xs)) (none x e))

-- nor does leaving out what gives nothing
kept-flat_map : {X Y : Type 0} (p : X → Bool) (g : X → List Y) → ((x : X) → p x ≡ false → g x ≡ []) → (xs : List X) → flat_map g (filter p xs) ≡ flat_map g xs
kept-flat_map p g none [] = refl
kept-flat_map {X} {Y} p g none (x ∷ xs) = one (kept-flat_map p g none xs) (p x) refl
  where
    one : flat_map g (filter p xs) ≡ flat_map g xs → (b : Bool) → p x ≡ b → flat_map g (cond b (x ∷ filter p xs) (filter p xs)) ≡ g x ++ flat_map g xs
    one rest true e = ap (λ (ys : List Y). g x ++ ys) rest
    one rest false e = rest ∙ sym (ap (λ (ys : List Y). ys ++ flat_map g xs) (none x e))

filter-swap : {X : Type 0} (a b : X → Bool) (xs : List X) → filter a (filter b xs) ≡ filter b (filter a xs)
filter-swap a b [] = refl
filter-swap {X} a b (x ∷ xs) = one (filter-swap a b xs) (a x) (b x) refl refl
  where
    one : filter a (filter b xs) ≡ filter b (filter a xs) → (u v : Bool) → a x ≡ u → b x ≡ v → filter a (cond v (x ∷ filter b xs) (filter b xs)) ≡ filter b (cond u (x ∷ filter a xs) (filter a xs))
    one rest true true ea eb =
        ap (λ (w : Bool). cond w (x ∷ filter a (filter b xs)) (filter a (filter b xs))) ea
        ∙ (ap (λ (ys : List X). x ∷ ys) rest ∙ sym (ap (λ (w : Bool). cond w (x ∷ filter b (filter a xs)) (filter b (filter a xs))) eb))
    one rest true false ea eb = rest ∙ sym (ap (λ (w : Bool). cond w (x ∷ filter b (filter a xs)) (filter b (filter a xs))) eb)
    one rest false true ea eb = ap (λ (w : Bool). cond w (x ∷ filter a (filter b xs)) (filter a (filter b xs))) ea ∙ rest
    one rest false false ea eb = rest

kept-ranked : {X : Type 0} (rank : X → ℕ) (p : X → Bool) (n : ℕ) (xs : List X) → ranked_below rank n (filter p xs) ≡ filter p (ranked_below rank n xs)
unfolding ranked_below
kept-ranked rank p zero xs = refl
kept-ranked {X} rank p (suc n) xs =
    ap (λ (ys : List X). ys ++ ranked_below rank n (filter p xs)) (filter-swap (λ x. rank x == n) p xs)
    ∙ (ap (λ (ys : List X). filter p (filter (λ x. rank x == n) xs) ++ ys) (kept-ranked rank p n xs)
    ∙ sym (filter-append p (filter (λ x. rank x == n) xs) (ranked_below rank n xs)))

-- what counts for nothing may be left out of a sum
kept-sum : {X Y : Type 0} (f : Y → ℕ) (t : Y → Bool) (g : X → Y) (q : X → Bool) → ((x : X) → q x ≡ false → f (g x) ≡ 0) → (xs : List X)
    → sum_by f (filter t (map g (filter q xs))) ≡ sum_by f (filter t (map g xs))
kept-sum f t g q none [] = refl
kept-sum {X} {Y} f t g q none (x ∷ xs) = one (kept-sum f t g q none xs) (q x) refl
  where
    both : sum_by f (filter t (map g (filter q xs))) ≡ sum_by f (filter t (map g xs)) → (u : Bool)
        → sum_by f (cond u (g x ∷ filter t (map g (filter q xs))) (filter t (map g (filter q xs)))) ≡ sum_by f (cond u (g x ∷ filter t (map g xs)) (filter t (map g xs)))
    both rest true = omega (arith, sum_by-cons f (g x) (filter t (map g (filter q xs))), sum_by-cons f (g x) (filter t (map g xs)), rest)
    both rest false = rest

    nothing : (u : Bool) → f (g x) ≡ 0 → sum_by f (cond u (g x ∷ filter t (map g xs)) (filter t (map g xs))) ≡ sum_by f (filter t (map g xs))
    nothing true free = omega (arith, sum_by-cons f (g x) (filter t (map g xs)), free)
    nothing false free = refl

    one : sum_by f (filter t (map g (filter q xs))) ≡ sum_by f (filter t (map g xs)) → (b : Bool) → q x ≡ b
        → sum_by f (filter t (map g (cond b (x ∷ filter q xs) (filter q xs)))) ≡ sum_by f (cond (t (g x)) (g x ∷ filter t (map g xs)) (filter t (map g xs)))
    one rest true e = both rest (t (g x))
    one rest false e = rest ∙ sym (nothing (t (g x)) (none x e))

-- ---- awards

-- whether an award has anything to tell
abbrev pub counts : Award → Bool
counts a = nat_lt 0 (a.backlog + a.grant)

none_counts : (n : ℕ) → nat_lt 0 n ≡ false → n ≡ 0
none_counts n e = grind (arith, lt-ltb)

uncounted : (a : Award) → counts a ≡ false → (a.backlog ≡ 0) × (a.grant ≡ 0)
uncounted a e = let none = none_counts (a.backlog + a.grant) e in (omega (arith, none), omega (arith, none))

-- the award of a flow counts where it asks
award_counts : (backlog reserve room : ℕ) → nat_lt 0 ((min backlog reserve + (backlog - min backlog reserve)) + (min backlog reserve + min (backlog - min backlog reserve) room)) ≡ nat_lt 0 backlog
award_counts backlog reserve room =
    elim (eq-zero-or-pos backlog) [
      | inl z ↦ le-ltb 0 _ (omega arith) ∙ sym (le-ltb 0 backlog (omega arith))
      | inr g ↦ lt-ltb 0 _ (omega arith) ∙ sym (lt-ltb 0 backlog g)
    ]

-- what is wanted by those that do not ask is none
none_wanted : (policy : Policy) (at : AtFields) (f : Flowing) → nat_lt 0 f.backlog ≡ false → (claim_of policy at f).left ≡ 0
none_wanted policy at f e = omega (arith, none_counts f.backlog e)

award_alike : (policy : Policy) (at : AtFields) (flows : List Flowing) (c : Claim)
    → award_of (room_of at flows) (claims_of policy at (asking flows)) c ≡ award_of (room_of at flows) (claims_of policy at flows) c
award_alike policy at flows c =
    ap (λ (wanted : ℕ). record { sfid = c.sfid; sid = c.sid; rank = c.rank; backlog = c.base + c.left; grant = c.base + min c.left (room_of at flows - wanted) })
    (kept-sum (λ (d : Claim). d.left) (λ (d : Claim). goes_before d c) (claim_of policy at) (λ (f : Flowing). nat_lt 0 f.backlog) (none_wanted policy at) flows)

map-alike : {X Y : Type 0} (g h : X → Y) → ((x : X) → g x ≡ h x) → (xs : List X) → map g xs ≡ map h xs
map-alike g h same [] = refl
map-alike {X} {Y} g h same (x ∷ xs) = ap (λ (y : Y). y ∷ map g xs) (same x) ∙ ap (λ (ys : List Y). h x ∷ ys) (map-alike g h same xs)

counts_alike : (policy : Policy) (at : AtFields) (flows : List Flowing) (f : Flowing)
    → counts (award_of (room_of at flows) (claims_of policy at flows) (claim_of policy at f)) ≡ nat_lt 0 f.backlog
counts_alike policy at flows f = award_counts f.backlog _ _

-- the awards of those that ask are the awards that count
pub asking-awards : (policy : Policy) (at : AtFields) (flows : List Flowing)
    → map (award_of (room_of at flows) (claims_of policy at (asking flows))) (claims_of policy at (asking flows)) ≡ filter counts (awards_of policy at flows)
asking-awards policy at flows =
    map-alike (award_of (room_of at flows) (claims_of policy at (asking flows))) (award_of (room_of at flows) (claims_of policy at flows)) (award_alike policy at flows) (claims_of policy at (asking flows))
    ∙ (ap (map (award_of (room_of at flows) (claims_of policy at flows))) (kept-map (claim_of policy at) (λ (f : Flowing). nat_lt 0 f.backlog) (λ (c : Claim). counts (award_of (room_of at flows) (claims_of policy at flows) c)) (counts_alike policy at flows) flows)
    ∙ kept-map (award_of (room_of at flows) (claims_of policy at flows)) (λ (c : Claim). counts (award_of (room_of at flows) (claims_of policy at flows) c)) counts (λ c. refl) (claims_of policy at flows))

no_piece : (at : AtFields) (a : Award) → counts a ≡ false → award_pieces at a ≡ []
no_piece at a e = rw (uncounted a e).1 refl

not_pending : (a : Award) → counts a ≡ false → nat_lt a.grant a.backlog ≡ false
not_pending a e = le-ltb a.grant a.backlog (omega (arith, (uncounted a e).0))

not_granted : (a : Award) → counts a ≡ false → nat_lt 0 a.grant ≡ false
not_granted a e = le-ltb 0 a.grant (omega (arith, (uncounted a e).1))

pub asking-pieces : (at : AtFields) (awards : List Award) → flat_map (award_pieces at) (by_rank (filter counts awards)) ≡ flat_map (award_pieces at) (by_rank awards)
asking-pieces at awards =
    ap (flat_map (award_pieces at)) (kept-ranked (λ (a : Award). a.rank) counts 64 awards)
    ∙ kept-flat_map counts (award_pieces at) (no_piece at) (by_rank awards)

pub asking-pending : (awards : List Award) → filter (λ a. nat_lt a.grant a.backlog) (by_rank (filter counts awards)) ≡ filter (λ a. nat_lt a.grant a.backlog) (by_rank awards)
asking-pending awards =
    ap (filter (λ (a : Award). nat_lt a.grant a.backlog)) (kept-ranked (λ (a : Award). a.rank) counts 64 awards)
    ∙ kept-filter counts (λ (a : Award). nat_lt a.grant a.backlog) not_pending (by_rank awards)

pub asking-granted : (awards : List Award) → filter (λ a. nat_lt 0 a.grant) (filter counts awards) ≡ filter (λ a. nat_lt 0 a.grant) awards
asking-granted awards = kept-filter counts (λ (a : Award). nat_lt 0 a.grant) not_granted awards

-- ---- the loop over the flows

pub claims-next : (policy : Policy) (at : AtFields) (flows : List Flowing) (i : ℕ) (f : Flowing) → i < length flows → f ≡ get_or flows i f
    → claims_of policy at (asking (take (i + 1) flows)) ≡ claims_of policy at (asking (take i flows)) ++ claims_of policy at (asking (f ∷ []))
claims-next policy at flows i f lt is =
    ap (λ (fs : List Flowing). claims_of policy at (asking fs)) (take_more flows i f lt ∙ ap (λ (g : Flowing). take i flows ++ g ∷ []) (sym is))
    ∙ (ap (map (claim_of policy at)) (filter-append (λ (g : Flowing). nat_lt 0 g.backlog) (take i flows) (f ∷ []))
    ∙ map-append (claim_of policy at) (asking (take i flows)) (asking (f ∷ [])))
