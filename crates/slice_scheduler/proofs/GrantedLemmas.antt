-- What is told of the grants, flow by flow.
use Rattle.std.proofs.Common.{◌≡◌, Bool, true, false, cond, List, [], ◌∷◌, refl, ap, ◌∙◌, map, filter}
use Rattle.slice_scheduler.proofs.Common.{nat_lt, Policy, Award, AtFields, Flowing, claim_of, claims_of, room_of, award_of, grant_of, granted_of}

kept_one : {X Y : Type 0} (b : Bool) (y : Y) (told : X → Y) (x : X) (xs : List X) (ys : List Y) → map told xs ≡ ys → told x ≡ y → map told (cond b (x ∷ xs) xs) ≡ cond b (y ∷ ys) ys
kept_one true y told x xs ys rest here = ap (λ z. z ∷ map told xs) here ∙ ap (λ zs. y ∷ zs) rest
kept_one false y told x xs ys rest here = rest

-- a test and a word of what a list is mapped to
told_through : {X Y Z : Type 0} (g : X → Y) (p : Y → Bool) (told : Y → Z) (xs : List X) → map told (filter p (map g xs)) ≡ map (λ x. told (g x)) (filter (λ x. p (g x)) xs)
told_through g p told [] = refl
told_through g p told (x ∷ xs) =
    kept_one (p (g x)) (told (g x)) told (g x) (filter p (map g xs)) (map (λ y. told (g y)) (filter (λ y. p (g y)) xs)) (told_through g p told xs) refl
    ∙ back (p (g x))
  where
    back : (b : Bool) → cond b (told (g x) ∷ map (λ y. told (g y)) (filter (λ y. p (g y)) xs)) (map (λ y. told (g y)) (filter (λ y. p (g y)) xs)) ≡ map (λ y. told (g y)) (cond b (x ∷ filter (λ y. p (g y)) xs) (filter (λ y. p (g y)) xs))
    back true = refl
    back false = refl

map-map : {X Y Z : Type 0} (f : X → Y) (g : Y → Z) (xs : List X) → map g (map f xs) ≡ map (λ x. g (f x)) xs
map-map f g [] = refl
map-map f g (x ∷ xs) = ap (λ zs. g (f x) ∷ zs) (map-map f g xs)

pub granted_is : (policy : Policy) (at : AtFields) (flows : List Flowing) → granted_of policy at flows ≡ map (λ f. (f.sfid, grant_of policy at flows f)) (filter (λ f. nat_lt 0 (grant_of policy at flows f)) flows)
granted_is policy at flows =
    ap (λ (awards : List Award). map (λ (a : Award). (a.sfid, a.grant)) (filter (λ (a : Award). nat_lt 0 a.grant) awards)) (map-map (claim_of policy at) (award_of (room_of at flows) (claims_of policy at flows)) flows)
    ∙ told_through (λ (f : Flowing). award_of (room_of at flows) (claims_of policy at flows) (claim_of policy at f)) (λ (a : Award). nat_lt 0 a.grant) (λ (a : Award). (a.sfid, a.grant)) flows
