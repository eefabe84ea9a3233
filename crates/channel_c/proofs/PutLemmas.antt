-- Two lists that are written one after the other over another one.
use Rattle.std.proofs.Common.{◌≡◌, ℕ, ◌+◌, ◌≤◌, List, ◌++◌, length, map, take, drop, refl, sym, ap, ap₂, subst, ◌∙◌, arith}
use Rattle.std.proofs.lemmas.List.{append_assoc, take-append-drop, take_at, length-append, length-take-le, length-map}
use borrow.Rule.Slice.PartMut.{put_mid, post_of}

-- the first of both begins the list
put_two : {A : Type 0} (a b : ℕ) (xs ys rest : List A) → a ≤ length xs → b ≤ length ys → take (a + b) (take a xs ++ (ys ++ rest)) ≡ take a xs ++ take b ys
put_two {A = A} a b xs ys rest room fits =
    ap (take (a + b))
    (ap (λ (l : List A). take a xs ++ (l ++ rest)) (sym (take-append-drop b ys))
    ∙ (ap (λ (l : List A). take a xs ++ l) (append_assoc (take b ys) (drop b ys) rest)
    ∙ sym (append_assoc (take a xs) (take b ys) (drop b ys ++ rest))))
    ∙ take_at (take a xs ++ take b ys) (drop b ys ++ rest) (a + b) (omega (arith, length-append (take a xs) (take b ys), length-take-le a xs room, length-take-le b ys fits))

pub put_both : {A B C : Type 0} (f : A → C) (g : B → C) (us us' : List A) (vs vs' : List B) (k : ℕ) (xs ys : List C) → us' ≡ us → vs' ≡ vs → take (length us') xs ≡ map f us' → take (length vs') ys ≡ map g vs'
    → length us' ≤ length xs → length vs' ≤ length ys → take (length us + length vs) (put_mid (length us') k xs ys) ≡ map f us ++ map g vs
put_both {C = C} f g us us' vs vs' k xs ys is is' first second room room' =
    ap₂ (λ (a b : ℕ). take (a + b) (put_mid (length us') k xs ys)) (ap length (sym is)) (ap length (sym is'))
    ∙ (put_two (length us') (length vs') xs ys (post_of (length us') k xs) room room'
    ∙ ap₂ (λ (l m : List C). l ++ m) (first ∙ ap (map f) is) (second ∙ ap (map g) is'))
