-- Lists written part by part: what they are written as is written of their parts, one behind the other.
use Rattle.std.proofs.Common.{◌≡◌, ℕ, zero, suc, ◌≤◌, ◌+◌, ◌*◌, ◌-◌, ◌/◌, ◌%◌, ◌<◌, List, [], ◌∷◌, ◌++◌, length, take, drop, ap, refl, sym, subst, ◌∙◌, append_assoc, append-nil, take-append-drop, take-add, length-drop, arith, Option}
use Rattle.line_service.proofs.ScriptLemmas.Common.{slice_index, slice_range, Appends, flat_map, Appends-trans, take-take, drop-take, take_all}
use Rattle.dsx_messages.specs.Modem.{hex_digit}
use Rattle.hex.specs.Hex.{encode_upper, encode_with, upper_digits}

-- a digit as one of a table
pub digit_is : (n : ℕ) → n < 16 → hex_digit n ≡ slice_index upper_digits n
digit_is n lt = grind (arith)

-- bytes in hexadecimal, one list behind the other
pub encode_more : (t xs ys : List ℕ) → encode_with t (xs ++ ys) ≡ encode_with t xs ++ encode_with t ys
unfolding encode_with
encode_more t [] ys = refl
encode_more t (b ∷ xs) ys =
    ap (λ (more : List ℕ). slice_index t (b / 16) ∷ slice_index t (b % 16) ∷ more) (encode_more t xs ys)

-- what each element is written as, one list behind the other
pub flat_more : {X : Type 0} (f : X → List ℕ) (xs ys : List X) → flat_map f (xs ++ ys) ≡ flat_map f xs ++ flat_map f ys
flat_more f [] ys = refl
flat_more f (x ∷ xs) ys = ap (λ (more : List ℕ). f x ++ more) (flat_more f xs ys) ∙ sym (append_assoc (f x) (flat_map f xs) (flat_map f ys))

module _ {X : Type 0} (text : List X → List ℕ) (text_more : (xs ys : List X) → text (xs ++ ys) ≡ text xs ++ text ys) (old mid new : Option (List ℕ)) (xs : List X) (place : ℕ) where
  -- some more, up to a place
  pub write_part : (step : ℕ) → Appends old mid (text (take place xs)) → Appends mid new (text (slice_range xs place (place + step)))
      → Appends old new (text (take (place + step) xs))
  write_part step before more =
      let part : List X = slice_range xs place (place + step) in
      let len : place + step - place ≡ step = omega arith in
      let is_part : part ≡ drop place (take (place + step) xs) = ap (λ (n : ℕ). take n (drop place xs)) len ∙ sym (drop-take place step xs) in
      let whole : take place xs ++ part ≡ take (place + step) xs =
      ap (λ (ys : List X). take place xs ++ ys) is_part
      ∙ (ap (λ (ys : List X). ys ++ drop place (take (place + step) xs)) (sym (take-take place (place + step) xs (omega arith)))
      ∙ take-append-drop place (take (place + step) xs)) in
      subst (λ (told : List ℕ). Appends old new told) (sym (text_more (take place xs) part) ∙ ap text whole) (Appends-trans old mid new _ _ before more)

  -- the rest, and what stands behind it
  pub write_rest : (end : List ℕ) → Appends old mid (text (take place xs)) → Appends mid new (text (slice_range xs place (length xs)) ++ end)
      → Appends old new (text xs ++ end)
  write_rest end before more =
      let part : List X = slice_range xs place (length xs) in
      let is_rest : part ≡ drop place xs = take_all (length xs - place) (drop place xs) (let left = length-drop place xs in omega (arith, left)) in
      let whole : take place xs ++ part ≡ xs = ap (λ (ys : List X). take place xs ++ ys) is_rest ∙ take-append-drop place xs in
      subst (λ (told : List ℕ). Appends old new told)
      (sym (append_assoc (text (take place xs)) (text part) end) ∙ ap (λ (told : List ℕ). told ++ end) (sym (text_more (take place xs) part) ∙ ap text whole))
      (Appends-trans old mid new _ _ before more)

  -- the rest alone
  pub write_last : Appends old mid (text (take place xs)) → Appends mid new (text (slice_range xs place (length xs))) → Appends old new (text xs)
  write_last before more =
      subst (λ (told : List ℕ). Appends old new told) (append-nil (text xs))
      (write_rest [] before (subst (λ (told : List ℕ). Appends mid new told) (sym (append-nil (text (slice_range xs place (length xs))))) more))
