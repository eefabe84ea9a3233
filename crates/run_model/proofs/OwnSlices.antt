-- The re-slicings of a run's steps are, slice by slice, those of each operator's own steps.
use Rattle.std.proofs.Common.{◌≡◌, ℕ, ◌<◌, ◌==◌, Bool, true, false, List, [], ◌∷◌, ◌++◌, length, map, find, reverse, Option, Some, option_map, refl, sym, ap, ◌∙◌, subst, arith, nat_le}
use Rattle.run_model.proofs.Common.{slice_get, AllByRecursion, length-map, map-append, reverse-append, slice_get-map, Minislots, recursion-append, RowFields, is_listed, SliceFrom, reslicings_in, slice_or, slice_in_frame, Reslicing, slices_or, slices_at, Step, own_steps, slice_of, reslicings_of, own_of}
use Rattle.run_model.specs.declared.step.Step.TheVariants as steps
use Rattle.run_model.proofs.Entries.{some_at}

own_there : (i : ℕ) (r : Reslicing) → i < length r.slicing → slice_get r.slicing i ≡ Some (own_of i r).slice
own_there i r within = let slice = some_at r.slicing i within in rw slice.1 refl

-- ---- step by step

abbrev pub HaveOne : ℕ → List Reslicing → Type 0
HaveOne i rs = AllByRecursion (λ (r : Reslicing). i < length r.slicing) rs

module _ (row : RowFields) (i : ℕ) where
  pub own_reslicings : (all : List Step) → HaveOne i (reslicings_of all) → reslicings_in (own_steps row i all) ≡ map (own_of i) (reslicings_of all)
  own_reslicings [] h = refl
  own_reslicings (steps.Arrive modem heard ∷ all) h = by (is_listed modem row.modems) refl (own_reslicings all h)
    where
      by : (b : Bool) → is_listed modem row.modems ≡ b → reslicings_in (own_steps row i all) ≡ map (own_of i) (reslicings_of all) → reslicings_in (own_steps row i (steps.Arrive modem heard ∷ all)) ≡ map (own_of i) (reslicings_of all)
      by true e rest = rw e rest
      by false e rest = rw e rest
  own_reslicings (steps.Work op ∷ all) h = by (op == i) refl (own_reslicings all h)
    where
      by : (b : Bool) → (op == i) ≡ b → reslicings_in (own_steps row i all) ≡ map (own_of i) (reslicings_of all) → reslicings_in (own_steps row i (steps.Work op ∷ all)) ≡ map (own_of i) (reslicings_of all)
      by true e rest = rw e rest
      by false e rest = rw e rest
  own_reslicings (steps.Tick op ∷ all) h = by (op == i) refl (own_reslicings all h)
    where
      by : (b : Bool) → (op == i) ≡ b → reslicings_in (own_steps row i all) ≡ map (own_of i) (reslicings_of all) → reslicings_in (own_steps row i (steps.Tick op ∷ all)) ≡ map (own_of i) (reslicings_of all)
      by true e rest = rw e rest
      by false e rest = rw e rest
  own_reslicings (steps.Collect op ∷ all) h = own_reslicings all h
  own_reslicings (steps.Reslice from rows ∷ all) h =
      let long = length-map rows slice_of in
      let mine = some_at rows i (omega (arith, h.0, long)) in
      let slice : slice_get (map slice_of rows) i ≡ Some (slice_of mine.0) = slice_get-map slice_of rows i ∙ ap (option_map slice_of) mine.1 in
      rw (mine.1, slice) (ap (λ (rs : List SliceFrom). record { from = from; slice = slice_of mine.0 } ∷ rs) (own_reslicings all h.1))

-- ---- the slice of a frame

map-reverse : {X Y : Type 0} (f : X → Y) (xs : List X) → reverse (map f xs) ≡ map f (reverse xs)
map-reverse f [] = refl
map-reverse f (x ∷ xs) =
    reverse-append (f x ∷ []) (map f xs)
    ∙ (ap (λ ys. ys ++ f x ∷ []) (map-reverse f xs)
    ∙ (sym (map-append f (reverse xs) (x ∷ [])) ∙ ap (map f) (sym (reverse-append (x ∷ []) xs))))

one-reverse : (i : ℕ) (rs : List Reslicing) → HaveOne i rs → HaveOne i (reverse rs)
one-reverse i [] h = tt
one-reverse i (r ∷ rs) h =
    subst (HaveOne i) (sym (reverse-append (r ∷ []) rs))
    (recursion-append (λ (r : Reslicing). i < length r.slicing) (reverse rs) (r ∷ []) (one-reverse i rs h.1) (h.0, tt))

module _ (i frame : ℕ) (first : List Minislots) (own : Minislots) (is : slice_get first i ≡ Some own) where
  newest : (rs : List Reslicing) → HaveOne i rs
      → slice_get (slices_or first (find (λ (r : Reslicing). nat_le r.from frame) rs)) i ≡ Some (slice_or own (find (λ (r : SliceFrom). nat_le r.from frame) (map (own_of i) rs)))
  newest [] h = is
  newest (r ∷ rs) h = by (nat_le r.from frame) refl (newest rs h.1)
    where
      by : (b : Bool) → nat_le r.from frame ≡ b
          → slice_get (slices_or first (find (λ (x : Reslicing). nat_le x.from frame) rs)) i ≡ Some (slice_or own (find (λ (x : SliceFrom). nat_le x.from frame) (map (own_of i) rs)))
          → slice_get (slices_or first (find (λ (x : Reslicing). nat_le x.from frame) (r ∷ rs))) i ≡ Some (slice_or own (find (λ (x : SliceFrom). nat_le x.from frame) (map (own_of i) (r ∷ rs))))
      by true e rest = rw e (own_there i r h.0)
      by false e rest = rw e rest

  -- the operator's slice of a frame, of all operators' slices of it
  pub own_slice : (rs : List Reslicing) → HaveOne i rs → slice_get (slices_at first rs frame) i ≡ Some (slice_in_frame own (map (own_of i) rs) frame)
  own_slice rs h =
      newest (reverse rs) (one-reverse i rs h)
      ∙ ap (λ (xs : List SliceFrom). let o : Option Minislots = Some (slice_or own (find (λ (r : SliceFrom). nat_le r.from frame) xs)) in o) (sym (map-reverse (own_of i) rs))
