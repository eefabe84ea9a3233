-- The parts of a frame have the slices of that frame.
use Rattle.std.proofs.Common.{◌≡◌, ℕ, zero, suc, ◌<◌, Bool, true, false, ◌&&◌, ltb, List, [], ◌∷◌, ◌++◌, length, map, Option, Some, None, ◌⊎◌, inl, inr, refl, sym, ap, ◌∙◌, subst, arith}
use Rattle.run_model.proofs.Common.{slice_get, cases_eq, and_parts, ltb-true, lt-ltb, length-set, none-some, same_Some, slice_get_within, Minislots, ElementsFields, Quota, Gathering, slices_at, frame_slices, queue_of, fits_at, put_fault, with_part, is_whole, fronts, is_last, frame_parts, IsPartAt, AreQueued, IsGathering, length-fronts, is_put, last_is_first, last_frame, slices_valid}
use Rattle.map_assembly.proofs.PartLemmas.{fits_in}
use Rattle.run_model.proofs.Entries.{get_same, get_other, some_at, same_at}

-- ---- the fronts of queues

-- each front is the first of its queue
pub record IsFront (queues : List (List ElementsFields)) (i : ℕ) (part : ElementsFields) : Type 0 where
  pub queue : List ElementsFields
  pub queue_is : slice_get queues i ≡ Some queue
  pub first : slice_get queue 0 ≡ Some part

pub is_front : (queues : List (List ElementsFields)) (i : ℕ) (part : ElementsFields) → is_whole queues ≡ true → slice_get (fronts queues) i ≡ Some part → IsFront queues i part
is_front [] i part h e = let f : ◌≡◌ {A = Option ElementsFields} None (Some part) = e in absurd (none-some part f)
is_front ([] ∷ queues) i part h e = let wrong : false ≡ true = h in absurd (cc)
is_front ((p ∷ ps) ∷ queues) zero part h e = record { queue = p ∷ ps; queue_is = refl; first = e }
is_front ((p ∷ ps) ∷ queues) (suc i) part h e =
    let rest = is_front queues i part (and_parts (ltb 0 (length (p ∷ ps))) (is_whole queues) h).1 e in
    record { queue = rest.queue; queue_is = rest.queue_is; first = rest.first }

pub some_put : (queues : List (List ElementsFields)) (i : ℕ) (queue : List ElementsFields) → is_whole queues ≡ true → slice_get queues i ≡ Some queue → 0 < length queue
some_put [] i queue h e = let f : ◌≡◌ {A = Option (List ElementsFields)} None (Some queue) = e in absurd (none-some queue f)
some_put (q ∷ queues) zero queue h e =
    subst (λ (x : List ElementsFields). 0 < length x) (same_Some q queue e) (ltb-true 0 (length q) (and_parts (ltb 0 (length q)) (is_whole queues) h).0)
some_put (q ∷ queues) (suc i) queue h e = some_put queues i queue (and_parts (ltb 0 (length q)) (is_whole queues) h).1 e

-- where not all have put a part, one has put none
pub none_put : (queues : List (List ElementsFields)) → is_whole queues ≡ false → (i : ℕ) × (slice_get queues i ≡ Some [])
none_put [] h = let wrong : true ≡ false = h in absurd (cc)
none_put ([] ∷ queues) h = (0, refl)
none_put ((p ∷ ps) ∷ queues) h =
    let some : ltb 0 (length (p ∷ ps)) ≡ true = lt-ltb 0 (length (p ∷ ps)) (omega arith) in
    let rest = none_put queues (ap (λ (b : Bool). b && is_whole queues) (sym some) ∙ h) in
    (suc rest.0, rest.1)

-- ---- their slices

map_is : {X Y : Type 0} (f : X → Y) (xs : List X) (ys : List Y) → length xs ≡ length ys → ((i : ℕ) (x : X) → slice_get xs i ≡ Some x → slice_get ys i ≡ Some (f x)) → map f xs ≡ ys
map_is f [] [] e h = refl
map_is f [] (y ∷ ys) e h = absurd (omega (arith, e))
map_is f (x ∷ xs) [] e h = absurd (omega (arith, e))
map_is f (x ∷ xs) (y ∷ ys) e h = λ n. sym (same_Some y (f x) (h 0 x refl)) n ∷ map_is f xs ys (omega (arith, e)) (λ i z g. h (suc i) z g) n

fits_slice : (quota : Option Quota) (slice : Option Minislots) (part : ElementsFields) → fits_at quota slice part ≡ true → slice ≡ Some part.slice
fits_slice None slice part h = let wrong : false ≡ true = h in absurd (cc)
fits_slice (Some quota) None part h = let wrong : false ≡ true = h in absurd (cc)
fits_slice (Some quota) (Some slice) part h = ap (λ (m : Minislots). let o : Option Minislots = Some m in o) (sym (fits_in quota slice part h).slice_is)

queued_slice : (at : ℕ → Option Minislots) (quota : Quota) (n : ℕ) (queue : List ElementsFields) (part : ElementsFields) → AreQueued at quota n queue → slice_get queue 0 ≡ Some part → at n ≡ Some part.slice
queued_slice at quota n [] part h e = let f : ◌≡◌ {A = Option ElementsFields} None (Some part) = e in absurd (none-some part f)
queued_slice at quota n (p ∷ queue) part h e =
    let here : IsPartAt (at n) quota p = h.0 in
    here.slice_is ∙ ap (λ (m : Minislots). let o : Option Minislots = Some m in o) (sym (fits_in quota here.minislots p here.part_is.fits).slice_is ∙ ap (λ (q : ElementsFields). q.slice) (same_Some p part e))

module _ (g : Gathering) (op frame : ℕ) (part : ElementsFields) (is : IsGathering g) (put : put_fault g op frame part ≡ None) (whole : is_last g op part ≡ true) where
  front_slice : (i : ℕ) (p : ElementsFields) → slice_get (frame_parts g op part) i ≡ Some p → slice_get (frame_slices g frame) i ≡ Some p.slice
  front_slice i p e = by (cases_eq i op)
    where
      front : IsFront (with_part g.queues op part) i p
      front = is_front (with_part g.queues op part) i p whole e

      by : (i ≡ op) ⊎ (i ≡ op → ⊥) → slice_get (frame_slices g frame) i ≡ Some p.slice
      by (inl same) =
          let within : op < length g.queues = omega (arith, is.one_each, (is_put g op frame part put).op_is) in
          let none : queue_of g.queues op ≡ [] = last_is_first g op part is (is_put g op frame part put).op_is whole in
          let there : slice_get (with_part g.queues op part) i ≡ Some (part ∷ []) =
          ap (slice_get (with_part g.queues op part)) same ∙ (get_same g.queues op (queue_of g.queues op ++ part ∷ []) within ∙ ap (λ (q : List ElementsFields). let o : Option (List ElementsFields) = Some (q ++ part ∷ []) in o) none) in
          let queue : front.queue ≡ part ∷ [] = same_at (with_part g.queues op part) i front.queue (part ∷ []) front.queue_is there in
          let first : part ≡ p = same_Some part p (ap (λ (q : List ElementsFields). slice_get q 0) (sym queue) ∙ front.first) in
          ap (slice_get (frame_slices g frame)) same
          ∙ (fits_slice (slice_get g.quotas op) (slice_get (frame_slices g frame) op) part (is_put g op frame part put).part_is
          ∙ ap (λ (q : ElementsFields). let o : Option Minislots = Some q.slice in o) first)
      by (inr other) =
          let there : slice_get g.queues i ≡ Some front.queue = sym (get_other g.queues op i (queue_of g.queues op ++ part ∷ []) other) ∙ front.queue_is in
          let quota = some_at g.quotas i (omega (arith, is.one_each, slice_get_within g.queues i front.queue there)) in
          ap (λ (n : ℕ). slice_get (frame_slices g n) i) (last_frame g op frame part is put whole)
          ∙ queued_slice (λ n. slice_get (slices_at g.slices g.reslicings n) i) quota.0 g.next front.queue p (is.queued i quota.0 front.queue quota.1 there) front.first

  pub parts_slices : map (λ p. p.slice) (frame_parts g op part) ≡ frame_slices g frame
  parts_slices =
      let valid = slices_valid g.channel (length g.quotas) g.slices g.reslicings frame is.slices_are is.reslicings_are in
      let long = length-fronts (with_part g.queues op part) whole in
      let same = length-set g.queues op (queue_of g.queues op ++ part ∷ []) in
      map_is (λ (p : ElementsFields). p.slice) (frame_parts g op part) (frame_slices g frame) (omega (arith, long, same, is.one_each, valid.one_each)) front_slice
