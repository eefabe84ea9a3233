-- Slices that no frame to come needs are let go.
use Rattle.std.proofs.Common.{ap₂, append_assoc, ◌≡◌, ℕ, ◌≤◌, List, [], ◌∷◌, ◌++◌, length, reverse, Bool, true, false, cond, refl, sym, ap, ◌∙◌, subst, arith, leb, Some, None, drop}
use Rattle.map_assembly.proofs.Common.{slice_index_or, All, slice_get, find, reverse-append, All-head, All-tail, leb-true, le-leb, Minislots, Reslicing, AreSlices, Gathering, slices_or, slices_at, IsGathering}
use Rattle.map_assembly.specs.LettingGo.{has_begun, is_from, GoesOnAlike}
use Rattle.map_assembly.proofs.NewLemmas.{queued-agree}

-- of a list whose last is from the frame on, the plant's slices are never those of it
found-last : (frame : ℕ) (first : List Minislots) (rs : List Reslicing) (r : Reslicing) → leb r.from frame ≡ true
    → slices_or first (find (λ x. leb x.from frame) (rs ++ r ∷ [])) ≡ slices_or r.slicing (find (λ x. leb x.from frame) rs)
found-last frame first [] r begun = ap (λ (b : Bool). slices_or first (cond b (Some r) None)) begun
found-last frame first (x ∷ rs) r begun = by (leb x.from frame) (found-last frame first rs r begun)
  where
    by : (b : Bool) → slices_or first (find (λ x. leb x.from frame) (rs ++ r ∷ [])) ≡ slices_or r.slicing (find (λ x. leb x.from frame) rs)
        → slices_or first (cond b (Some x) (find (λ x. leb x.from frame) (rs ++ r ∷ []))) ≡ slices_or r.slicing (cond b (Some x) (find (λ x. leb x.from frame) rs))
    by true more = refl
    by false more = more

pub gone_first : (first : List Minislots) (r : Reslicing) (rs : List Reslicing) (frame : ℕ) → leb r.from frame ≡ true
    → slices_at r.slicing rs frame ≡ slices_at first (r ∷ rs) frame
gone_first first r rs frame begun =
    sym (ap (λ (xs : List Reslicing). slices_or first (find (λ x. leb x.from frame) xs)) (reverse-append (r ∷ []) rs) ∙ found-last frame first (reverse rs) r begun)

later : (from next frame : ℕ) → leb from next ≡ true → next ≤ frame → leb from frame ≡ true
later from next frame begun le = le-leb from frame (omega (arith, leb-true from next begun, le))

-- the earliest re-slicing has begun: it takes the place of the plant's slices
abbrev pub gone : Gathering → Reslicing → List Reslicing → Gathering
gone g r rs = record g { slices = r.slicing; reslicings = rs }

pub alike_gone : (g : Gathering) (r : Reslicing) (rs : List Reslicing) → g.reslicings ≡ r ∷ rs → leb r.from g.next ≡ true → GoesOnAlike g (gone g r rs)
alike_gone g r rs e begun = record {
  channel_is = refl;
  quotas_are = refl;
  queues_are = refl;
  next_is = refl;
  left = (r ∷ [], e);
  slices_are = λ frame le. gone_first g.slices r rs frame (later r.from g.next frame begun le) ∙ ap (λ (xs : List Reslicing). slices_at g.slices xs frame) (sym e);
}

pub gathering_gone : (g : Gathering) (r : Reslicing) (rs : List Reslicing) → g.reslicings ≡ r ∷ rs → leb r.from g.next ≡ true → IsGathering g → IsGathering (gone g r rs)
gathering_gone g r rs e begun is =
    let all : All (λ x. AreSlices g.channel (length g.quotas) x.slicing) (r ∷ rs) = subst (λ (xs : List Reslicing). All (λ x. AreSlices g.channel (length g.quotas) x.slicing) xs) e is.reslicings_are in
    record {
      channel_is = is.channel_is;
      quotas_are = is.quotas_are;
      slices_are = All-head (λ (x : Reslicing). AreSlices g.channel (length g.quotas) x.slicing) r rs all;
      reslicings_are = All-tail (λ (x : Reslicing). AreSlices g.channel (length g.quotas) x.slicing) r rs all;
      one_each = is.one_each;
      waiting = is.waiting;
      started = is.started;
      queued = λ k quota queue s q.
          queued-agree (λ (n : ℕ). slice_get (slices_at g.slices g.reslicings n) k) (λ (n : ℕ). slice_get (slices_at r.slicing rs n) k) quota g.next queue
          (λ m le lt. ap (λ (ms : List Minislots). slice_get ms k) (sym ((alike_gone g r rs e begun).slices_are m le)))
          (is.queued k quota queue s q);
    }

-- what has begun stands first
pub first_begun : (g : Gathering) → has_begun g ≡ true → (r : Reslicing) × (g.reslicings ≡ r ∷ drop 1 g.reslicings) × (leb r.from g.next ≡ true)
first_begun g h = by g.reslicings h
  where
    by : (rs : List Reslicing) → is_from g.next (slice_get rs 0) ≡ true → (r : Reslicing) × (rs ≡ r ∷ drop 1 rs) × (leb r.from g.next ≡ true)
    by [] wrong = absurd cc
    by (r ∷ rs) begun = (r, refl, begun)

pub alike_again : (a b c : Gathering) → GoesOnAlike a b → GoesOnAlike b c → GoesOnAlike a c
alike_again a b c h k = record {
  channel_is = k.channel_is ∙ h.channel_is;
  quotas_are = k.quotas_are ∙ h.quotas_are;
  queues_are = k.queues_are ∙ h.queues_are;
  next_is = k.next_is ∙ h.next_is;
  left = (h.left.0 ++ k.left.0, h.left.1 ∙ (ap (λ (rs : List Reslicing). h.left.0 ++ rs) k.left.1 ∙ sym (append_assoc h.left.0 k.left.0 c.reslicings)));
  slices_are = λ frame le. k.slices_are frame (omega (arith, h.next_is, le)) ∙ h.slices_are frame le;
}

pub alike_self : (g : Gathering) → GoesOnAlike g g
alike_self g = record { channel_is = refl; quotas_are = refl; queues_are = refl; next_is = refl; left = ([], refl); slices_are = λ frame le. refl }

-- the first of them is taken out
module _ (g now : Gathering) (r : Reslicing) (rs : List Reslicing) (view : g ≡ now) (begun : has_begun now ≡ true) (first : r ≡ slice_index_or g.reslicings 0 r) (rest : rs ≡ drop 1 g.reslicings) where
  here : (r : Reslicing) × (g.reslicings ≡ r ∷ drop 1 g.reslicings) × (leb r.from g.next ≡ true)
  here = first_begun g (subst (λ (h : Gathering). has_begun h ≡ true) (sym view) begun)

  same_first : r ≡ here.0
  same_first = first ∙ ap (λ (xs : List Reslicing). slice_index_or xs 0 r) here.1

  stands : g.reslicings ≡ r ∷ rs
  stands = here.1 ∙ ap₂ (λ (x : Reslicing) (xs : List Reslicing). x ∷ xs) (sym same_first) (sym rest)

  begins : leb r.from g.next ≡ true
  begins = ap (λ (x : Reslicing). leb x.from g.next) same_first ∙ here.2

  pub first_gone : IsGathering g → IsGathering (gone g r rs)
  first_gone is = gathering_gone g r rs stands begins is

  pub first_alike : GoesOnAlike now (gone g r rs)
  first_alike = subst (λ (h : Gathering). GoesOnAlike h (gone g r rs)) view (alike_gone g r rs stands begins)
