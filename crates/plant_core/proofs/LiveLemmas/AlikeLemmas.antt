-- What is gathered goes on alike, whatever is put, and whatever slices are given.
use Rattle.std.proofs.Common.{◌≡◌, ℕ, ◌+◌, ◌<◌, ◌≤◌, List, [], ◌∷◌, ◌++◌, length, map, reverse, drop, Bool, true, false, cond, refl, sym, ap, ◌∙◌, subst, arith, ltb, leb, Option, Some, None, append_assoc, All}
use Rattle.plant_core.proofs.LiveLemmas.Common.{slice_get, if◌then◌else◌, find, reverse-append, All-push, recursion_from_All, All-from_recursion, ltb-false, Minislots, ElementsFields, MapBytes, Reslicing, GatherFault, AreSlices, Gathering, slices_or, slices_at, frame_slices, queue_of, fits_at, is_part, put_fault, with_part, fronts, is_last, after_put, IsGathering, MayReslice, gathering_after_reslice, GoesOnAlike, queued-agree}
use Rattle.map_assembly.specs.declared.quota.Quota.{Quota}
use Rattle.map_assembly.specs.declared.refused.GatherFault.TheVariants.{Stranger, Old, PutTwice, Early, WrongSlice}
use Rattle.map_assembly.specs.Assembled.{IsPutResult, IsMapOf}

-- ---- a part is refused alike

abbrev refused_by : List Quota → ℕ → List (List ElementsFields) → Bool → ℕ → ℕ → Option GatherFault
refused_by quotas next queues part op frame =
    if leb (length quotas) op then Some Stranger else
    if ltb frame next then Some (Old frame) else
    if ltb frame (next + length (queue_of queues op)) then Some PutTwice else
    if ltb (next + length (queue_of queues op)) frame then Some (Early frame) else
    if part then None else
    Some WrongSlice

-- of a frame whose MAP is made it does not matter what the part is
before_next : (quotas : List Quota) (next : ℕ) (queues : List (List ElementsFields)) (a b : Bool) (op frame : ℕ) → ltb frame next ≡ true
    → refused_by quotas next queues a op frame ≡ refused_by quotas next queues b op frame
before_next quotas next queues a b op frame old = by (leb (length quotas) op)
  where
    by : (s : Bool) → (if s then Some Stranger else if ltb frame next then Some (Old frame) else if ltb frame (next + length (queue_of queues op)) then Some PutTwice else if ltb (next + length (queue_of queues op)) frame then Some (Early frame) else if a then None else Some WrongSlice)
        ≡ (if s then Some Stranger else if ltb frame next then Some (Old frame) else if ltb frame (next + length (queue_of queues op)) then Some PutTwice else if ltb (next + length (queue_of queues op)) frame then Some (Early frame) else if b then None else Some WrongSlice)
    by true = refl
    by false = rw (old) refl

pub same_fault : (g h : Gathering) (op frame : ℕ) (part : ElementsFields) → GoesOnAlike g h → put_fault g op frame part ≡ put_fault h op frame part
same_fault g h op frame part alike =
    parts (ltb frame g.next) refl
    ∙ (λ k. refused_by (sym alike.quotas_are k) (sym alike.next_is k) (sym alike.queues_are k) (is_part h op frame part) op frame)
  where
    parts : (b : Bool) → ltb frame g.next ≡ b → put_fault g op frame part ≡ refused_by g.quotas g.next g.queues (is_part h op frame part) op frame
    parts true old = before_next g.quotas g.next g.queues (is_part g op frame part) (is_part h op frame part) op frame old
    parts false fresh =
        ap (λ (b : Bool). refused_by g.quotas g.next g.queues b op frame)
        (λ k. fits_at (slice_get (sym alike.quotas_are k) op) (slice_get (sym (alike.slices_are frame (ltb-false frame g.next fresh)) k) op) part)

-- ---- a part is put alike

pub same_last : (g h : Gathering) (op : ℕ) (part : ElementsFields) → GoesOnAlike g h → is_last h op part ≡ is_last g op part
same_last g h op part alike = λ k. is_last (record g { queues = alike.queues_are k }) op part

pub same_answer : (g h : Gathering) (op frame : ℕ) (part : ElementsFields) (made : Option MapBytes) → GoesOnAlike g h → IsPutResult h op frame part made → IsPutResult g op frame part made
same_answer g h op frame part None alike is = sym (same_last g h op part alike) ∙ is
same_answer g h op frame part (Some made) alike is =
    let now : frame ≡ g.next = is.1 ∙ alike.next_is in (
      sym (same_last g h op part alike) ∙ is.0,
      now,
      is.2,
      subst (λ (x : Gathering). IsMapOf x.channel frame x.quotas (frame_slices g frame) (fronts (with_part x.queues op part)) made.bytes) (λ k. record g { channel = alike.channel_is k; quotas = alike.quotas_are k; queues = alike.queues_are k })
          (subst (λ (ms : List Minislots). IsMapOf h.channel frame h.quotas ms (fronts (with_part h.queues op part)) made.bytes) (alike.slices_are frame (omega (arith, now))) is.3),
    )

abbrev put_branch : Gathering → ℕ → ElementsFields → Bool → Gathering
put_branch g op part true = record g { queues = map (λ queue. drop 1 queue) (with_part g.queues op part); next = g.next + 1 }
put_branch g op part false = record g { queues = with_part g.queues op part }

alike_branch : (g h : Gathering) (op : ℕ) (part : ElementsFields) (b : Bool) → GoesOnAlike g h → GoesOnAlike (put_branch g op part b) (put_branch h op part b)
alike_branch g h op part true alike = record {
  channel_is = alike.channel_is;
  quotas_are = alike.quotas_are;
  queues_are = ap (λ (qs : List (List ElementsFields)). map (λ queue. drop 1 queue) (with_part qs op part)) alike.queues_are;
  next_is = ap (λ (n : ℕ). n + 1) alike.next_is;
  left = alike.left;
  slices_are = λ frame le. alike.slices_are frame (omega (arith, le));
}
alike_branch g h op part false alike = record {
  channel_is = alike.channel_is;
  quotas_are = alike.quotas_are;
  queues_are = ap (λ (qs : List (List ElementsFields)). with_part qs op part) alike.queues_are;
  next_is = alike.next_is;
  left = alike.left;
  slices_are = alike.slices_are;
}

put_is : (g : Gathering) (op : ℕ) (part : ElementsFields) → after_put g op part ≡ put_branch g op part (is_last g op part)
put_is g op part = by (is_last g op part)
  where
    by : (b : Bool) → (if b then record g { queues = map (λ queue. drop 1 queue) (with_part g.queues op part); next = g.next + 1 } else record g { queues = with_part g.queues op part }) ≡ put_branch g op part b
    by true = refl
    by false = refl

pub alike_put : (g h : Gathering) (op : ℕ) (part : ElementsFields) → GoesOnAlike g h → GoesOnAlike (after_put g op part) (after_put h op part)
alike_put g h op part alike =
    subst (λ (x : Gathering). GoesOnAlike x (after_put h op part)) (sym (put_is g op part))
    (subst (λ (x : Gathering). GoesOnAlike (put_branch g op part (is_last g op part)) x) (sym (put_is h op part ∙ ap (λ (b : Bool). put_branch h op part b) (same_last g h op part alike)))
    (alike_branch g h op part (is_last g op part) alike))

-- ---- other slices

pub alike_resliced : (g h : Gathering) (from : ℕ) (slices : List Minislots) → GoesOnAlike g h → GoesOnAlike (gathering_after_reslice g from slices) (gathering_after_reslice h from slices)
alike_resliced g h from slices alike =
    let r : Reslicing = record { from = from; slicing = slices } in
    record {
      channel_is = alike.channel_is;
      quotas_are = alike.quotas_are;
      queues_are = alike.queues_are;
      next_is = alike.next_is;
      left = (alike.left.0, ap (λ (rs : List Reslicing). rs ++ r ∷ []) alike.left.1 ∙ append_assoc alike.left.0 h.reslicings (r ∷ []));
      slices_are = λ frame le. newest h r frame ∙ (ap (λ (ms : List Minislots). if leb from frame then slices else ms) (alike.slices_are frame le) ∙ sym (newest g r frame));
    }
  where
    branch : (b : Bool) (first : List Minislots) (r : Reslicing) (o : Option Reslicing) → slices_or first (cond b (Some r) o) ≡ (if b then r.slicing else slices_or first o)
    branch true first r o = refl
    branch false first r o = refl

    newest : (x : Gathering) (r : Reslicing) (frame : ℕ) → slices_at x.slices (x.reslicings ++ r ∷ []) frame ≡ (if leb r.from frame then r.slicing else frame_slices x frame)
    newest x r frame =
        ap (λ (rs : List Reslicing). slices_or x.slices (find (λ (y : Reslicing). leb y.from frame) rs)) (reverse-append x.reslicings (r ∷ []))
        ∙ branch (leb r.from frame) x.slices r (find (λ (y : Reslicing). leb y.from frame) (reverse x.reslicings))

behind : {X : Type 0} (P : X → Type 0) (xs ys : List X) → All P (xs ++ ys) → All P ys
behind P [] ys h = h
behind P (x ∷ xs) ys h = behind P xs ys (All-from_recursion P (xs ++ ys) (recursion_from_All P (x ∷ (xs ++ ys)) h).1)

-- what may be given to the one may be given to the other
pub may_too : (g h : Gathering) (from : ℕ) (slices : List Minislots) → GoesOnAlike g h → MayReslice g from slices → MayReslice h from slices
may_too g h from slices alike may = record {
  slices_are = subst (λ (x : Gathering). AreSlices x.channel (length x.quotas) slices) (λ k. record g { channel = sym alike.channel_is k; quotas = sym alike.quotas_are k }) may.slices_are;
  later = behind (λ (r : Reslicing). r.from < from) alike.left.0 h.reslicings (subst (λ (rs : List Reslicing). All (λ r. r.from < from) rs) alike.left.1 may.later);
  past = subst (λ (x : Gathering). All (λ queue. x.channel.first_frame < x.next + length queue → x.next + length queue ≤ from) x.queues)
      (λ k. record g { channel = sym alike.channel_is k; next = sym alike.next_is k; queues = sym alike.queues_are k }) may.past;
}

-- ---- what always holds of what is gathered

-- with valid slices, it holds where it holds of what goes on alike
pub held_on : (g h : Gathering) → GoesOnAlike g h → AreSlices g.channel (length g.quotas) g.slices → All (λ r. AreSlices g.channel (length g.quotas) r.slicing) g.reslicings → IsGathering h → IsGathering g
held_on g h alike first others is = record {
  channel_is = moved.channel_is;
  quotas_are = moved.quotas_are;
  slices_are = first;
  reslicings_are = others;
  one_each = moved.one_each;
  waiting = moved.waiting;
  started = moved.started;
  queued = λ k quota queue s q.
      queued-agree (λ (n : ℕ). slice_get (slices_at h.slices h.reslicings n) k) (λ (n : ℕ). slice_get (slices_at g.slices g.reslicings n) k) quota g.next queue
      (λ m le lt. ap (λ (ms : List Minislots). slice_get ms k) (alike.slices_are m le)) (moved.queued k quota queue s q);
}
  where
    moved : IsGathering (record h { channel = g.channel; quotas = g.quotas; queues = g.queues; next = g.next })
    moved = subst IsGathering (λ k. record h { channel = alike.channel_is k; quotas = alike.quotas_are k; queues = alike.queues_are k; next = alike.next_is k }) is

pub held_put : (g x : Gathering) (op : ℕ) (part : ElementsFields) → GoesOnAlike (after_put g op part) x → IsGathering g → IsGathering x → IsGathering (after_put g op part)
held_put g x op part alike is held =
    subst IsGathering (sym (put_is g op part))
    (by (is_last g op part) (subst (λ (y : Gathering). GoesOnAlike y x) (put_is g op part) alike))
  where
    by : (b : Bool) → GoesOnAlike (put_branch g op part b) x → IsGathering (put_branch g op part b)
    by true on = held_on (put_branch g op part true) x on is.slices_are is.reslicings_are held
    by false on = held_on (put_branch g op part false) x on is.slices_are is.reslicings_are held

pub held_resliced : (g h x : Gathering) (from : ℕ) (slices : List Minislots) → GoesOnAlike (gathering_after_reslice g from slices) x → IsGathering g → AreSlices g.channel (length g.quotas) slices → IsGathering x → IsGathering (gathering_after_reslice g from slices)
held_resliced g h x from slices on is valid held =
    let r : Reslicing = record { from = from; slicing = slices } in
    held_on (gathering_after_reslice g from slices) x on is.slices_are (All-push (λ (y : Reslicing). AreSlices g.channel (length g.quotas) y.slicing) g.reslicings r is.reslicings_are valid) held
