-- What is gathered stays as it always is.
use Rattle.std.proofs.Common.{◌≡◌, ℕ, zero, suc, ◌+◌, ◌<◌, ◌≤◌, List, [], ◌∷◌, ◌++◌, length, map, take, drop, get_or, reverse, Bool, true, false, cond, ◌&&◌, ◌⊎◌, inl, inr, refl, sym, ap, ◌∙◌, subst, arith, ltb, leb, Option, Some, None}
use Rattle.map_assembly.proofs.Common.{AllByRecursion, All, slice_get, slice_set, find, length-set, length-map, reverse-append, take_at, set-get_or, get_or_default, recursion_from_All, All-from_recursion, same_Some, slice_get-get_or, slice_get-map, and_parts, cases_eq, leb-false, ltb-false, Minislots, IsTiled, ElementsFields, Channel, Quota, Reslicing, is_fitting, IsPartOf, ArePartsOf, AreSlices, Gathering, slices_or, slices_at, frame_slices, queue_of, next_of, fits_at, is_part, put_fault, with_part, is_whole, fronts, is_last, frame_parts, after_put, frame_out, IsPartAt, AreQueued, AreAllQueued, IsGathering, MapElement, FitsElement, MapReads, sorted_order, in_slice_order, map_of, map_spans, map_pending, map_header, elements_of_map, map_elements_of, spelled_map, part_at}
use Rattle.std.specs.Option.{option_map}
use Rattle.map_assembly.specs.declared.refused.GatherFault.{GatherFault}
use Rattle.map_assembly.specs.declared.refused.GatherFault.TheVariants.{Stranger, Old, PutTwice, Early, WrongSlice}
use Rattle.map_assembly.proofs.LastLemmas.{empty_before_last}
use Rattle.map_assembly.specs.Assembled.{IsMapOf, ordered_elements, bytes_of_map}
use Rattle.map_assembly.proofs.LastLemmas.{part_at_is, ordered_parts}
use Rattle.map_assembly.proofs.PartLemmas.{slices_of_parts}
use Rattle.map_assembly.proofs.MapLemmas.{AreFrame, frame_count, frame_fits, frame_reads, frame_tiled, frame_part}

-- ---- a part that is not refused

pub record IsPut (g : Gathering) (op frame : ℕ) (part : ElementsFields) : Type 0 where
  pub op_is : op < length g.quotas
  pub frame_is : frame ≡ next_of g op
  pub part_is : is_part g op frame part ≡ true

no_fault : (f : GatherFault) (o : Option GatherFault) → o ≡ Some f → o ≡ None → ⊥
no_fault f o p q = cc

pub is_put : (g : Gathering) (op frame : ℕ) (part : ElementsFields) → put_fault g op frame part ≡ None → IsPut g op frame part
is_put g op frame part h = by (leb (length g.quotas) op) (ltb frame g.next) (ltb frame (next_of g op)) (ltb (next_of g op) frame) (is_part g op frame part) refl refl refl refl refl
  where
    by : (a b c d e : Bool) → leb (length g.quotas) op ≡ a → ltb frame g.next ≡ b → ltb frame (next_of g op) ≡ c → ltb (next_of g op) frame ≡ d → is_part g op frame part ≡ e → IsPut g op frame part
    by true b c d e p q r s t = absurd (no_fault Stranger (put_fault g op frame part) (rw p) h)
    by false true c d e p q r s t = absurd (no_fault (Old frame) (put_fault g op frame part) (rw (p, q)) h)
    by false false true d e p q r s t = absurd (no_fault PutTwice (put_fault g op frame part) (rw (p, q, r)) h)
    by false false false true e p q r s t = absurd (no_fault (Early frame) (put_fault g op frame part) (rw (p, q, r, s)) h)
    by false false false false false p q r s t = absurd (no_fault WrongSlice (put_fault g op frame part) (rw (p, q, r, s, t)) h)
    by false false false false true p q r s t = record {
      op_is = leb-false (length g.quotas) op p;
      frame_is = omega (arith, ltb-false frame (next_of g op) r, ltb-false (next_of g op) frame s);
      part_is = t;
    }

part_at_fits : (quota : Quota) (o : Option Quota) (m : Option Minislots) (part : ElementsFields) → o ≡ Some quota → fits_at o m part ≡ true → IsTiled part → IsPartAt m quota part
part_at_fits quota None m part e h t = absurd (cc)
part_at_fits quota (Some s) None part e h t = let wrong : false ≡ true = h in absurd (cc)
part_at_fits quota (Some s) (Some m) part e h t = record {
  minislots = m;
  slice_is = refl;
  part_is = record { fits = subst (λ (x : Quota). is_fitting x m part ≡ true) (same_Some s quota e) h; tiled = t };
}

-- ---- lists of queues

get-set_other : {X : Type 0} (xs : List X) (i k : ℕ) (x : X) → (k ≡ i → ⊥) → slice_get (slice_set xs i x) k ≡ slice_get xs k
get-set_other [] i k x ne = refl
get-set_other (y ∷ ys) zero zero x ne = absurd (ne refl)
get-set_other (y ∷ ys) zero (suc k) x ne = refl
get-set_other (y ∷ ys) (suc i) zero x ne = refl
get-set_other (y ∷ ys) (suc i) (suc k) x ne = get-set_other ys i k x (λ e. ne (ap suc e))

get-set_same : {X : Type 0} (xs : List X) (i : ℕ) (x : X) → i < length xs → slice_get (slice_set xs i x) i ≡ Some x
get-set_same [] i x lt = absurd (omega arith)
get-set_same (y ∷ ys) zero x lt = refl
get-set_same (y ∷ ys) (suc i) x lt = get-set_same ys i x (omega arith)

queued-push : (slice_at : ℕ → Option Minislots) (quota : Quota) (n : ℕ) (queue : List ElementsFields) (part : ElementsFields) → AreQueued slice_at quota n queue → IsPartAt (slice_at (n + length queue)) quota part
    → AreQueued slice_at quota n (queue ++ part ∷ [])
queued-push slice_at quota n [] part h p = let e : n + 0 ≡ n = omega arith in (subst (λ (m : ℕ). IsPartAt (slice_at m) quota part) e p, tt)
queued-push slice_at quota n (q ∷ queue) part h p =
    let e : n + suc (length queue) ≡ n + 1 + length queue = omega arith in
    (h.0, queued-push slice_at quota (n + 1) queue part h.1 (subst (λ (m : ℕ). IsPartAt (slice_at m) quota part) e p))

queued-drop : (slice_at : ℕ → Option Minislots) (quota : Quota) (n : ℕ) (queue : List ElementsFields) → AreQueued slice_at quota n queue → AreQueued slice_at quota (n + 1) (drop 1 queue)
queued-drop slice_at quota n [] h = tt
queued-drop slice_at quota n (q ∷ queue) h = h.1

abbrev slice_for : Gathering → ℕ → ℕ → Option Minislots
slice_for g k n = slice_get (frame_slices g n) k

-- one part more
with_part_queued : (g : Gathering) (op frame : ℕ) (part : ElementsFields) → IsGathering g → IsPut g op frame part → IsTiled part → AreAllQueued g.slices g.reslicings g.quotas (with_part g.queues op part) g.next
with_part_queued g op frame part is put tiled k quota queue e f = by (cases_eq k op)
  where
    by : (k ≡ op) ⊎ (k ≡ op → ⊥) → AreQueued (slice_for g k) quota g.next queue
    by (inl same) =
        let within : op < length g.queues = omega (arith, is.one_each, put.op_is) in
        let there : slice_get g.queues k ≡ Some (queue_of g.queues op) =
        ap (λ (i : ℕ). slice_get g.queues i) same ∙ slice_get-get_or g.queues op [] within in
        let new : queue_of g.queues op ++ part ∷ [] ≡ queue =
        same_Some (queue_of g.queues op ++ part ∷ []) queue (sym (get-set_same g.queues op (queue_of g.queues op ++ part ∷ []) within) ∙ (ap (λ (i : ℕ). slice_get (with_part g.queues op part) i) (sym same) ∙ f)) in
        let quota_is : slice_get g.quotas op ≡ Some quota = ap (λ (i : ℕ). slice_get g.quotas i) (sym same) ∙ e in
        let here : IsPartAt (slice_for g op frame) quota part = part_at_fits quota (slice_get g.quotas op) (slice_for g op frame) part quota_is put.part_is tiled in
        let moved : IsPartAt (slice_for g k (g.next + length (queue_of g.queues op))) quota part =
        subst (λ (i : ℕ). IsPartAt (slice_for g i (g.next + length (queue_of g.queues op))) quota part) (sym same)
        (subst (λ (n : ℕ). IsPartAt (slice_for g op n) quota part) put.frame_is here) in
        subst (λ (q : List ElementsFields). AreQueued (slice_for g k) quota g.next q) new
        (queued-push (slice_for g k) quota g.next (queue_of g.queues op) part (is.queued k quota (queue_of g.queues op) e there) moved)
    by (inr other) = is.queued k quota queue e (sym (get-set_other g.queues op k (queue_of g.queues op ++ part ∷ []) other) ∙ f)

dropped_queued : (slices : List Minislots) (reslicings : List Reslicing) (quotas : List Quota) (queues : List (List ElementsFields)) (next : ℕ) → AreAllQueued slices reslicings quotas queues next
    → AreAllQueued slices reslicings quotas (map (λ (queue : List ElementsFields). drop 1 queue) queues) (next + 1)
dropped_queued slices reslicings quotas queues next h k quota queue e f = by (slice_get queues k) refl
  where
    by : (o : Option (List ElementsFields)) → slice_get queues k ≡ o → AreQueued (λ n. slice_get (slices_at slices reslicings n) k) quota (next + 1) queue
    by None g =
        let wrong : None ≡ Some queue = sym (slice_get-map (λ (q : List ElementsFields). drop 1 q) queues k ∙ ap (λ (o : Option (List ElementsFields)). option_map (λ (q : List ElementsFields). drop 1 q) o) g) ∙ f in
        absurd (cc)
    by (Some q) g =
        let same : Some (drop 1 q) ≡ Some queue = sym (slice_get-map (λ (x : List ElementsFields). drop 1 x) queues k ∙ ap (λ (o : Option (List ElementsFields)). option_map (λ (x : List ElementsFields). drop 1 x) o) g) ∙ f in
        subst (λ (x : List ElementsFields). AreQueued (λ n. slice_get (slices_at slices reslicings n) k) quota (next + 1) x) (same_Some (drop 1 q) queue same)
        (queued-drop (λ n. slice_get (slices_at slices reslicings n) k) quota next q (h k quota q e g))

-- ---- a part is kept

pub kept : (g : Gathering) (op frame : ℕ) (part : ElementsFields) → IsGathering g → put_fault g op frame part ≡ None → IsTiled part → is_last g op part ≡ false → IsGathering (record g { queues = with_part g.queues op part })
kept g op frame part is put tiled waits = record {
  channel_is = is.channel_is;
  quotas_are = is.quotas_are;
  slices_are = is.slices_are;
  reslicings_are = is.reslicings_are;
  one_each = length-set g.queues op (queue_of g.queues op ++ part ∷ []) ∙ is.one_each;
  waiting = waits;
  started = is.started;
  queued = with_part_queued g op frame part is (is_put g op frame part put) tiled;
}

-- ---- a frame is made

empty_waits : (queues : List (List ElementsFields)) (op : ℕ) → op < length queues → queue_of queues op ≡ [] → is_whole (map (λ (queue : List ElementsFields). drop 1 queue) queues) ≡ false
empty_waits [] op lt e = absurd (omega arith)
empty_waits (q ∷ queues) zero lt e = ap (λ (x : List ElementsFields). ltb 0 (length (drop 1 x)) && is_whole (map (λ (queue : List ElementsFields). drop 1 queue) queues)) e
empty_waits (q ∷ queues) (suc op) lt e =
    ap (λ (b : Bool). ltb 0 (length (drop 1 q)) && b) (empty_waits queues op (omega arith) e) ∙ and_false (ltb 0 (length (drop 1 q)))
  where
    and_false : (b : Bool) → (b && false) ≡ false
    and_false true = refl
    and_false false = refl

pub last_is_first : (g : Gathering) (op : ℕ) (part : ElementsFields) → IsGathering g → op < length g.quotas → is_last g op part ≡ true → queue_of g.queues op ≡ []
last_is_first g op part is lt whole = empty_before_last g.queues op part (omega (arith, is.one_each)) is.waiting whole

dropped_with : (queues : List (List ElementsFields)) (op : ℕ) (part : ElementsFields) → op < length queues → queue_of queues op ≡ [] → map (λ (queue : List ElementsFields). drop 1 queue) (with_part queues op part) ≡ map (λ (queue : List ElementsFields). drop 1 queue) queues
dropped_with [] op part lt e = absurd (omega arith)
dropped_with (q ∷ queues) zero part lt e =
    ap (λ (x : List ElementsFields). drop 1 (x ++ part ∷ []) ∷ map (λ (queue : List ElementsFields). drop 1 queue) queues) e
    ∙ ap (λ (x : List ElementsFields). drop 1 x ∷ map (λ (queue : List ElementsFields). drop 1 queue) queues) (sym e)
dropped_with (q ∷ queues) (suc op) part lt e = ap (λ (xs : List (List ElementsFields)). drop 1 q ∷ xs) (dropped_with queues op part (omega arith) e)

pub made : (g : Gathering) (op frame : ℕ) (part : ElementsFields) → IsGathering g → put_fault g op frame part ≡ None → is_last g op part ≡ true
    → IsGathering (record g { queues = map (λ (queue : List ElementsFields). drop 1 queue) g.queues; next = g.next + 1 })
made g op frame part is put whole =
    let at : op < length g.quotas = (is_put g op frame part put).op_is in
    record {
      channel_is = is.channel_is;
      quotas_are = is.quotas_are;
      slices_are = is.slices_are;
      reslicings_are = is.reslicings_are;
      one_each = length-map g.queues (λ (queue : List ElementsFields). drop 1 queue) ∙ is.one_each;
      waiting = empty_waits g.queues op (omega (arith, is.one_each)) (last_is_first g op part is at whole);
      started = omega (arith, is.started);
      queued = dropped_queued g.slices g.reslicings g.quotas g.queues g.next is.queued;
    }

pub after_last : (g : Gathering) (op frame : ℕ) (part : ElementsFields) → IsGathering g → put_fault g op frame part ≡ None → is_last g op part ≡ true
    → record g { queues = map (λ (queue : List ElementsFields). drop 1 queue) g.queues; next = g.next + 1 } ≡ after_put g op part
after_last g op frame part is put whole =
    let at : op < length g.quotas = (is_put g op frame part put).op_is in
    sym (ap (λ (b : Bool). cond b (record g { queues = map (λ (queue : List ElementsFields). drop 1 queue) (with_part g.queues op part); next = g.next + 1 }) (record g { queues = with_part g.queues op part })) whole
    ∙ ap (λ (qs : List (List ElementsFields)). let h : Gathering = record g { queues = qs; next = g.next + 1 } in h) (dropped_with g.queues op part (omega (arith, is.one_each)) (last_is_first g op part is at whole)))

pub after_other : (g : Gathering) (op : ℕ) (part : ElementsFields) → is_last g op part ≡ false → record g { queues = with_part g.queues op part } ≡ after_put g op part
after_other g op part waits =
    sym (ap (λ (b : Bool). cond b (record g { queues = map (λ (queue : List ElementsFields). drop 1 queue) (with_part g.queues op part); next = g.next + 1 }) (record g { queues = with_part g.queues op part })) waits)

-- ---- the slices of a frame are valid

all-append : {X : Type 0} (P : X → Type 0) (xs ys : List X) → AllByRecursion P xs → AllByRecursion P ys → AllByRecursion P (xs ++ ys)
all-append P [] ys p q = q
all-append P (x ∷ xs) ys p q = (p.0, all-append P xs ys p.1 q)

all-reverse : {X : Type 0} (P : X → Type 0) (xs : List X) → AllByRecursion P xs → AllByRecursion P (reverse xs)
all-reverse P [] h = tt
all-reverse {X} P (x ∷ xs) h =
    let e : reverse (x ∷ xs) ≡ reverse xs ++ x ∷ [] = reverse-append (x ∷ []) xs in
    subst (λ (ys : List X). AllByRecursion P ys) (sym e) (all-append P (reverse xs) (x ∷ []) (all-reverse P xs h.1) (h.0, tt))

all-find : {X : Type 0} (P : X → Type 0) (t : X → Bool) (xs : List X) (x : X) → AllByRecursion P xs → find t xs ≡ Some x → P x
all-find P t [] x h e = absurd (cc)
all-find {X} P t (y ∷ ys) x h e = by (t y) refl (λ f. all-find P t ys x h.1 f)
  where
    by : (b : Bool) → t y ≡ b → (find t ys ≡ Some x → P x) → P x
    by true p more = let same : Some y ≡ Some x = rw p at e in subst P (same_Some y x same) h.0
    by false p more = more (rw p at e)

pub slices_valid : (channel : Channel) (count : ℕ) (slices : List Minislots) (reslicings : List Reslicing) (frame : ℕ) → AreSlices channel count slices → All (λ r. AreSlices channel count r.slicing) reslicings
    → AreSlices channel count (slices_at slices reslicings frame)
slices_valid channel count slices reslicings frame first later = by (find (λ (r : Reslicing). leb r.from frame) (reverse reslicings)) refl
  where
    by : (o : Option Reslicing) → find (λ (r : Reslicing). leb r.from frame) (reverse reslicings) ≡ o → AreSlices channel count (slices_or slices o)
    by None e = first
    by (Some r) e =
        all-find (λ (x : Reslicing). AreSlices channel count x.slicing) (λ (x : Reslicing). leb x.from frame) (reverse reslicings) r
        (all-reverse (λ (x : Reslicing). AreSlices channel count x.slicing) reslicings (recursion_from_All (λ (x : Reslicing). AreSlices channel count x.slicing) reslicings later)) e

-- ---- the parts of the next frame

abbrev IsFrontOf : Option Minislots → Quota → List ElementsFields → Type 0
IsFrontOf m quota [] = Unit {0}
IsFrontOf m quota (part ∷ parts) = IsPartAt m quota part

front_queued : (slice_at : ℕ → Option Minislots) (quota : Quota) (n : ℕ) (queue : List ElementsFields) → AreQueued slice_at quota n queue → IsFrontOf (slice_at n) quota queue
front_queued slice_at quota n [] h = tt
front_queued slice_at quota n (q ∷ queue) h = h.0

part_of_front : (m : Minislots) (quota : Quota) (part : ElementsFields) → IsPartAt (Some m) quota part → IsPartOf quota m part
part_of_front m quota part h = subst (λ (x : Minislots). IsPartOf quota x part) (sym (same_Some m h.minislots h.slice_is)) h.part_is

fronts_are : (quotas : List Quota) (slices : List Minislots) (queues : List (List ElementsFields)) → length slices ≡ length quotas → length queues ≡ length quotas → is_whole queues ≡ true
    → ((k : ℕ) (quota : Quota) (queue : List ElementsFields) → slice_get quotas k ≡ Some quota → slice_get queues k ≡ Some queue → IsFrontOf (slice_get slices k) quota queue)
    → ArePartsOf quotas slices (fronts queues)
fronts_are [] [] [] a b whole h = tt
fronts_are [] [] (q ∷ queues) a b whole h = absurd (omega arith)
fronts_are [] (m ∷ slices) queues a b whole h = absurd (omega arith)
fronts_are (s ∷ quotas) [] queues a b whole h = absurd (omega arith)
fronts_are (s ∷ quotas) (m ∷ slices) [] a b whole h = absurd (omega arith)
fronts_are (s ∷ quotas) (m ∷ slices) ([] ∷ queues) a b whole h = let wrong : false ≡ true = whole in absurd (cc)
fronts_are (s ∷ quotas) (m ∷ slices) ((p ∷ ps) ∷ queues) a b whole h = (
  part_of_front m s p (h 0 s (p ∷ ps) refl refl),
  fronts_are quotas slices queues (omega arith) (omega arith) (and_parts (ltb 0 (length (p ∷ ps))) (is_whole queues) whole).1 (λ k quota queue e f. h (suc k) quota queue e f),
)

pub frame_is_whole : (g : Gathering) (op frame : ℕ) (part : ElementsFields) → IsGathering g → put_fault g op frame part ≡ None → IsTiled part → is_last g op part ≡ true
    → AreFrame g.channel g.quotas (frame_slices g g.next) (frame_parts g op part)
frame_is_whole g op frame part is put tiled whole =
    let valid : AreSlices g.channel (length g.quotas) (frame_slices g g.next) = slices_valid g.channel (length g.quotas) g.slices g.reslicings g.next is.slices_are is.reslicings_are in
    record {
      channel_is = is.channel_is;
      quotas_are = is.quotas_are;
      slices_are = valid;
      parts_are = fronts_are g.quotas (frame_slices g g.next) (with_part g.queues op part) valid.one_each
          (length-set g.queues op (queue_of g.queues op ++ part ∷ []) ∙ is.one_each) whole
          (λ k quota queue e f. front_queued (slice_for g k) quota g.next queue (with_part_queued g op frame part is (is_put g op frame part put) tiled k quota queue e f));
    }

pub last_frame : (g : Gathering) (op frame : ℕ) (part : ElementsFields) → IsGathering g → put_fault g op frame part ≡ None → is_last g op part ≡ true → frame ≡ g.next
last_frame g op frame part is put whole =
    let h : IsPut g op frame part = is_put g op frame part put in
    omega (arith, h.frame_is, ap length (last_is_first g op part is h.op_is whole))

-- ---- the same of a value that is seen as another

pub kept_is : (g now : Gathering) (op frame : ℕ) (part : ElementsFields) (queues : List (List ElementsFields)) → g ≡ now → IsGathering g → put_fault now op frame part ≡ None → IsTiled part → is_last now op part ≡ false
    → queues ≡ with_part g.queues op part → IsGathering (record g { queues = queues })
kept_is g now op frame part queues e is put tiled waits same =
    subst (λ (qs : List (List ElementsFields)). IsGathering (record g { queues = qs })) (sym same)
    (kept g op frame part is (subst (λ (h : Gathering). put_fault h op frame part ≡ None) (sym e) put) tiled (subst (λ (h : Gathering). is_last h op part ≡ false) (sym e) waits))

pub dropped_items : (items new : List (List ElementsFields)) (len : ℕ) → len ≡ length items → new ≡ map (λ (queue : List ElementsFields). drop 1 queue) items
    → take len (new ++ drop (length new) items) ≡ map (λ (queue : List ElementsFields). drop 1 queue) items
dropped_items items new len e f =
    take_at new (drop (length new) items) len (omega (arith, e, ap length f, length-map items (λ (queue : List ElementsFields). drop 1 queue))) ∙ f

pub made_is : (g now : Gathering) (op frame : ℕ) (part : ElementsFields) (queues : List (List ElementsFields)) → g ≡ now → IsGathering g → put_fault now op frame part ≡ None → is_last now op part ≡ true
    → queues ≡ map (λ (queue : List ElementsFields). drop 1 queue) g.queues → IsGathering (record g { queues = queues; next = frame + 1 })
made_is g now op frame part queues e is put whole same =
    let put' : put_fault g op frame part ≡ None = subst (λ (h : Gathering). put_fault h op frame part ≡ None) (sym e) put in
    let whole' : is_last g op part ≡ true = subst (λ (h : Gathering). is_last h op part ≡ true) (sym e) whole in
    subst (λ (n : ℕ). IsGathering (record g { queues = queues; next = n + 1 })) (sym (last_frame g op frame part is put' whole'))
    (subst (λ (qs : List (List ElementsFields)). IsGathering (record g { queues = qs; next = g.next + 1 })) (sym same) (made g op frame part is put' whole'))

pub made_view : (g now : Gathering) (op frame : ℕ) (part : ElementsFields) (queues : List (List ElementsFields)) → g ≡ now → IsGathering g → put_fault now op frame part ≡ None → is_last now op part ≡ true
    → queues ≡ map (λ (queue : List ElementsFields). drop 1 queue) g.queues → record g { queues = queues; next = frame + 1 } ≡ after_put now op part
made_view g now op frame part queues e is put whole same =
    let put' : put_fault g op frame part ≡ None = subst (λ (h : Gathering). put_fault h op frame part ≡ None) (sym e) put in
    let whole' : is_last g op part ≡ true = subst (λ (h : Gathering). is_last h op part ≡ true) (sym e) whole in
    ap (λ (qs : List (List ElementsFields)). let h : Gathering = record g { queues = qs; next = frame + 1 } in h) same
    ∙ (ap (λ (n : ℕ). let h : Gathering = record g { queues = map (λ (queue : List ElementsFields). drop 1 queue) g.queues; next = n + 1 } in h) (last_frame g op frame part is put' whole')
    ∙ (after_last g op frame part is put' whole' ∙ ap (λ (h : Gathering). after_put h op part) e))

-- the queues where a part was kept, and where it was handed back
pub queue_pushed : (queues : List (List ElementsFields)) (op : ℕ) (part : ElementsFields) (queue new : List ElementsFields) → op < length queues → queue ≡ get_or queues op queue → new ≡ queue ++ part ∷ []
    → slice_set queues op new ≡ with_part queues op part
queue_pushed queues op part queue new lt here e =
    let at : queue ≡ queue_of queues op = here ∙ get_or_default queues op queue [] lt in
    ap (λ (q : List ElementsFields). slice_set queues op q) (e ∙ ap (λ (q : List ElementsFields). q ++ part ∷ []) at)

pub queue_same : (queues : List (List ElementsFields)) (op : ℕ) (queue new : List ElementsFields) → queue ≡ get_or queues op queue → new ≡ queue → slice_set queues op new ≡ queues
queue_same queues op queue new here e = ap (λ (q : List ElementsFields). slice_set queues op q) (e ∙ here) ∙ set-get_or queues op queue

pub same_gathering : (g : Gathering) (queues : List (List ElementsFields)) → queues ≡ g.queues → IsGathering g → IsGathering (record g { queues = queues })
same_gathering g queues e is = subst (λ (qs : List (List ElementsFields)). IsGathering (record g { queues = qs })) (sym e) is

pub op_within : (g now : Gathering) (op frame : ℕ) (part : ElementsFields) → g ≡ now → IsGathering g → put_fault now op frame part ≡ None → op < length g.queues
op_within g now op frame part e is put =
    let h : IsPut g op frame part = is_put g op frame part (subst (λ (x : Gathering). put_fault x op frame part ≡ None) (sym e) put) in
    omega (arith, h.op_is, is.one_each)

-- ---- the elements of the frame's MAP

pub frame_of : (g now : Gathering) (op frame : ℕ) (part : ElementsFields) → g ≡ now → IsGathering g → put_fault now op frame part ≡ None → IsTiled part → is_last now op part ≡ true
    → AreFrame now.channel now.quotas (frame_slices now frame) (frame_parts now op part)
frame_of g now op frame part e is put tiled whole =
    let is' : IsGathering now = subst IsGathering e is in
    subst (λ (n : ℕ). AreFrame now.channel now.quotas (frame_slices now n) (frame_parts now op part)) (sym (last_frame now op frame part is' put whole)) (frame_is_whole now op frame part is' put tiled whole)

pub ordered_is : (g now : Gathering) (op frame : ℕ) (part : ElementsFields) (order : List ℕ) (queues : List (List ElementsFields)) (slices : List Minislots) → g ≡ now → IsGathering g → put_fault now op frame part ≡ None → IsTiled part → is_last now op part ≡ true
    → order ≡ sorted_order (map (λ slice. slice.start) slices) → slices ≡ slices_at g.slices g.reslicings frame → queues ≡ g.queues → ordered_elements g.channel order queues op part ≡ map_elements_of now.channel (frame_parts now op part)
ordered_is g now op frame part order queues slices e is put tiled whole order_is slices_is queues_are =
    let is' : IsGathering now = subst IsGathering e is in
    let at : op < length now.quotas = (is_put now op frame part put).op_is in
    let none : queue_of now.queues op ≡ [] = last_is_first now op part is' at whole in
    let frame' : AreFrame now.channel now.quotas (frame_slices now frame) (frame_parts now op part) = frame_of g now op frame part e is put tiled whole in
    let parts : map (part_at now.queues op part) (sorted_order (map (λ (slice : Minislots). slice.start) (frame_slices now frame))) ≡ in_slice_order (frame_parts now op part) =
    ordered_parts (frame_parts now op part) (frame_slices now frame) (part_at now.queues op part) part (slices_of_parts now.quotas (frame_slices now frame) (frame_parts now op part) frame'.parts_are)
    (part_at_is now.queues op part (omega (arith, is'.one_each)) none whole) in
    ap (λ (ks : List ℕ). ordered_elements g.channel ks queues op part) (order_is ∙ ap (λ (ms : List Minislots). sorted_order (map (λ (slice : Minislots). slice.start) ms)) slices_is)
    ∙ (ap (λ (qs : List (List ElementsFields)). ordered_elements g.channel (sorted_order (map (λ (slice : Minislots). slice.start) (slices_at g.slices g.reslicings frame))) qs op part) queues_are
    ∙ (ap (λ (h : Gathering). ordered_elements h.channel (sorted_order (map (λ (slice : Minislots). slice.start) (frame_slices h frame))) h.queues op part) e
    ∙ ap (λ (ps : List ElementsFields). elements_of_map now.channel.frame_minislots (map_spans now.channel ps) (map_pending ps)) parts))

pub few_ordered : (channel : Channel) (quotas : List Quota) (slices : List Minislots) (parts : List ElementsFields) (es : List MapElement) → AreFrame channel quotas slices parts → es ≡ map_elements_of channel parts → length es ≤ 240
few_ordered channel quotas slices parts es h e = subst (λ (xs : List MapElement). length xs ≤ 240) (sym e) (frame_count channel quotas slices parts h)

pub fit_ordered : (channel : Channel) (quotas : List Quota) (slices : List Minislots) (parts : List ElementsFields) (es : List MapElement) → AreFrame channel quotas slices parts → es ≡ map_elements_of channel parts → All FitsElement es
fit_ordered channel quotas slices parts es h e = All-from_recursion FitsElement es (subst (λ (xs : List MapElement). AllByRecursion FitsElement xs) (sym e) (frame_fits channel quotas slices parts h))

pub is_map_of : (channel seen : Channel) (frame : ℕ) (quotas : List Quota) (slices : List Minislots) (parts : List ElementsFields) (es : List MapElement) (bytes : List ℕ) → AreFrame channel quotas slices parts → seen ≡ channel → es ≡ map_elements_of channel parts
    → bytes ≡ spelled_map (map_header seen frame (length es)) es → IsMapOf channel frame quotas slices parts bytes
is_map_of channel seen frame quotas slices parts es bytes h same e b =
    let spelled : bytes ≡ bytes_of_map channel frame parts =
    b ∙ (ap (λ (xs : List MapElement). spelled_map (map_header seen frame (length xs)) xs) e
    ∙ ap (λ (l : Channel). spelled_map (map_header l frame (length (map_elements_of channel parts))) (map_elements_of channel parts)) same) in
    record {
      bytes_are = spelled;
      reads = subst (λ (bs : List ℕ). MapReads bs (map_of channel frame parts)) (sym spelled) (frame_reads channel frame quotas slices parts h);
      tiled = frame_tiled channel quotas slices parts h;
      own = λ k quota part e f. frame_part channel frame quotas slices parts k quota part h e f;
    }

pub layout_seen : (g now : Gathering) → g ≡ now → g.channel ≡ now.channel
layout_seen g now e = ap (λ (h : Gathering). h.channel) e

pub next_of_last : (g now : Gathering) (op frame : ℕ) (part : ElementsFields) → g ≡ now → IsGathering g → put_fault now op frame part ≡ None → is_last now op part ≡ true → frame ≡ now.next
next_of_last g now op frame part e is put whole = last_frame now op frame part (subst IsGathering e is) put whole

-- ---- what is left once a frame is made

pub out_valid : (g now : Gathering) (op frame : ℕ) (part : ElementsFields) → g ≡ now → IsGathering g → put_fault now op frame part ≡ None → is_last now op part ≡ true → IsGathering (frame_out now frame)
out_valid g now op frame part e is put whole = made_is now now op frame part (map (λ (queue : List ElementsFields). drop 1 queue) now.queues) refl (subst IsGathering e is) put whole refl

pub out_after : (g now : Gathering) (op frame : ℕ) (part : ElementsFields) → g ≡ now → IsGathering g → put_fault now op frame part ≡ None → is_last now op part ≡ true → frame_out now frame ≡ after_put now op part
out_after g now op frame part e is put whole = made_view now now op frame part (map (λ (queue : List ElementsFields). drop 1 queue) now.queues) refl (subst IsGathering e is) put whole refl

pub out_view : (g now : Gathering) (frame : ℕ) (queues : List (List ElementsFields)) → g ≡ now → queues ≡ map (λ (queue : List ElementsFields). drop 1 queue) g.queues → record g { queues = queues; next = frame + 1 } ≡ frame_out now frame
out_view g now frame queues e same =
    ap (λ (qs : List (List ElementsFields)). let h : Gathering = record g { queues = qs; next = frame + 1 } in h) same ∙ ap (λ (h : Gathering). frame_out h frame) e

pub out_is : (g now : Gathering) (frame : ℕ) (queues : List (List ElementsFields)) → g ≡ now → IsGathering (frame_out now frame) → queues ≡ map (λ (queue : List ElementsFields). drop 1 queue) g.queues → IsGathering (record g { queues = queues; next = frame + 1 })
out_is g now frame queues e is same = subst IsGathering (sym (out_view g now frame queues e same)) is

-- a part that is not refused is of the operator's next frame
pub put_at_next : (g : Gathering) (op frame : ℕ) (part : ElementsFields) → put_fault g op frame part ≡ None → put_fault g op (next_of g op) part ≡ None
put_at_next g op frame part put = subst (λ (n : ℕ). put_fault g op n part ≡ None) (is_put g op frame part put).frame_is put
