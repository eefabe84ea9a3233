-- What is gathered of a plant at first, and after other slices are given.
use Rattle.std.proofs.Common.{◌≡◌, ℕ, zero, suc, ◌+◌, ◌<◌, ◌≤◌, List, [], ◌∷◌, ◌++◌, length, map, reverse, Bool, false, cond, refl, sym, ap, ◌∙◌, subst, arith, leb, Option, Some}
use Rattle.map_assembly.proofs.Common.{replicate, AllByRecursion, All, AllPairs, sum_by, slice_get, find, length-map, length-replicate, reverse-append, sum_by-cons, recursion_from_All, All-from_recursion, All-push, same_Some, lt-leb, Minislots, slices_overlap, ElementsFields, RowFields, ranges_overlap, IsPlant, Quota, Reslicing, quota_of, IsQuota, AreQuotas, IsInFrame, AreSlices, Gathering, gathering_at, slices_or, slices_at, is_whole, IsPartAt, AreQueued, IsGathering, HasPutNoneFrom, MayReslice, gathering_after_reslice}
use Rattle.plant.specs.declared.consts.ConstsFields.{ConstsFields}
use Rattle.plant.specs.declared.plant.PlantFields.{PlantFields}
use Rattle.plant.specs.Row.{IsRowOf}
use Rattle.map_assembly.proofs.OrderLemmas.{PairsByRecursion, pairs_from_AllPairs}

-- ---- pairs and sums over a map

pub AllPairs-from_pairs : {X : Type 0} (R : X → X → Type 0) (xs : List X) → PairsByRecursion R xs → AllPairs R xs
AllPairs-from_pairs R [] h i j d lt in' = absurd (omega arith)
AllPairs-from_pairs R (x ∷ xs) h zero zero d lt in' = absurd (omega arith)
AllPairs-from_pairs R (x ∷ xs) h zero (suc j) d lt in' = All-from_recursion (R x) xs h.0 j d (omega arith)
AllPairs-from_pairs R (x ∷ xs) h (suc i) zero d lt in' = absurd (omega arith)
AllPairs-from_pairs R (x ∷ xs) h (suc i) (suc j) d lt in' = AllPairs-from_pairs R xs h.1 i j d (omega arith) (omega arith)

all-over : {X Y : Type 0} (P : Y → Type 0) (f : X → Y) (xs : List X) → AllByRecursion (λ x. P (f x)) xs → AllByRecursion P (map f xs)
all-over P f [] h = tt
all-over P f (x ∷ xs) h = (h.0, all-over P f xs h.1)

pairs-over : {X Y : Type 0} (R : Y → Y → Type 0) (f : X → Y) (xs : List X) → PairsByRecursion (λ a b. R (f a) (f b)) xs → PairsByRecursion R (map f xs)
pairs-over R f [] h = tt
pairs-over {X} {Y} R f (x ∷ xs) h = (all-over (R (f x)) f xs h.0, pairs-over R f xs h.1)

AllPairs-map : {X Y : Type 0} (R : Y → Y → Type 0) (f : X → Y) (xs : List X) → AllPairs (λ a b. R (f a) (f b)) xs → AllPairs R (map f xs)
AllPairs-map {X} {Y} R f xs h = AllPairs-from_pairs R (map f xs) (pairs-over R f xs (pairs_from_AllPairs (λ (a b : X). R (f a) (f b)) xs h))

elements_of_quotas : (rows : List RowFields) → sum_by (λ (s : Quota). s.elements) (map quota_of rows) ≡ sum_by (λ (r : RowFields). r.elements) rows
elements_of_quotas [] = refl
elements_of_quotas (r ∷ rows) = omega (arith, sum_by-cons (λ (s : Quota). s.elements) (quota_of r) (map quota_of rows), sum_by-cons (λ (x : RowFields). x.elements) r rows, elements_of_quotas rows)

-- ---- the rows of a plant

quotas_each : (consts : ConstsFields) (rows : List RowFields) → AllByRecursion (IsRowOf consts) rows → AllByRecursion (λ row. IsQuota (quota_of row)) rows
quotas_each consts [] h = tt
quotas_each consts (r ∷ rows) h = (record { low = h.0.keys.sids_low; high = h.0.keys.sids_high }, quotas_each consts rows h.1)

slices_each : (consts : ConstsFields) (rows : List RowFields) → AllByRecursion (IsRowOf consts) rows → AllByRecursion (λ slice. 1 ≤ slice.length) (map (λ row. row.slice) rows)
    → AllByRecursion (λ row. IsInFrame consts.channel row.slice) rows
slices_each consts [] h some = tt
slices_each consts (r ∷ rows) h some = (record { some = some.0; behind_head = h.0.behind_head; within_frame = h.0.within_frame }, slices_each consts rows h.1 some.1)

plant_quotas : (plant : PlantFields) → IsPlant plant → AreQuotas (map quota_of plant.rows)
plant_quotas plant is = record {
  some = omega (arith, is.some, length-map plant.rows quota_of);
  each = All-from_recursion IsQuota (map quota_of plant.rows) (all-over IsQuota quota_of plant.rows (quotas_each plant.consts plant.rows (recursion_from_All (IsRowOf plant.consts) plant.rows is.rows)));
  apart = AllPairs-map (λ (a b : Quota). ranges_overlap a.sids b.sids ≡ false) quota_of plant.rows is.sids;
  few = omega (arith, elements_of_quotas plant.rows, length-map plant.rows quota_of, is.elements);
}

slices_of_rows : (plant : PlantFields) → IsPlant plant → All (λ slice. 1 ≤ slice.length) (map (λ row. row.slice) plant.rows) → AreSlices plant.consts.channel (length plant.rows) (map (λ row. row.slice) plant.rows)
slices_of_rows plant is some = record {
  one_each = length-map plant.rows (λ (row : RowFields). row.slice);
  each = All-from_recursion (IsInFrame plant.consts.channel) (map (λ (row : RowFields). row.slice) plant.rows)
      (all-over (IsInFrame plant.consts.channel) (λ (row : RowFields). row.slice) plant.rows
      (slices_each plant.consts plant.rows (recursion_from_All (IsRowOf plant.consts) plant.rows is.rows) (recursion_from_All (λ (slice : Minislots). 1 ≤ slice.length) (map (λ (row : RowFields). row.slice) plant.rows) some)));
  apart = AllPairs-map (λ (a b : Minislots). slices_overlap a b ≡ false) (λ (row : RowFields). row.slice) plant.rows is.slices;
}

nobody_waits : (n : ℕ) → 1 ≤ n → is_whole (replicate n []) ≡ false
nobody_waits zero h = absurd (omega arith)
nobody_waits (suc n) h = refl

none_queued : (slice_at : ℕ → Option Minislots) (quota : Quota) (next n k : ℕ) (queue : List ElementsFields) → slice_get (replicate n []) k ≡ Some queue → AreQueued slice_at quota next queue
none_queued slice_at quota next zero k queue e = absurd (cc)
none_queued slice_at quota next (suc n) zero queue e =
    let none : List ElementsFields = [] in
    subst (λ (q : List ElementsFields). AreQueued slice_at quota next q) (same_Some none queue e) tt
none_queued slice_at quota next (suc n) (suc k) queue e = none_queued slice_at quota next n k queue e

-- the slices of its rows are valid slices of a plant
pub plant_slices : (plant : PlantFields) → IsPlant plant → (slices : List Minislots) → slices ≡ map (λ row. row.slice) plant.rows → All (λ slice. 1 ≤ slice.length) slices → AreSlices plant.consts.channel (length plant.rows) slices
plant_slices plant is slices e some =
    subst (λ (ms : List Minislots). AreSlices plant.consts.channel (length plant.rows) ms) (sym e)
    (slices_of_rows plant is (subst (λ (ms : List Minislots). All (λ (slice : Minislots). 1 ≤ slice.length) ms) e some))

-- what nothing is put in
pub gathering_resumed : (plant : PlantFields) (g : Gathering) (frame : ℕ) (slices : List Minislots) → IsPlant plant → AreSlices plant.consts.channel (length plant.rows) slices → plant.consts.channel.first_frame ≤ frame
    → g ≡ gathering_at plant frame slices → IsGathering g
gathering_resumed plant g frame slices is valid started same = subst IsGathering (sym same) (record {
  channel_is = is.consts.channel;
  quotas_are = plant_quotas plant is;
  slices_are = subst (λ (n : ℕ). AreSlices plant.consts.channel n slices) (sym (length-map plant.rows quota_of)) valid;
  reslicings_are = All-from_recursion (λ (r : Reslicing). AreSlices plant.consts.channel (length (map quota_of plant.rows)) r.slicing) [] tt;
  one_each = let none : List ElementsFields = [] in length-replicate (length plant.rows) none ∙ sym (length-map plant.rows quota_of);
  waiting = nobody_waits (length plant.rows) is.some;
  started = started;
  queued = λ k quota queue e f. none_queued (λ (n : ℕ). slice_get (slices_at slices [] n) k) quota frame (length plant.rows) k queue f;
})

pub same_new : (g h : Gathering) → g.channel ≡ h.channel → g.quotas ≡ h.quotas → g.slices ≡ h.slices → g.reslicings ≡ h.reslicings → g.queues ≡ h.queues → g.next ≡ h.next → g ≡ h
same_new g h a b c d e f = λ i. record { channel = a i; quotas = b i; slices = c i; reslicings = d i; queues = e i; next = f i }

-- ---- other slices from a frame on

newest-first : (reslicings : List Reslicing) (r : Reslicing) → reverse (reslicings ++ r ∷ []) ≡ r ∷ reverse reslicings
newest-first reslicings r = reverse-append reslicings (r ∷ [])

pub slices_before : (slices : List Minislots) (reslicings : List Reslicing) (r : Reslicing) (frame : ℕ) → frame < r.from → slices_at slices (reslicings ++ r ∷ []) frame ≡ slices_at slices reslicings frame
slices_before slices reslicings r frame lt =
    ap (λ (rs : List Reslicing). slices_or slices (find (λ (x : Reslicing). leb x.from frame) rs)) (newest-first reslicings r)
    ∙ ap (λ (b : Bool). slices_or slices (cond b (Some r) (find (λ (x : Reslicing). leb x.from frame) (reverse reslicings)))) (lt-leb r.from frame lt)

pub queued-agree : (f g : ℕ → Option Minislots) (quota : Quota) (n : ℕ) (queue : List ElementsFields) → ((m : ℕ) → n ≤ m → m < n + length queue → f m ≡ g m) → AreQueued f quota n queue → AreQueued g quota n queue
queued-agree f g quota n [] agree h = tt
queued-agree f g quota n (q ∷ queue) agree h = (
  subst (λ (o : Option Minislots). IsPartAt o quota q) (agree n (omega arith) (omega arith)) h.0,
  queued-agree f g quota (n + 1) queue (λ m le lt. agree m (omega arith) (omega arith)) h.1,
)

queue_past : (g : Gathering) (from : ℕ) (queue : List ElementsFields) (m : ℕ) → g.channel.first_frame ≤ g.next → HasPutNoneFrom g from queue → g.next ≤ m → m < g.next + length queue → m < from
queue_past g from queue m started past le lt = let p : g.next + length queue ≤ from = past (omega arith) in omega arith

all_at_queue : (P : List ElementsFields → Type 0) (queues : List (List ElementsFields)) (k : ℕ) (queue : List ElementsFields) → AllByRecursion P queues → slice_get queues k ≡ Some queue → P queue
all_at_queue P [] k queue h e = absurd (cc)
all_at_queue P (q ∷ queues) zero queue h e = subst P (same_Some q queue e) h.0
all_at_queue P (q ∷ queues) (suc k) queue h e = all_at_queue P queues k queue h.1 e

resliced_is : (g : Gathering) (from : ℕ) (slices : List Minislots) → IsGathering g → MayReslice g from slices → IsGathering (gathering_after_reslice g from slices)
resliced_is g from slices is may =
    let r : Reslicing = record { from = from; slicing = slices } in
    record {
      channel_is = is.channel_is;
      quotas_are = is.quotas_are;
      slices_are = is.slices_are;
      reslicings_are = All-push (λ (x : Reslicing). AreSlices g.channel (length g.quotas) x.slicing) g.reslicings r is.reslicings_are may.slices_are;
      one_each = is.one_each;
      waiting = is.waiting;
      started = is.started;
      queued = λ k quota queue e f.
          let past : HasPutNoneFrom g from queue = all_at_queue (HasPutNoneFrom g from) g.queues k queue (recursion_from_All (HasPutNoneFrom g from) g.queues may.past) f in
          queued-agree (λ (n : ℕ). slice_get (slices_at g.slices g.reslicings n) k) (λ (n : ℕ). slice_get (slices_at g.slices (g.reslicings ++ r ∷ []) n) k) quota g.next queue
          (λ m le lt. ap (λ (ms : List Minislots). slice_get ms k) (sym (slices_before g.slices g.reslicings r m (queue_past g from queue m is.started past le lt))))
          (is.queued k quota queue e f);
    }

pub resliced_seen : (g now : Gathering) (from : ℕ) (slices : List Minislots) (reslicings : List Reslicing) → g ≡ now → IsGathering g → MayReslice now from slices → reslicings ≡ g.reslicings ++ record { from = from; slicing = slices } ∷ []
    → IsGathering (record g { reslicings = reslicings })
resliced_seen g now from slices reslicings e is may same =
    subst (λ (rs : List Reslicing). IsGathering (record g { reslicings = rs })) (sym same)
    (resliced_is g from slices is (subst (λ (h : Gathering). MayReslice h from slices) (sym e) may))
