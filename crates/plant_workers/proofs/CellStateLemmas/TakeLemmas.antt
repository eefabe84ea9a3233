-- Frames that are taken, and how many stand before a place.
use Rattle.std.proofs.Common.{◌≡◌, ◌≢◌, ℕ, zero, suc, ◌+◌, ◌-◌, ◌<◌, ◌≤◌, List, [], ◌∷◌, ◌++◌, length, get_or, take, drop, All, Option, Some, cond, refl, sym, ap, subst, ◌∙◌, arith}
use Rattle.plant_workers.proofs.CellStateLemmas.Common.{count_by, nat_lt, flat_map, take-append-drop, length-append, filter_map-append, ElementsFields, Entry, Output, frame_with_number, frames_of, frames_in, waiting_in, IsOneFrame, waiting_more, is_frame, has_frame}
use Rattle.std.proofs.lemmas.List.Sums.{sum_by-cons}
use Rattle.std.proofs.lemmas.List.Concat.{flat_map-append}
use Rattle.std.proofs.Math.Seq.{drop-append_seam, drop-append-add}
use Rattle.operator_model.specs.declared.output.Output.TheVariants.{Reply, Silent, Frame}
use Rattle.plant_workers.specs.cell_state.Oldest.{IsOldest}
use Rattle.plant_workers.specs.declared.cell_state.collecting.Oldest.{Oldest}

abbrev pub Numbered : Type 0
Numbered = ℕ × ElementsFields

frames_cons : (entry : Entry) (h : List Entry) → frames_in (entry ∷ h) ≡ frames_of entry.outputs ++ frames_in h
frames_cons entry h = filter_map-append frame_with_number entry.outputs (flat_map (λ (e : Entry). e.outputs) h)

frames_append : (xs ys : List Entry) → frames_in (xs ++ ys) ≡ frames_in xs ++ frames_in ys
frames_append xs ys =
    ap frames_of (flat_map-append (λ (e : Entry). e.outputs) xs ys)
    ∙ filter_map-append frame_with_number (flat_map (λ (e : Entry). e.outputs) xs) (flat_map (λ (e : Entry). e.outputs) ys)

-- the frame that waits longest is the first of those that wait
pub oldest_front : (h history : List Entry) (place : ℕ) (o : Option Oldest) (oldest : Oldest) → h ≡ history → o ≡ Some oldest → IsOldest h place o
    → waiting_in history place ≡ (oldest.number, oldest.elements) ∷ waiting_in history oldest.behind
oldest_front h history place o oldest same is waits =
    (subst (λ (x : Option Oldest). IsOldest history place x) is (subst (λ (es : List Entry). IsOldest es place o) same waits)).0

-- ---- how many

pub counted : (outputs : List Output) → count_by is_frame outputs ≡ length (frames_of outputs)
counted [] = refl
counted (Reply modem bytes ∷ outputs) = counted outputs
counted (Silent modem cause ∷ outputs) = counted outputs
counted (Frame number elements ∷ outputs) =
    let one : count_by is_frame (Frame number elements ∷ outputs) ≡ 1 + count_by is_frame outputs =
    sum_by-cons (λ (output : Output). cond (is_frame output) 1 0) (Frame number elements) outputs in
    let long : length (frames_of (Frame number elements ∷ outputs)) ≡ suc (length (frames_of outputs)) = refl in
    omega (arith, one, long, counted outputs)

one_or_none : (n : ℕ) → n ≤ 1 → cond (nat_lt 0 n) 1 0 ≡ n
one_or_none zero few = refl
one_or_none (suc zero) few = refl
one_or_none (suc (suc n)) few = absurd (omega (arith, few))

as_many : (k : ℕ) (h : List Entry) → All IsOneFrame h → count_by has_frame (take k h) ≡ length (frames_in (take k h))
as_many zero h one = refl
as_many (suc k) [] one = refl
as_many (suc k) (entry ∷ h) one =
    let n : ℕ = count_by is_frame entry.outputs in
    let first : count_by has_frame (entry ∷ take k h) ≡ cond (has_frame entry) 1 0 + count_by has_frame (take k h) =
    sum_by-cons (λ (e : Entry). cond (has_frame e) 1 0) entry (take k h) in
    let here : cond (has_frame entry) 1 0 ≡ n = one_or_none n (omega (arith, counted entry.outputs, one 0 entry (omega arith))) in
    let later = as_many k h (λ j d lt. one (suc j) d (omega (arith, lt))) in
    let long : length (frames_in (entry ∷ take k h)) ≡ length (frames_of entry.outputs) + length (frames_in (take k h)) =
    ap (λ (fs : List Numbered). length fs) (frames_cons entry (take k h)) ∙ length-append (frames_of entry.outputs) (frames_in (take k h)) in
    let all : count_by has_frame (entry ∷ take k h) ≡ length (frames_in (entry ∷ take k h)) = omega (arith, first, here, later, counted entry.outputs, long) in
    all

parts : (h : List Entry) (k : ℕ) → frames_in h ≡ frames_in (take k h) ++ frames_in (drop k h)
parts h k = ap frames_in (sym (take-append-drop k h)) ∙ frames_append (take k h) (drop k h)

rest_waits : (h : List Entry) (k : ℕ) → waiting_in h k ≡ drop (length (frames_in (take k h))) (frames_in h)
rest_waits h k =
    sym (ap (λ (fs : List Numbered). drop (length (frames_in (take k h))) fs) (parts h k)
    ∙ drop-append_seam (frames_in (take k h)) (frames_in (drop k h)))

no_more : (h : List Entry) (k : ℕ) → length (frames_in (take k h)) ≤ length (frames_in h)
no_more h k =
    omega (arith, ap (λ (fs : List Numbered). length fs) (parts h k), length-append (frames_in (take k h)) (frames_in (drop k h)))

-- so many of the frames stand before a place, and the others wait
pub collected : (h : List Entry) (k n : ℕ) → All IsOneFrame h → n ≡ count_by has_frame (take k h) → (n ≤ length (frames_in h)) × (waiting_in h k ≡ drop n (frames_in h))
collected h k n one is =
    let same : n ≡ length (frames_in (take k h)) = is ∙ as_many k h one in (
      omega (arith, same, no_more h k),
      rest_waits h k ∙ ap (λ (m : ℕ). drop m (frames_in h)) (sym same),
    )

-- ---- behind so many

-- behind this place so many of the frames are left, of those that are to be passed
pub record AreLeft (h : List Entry) (taken place left : ℕ) : Type 0 where
  pub enough : left ≤ length (waiting_in h place)
  pub same : drop left (waiting_in h place) ≡ drop taken (frames_in h)

pub few : (h : List Entry) (place left seen : ℕ) (d : Entry) → IsOneFrame (get_or h place d) → left ≢ 0
    → seen ≡ count_by is_frame (get_or h place d).outputs → seen ≤ left
few h place left seen d one more count = omega (arith, counted (get_or h place d).outputs, one, more, count)

pub passed : (h : List Entry) (taken place left seen : ℕ) (d : Entry) → place < length h → seen ≡ count_by is_frame (get_or h place d).outputs
    → IsOneFrame (get_or h place d) → left ≢ 0 → AreLeft h taken place left → AreLeft h taken (place + 1) (left - seen)
passed h taken place left seen d lt count one more left_is =
    let within : seen ≤ left = few h place left seen d one more count in
    let fs : List Numbered = frames_of (get_or h place d).outputs in
    let ws : List Numbered = waiting_in h (place + 1) in
    let split : waiting_in h place ≡ fs ++ ws = waiting_more h place d lt in
    let long : seen ≡ length fs = count ∙ counted (get_or h place d).outputs in
    let sum : length fs + (left - seen) ≡ left = omega (arith, long, within) in
    record {
      enough = omega (arith, left_is.enough, long, within, ap (λ (ts : List Numbered). length ts) split, length-append fs ws);
      same =
          sym (drop-append-add fs ws (left - seen))
          ∙ (ap (λ (n : ℕ). drop n (fs ++ ws)) sum
          ∙ (ap (λ (ts : List Numbered). drop left ts) (sym split) ∙ left_is.same));
    }
