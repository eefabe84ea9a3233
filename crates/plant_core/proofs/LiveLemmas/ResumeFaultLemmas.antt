-- Why operators at work are not resumed.
use Rattle.std.proofs.Common.{◌≡◌, ℕ, ◌<◌, ◌≤◌, List, [], ◌∷◌, length, map, take, get_or, Option, option_map, All, Result, Ok, Err, IfErr, inl, inr, refl, sym, ap, ◌∙◌, subst, arith}
use Rattle.plant_core.proofs.LiveLemmas.Common.{◌≢◌, take-map, length-map, All-nil, All-map, slice_get-map, slice_get_read, Minislots, Channel, PlantFields, Operator, AreSlices, IsFirstInvalid, sound_of, IsAtFrame, WaitsFrom, IsOdd, waits_from, first_from, GoesAlong, GoTogether, IsFirstOdd, IsOddFault, IsSliceFault, IsResumeFault}
use Rattle.std.specs.Result.{IsErrAnd}
use Rattle.operator_book.specs.declared.live.Machine.{Machine}
use Rattle.plant_core.specs.declared.live.resume_fault.ResumeFault.{ResumeFault}
use Rattle.plant_core.specs.declared.live.resume_fault.ResumeFault.TheVariants.{NotAtFrame, SliceChangesDiffer, BeforeFirstFrame, InvalidSlice, InvalidNextSlice, NoMemory}
use Rattle.plant_core.proofs.LiveLemmas.ResumeLemmas.{over_map}

-- what is reported of an error that is handed on
pub handed_on : {A E : Type 0} (r : Result A E) (P Q : E → Type 0) → IsErrAnd r P → ((e : E) → P e → Q e) → IfErr r Q
handed_on (Ok x) P Q h f = tt
handed_on (Err e) P Q h f = f e h

-- ---- operators that go along

pub along : {X : Type 0} (see : X → Operator) (frame : ℕ) (from : Option ℕ) (xs : List X) → All (λ x. (see x).state.frame ≡ frame) xs → All (λ x. waits_from (see x) ≡ from) xs → All (GoesAlong frame from) (map see xs)
along see frame from xs at waits = All-map (GoesAlong frame from) see xs (λ i x lt. record { at_frame = at i x lt; waits = waits i x lt })

pub together : (frame : ℕ) (from : Option ℕ) (ops : List Operator) → All (λ o. o.state.frame ≡ frame) ops → All (λ o. waits_from o ≡ from) ops → GoTogether frame ops
together frame from [] at waits = All-nil (GoesAlong frame (first_from []))
together frame from (o ∷ ops) at waits = λ i x lt. record { at_frame = at i x lt; waits = waits i x lt ∙ sym (waits 0 o (omega arith)) }

pub together_seen : {X : Type 0} (see : X → Operator) (frame : ℕ) (from : Option ℕ) (xs : List X) → All (λ o. o.state.frame ≡ frame) (map see xs) → All (λ x. waits_from (see x) ≡ from) xs → GoTogether frame (map see xs)
together_seen see frame from xs at waits = together frame from (map see xs) at (All-map (λ (o : Operator). waits_from o ≡ from) see xs waits)

-- ---- one that does not

module _ (frame : ℕ) (from : Option ℕ) (lives : List Machine) (i : ℕ) (live : Machine) (lt : i < length lives) (is : live ≡ get_or lives i live)
    (frames : All (IsAtFrame frame) (take i lives)) (alike : All (WaitsFrom from) (take i lives)) where
  first_odd : (at : ℕ) (reason : Operator → Type 0) → at ≡ i → reason (sound_of live) → IsFirstOdd frame from (map sound_of lives) at reason
  first_odd at reason same why =
      subst (λ (n : ℕ). IsFirstOdd frame from (map sound_of lives) n reason) (sym same) (record {
        before = subst (λ (ops : List Operator). All (GoesAlong frame from) ops) (sym (take-map sound_of i lives)) (along sound_of frame from (take i lives) frames alike);
        odd = sound_of live;
        odd_is = slice_get-map sound_of lives i ∙ ap (option_map sound_of) (slice_get_read lives (length lives) i live refl lt is);
        why = why;
      })

  pub odd_among : (fault : ResumeFault) → IsOdd frame from i live fault → IsOddFault frame from (map sound_of lives) fault
  odd_among (NotAtFrame at) odd = first_odd at (λ (o : Operator). o.state.frame ≢ frame) odd.0 odd.1
  odd_among (SliceChangesDiffer at) odd = first_odd at (λ (o : Operator). waits_from o ≢ from) odd.0 odd.1
  odd_among BeforeFirstFrame odd = odd
  odd_among (InvalidSlice at) odd = odd
  odd_among (InvalidNextSlice at) odd = odd
  odd_among NoMemory odd = odd

-- ---- slices that are not valid

pub first_seen : {X : Type 0} (f : Operator → Minislots) (see : X → Operator) (channel other : Channel) (xs : List X) (read items : List Minislots) (op : ℕ) → other ≡ channel → read ≡ items → items ≡ map (λ x. f (see x)) xs
    → IsFirstInvalid other read op → IsFirstInvalid channel (map f (map see xs)) op
first_seen f see channel other xs read items op same is are first =
    subst (λ (c : Channel). IsFirstInvalid c (map f (map see xs)) op) same
    (subst (λ (ms : List Minislots). IsFirstInvalid other ms op) (is ∙ (are ∙ sym (over_map f see xs))) first)

pub all_seen : {X : Type 0} (f : Operator → Minislots) (see : X → Operator) (channel : Channel) (xs : List X) (items : List Minislots) → items ≡ map (λ x. f (see x)) xs → AreSlices channel (length xs) items
    → AreSlices channel (length (map see xs)) (map f (map see xs))
all_seen f see channel xs items are valid =
    subst (λ (n : ℕ). AreSlices channel n (map f (map see xs))) (sym (length-map xs see))
    (subst (λ (ms : List Minislots). AreSlices channel (length xs) ms) (are ∙ sym (over_map f see xs)) valid)

pub of_rows : {X : Type 0} (see : X → Operator) (plant : PlantFields) (xs : List X) (items : List Minislots) → map (λ o. o.row) (map see xs) ≡ plant.rows → AreSlices plant.consts.channel (length xs) items
    → AreSlices plant.consts.channel (length plant.rows) items
of_rows see plant xs items rows valid =
    let a = length-map (map see xs) (λ (o : Operator). o.row) in let c = length-map xs see in let d = ap length rows in
    let same : length xs ≡ length plant.rows = omega (arith, a, c, d) in
    subst (λ (n : ℕ). AreSlices plant.consts.channel n items) same valid

-- ---- faults of resuming

pub odd_fault : (plant : PlantFields) (frame : ℕ) (from : Option ℕ) (ops others : List Operator) (fault : ResumeFault) → others ≡ ops → from ≡ first_from ops → IsOddFault frame from others fault → IsResumeFault plant frame ops fault
odd_fault plant frame from ops others fault same first odd = inl (subst (λ (n : Option ℕ). IsOddFault frame n ops fault) first (subst (λ (xs : List Operator). IsOddFault frame from xs fault) same odd))

pub early_fault : (plant : PlantFields) (frame : ℕ) (ops : List Operator) → GoTogether frame ops → frame < plant.consts.channel.first_frame → IsResumeFault plant frame ops BeforeFirstFrame
early_fault plant frame ops go lt = inr (go, inl (refl, lt))

pub slice_fault : (plant : PlantFields) (frame : ℕ) (ops : List Operator) (fault : ResumeFault) → GoTogether frame ops → plant.consts.channel.first_frame ≤ frame → IsSliceFault plant ops fault → IsResumeFault plant frame ops fault
slice_fault plant frame ops fault go le is = inr (go, inr (le, is))

pub memory_fault : (plant : PlantFields) (frame : ℕ) (ops : List Operator) (fault : ResumeFault) → GoTogether frame ops → plant.consts.channel.first_frame ≤ frame → fault ≡ NoMemory → IsResumeFault plant frame ops fault
memory_fault plant frame ops fault go le is = slice_fault plant frame ops fault go le (subst (λ (f : ResumeFault). IsSliceFault plant ops f) (sym is) tt)
