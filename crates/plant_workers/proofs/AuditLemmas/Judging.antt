-- What is told of a book, of an assembly, and of a whole run.
use Rattle.std.proofs.Common.{◌≡◌, ℕ, ◌+◌, ◌<◌, true, false, cond, Bool, List, [], ◌∷◌, length, map, take, drop, count_by, if◌then◌else◌, Option, Some, None, ◌⊎◌, inl, inr, refl, sym, ap, ◌∙◌, subst, arith}
use Rattle.plant_workers.proofs.AuditLemmas.Common.{◌==◌, slice_get, MatchOption, All, cases_eq, eq-eqb, ne_eqb, cond-true, length-map, length-replicate, length-append, slice_get_within, ElementsFields, ConstsFields, RowFields, PlantFields, is_listed, Action, SliceRow, opened_state, operator, own_run, BookView, actions_of, IsReplay, MapBytes, Gathering, gathering_of, queue_of, is_last, with_part, next_of, put_fault, after_put, gathering_after_reslice, IsGathering, IsPutResult, is_put, after_other, Step, action_of, resliced_by, own_steps, collects_of, slice_of, isolated_run, AreMaps, IsUnder, IsTraceOf, frames_of, IsBookAfter, AreNumbered, some_at, Numbered, are_numbered, numbers_are, RunFault, history_outputs, Placing, Put, Reslice, AssemblyView, puts_of, HaveMade, due_of, outs_of, AreDue, AllAreNumbered, DifferFirst, AreOwnRuns, HistoryStraysAt, ArePut, IsPutStray, IsMapStray, IsFound, AreMerged, is_tick_of, ticks_of, AreTicked, IsOutcome}
use Rattle.std.proofs.lemmas.List.Sums.{sum_by-cons}
use Rattle.std.proofs.lemmas.List.FromFn.{length-range_with_len}
use Rattle.operator_model.specs.declared.action.Action.TheVariants as actions
use Rattle.operator_model.specs.Frames.{is_tick}
use Rattle.operator_model.proofs.FrameLemmas.{run_puts}
use Rattle.run_model.specs.declared.step.Step.TheVariants as steps
use Rattle.plant_workers.specs.declared.receipts.receipt.Receipt.{Receipt}
use Rattle.plant_workers.specs.receipts.Callers.{AreByCallers}
use Rattle.plant_workers.proofs.AuditLemmas.Ahead.{split_at, queue_here, queue_elsewhere, with_length}
use Rattle.plant_workers.proofs.AuditLemmas.Making.{are_maps, nothing_queued}
use Rattle.plant_workers.proofs.AuditLemmas.Differing.{gives_none, gives_some}
use Rattle.plant_workers.proofs.AuditLemmas.Numbered.{take_numbered}
use Rattle.plant_workers.proofs.AuditLemmas.Telling.{book_outputs, answers_are, maps_are, all_under}

-- ---- a book

module _ (plant : PlantFields) (steps : List Step) (i : ℕ) (row : RowFields) (book : BookView) (row_is : book.row ≡ row) (consts_are : book.consts ≡ plant.consts)
    (replay : IsReplay book.consts book.row book.history book.state) where
  replayed : IsReplay plant.consts row book.history book.state
  replayed = subst (λ (c : ConstsFields). IsReplay c row book.history book.state) consts_are (subst (λ (r : RowFields). IsReplay book.consts r book.history book.state) row_is replay)

  book_after : actions_of book.history ≡ own_steps row i steps → IsBookAfter plant steps i row book
  book_after same = record {
    row_is = row_is;
    consts_are = consts_are;
    state_is = replayed.state_is ∙ ap (λ (actions : List Action). (own_run (operator plant.consts row (opened_state plant.consts row)) actions).state) same;
    actions_are = same;
    replay = replayed;
  }

  pub book_told : (o : Option ℕ) → MatchOption o (actions_of book.history ≡ own_steps row i steps) (DifferFirst (actions_of book.history) (own_steps row i steps))
      → MatchOption o (IsBookAfter plant steps i row book) (HistoryStraysAt plant steps i row book)
  book_told None same = book_after same
  book_told (Some index) differ = inr (row_is, consts_are, differ)

-- ---- numbers

book_frames : (plant : PlantFields) (steps : List Step) (i : ℕ) (row : RowFields) (book : BookView) → IsBookAfter plant steps i row book → frames_of (history_outputs book.history) ≡ frames_of (isolated_run plant.consts row i steps).outputs
book_frames plant steps i row book is = ap frames_of (book_outputs plant steps i row book is)

due_numbered : (plant : PlantFields) (steps : List Step) (i : ℕ) (row : RowFields) (book : BookView) → IsBookAfter plant steps i row book → AreNumbered plant.consts.channel.first_frame (due_of steps i book)
due_numbered plant steps i row book is =
    take_numbered plant.consts.channel.first_frame (collects_of i steps) (frames_of (history_outputs book.history))
    (subst (AreNumbered plant.consts.channel.first_frame) (sym (book_frames plant steps i row book is))
    (are_numbered plant.consts row i steps))

-- of each operator the parts are put in the order of their frames
put_next : (g : Gathering) (op frame : ℕ) (part : ElementsFields) (later : List Placing) (made : Option MapBytes) → IsGathering g → put_fault g op frame part ≡ None → IsPutResult g op frame part made
    → (i : ℕ) → i < length g.queues → next_of (after_put g op part) i ≡ g.next + length (queue_of (with_part g.queues op part) i)
put_next g op frame part later None is fits waits i lt =
    ap (λ (h : Gathering). next_of h i) (sym (after_other g op part waits))
put_next g op frame part later (Some made) is fits answer i lt =
    let h : Gathering = record g { queues = map (λ (queue : List ElementsFields). drop 1 queue) (with_part g.queues op part); next = g.next + 1 } in
    let split = split_at (with_part g.queues op part) i answer.0 (omega (arith, lt, with_length g op frame part later is fits)) in
    ap (λ (x : Gathering). next_of x i) (cond-true (is_last g op part) h (record g { queues = with_part g.queues op part }) answer.0)
    ∙ omega (arith, ap length split.rest_is, ap length split.queue_is)

queues_after : (g : Gathering) (op frame : ℕ) (part : ElementsFields) (later : List Placing) (made : Option MapBytes) → IsGathering g → put_fault g op frame part ≡ None → IsPutResult g op frame part made
    → length (after_put g op part).queues ≡ length g.queues
queues_after g op frame part later None is fits waits = ap (λ (h : Gathering). length h.queues) (sym (after_other g op part waits)) ∙ with_length g op frame part later is fits
queues_after g op frame part later (Some made) is fits answer =
    let h : Gathering = record g { queues = map (λ (queue : List ElementsFields). drop 1 queue) (with_part g.queues op part); next = g.next + 1 } in
    ap (λ (x : Gathering). length x.queues) (cond-true (is_last g op part) h (record g { queues = with_part g.queues op part }) answer.0)
    ∙ (length-map (with_part g.queues op part) (λ (queue : List ElementsFields). drop 1 queue) ∙ with_length g op frame part later is fits)

put_numbered : (g : Gathering) (op frame : ℕ) (part : ElementsFields) (later : List Placing) (made : Option MapBytes) → IsGathering g → put_fault g op frame part ≡ None → IsPutResult g op frame part made
    → (i : ℕ) → i < length g.queues → AreNumbered (next_of (after_put g op part) i) (puts_of i later) → AreNumbered (next_of g i) (puts_of i (Put op frame part ∷ later))
put_numbered g op frame part later made is fits answer i lt rest = by (cases_eq i op)
  where
    next : next_of (after_put g op part) i ≡ g.next + length (queue_of (with_part g.queues op part) i)
    next = put_next g op frame part later made is fits answer i lt

    by : (i ≡ op) ⊎ (i ≡ op → ⊥) → AreNumbered (next_of g i) (puts_of i (Put op frame part ∷ later))
    by (inl same) =
        let long = ap length (queue_here g op frame part later is fits i same) in
        let more = length-append (queue_of g.queues i) (part ∷ []) in
        let one : next_of (after_put g op part) i ≡ next_of g i + 1 = omega (arith, next, long, more) in
        let at : frame ≡ next_of g i = (is_put g op frame part fits).frame_is ∙ ap (next_of g) (sym same) in
        rw (eq-eqb op i (sym same)) (at, subst (λ (n : ℕ). AreNumbered n (puts_of i later)) one rest)
    by (inr other) =
        let same_queue = ap length (queue_elsewhere g op frame part later is fits i other) in
        let none : next_of (after_put g op part) i ≡ next_of g i = omega (arith, next, same_queue) in
        rw (ne_eqb op i (λ e. other (sym e))) (subst (λ (n : ℕ). AreNumbered n (puts_of i later)) none rest)

pub puts_numbered : (g : Gathering) (later : List Placing) (maps : List MapBytes) (after : Gathering) → HaveMade g later maps after → (i : ℕ) → i < length g.queues → AreNumbered (next_of g i) (puts_of i later)
puts_numbered g [] maps after h i lt = tt
puts_numbered g (Put op frame part ∷ later) maps after h i lt =
    put_numbered g op frame part later h.0 h.2 h.3 h.4 i lt
    (puts_numbered (after_put g op part) later h.1 after h.6 i (omega (arith, lt, queues_after g op frame part later h.0 h.2 h.3 h.4)))
puts_numbered g (Reslice from rows ∷ later) maps after h i lt = puts_numbered (gathering_after_reslice g from (map slice_of rows)) later maps after h.2 i lt

pub all_numbered : (plant : PlantFields) (steps : List Step) (books : List BookView) (assembly : AssemblyView) → length books ≡ length plant.rows → AreOwnRuns plant steps books → assembly.plant ≡ plant
    → HaveMade (gathering_of assembly.plant) assembly.placings assembly.maps assembly.gathering → AllAreNumbered plant.consts.channel.first_frame steps books assembly.placings
all_numbered plant steps books assembly one_each own same made i book e =
    let within : i < length plant.rows = omega (arith, slice_get_within books i book e, one_each) in
    let row = some_at plant.rows i within in
    let have = subst (λ (p : PlantFields). HaveMade (gathering_of p) assembly.placings assembly.maps assembly.gathering) same made in
    let none : List ElementsFields = [] in
    let queues = length-replicate (length plant.rows) none in
    let start : next_of (gathering_of plant) i ≡ plant.consts.channel.first_frame = omega (arith, ap length (nothing_queued (length plant.rows) i)) in (
      subst (λ (n : ℕ). AreNumbered n (puts_of i assembly.placings)) start
          (puts_numbered (gathering_of plant) assembly.placings assembly.maps assembly.gathering have i (omega (arith, within, queues))),
      due_numbered plant steps i row.0 book (own i row.0 book row.1 e),
    )

-- ---- an assembly

pub map_told : (plant : PlantFields) (steps : List Step) (books : List BookView) (assembly : AssemblyView) → assembly.plant ≡ plant → (o : Option ℕ)
    → MatchOption o (ArePut steps books assembly.placings) (IsPutStray plant.consts.channel.first_frame steps books assembly.placings)
    → MatchOption o ((assembly.plant ≡ plant) × ArePut steps books assembly.placings) (IsMapStray plant steps books assembly)
map_told plant steps books assembly same None put = (same, put)
map_told plant steps books assembly same (Some frame) stray = inr (same, stray)

-- ---- a run

abbrev ticks_in : Option Action → Bool
ticks_in None = false
ticks_in (Some action) = is_tick action

own_ticks : (row : RowFields) (i : ℕ) (step : Step) → ticks_in (action_of row i step) ≡ is_tick_of i step
own_ticks row i (steps.Arrive modem heard) = by (is_listed modem row.modems)
  where
    by : (b : Bool) → ticks_in (if b then Some (actions.Arrive modem heard) else None) ≡ false
    by true = refl
    by false = refl
own_ticks row i (steps.Work op) = by (op == i)
  where
    by : (b : Bool) → ticks_in (if b then Some actions.Work else None) ≡ false
    by true = refl
    by false = refl
own_ticks row i (steps.Tick op) = by (op == i)
  where
    by : (b : Bool) → ticks_in (if b then Some actions.Tick else None) ≡ b
    by true = refl
    by false = refl
own_ticks row i (steps.Collect op) = refl
own_ticks row i (steps.Reslice from rows) = by (slice_get rows i)
  where
    by : (o : Option SliceRow) → ticks_in (resliced_by from o) ≡ false
    by None = refl
    by (Some given) = refl

ticks_more : (row : RowFields) (i : ℕ) (step : Step) (all : List Step) → count_by is_tick (own_steps row i all) ≡ ticks_of i all → count_by is_tick (own_steps row i (step ∷ all)) ≡ ticks_of i (step ∷ all)
ticks_more row i step all rest = by (action_of row i step) refl
  where
    more : ticks_of i (step ∷ all) ≡ cond {A = ℕ} (is_tick_of i step) 1 0 + ticks_of i all
    more = sum_by-cons (λ (s : Step). cond {A = ℕ} (is_tick_of i s) 1 0) step all

    one : (o : Option Action) → action_of row i step ≡ o → cond {A = ℕ} (ticks_in o) 1 0 ≡ cond {A = ℕ} (is_tick_of i step) 1 0
    one o e = ap (λ (b : Bool). cond {A = ℕ} b 1 0) (ap ticks_in (sym e) ∙ own_ticks row i step)

    by : (o : Option Action) → action_of row i step ≡ o → count_by is_tick (own_steps row i (step ∷ all)) ≡ ticks_of i (step ∷ all)
    by None e =
        let same = ap (λ (acts : List Action). count_by is_tick acts) (gives_none (action_of row i) step all e) in
        let none : 0 ≡ cond {A = ℕ} (is_tick_of i step) 1 0 = one None e in
        omega (arith, same, more, none, rest)
    by (Some action) e =
        let same = ap (λ (acts : List Action). count_by is_tick acts) (gives_some (action_of row i) step all action e) in
        let next = sum_by-cons (λ (a : Action). cond {A = ℕ} (is_tick a) 1 0) action (own_steps row i all) in
        let here : cond {A = ℕ} (is_tick action) 1 0 ≡ cond {A = ℕ} (is_tick_of i step) 1 0 = one (Some action) e in
        omega (arith, same, more, next, here, rest)

-- an operator's own machine ticks as often as it does in the steps
ticks_own : (row : RowFields) (i : ℕ) (all : List Step) → count_by is_tick (own_steps row i all) ≡ ticks_of i all
ticks_own row i [] = refl
ticks_own row i (step ∷ all) = ticks_more row i step all (ticks_own row i all)

-- as many frames as ticks
frames_ticked : (plant : PlantFields) (steps : List Step) (i : ℕ) (row : RowFields) → length (frames_of (isolated_run plant.consts row i steps).outputs) ≡ ticks_of i steps
frames_ticked plant steps i row =
    let frames : List Numbered = frames_of (isolated_run plant.consts row i steps).outputs in
    let long = length-map frames (λ (f : Numbered). f.0) in
    let numbers = ap length (numbers_are (isolated_run plant.consts row i steps).outputs ∙ (run_puts plant.consts row (opened_state plant.consts row) (own_steps row i steps)).numbers) in
    let range = length-range_with_len plant.consts.channel.first_frame (count_by is_tick (own_steps row i steps)) in
    omega (arith, long, numbers, range, ticks_own row i steps)

module _ (plant : PlantFields) (steps : List Step) (books : List BookView) (assembly : AssemblyView) (one_each : length books ≡ length plant.rows) (own : AreOwnRuns plant steps books) (same : assembly.plant ≡ plant)
    (put : ArePut steps books assembly.placings) (ticked : AreTicked plant steps) (have : HaveMade (gathering_of assembly.plant) assembly.placings assembly.maps assembly.gathering) (is : IsGathering assembly.gathering) where
  due : AreDue plant steps assembly.placings
  due = record {
    put = λ i row e.
        let book = some_at books i (omega (arith, slice_get_within plant.rows i row e, one_each)) in
        put i book.0 book.1 ∙ ap (λ (fs : List Numbered). take (collects_of i steps) fs) (book_frames plant steps i row book.0 (own i row book.0 e book.1));
    enough = λ i row e. let le = ticked i (slice_get_within plant.rows i row e) in omega (arith, le, frames_ticked plant steps i row);
  }

  maps_made : AreMaps plant steps assembly.maps
  maps_made = are_maps plant steps assembly.placings assembly.maps assembly.gathering due
      (subst (λ (p : PlantFields). HaveMade (gathering_of p) assembly.placings assembly.maps assembly.gathering) same have) is

  pub shown_by : IsTraceOf plant steps (outs_of books assembly.maps)
  shown_by = record {
    answers = λ i row e.
        let book = some_at books i (omega (arith, slice_get_within plant.rows i row e, one_each)) in
        answers_are books assembly.maps i book.0 book.1 ∙ book_outputs plant steps i row book.0 (own i row book.0 e book.1);
    maps = subst (AreMaps plant steps) (sym (maps_are books assembly.maps)) maps_made;
    under_plant = subst (λ (n : ℕ). All (IsUnder n) (outs_of books assembly.maps)) one_each (all_under books assembly.maps);
  }

-- ---- of books that are held elsewhere

module _ {X : Type 0} (f : X → BookView) (xs ys : List X) (same_list : xs ≡ ys) (plant : PlantFields) (steps : List Step) (assembly : AssemblyView) where
  pub fault_of_these : (fault : RunFault) → IsFound plant steps (map f xs) assembly fault → IsFound plant steps (map f ys) assembly fault
  fault_of_these fault = subst (λ (zs : List X). IsFound plant steps (map f zs) assembly fault) same_list

  pub outcome_of_these : (receipts : List (List (List Receipt))) (maps : List MapBytes) → length xs ≡ length plant.rows → length receipts ≡ length xs → AreMerged (map f ys) receipts → All AreByCallers receipts → AreTicked plant steps
      → HaveMade (gathering_of assembly.plant) assembly.placings assembly.maps assembly.gathering → IsGathering assembly.gathering → maps ≡ assembly.maps
      → AreOwnRuns plant steps (map f xs) × (assembly.plant ≡ plant) × ArePut steps (map f xs) assembly.placings → IsOutcome plant steps (map f ys) receipts maps
  outcome_of_these receipts maps long callers merged by_callers ticked have is maps_same told =
      let told' : AreOwnRuns plant steps (map f ys) × (assembly.plant ≡ plant) × ArePut steps (map f ys) assembly.placings =
      subst (λ (zs : List X). AreOwnRuns plant steps (map f zs) × (assembly.plant ≡ plant) × ArePut steps (map f zs) assembly.placings) same_list told in
      let one_each : length (map f ys) ≡ length plant.rows = length-map ys f ∙ (sym (ap length same_list) ∙ long) in
      record {
        one_each = one_each;
        callers_each = callers ∙ (ap length same_list ∙ sym (length-map ys f));
        own = told'.0;
        by_callers = by_callers;
        merge = merged;
        shown = subst (λ (ms : List MapBytes). IsTraceOf plant steps (outs_of (map f ys) ms)) (sym maps_same) (shown_by plant steps (map f ys) assembly one_each told'.0 told'.1 told'.2 ticked have is);
      }
