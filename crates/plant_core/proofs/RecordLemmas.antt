-- The record of a core follows what a step makes of the core.
use Rattle.std.proofs.Common.{◌≡◌, ℕ, suc, ◌<◌, List, get_or, [], ◌∷◌, ◌++◌, length, map, take, drop, ◌-◌, slice_set, Some, option_map, if◌then◌else◌, Bool, true, false, Result, Ok, Err, OnOk, OnErr, length-append, refl, sym, ap, ap₂, subst, ◌∙◌, arith}
use Rattle.plant_core.proofs.Common.{slice_get, map-set, map-append, length-map, drop_at, take-append-drop, slice_get-map, slice_get_within, same_Some, ElementsFields, RowFields, PlantFields, SliceRow, Action, Entry, Output, own_step, BookView, operator_of_book, book_after_action, HeldHistory, Gathering, is_last, IsGathering, Out, CoreView, Acts, Collects, Reslices, forgotten, IsOf, Performs, ActPlan, IsActPlan, seen_at, set_alike, SliceChange, with_histories, reslicing_of, recorded_gathering, recorded_view, IsRecordOf, histories_after_reslice}
use Rattle.slice_scheduler.specs.Minislots.{Minislots}
use Rattle.operator_model.specs.declared.action.Action.TheVariants as actions
use Rattle.map_assembly.specs.declared.slicing.Reslicing.{Reslicing}
use Rattle.map_assembly.specs.LettingGo.{GoesOnAlike}
use Rattle.run_model.proofs.Moving.{silent}
use Rattle.plant_core.proofs.LiveLemmas.GoLemmas.{acts_go, collects_go, reslices_go}
use Rattle.plant_core.proofs.LiveLemmas.AlikeLemmas.{held_on}

abbrev history_of : BookView → List Entry
history_of book = book.history

abbrev slices_of : PlantFields → List Minislots
slices_of plant = map (λ (row : RowFields). row.slice) plant.rows

-- ---- books with their histories

-- the histories of books that are given these
pub histories_are : (books : List BookView) (histories : List (List Entry)) → length histories ≡ length books → map (λ (book : BookView). book.history) (with_histories books histories) ≡ histories
histories_are [] [] one_each = refl
histories_are [] (history ∷ histories) one_each = absurd (omega (arith, one_each))
histories_are (book ∷ books) [] one_each = absurd (omega (arith, one_each))
histories_are (book ∷ books) (history ∷ histories) one_each = ap (λ (hs : List (List Entry)). history ∷ hs) (histories_are books histories (omega (arith, one_each)))

-- a history among them
pub history_at : (books : List BookView) (histories : List HeldHistory) (op : ℕ) → length (map (λ (history : HeldHistory). history.entries) histories) ≡ length books
    → option_map (λ (book : BookView). book.history) (slice_get (with_histories books (map (λ (history : HeldHistory). history.entries) histories)) op) ≡ option_map (λ (history : HeldHistory). history.entries) (slice_get histories op)
history_at books histories op one_each =
    sym (slice_get-map history_of (with_histories books (map (λ (history : HeldHistory). history.entries) histories)) op)
    ∙ (ap (λ (hs : List (List Entry)). slice_get hs op) (histories_are books (map (λ (history : HeldHistory). history.entries) histories) one_each)
    ∙ slice_get-map (λ (history : HeldHistory). history.entries) histories op)

-- books that are given their own histories back
given_back : (books : List BookView) → with_histories (map forgotten books) (map history_of books) ≡ books
given_back [] = refl
given_back (book ∷ books) = ap (λ (bs : List BookView). book ∷ bs) (given_back books)

-- ---- a core after a step

-- the core with histories is what is seen of the live core next to its record
view_is : (live after : CoreView) (histories : List (List Entry)) (changes : List SliceChange) → IsOf live after → map history_of after.books ≡ histories
    → after.gathering.slices ≡ slices_of after.plant → after.gathering.reslicings ≡ map reslicing_of changes → recorded_view live histories changes ≡ after
view_is live after histories changes is all slices reslicings = λ k. record {
  plant = sym is.plant_is k;
  books = (ap₂ with_histories (sym is.books_are) (sym all) ∙ given_back after.books) k;
  queues = sym is.queues_are k;
  gathering = record {
    channel = is.gathering_is.channel_is k;
    quotas = is.gathering_is.quotas_are k;
    slices = (ap slices_of (sym is.plant_is) ∙ sym slices) k;
    reslicings = sym reslicings k;
    queues = is.gathering_is.queues_are k;
    next = is.gathering_is.next_is k;
  };
}

-- a step has made this of a core and of its record
pub record IsRecorded (does : CoreView → CoreView → List Out → Type 0) (old live : CoreView) (histories : List (List Entry)) (changes : List SliceChange) (now : List Out) : Type 0 where
  pub belongs : IsRecordOf live histories changes
  pub done : does old (recorded_view live histories changes) now

-- what is held of the core that has the record
pub is_of : (live : CoreView) (histories : List (List Entry)) (changes : List SliceChange) → IsGathering live.gathering → IsRecordOf live histories changes → IsOf live (recorded_view live histories changes)
is_of live histories changes held is = record {
  plant_is = refl;
  books_are = is.books_are;
  queues_are = refl;
  gathering_is = alike;
  held = held_on (recorded_gathering live changes) live.gathering alike is.first_are is.later_are held;
}
  where
    gone : ℕ
    gone = length changes - length live.gathering.reslicings

    alike : GoesOnAlike (recorded_gathering live changes) live.gathering
    alike = record {
      channel_is = refl;
      quotas_are = refl;
      queues_are = refl;
      next_is = refl;
      left = (take gone (map reslicing_of changes), sym (take-append-drop gone (map reslicing_of changes)) ∙ ap (λ (rs : List Reslicing). take gone (map reslicing_of changes) ++ rs) is.left);
      slices_are = is.slices_are;
    }

-- so the record belongs to what is held
pub belongs : (live : CoreView) (histories : List (List Entry)) (changes : List SliceChange) → length histories ≡ length live.books → IsOf live (recorded_view live histories changes) → IsRecordOf live histories changes
belongs live histories changes one_each is =
    let left = is.gathering_is.left in
    record {
      one_each = one_each;
      books_are = is.books_are;
      left = ap (drop (length changes - length live.gathering.reslicings)) left.1
          ∙ drop_at left.0 live.gathering.reslicings (length changes - length live.gathering.reslicings)
          (omega (arith, sym (length-map changes reslicing_of), ap (λ (rs : List Reslicing). length rs) left.1, length-append left.0 live.gathering.reslicings));
      slices_are = is.gathering_is.slices_are;
      first_are = is.held.slices_are;
      later_are = is.held.reslicings_are;
    }

follows : (does : CoreView → CoreView → List Out → Type 0) (old live after : CoreView) (histories : List (List Entry)) (changes : List SliceChange) (now : List Out) → does old after now → IsOf live after
    → map history_of after.books ≡ histories → after.gathering.slices ≡ slices_of after.plant → after.gathering.reslicings ≡ map reslicing_of changes → IsRecorded does old live histories changes now
follows does old live after histories changes now did is all slices reslicings =
    let same = view_is live after histories changes is all slices reslicings in
    record {
      belongs = belongs live histories changes
          (sym (ap (λ (hs : List (List Entry)). length hs) all) ∙ (length-map after.books history_of ∙ (sym (length-map after.books forgotten) ∙ ap (λ (bs : List BookView). length bs) is.books_are)))
          (subst (λ (core : CoreView). IsOf live core) (sym same) is);
      done = subst (λ (core : CoreView). does old core now) (sym same) did;
    }

module _ (live live' : CoreView) (histories : List (List Entry)) (changes : List SliceChange) (now : List Out) (held : IsGathering live.gathering) (is : IsRecordOf live histories changes) where
  abbrev old : CoreView
  old = recorded_view live histories changes

  old_histories : map history_of old.books ≡ histories
  old_histories = histories_are live.books histories is.one_each

  -- an action, with its entry
  pub acts_recorded : (op : ℕ) (action : Action) (history : List Entry) (outputs : List Output) → slice_get histories op ≡ Some history
      → ((book : BookView) → slice_get old.books op ≡ Some book → outputs ≡ (own_step (operator_of_book book) action).outputs) → Performs (Acts op action) live live' now
      → IsRecorded (Acts op action) old live' (slice_set histories op (history ++ record { action = action; outputs = outputs } ∷ [])) changes now
  acts_recorded op action history outputs there told performs =
      let did = acts_go op action live live' now performs old (is_of live histories changes held is) in
      let acts = did.1 in
      let after = did.0 in
      let history_is : acts.book.history ≡ history =
      same_Some acts.book.history history (sym (slice_get-map history_of old.books op ∙ ap (option_map history_of) acts.book_is) ∙ (ap (λ (hs : List (List Entry)). slice_get hs op) old_histories ∙ there)) in
      follows (Acts op action) old live' after (slice_set histories op (history ++ record { action = action; outputs = outputs } ∷ [])) changes now acts did.2
      (ap (λ (core : CoreView). map history_of core.books) acts.new_is
      ∙ (map-set history_of old.books op (book_after_action acts.book action)
      ∙ (λ k. slice_set (old_histories k) op (history_is k ++ record { action = action; outputs = sym (told acts.book acts.book_is) k } ∷ []))))
      (ap (λ (core : CoreView). core.gathering.slices) acts.new_is ∙ sym (ap (λ (core : CoreView). slices_of core.plant) acts.new_is))
      (ap (λ (core : CoreView). core.gathering.reslicings) acts.new_is)

  -- a collection, of which nothing is recorded
  pub collects_recorded : (op : ℕ) → Performs (Collects op) live live' now → IsRecorded (Collects op) old live' histories changes now
  collects_recorded op performs =
      let did = collects_go op live live' now performs old (is_of live histories changes held is) in
      let put = did.1 in
      let after = did.0 in
      follows (Collects op) old live' after histories changes now put did.2
      (ap (λ (core : CoreView). map history_of core.books) put.new_is ∙ old_histories)
      (ap (λ (core : CoreView). core.gathering.slices) put.new_is ∙ (slices_kept _ _ _ (is_last old.gathering op put.part) ∙ sym (ap (λ (core : CoreView). slices_of core.plant) put.new_is)))
      (ap (λ (core : CoreView). core.gathering.reslicings) put.new_is ∙ reslicings_kept _ _ _ (is_last old.gathering op put.part))
    where
      slices_kept : (queues queues' : List (List ElementsFields)) (next : ℕ) (last : Bool) → (if last then record old.gathering { queues = queues; next = next } else record old.gathering { queues = queues' }).slices ≡ old.gathering.slices
      slices_kept queues queues' next true = refl
      slices_kept queues queues' next false = refl

      reslicings_kept : (queues queues' : List (List ElementsFields)) (next : ℕ) (last : Bool) → (if last then record old.gathering { queues = queues; next = next } else record old.gathering { queues = queues' }).reslicings ≡ old.gathering.reslicings
      reslicings_kept queues queues' next true = refl
      reslicings_kept queues queues' next false = refl

  -- a slice change, with an entry of each operator
  pub reslices_recorded : (from : ℕ) (rows : List SliceRow) (histories' : List (List Entry)) (more : List SliceChange) → histories' ≡ histories_after_reslice from rows histories
      → more ≡ changes ++ record { from = from; rows = rows } ∷ [] → Performs (Reslices from rows) live live' now → IsRecorded (Reslices from rows) old live' histories' more now
  reslices_recorded from rows histories' more told more_is performs =
      let did = reslices_go from rows live live' now performs old (is_of live histories changes held is) in
      let given = did.1 in
      let after = did.0 in
      follows (Reslices from rows) old live' after histories' more now given did.2
      (taken from old.books after.books rows given.one_each given.books given.acted_is ∙ (ap (histories_after_reslice from rows) old_histories ∙ sym told))
      (ap (λ (g : Gathering). g.slices) given.gathering_is ∙ ap slices_of (sym given.plant_is))
      (ap (λ (g : Gathering). g.reslicings) given.gathering_is ∙ sym (ap (map reslicing_of) more_is ∙ map-append reslicing_of changes (record { from = from; rows = rows } ∷ [])))
    where
      taken : (from : ℕ) (books books' : List BookView) (rows : List SliceRow) → length rows ≡ length books → length books' ≡ length books
          → ((i : ℕ) (row : SliceRow) (book : BookView) → slice_get rows i ≡ Some row → slice_get books i ≡ Some book → slice_get books' i ≡ Some (book_after_action book (actions.Reslice from row)))
          → map history_of books' ≡ histories_after_reslice from rows (map history_of books)
      taken from [] [] [] one_each long each = refl
      taken from [] [] (row ∷ rows) one_each long each = absurd (omega (arith, one_each))
      taken from [] (book' ∷ books') rows one_each long each = absurd (omega (arith, long))
      taken from (book ∷ books) books' [] one_each long each = absurd (omega (arith, one_each))
      taken from (book ∷ books) [] (row ∷ rows) one_each long each = absurd (omega (arith, long))
      taken from (book ∷ books) (book' ∷ books') (row ∷ rows) one_each long each =
          let one = same_Some book' (book_after_action book (actions.Reslice from row)) (each 0 row book refl refl) in
          ap₂ (λ (h : List Entry) (hs : List (List Entry)). h ∷ hs)
          (ap history_of one ∙ (λ k. book.history ++ record { action = actions.Reslice from row; outputs = silent book.consts book.row book.state from row k } ∷ []))
          (taken from books books' rows (omega (arith, one_each)) (omega (arith, long)) (λ i r b e f. each (suc i) r b e f))

-- ---- nothing has changed

pub still_belongs : (live live' : CoreView) (histories histories' : List (List Entry)) (changes : List SliceChange) → live' ≡ live → histories' ≡ histories → IsRecordOf live histories changes → IsRecordOf live' histories' changes
still_belongs live live' histories histories' changes same alike is = subst (λ (hs : List (List Entry)). IsRecordOf live' hs changes) (sym alike) (subst (λ (l : CoreView). IsRecordOf l histories changes) (sym same) is)

pub same_view : (live live' : CoreView) (histories histories' : List (List Entry)) (changes : List SliceChange) → live' ≡ live → histories' ≡ histories → recorded_view live' histories' changes ≡ recorded_view live histories changes
same_view live live' histories histories' changes same alike = ap₂ (λ (l : CoreView) (hs : List (List Entry)). recorded_view l hs changes) same alike

-- ---- the history of one operator

abbrev entries_of : HeldHistory → List Entry
entries_of history = history.entries

-- an operator whose book is there has a history
pub has_history : (books : List BookView) (histories : List HeldHistory) (n op : ℕ) (book : BookView) → length (map (λ (history : HeldHistory). history.entries) histories) ≡ length books → n ≡ length histories
    → slice_get (with_histories books (map (λ (history : HeldHistory). history.entries) histories)) op ≡ Some book → op < n
has_history books histories n op book one_each long there =
    let hs = map entries_of histories in
    omega (
      arith,
      long,
      length-map histories entries_of,
      slice_get_within (with_histories books hs) op book there,
      length-map (with_histories books hs) history_of,
      ap (λ (es : List (List Entry)). length es) (histories_are books hs one_each),
    )

-- a history that has the same entries as before
pub alike_at : (histories : List HeldHistory) (n op : ℕ) (history new : HeldHistory) → n ≡ length histories → op < n → history ≡ get_or histories op history → new.entries ≡ history.entries
    → map (λ (h : HeldHistory). h.entries) (slice_set histories op new) ≡ map (λ (h : HeldHistory). h.entries) histories
alike_at histories n op history new long within is same = set_alike entries_of histories op new history.entries (seen_at entries_of histories n op history long within is) same

-- the entry of an action that was planned
pub act_recorded : (live live' : CoreView) (histories : List HeldHistory) (changes : List SliceChange) (now : List Out) → IsGathering live.gathering → IsRecordOf live (map (λ (h : HeldHistory). h.entries) histories) changes
    → (op : ℕ) (action : Action) (act : ActPlan) → IsActPlan (recorded_view live (map (λ (h : HeldHistory). h.entries) histories) changes) op action act
    → (n : ℕ) (history room new : HeldHistory) (outputs : List Output) → n ≡ length histories → op < n → history ≡ get_or histories op history → room.entries ≡ history.entries
    → new.entries ≡ room.entries ++ record { action = action; outputs = outputs } ∷ [] → outputs ≡ act.plan.outputs.items → Performs (Acts op action) live live' now
    → IsRecorded (Acts op action) (recorded_view live (map (λ (h : HeldHistory). h.entries) histories) changes) live' (map (λ (h : HeldHistory). h.entries) (slice_set histories op new)) changes now
act_recorded live live' histories changes now held is op action act plan n history room new outputs long within at same put told performs =
    let core = recorded_view live (map entries_of histories) changes in
    subst (λ (hs : List (List Entry)). IsRecorded (Acts op action) core live' hs changes now)
    (sym (map-set entries_of histories op new ∙ ap (slice_set (map entries_of histories) op) (put ∙ ap (λ (es : List Entry). es ++ record { action = action; outputs = outputs } ∷ []) same)))
    (acts_recorded live live' (map entries_of histories) changes now held is op action history.entries outputs (seen_at entries_of histories n op history long within at)
    (λ book there. told ∙ (plan.plan_is.outputs ∙ (λ k. (own_step (operator_of_book (same_Some plan.book book (sym plan.book_is ∙ there) k)) action).outputs)))
    performs)

-- ---- whether a frame was collected or refused

pub collected_belongs : {A E : Type 0} (result : Result A E) (live live' : CoreView) (histories : List (List Entry)) (changes : List SliceChange) (op : ℕ) (outs outs' : List Out) → IsGathering live.gathering → IsRecordOf live histories changes
    → OnOk result ((now : List Out) × (outs' ≡ outs ++ now) × Performs (Collects op) live live' now) → OnErr result (live' ≡ live) → IsRecordOf live' histories changes
collected_belongs (Ok x) live live' histories changes op outs outs' held is done same = (collects_recorded live live' histories changes done.0 held is op done.2).belongs
collected_belongs (Err y) live live' histories changes op outs outs' held is done same = still_belongs live live' histories histories changes same refl is

pub collected : {A E : Type 0} (result : Result A E) (live live' : CoreView) (histories : List (List Entry)) (changes : List SliceChange) (op : ℕ) (outs outs' : List Out) → IsGathering live.gathering → IsRecordOf live histories changes
    → OnOk result ((now : List Out) × (outs' ≡ outs ++ now) × Performs (Collects op) live live' now)
    → OnOk result ((now : List Out) × (outs' ≡ outs ++ now) × Collects op (recorded_view live histories changes) (recorded_view live' histories changes) now)
collected (Ok x) live live' histories changes op outs outs' held is done = (done.0, done.1, (collects_recorded live live' histories changes done.0 held is op done.2).done)
collected (Err y) live live' histories changes op outs outs' held is done = tt
