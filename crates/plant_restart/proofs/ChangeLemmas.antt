-- A plant is changed whose operators go on by their names.
use Rattle.std.proofs.Common.{◌≡◌, ℕ, suc, List, [], ◌∷◌, length, map, Option, Some, option_map, refl, sym, ap, subst, ◌∙◌, arith}
use Rattle.plant_restart.proofs.Common.{slice_get, ◌≢◌, AllByRecursion, map-id, slice_get-map, slice_get_within, SavedOperator, RowFields, PlantFields, KeepsConsts, OperatorState, Operator, opened_state, BookView, PairsByRecursion, pairs_from_AllPairs, pairs-map, Start, CoreView, IsPlantChange, IsAfterFrom, Rests, HaveOwnNames, own_state, map_is, over_map, state_under, state_or_opened, operator_by_name, operators_by_name, start_by_name, RestartFault, NoMemory, state_of_book, states_by_name, saved_book, saved_by_name, IsRestarted, IsRestartFault, CanRestart}
use Rattle.plant.specs.Plant.{IsPlant}
use Rattle.map_assembly.specs.Gathering.{IsGathering}
use Rattle.run_model.specs.declared.step.Step.{Step}
use Rattle.run_model.specs.declared.step.Out.{Out}
use Rattle.run_model.proofs.Entries.{some_at}
use Rattle.plant_core.proofs.LiveLemmas.RestLemmas.{book_at_place, stands_now, rests_at}
use Rattle.plant_restart.specs.declared.fault.ChangeFault.TheVariants.{Restart}
use Rattle.plant_restart.specs.Changing.{IsChangeOf, IsChangeRefused, CanChange}
use Rattle.plant_restart.proofs.NameLemmas.{state_there, no_state}
use Rattle.plant_restart.proofs.RefusalLemmas.{memory_alone}
use Rattle.plant_restart.proofs.SaveLemmas.{states_saved}

each_place : {X : Type 0} (P : X → Type 0) (xs : List X) → ((i : ℕ) (x : X) → slice_get xs i ≡ Some x → P x) → AllByRecursion P xs
each_place P [] h = tt
each_place P (x ∷ xs) h = (h 0 x refl, each_place P xs (λ i y e. h (suc i) y e))

-- ---- the state of each row of the new plant

module _ (next : PlantFields) (frame : ℕ) (states : List (List ℕ × OperatorState)) (valid : IsPlant next) where
  abbrev ops : List Operator
  ops = operators_by_name next frame states

  own_names : HaveOwnNames ops
  own_names =
      subst (λ (rows : List RowFields). PairsByRecursion (λ (a b : RowFields). a.name ≢ b.name) rows)
      (sym (over_map (λ (o : Operator). o.row) (operator_by_name next.consts frame states) next.rows ∙ map-id next.rows))
      (pairs_from_AllPairs (λ (a b : RowFields). a.name ≢ b.name) next.rows valid.names)

  state_of_row : (j : ℕ) (row : RowFields) → slice_get next.rows j ≡ Some row → (start_by_name next frame states).state row ≡ state_or_opened frame next.consts row (state_under states row.name)
  state_of_row j row there =
      own_state ops (opened_state next.consts row) j (operator_by_name next.consts frame states row) own_names
      (slice_get-map (operator_by_name next.consts frame states) next.rows j ∙ ap (option_map (operator_by_name next.consts frame states)) there)

-- ---- the change, after a run that led to the old core

module _ (old new : CoreView) (next : PlantFields) (frame : ℕ) (valid : IsPlant old.plant) (next_valid : IsPlant next) (shared : KeepsConsts old.plant.consts next.consts) (rests : Rests old frame)
    (is : IsRestarted next frame (states_by_name old) new) (held : IsGathering new.gathering) where
  module _ (was : PlantFields) (start : Start) (before : List Step) (told : List Out) (after : IsAfterFrom was start before told old) where
    same_plant : old.plant ≡ was
    same_plant = after.plant_is

    as_many : length old.books ≡ length was.rows
    as_many = after.one_book

    row_there : (i : ℕ) (book : BookView) → slice_get old.books i ≡ Some book → slice_get was.rows i ≡ Some book.row
    row_there i book here =
        let within = slice_get_within old.books i book here in
        let row = some_at was.rows i (omega (arith, within, as_many)) in
        let stands = stands_now was start before told old after i row.0 book row.1 here in
        row.1 ∙ ap (λ (r : RowFields). let o : Option RowFields = Some r in o) (sym stands.0)

    rows_are : map (λ (book : BookView). book.row) old.books ≡ was.rows
    rows_are = map_is (λ (book : BookView). book.row) old.books was.rows as_many row_there

    own_books : PairsByRecursion (λ (a b : BookView). (state_of_book a).0 ≢ (state_of_book b).0) old.books
    own_books =
        pairs-map (λ (a b : RowFields). a.name ≢ b.name) (λ (book : BookView). book.row) old.books
        (subst (λ (rows : List RowFields). PairsByRecursion (λ (a b : RowFields). a.name ≢ b.name) rows) (sym rows_are)
        (pairs_from_AllPairs (λ (a b : RowFields). a.name ≢ b.name) was.rows (subst IsPlant same_plant valid).names))

    changes_from : IsPlantChange (record { plant = was; start = start; steps = before; outs = told }) (record { plant = next; start = start_by_name next frame (states_by_name old); steps = []; outs = [] })
    changes_from = record {
      rests = rests_at was start before told old after frame rests;
      shared = subst (λ (p : PlantFields). KeepsConsts p.consts next.consts) same_plant shared;
      starts = is.reached.starts;
      slices = subst (λ (v : CoreView). IsGathering v.gathering) is.is_started held;
      go_on = λ i j w row here there same.
          let book = book_at_place was start before told old after i w here in
          let found = state_there state_of_book old.books i book.book row.name own_books book.held (ap (λ (r : RowFields). r.name) book.row_is ∙ same) in
          state_of_row next frame (states_by_name old) next_valid j row there ∙ (ap (state_or_opened frame next.consts row) found ∙ book.state_is);
      open_anew = λ j row there fresh.
          let none = no_state state_of_book old.books row.name
          (each_place (λ (book : BookView). (state_of_book book).0 ≢ row.name) old.books (λ i book here. fresh i book.row (row_there i book here))) in
          state_of_row next frame (states_by_name old) next_valid j row there ∙ ap (state_or_opened frame next.consts row) none;
      nothing_done = (refl, refl);
    }

  pub change_of : IsChangeOf old next new
  change_of = record {
    frame = frame;
    rests = rests;
    is_restarted = is;
    changes = changes_from;
  }

-- ---- from the operators as they are saved

module _ (old : CoreView) (plant : PlantFields) (frame : ℕ) (shared : KeepsConsts old.plant.consts plant.consts) (rests : Rests old frame) (operators : List SavedOperator) (are : operators ≡ map saved_book old.books) where
  pub saved_change : (new : CoreView) → IsPlant old.plant → IsPlant plant → IsRestarted plant frame (map (saved_by_name frame) operators) new → IsGathering new.gathering → IsChangeOf old plant new
  saved_change new valid next_valid is held =
      change_of old new plant frame valid next_valid shared rests
      (subst (λ (states : List (List ℕ × OperatorState)). IsRestarted plant frame states new) (states_saved old frame operators are rests) is) held

  module _ (why : RestartFault) (is : IsRestartFault plant frame (map (saved_by_name frame) operators) why) where
    fault_here : IsRestartFault plant frame (states_by_name old) why
    fault_here = subst (λ (states : List (List ℕ × OperatorState)). IsRestartFault plant frame states why) (states_saved old frame operators are rests) is

    pub change_refused : IsChangeRefused old plant why
    change_refused = record {
      frame = frame;
      rests = rests;
      shared = shared;
      is = fault_here;
    }

    pub change_memory : (can : CanChange old plant) → frame ≡ can.frame → Restart why ≡ Restart NoMemory
    change_memory can same =
        ap (λ (f : RestartFault). Restart f)
        (memory_alone plant frame (states_by_name old) why
        (subst (λ (n : ℕ). CanRestart plant n (states_by_name old)) (sym same) can.can) fault_here)
