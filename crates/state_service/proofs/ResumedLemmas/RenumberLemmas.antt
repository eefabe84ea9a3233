-- A core that goes on from its snapshot under other frame numbers.
use Rattle.std.proofs.Common.{◌≡◌, ◌≢◌, ℕ, ◌==◌, Bool, true, false, cond, not, List, [], ◌∷◌, length, map, Option, Some, None, refl, sym, ap, subst, ◌∙◌, arith, option_map}
use Rattle.state_service.proofs.ResumedLemmas.Common.{slice_get, bytes_eq, map-id, bytes_eq-Decides, RowFields, PlantFields, IsPlant, OperatorState, Operator, opened_state, BookView, Step, Out, Start, CoreView, RunSoFar, state_now, IsAfterFrom, Snapshot, states_of, state_under, state_or_opened, operator_by_name, operators_by_name, start_by_name, state_of_book, states_by_name, saved_book, IsRestarted, begun_from, saved_core, IsCoreRenumbered, IsRunRenumbered}
use Rattle.std.specs.List.{AllZip, list_all}
use Rattle.std.proofs.lemmas.Bool.{eqb-true}
use Rattle.std.proofs.lemmas.Option.{none-some, same_Some, slice_get-map, slice_get_within}
use Rattle.plant.specs.declared.consts.ConstsFields.{ConstsFields}
use Rattle.map_assembly.specs.Map.{frame_start}
use Rattle.map_assembly.proofs.OrderLemmas.{PairsByRecursion, pairs_from_AllPairs, pairs-map}
use Rattle.run_model.proofs.Entries.{some_at}
use Rattle.plant_core.proofs.LiveLemmas.ResumeLemmas.{HaveOwnNames, own_state, map_is, over_map}
use Rattle.plant_core.proofs.LiveLemmas.RestLemmas.{book_at_place, stands_now, rests_at}
use Rattle.plant_restart.proofs.NameLemmas.{found_first, passed_over, state_there}
use Rattle.plant_restart.proofs.SaveLemmas.{states_saved}
use Rattle.frame_numbers.specs.declared.fault.RenumberFault.{RenumberFault}
use Rattle.frame_numbers.specs.declared.fault.RenumberFault.TheVariants.{TimeSteps, TooLow, TooHigh}
use Rattle.frame_numbers.specs.Renumbered.{IsRenumbered}
use Rattle.frame_numbers.specs.Numbering.{flows_fit, next_fits, renumber_refusal, IsRenumberedUnder}
use Rattle.frame_numbers.specs.Time.{KeepsTime}

-- ---- the Alloc Start Time

pub time_kept : (consts : ConstsFields) (to : ℕ) (saved : Snapshot) → renumber_refusal consts to saved ≡ None → KeepsTime consts.channel saved.frame to
time_kept consts to saved none = by (frame_start consts.channel to == frame_start consts.channel saved.frame) refl none
  where
    rest : Option RenumberFault
    rest = cond (not (list_all (flows_fit consts.units saved.frame to) saved.operators)) (Some TooLow) (cond (not (list_all (next_fits saved.frame to) saved.operators)) (Some TooHigh) None)

    by : (b : Bool) → (frame_start consts.channel to == frame_start consts.channel saved.frame) ≡ b → cond (not b) (Some TimeSteps) rest ≡ None → KeepsTime consts.channel saved.frame to
    by true is none = eqb-true (frame_start consts.channel to) (frame_start consts.channel saved.frame) is
    by false is none = cc

-- ---- the state under a name

module _ (consts : ConstsFields) (name : List ℕ) (state : OperatorState) where
  -- what the state under the name is renumbered to
  pub record IsFound (others : List (List ℕ × OperatorState)) : Type 0 where
    pub other : OperatorState
    pub other_is : state_under others name ≡ Some other
    pub renumbered : IsRenumbered consts.units state other

  pub found : (states others : List (List ℕ × OperatorState)) → AllZip (IsRenumberedUnder consts.units) states others → state_under states name ≡ Some state → IsFound others
  found [] others are is = let f : ◌≡◌ {A = Option OperatorState} None (Some state) = is in absurd (none-some state f)
  found (one ∷ states) [] are is = absurd are
  found (one ∷ states) (other ∷ others) are is = by (bytes_eq one.0 name) refl (found states others are.1)
    where
      by : (b : Bool) → bytes_eq one.0 name ≡ b → (state_under states name ≡ Some state → IsFound others) → IsFound (other ∷ others)
      by true e more =
          let here : one.0 ≡ name = (bytes_eq-Decides one.0 name).0 e in
          let same : one.1 ≡ state = same_Some one.1 state (sym (found_first one states name here) ∙ is) in
          record {
            other = other.1;
            other_is = found_first other others name (are.0.name ∙ here);
            renumbered = subst (λ (s : OperatorState). IsRenumbered consts.units s other.1) same are.0.state;
          }
      by false e more =
          let away : one.0 ≢ name = λ here. let wrong : false ≡ true = sym e ∙ (bytes_eq-Decides one.0 name).1 here in cc in
          let later = more (sym (passed_over one states name away) ∙ is) in
          record {
            other = later.other;
            other_is = passed_over other others name (λ here. away (sym are.0.name ∙ here)) ∙ later.other_is;
            renumbered = later.renumbered;
          }

-- ---- the state of each row

module _ (plant : PlantFields) (frame : ℕ) (states : List (List ℕ × OperatorState)) (valid : IsPlant plant) where
  own_names : HaveOwnNames (operators_by_name plant frame states)
  own_names =
      subst (λ (rows : List RowFields). PairsByRecursion (λ (a b : RowFields). a.name ≢ b.name) rows)
      (sym (over_map (λ (o : Operator). o.row) (operator_by_name plant.consts frame states) plant.rows ∙ map-id plant.rows))
      (pairs_from_AllPairs (λ (a b : RowFields). a.name ≢ b.name) plant.rows valid.names)

  state_of_row : (i : ℕ) (row : RowFields) → slice_get plant.rows i ≡ Some row → (start_by_name plant frame states).state row ≡ state_or_opened frame plant.consts row (state_under states row.name)
  state_of_row i row there =
      own_state (operators_by_name plant frame states) (opened_state plant.consts row) i (operator_by_name plant.consts frame states row) own_names
      (slice_get-map (operator_by_name plant.consts frame states) plant.rows i ∙ ap (option_map (operator_by_name plant.consts frame states)) there)

-- ---- the run

module _ (live : CoreView) (plant : PlantFields) (start : Start) (before : List Step) (told : List Out) (valid : IsPlant plant) (after : IsAfterFrom plant start before told live) where
  pub same_plant : live.plant ≡ plant
  same_plant = after.plant_is

  as_many : length live.books ≡ length plant.rows
  as_many = after.one_book

  row_there : (i : ℕ) (book : BookView) → slice_get live.books i ≡ Some book → slice_get plant.rows i ≡ Some book.row
  row_there i book here =
      let row = some_at plant.rows i (omega (arith, slice_get_within live.books i book here, as_many)) in
      let stands = stands_now plant start before told live after i row.0 book row.1 here in
      row.1 ∙ ap (λ (r : RowFields). let o : Option RowFields = Some r in o) (sym stands.0)

  rows_are : map (λ (book : BookView). book.row) live.books ≡ plant.rows
  rows_are = map_is (λ (book : BookView). book.row) live.books plant.rows as_many row_there

  own_books : PairsByRecursion (λ (a b : BookView). (state_of_book a).0 ≢ (state_of_book b).0) live.books
  own_books =
      pairs-map (λ (a b : RowFields). a.name ≢ b.name) (λ (book : BookView). book.row) live.books
      (subst (λ (rows : List RowFields). PairsByRecursion (λ (a b : RowFields). a.name ≢ b.name) rows) (sym rows_are)
      (pairs_from_AllPairs (λ (a b : RowFields). a.name ≢ b.name) plant.rows valid.names))

  abbrev run : RunSoFar
  run = record { plant = plant; start = start; steps = before; outs = told }

  module _ (file : List ℕ) (other : Snapshot) (new : CoreView) (is : IsCoreRenumbered file live other.frame other) (restarted : IsRestarted plant other.frame (states_of other) new) where
    states_are : AllZip (IsRenumberedUnder plant.consts.units) (states_by_name live) (states_of other)
    states_are =
        subst (λ (states : List (List ℕ × OperatorState)). AllZip (IsRenumberedUnder plant.consts.units) states (states_of other)) (states_saved live is.frame (map saved_book live.books) refl is.rests)
        (subst (λ (p : PlantFields). AllZip (IsRenumberedUnder p.consts.units) (states_of (saved_core file live is.frame)) (states_of other)) same_plant is.renumbered.states)

    state_at : (i : ℕ) (row : RowFields) → slice_get plant.rows i ≡ Some row → IsRenumbered plant.consts.units (state_now run i row) ((begun_from plant other).start.state row)
    state_at i row here =
        let book = book_at_place plant start before told live after i row here in
        let there = state_there state_of_book live.books i book.book row.name own_books book.held (ap (λ (r : RowFields). r.name) book.row_is) in
        let under = found plant.consts row.name book.book.state (states_by_name live) (states_of other) states_are there in
        subst (λ (s : OperatorState). IsRenumbered plant.consts.units s ((begun_from plant other).start.state row)) book.state_is
        (subst (λ (s : OperatorState). IsRenumbered plant.consts.units book.book.state s)
        (sym (state_of_row plant other.frame (states_of other) valid i row here ∙ ap (state_or_opened other.frame plant.consts row) under.other_is)) under.renumbered)

    pub run_renumbered : IsRunRenumbered run (begun_from plant other)
    run_renumbered = record {
      from = is.frame;
      rests = rests_at plant start before told live after is.frame is.rests;
      same_plant = refl;
      time = subst (λ (p : PlantFields). KeepsTime p.consts.channel is.frame other.frame) same_plant (time_kept live.plant.consts other.frame (saved_core file live is.frame) is.accepted);
      starts = restarted.reached.starts;
      states = state_at;
      nothing_done = (refl, refl);
    }
