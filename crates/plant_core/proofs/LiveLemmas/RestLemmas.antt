-- A core at rest.
use Rattle.std.proofs.Common.{◌≡◌, ℕ, List, [], length, drop, Some, sym, ap, ◌∙◌, arith}
use Rattle.plant_core.proofs.LiveLemmas.Common.{slice_get, length-drop, slice_get_within, RowFields, PlantFields, OperatorState, BookView, Step, Out, collects_of, Start, isolated_run_from, CoreView, frames_of, some_at, IsAfterFrom, Rests, RestingIsAtRest, BooksStandNow}
use Rattle.run_model.specs.Changing.{RunSoFar, state_now, IsAtRest}

module _ (plant : PlantFields) (start : Start) (steps : List Step) (outs : List Out) (live : CoreView) (after : IsAfterFrom plant start steps outs live) where
  abbrev since : RunSoFar
  since = record { plant = plant; start = start; steps = steps; outs = outs }

  -- an operator's book, of which the live core has the state
  pub record IsBookAt (i : ℕ) (row : RowFields) : Type 0 where
    pub book : BookView
    pub held : slice_get live.books i ≡ Some book
    pub row_is : book.row ≡ row
    pub state_is : book.state ≡ state_now since i row

  pub book_at_place : (i : ℕ) (row : RowFields) → slice_get plant.rows i ≡ Some row → IsBookAt i row
  book_at_place i row here =
      let within = slice_get_within plant.rows i row here in
      let book = some_at live.books i (omega (arith, within, after.one_book)) in
      let is = after.operators i row book.0 here book.1 in
      record { book = book.0; held = book.1; row_is = is.row_is; state_is = is.state_is }

  pub stands_now : (i : ℕ) (row : RowFields) (book : BookView) → slice_get plant.rows i ≡ Some row → slice_get live.books i ≡ Some book → (book.row ≡ row) × (book.state ≡ state_now since i row)
  stands_now i row book here there =
      let is = after.operators i row book here there in
      (is.row_is, is.state_is)

  pub rests_at : (frame : ℕ) → Rests live frame → IsAtRest since frame
  rests_at frame rests = record {
    before = λ i row here.
        let at = book_at_place i row here in
        ap (λ (s : OperatorState). s.frame) (sym at.state_is) ∙ rests.before i at.book at.held;
    collected = λ i row here.
        let within = slice_get_within plant.rows i row here in
        let waiting = some_at live.queues i (omega (arith, within, after.one_queue)) in
        let put = some_at after.gathering.queues i (omega (arith, within, after.gathered.one_each)) in
        let are = after.frames i row waiting.0 put.0 here waiting.1 put.1 in
        let none : waiting.0 ≡ [] = rests.none_waits i waiting.0 waiting.1 in
        let all = frames_of (isolated_run_from plant.consts start row i steps).outputs in
        let left : length (drop (collects_of i steps) all) ≡ 0 = ap length (sym are.waiting_are ∙ none) in
        let long = length-drop (collects_of i steps) all in
        let most = after.gathered.collected i row here in
        omega (arith, left, long, most);
  }

pub resting : RestingIsAtRest
resting plant start steps outs live frame after rests = rests_at plant start steps outs live after frame rests

pub standing : BooksStandNow
standing plant start steps outs live after i row book here there = stands_now plant start steps outs live after i row book here there
