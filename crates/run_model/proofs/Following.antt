-- Books, answers and outputs follow a step.
use Rattle.std.proofs.Common.{◌≡◌, ℕ, List, [], ◌∷◌, ◌++◌, length, Some, sym, ap, ◌∙◌, arith}
use Rattle.run_model.proofs.Common.{slice_get, filter_map-append, slice_get_within, RowFields, PlantFields, Output, BookView, Step, Out, answers_of, output_under, isolated_run_from, CoreView, IsBookFrom, IsStateAfterFrom, Start}
use Rattle.run_model.proofs.Entries.{some_at}
use Rattle.run_model.proofs.Books.{book_after, outputs_after}
use Rattle.run_model.proofs.Moving.{EachMoves}

-- each operator's own machine, run alone, puts out what is answered more
abbrev pub EachTells : PlantFields → Start → List Step → Step → List Out → Type 0
EachTells plant start before step now = (i : ℕ) (row : RowFields) → slice_get plant.rows i ≡ Some row
    → (isolated_run_from plant.consts start row i (before ++ step ∷ [])).outputs ≡ (isolated_run_from plant.consts start row i before).outputs ++ answers_of i now

module _ (plant : PlantFields) (start : Start) (before : List Step) (outs : List Out) (step : Step) (now : List Out) (old new : CoreView) (reached : IsStateAfterFrom plant start before outs old)
    (moves : EachMoves plant step old new now) (books : length new.books ≡ length old.books) where
  pub each_tells : EachTells plant start before step now
  each_tells i row e =
      let within = slice_get_within plant.rows i row e in
      let book = some_at old.books i (omega (arith, reached.one_book)) in
      let made = some_at new.books i (omega (arith, reached.one_book, books)) in
      outputs_after plant start before step i row book.0 made.0 (answers_of i now) (reached.books i row book.0 e book.1) (moves i row book.0 made.0 e book.1 made.1)

  pub books_follow : (i : ℕ) (row : RowFields) (made : BookView) → slice_get plant.rows i ≡ Some row → slice_get new.books i ≡ Some made → IsBookFrom plant start (before ++ step ∷ []) i row made
  books_follow i row made e f =
      let within = slice_get_within plant.rows i row e in
      let book = some_at old.books i (omega (arith, reached.one_book)) in
      book_after plant start before step i row book.0 made (answers_of i now) (reached.books i row book.0 e book.1) (moves i row book.0 made e book.1 f)

  pub answers_follow : (i : ℕ) (row : RowFields) → slice_get plant.rows i ≡ Some row → answers_of i (outs ++ now) ≡ (isolated_run_from plant.consts start row i (before ++ step ∷ [])).outputs
  answers_follow i row e =
      filter_map-append (output_under i) outs now
      ∙ (ap (λ (os : List Output). os ++ answers_of i now) (reached.shown.answers i row e) ∙ sym (each_tells i row e))
