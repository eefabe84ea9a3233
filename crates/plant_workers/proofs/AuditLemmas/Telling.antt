-- What books and MAPs put out is what a run shows.
use Rattle.std.proofs.Common.{◌≡◌, ℕ, zero, suc, ◌+◌, ◌<◌, List, [], ◌∷◌, ◌++◌, length, map, append-nil, Option, Some, None, refl, ap, ◌∙◌, arith}
use Rattle.plant_workers.proofs.AuditLemmas.Common.{slice_get, All, AllByRecursion, filter_map-append, All-from_recursion, none-some, same_Some, ConstsFields, RowFields, Action, Entry, Output, OperatorState, opened_state, operator, own_step, own_run, BookView, actions_of, AreTold, PlantFields, MapBytes, Step, outputs_under, output_under, answers_of, map_in, maps_in, isolated_run, IsUnder, IsBookAfter, history_outputs, outs_from, outs_of}
use Rattle.slice_scheduler.proofs.SumLemmas.{recursion-append}
use Rattle.run_model.specs.declared.step.Out.{Out}
use Rattle.run_model.specs.declared.step.Out.TheVariants as outs
use Rattle.run_model.proofs.Answers.{answers_here, answers_else, no_maps}

-- ---- a history's outputs are those of its own machine run alone

told_outputs : (consts : ConstsFields) (row : RowFields) (state : OperatorState) (history : List Entry) → AreTold (operator consts row state) history
    → history_outputs history ≡ (own_run (operator consts row state) (actions_of history)).outputs
told_outputs consts row state [] told = refl
told_outputs consts row state (entry ∷ history) told =
    ap (λ (os : List Output). os ++ history_outputs history) told.1
    ∙ ap (λ (os : List Output). (own_step (operator consts row state) entry.action).outputs ++ os)
    (told_outputs consts row (own_step (operator consts row state) entry.action).state history told.2)

pub book_outputs : (plant : PlantFields) (steps : List Step) (i : ℕ) (row : RowFields) (book : BookView) → IsBookAfter plant steps i row book
    → history_outputs book.history ≡ (isolated_run plant.consts row i steps).outputs
book_outputs plant steps i row book is =
    told_outputs plant.consts row (opened_state plant.consts row) book.history is.replay.told
    ∙ ap (λ (actions : List Action). (own_run (operator plant.consts row (opened_state plant.consts row)) actions).outputs) is.actions_are

-- ---- what stands where among the outputs

answers_append : (i : ℕ) (xs ys : List Out) → answers_of i (xs ++ ys) ≡ answers_of i xs ++ answers_of i ys
answers_append i xs ys = filter_map-append (output_under i) xs ys

none_before : (i n : ℕ) (books : List BookView) → i < n → answers_of i (outs_from n books) ≡ []
none_before i n [] lt = refl
none_before i n (book ∷ books) lt =
    answers_append i (outputs_under n (history_outputs book.history)) (outs_from (n + 1) books)
    ∙ (ap (λ (os : List Output). os ++ answers_of i (outs_from (n + 1) books)) (answers_else i n (history_outputs book.history) (λ e. omega (arith, lt, e)))
    ∙ none_before i (n + 1) books (omega (arith, lt)))

answers_at : (n i k : ℕ) (books : List BookView) (book : BookView) → k ≡ n + i → slice_get books i ≡ Some book → answers_of k (outs_from n books) ≡ history_outputs book.history
answers_at n i k [] book same e = let f : ◌≡◌ {A = Option BookView} None (Some book) = e in absurd (none-some book f)
answers_at n zero k (first ∷ books) book same e =
    answers_append k (outputs_under n (history_outputs first.history)) (outs_from (n + 1) books)
    ∙ (ap (λ (os : List Output). os ++ answers_of k (outs_from (n + 1) books)) (answers_here k n (history_outputs first.history) (omega (arith, same)))
    ∙ (ap (λ (os : List Output). history_outputs first.history ++ os) (none_before k (n + 1) books (omega (arith, same)))
    ∙ (append-nil (history_outputs first.history)
    ∙ ap (λ (b : BookView). history_outputs b.history) (same_Some first book e))))
answers_at n (suc i) k (first ∷ books) book same e =
    answers_append k (outputs_under n (history_outputs first.history)) (outs_from (n + 1) books)
    ∙ (ap (λ (os : List Output). os ++ answers_of k (outs_from (n + 1) books)) (answers_else k n (history_outputs first.history) (λ f. omega (arith, same, f)))
    ∙ answers_at (n + 1) i k books book (omega (arith, same)) e)

no_answers : (i : ℕ) (maps : List MapBytes) → answers_of i (map (λ made. outs.Map made) maps) ≡ []
no_answers i [] = refl
no_answers i (made ∷ maps) = no_answers i maps

no_maps_from : (n : ℕ) (books : List BookView) → maps_in (outs_from n books) ≡ []
no_maps_from n [] = refl
no_maps_from n (book ∷ books) =
    filter_map-append map_in (outputs_under n (history_outputs book.history)) (outs_from (n + 1) books)
    ∙ (ap (λ (ms : List MapBytes). ms ++ maps_in (outs_from (n + 1) books)) (no_maps n (history_outputs book.history)) ∙ no_maps_from (n + 1) books)

all_maps : (maps : List MapBytes) → maps_in (map (λ made. outs.Map made) maps) ≡ maps
all_maps [] = refl
all_maps (made ∷ maps) = ap (λ (ms : List MapBytes). made ∷ ms) (all_maps maps)

under_each : (count n : ℕ) (outputs : List Output) → n < count → AllByRecursion (IsUnder count) (outputs_under n outputs)
under_each count n [] lt = tt
under_each count n (x ∷ outputs) lt = (lt, under_each count n outputs lt)

under_from : (count n : ℕ) (books : List BookView) → n + length books ≡ count → AllByRecursion (IsUnder count) (outs_from n books)
under_from count n [] e = tt
under_from count n (book ∷ books) e =
    recursion-append (IsUnder count) (outputs_under n (history_outputs book.history)) (outs_from (n + 1) books)
    (under_each count n (history_outputs book.history) (omega (arith, e))) (under_from count (n + 1) books (omega (arith, e)))

under_maps : (count : ℕ) (maps : List MapBytes) → AllByRecursion (IsUnder count) (map (λ made. outs.Map made) maps)
under_maps count [] = tt
under_maps count (made ∷ maps) = (tt, under_maps count maps)

module _ (books : List BookView) (maps : List MapBytes) where
  abbrev of_maps : List Out
  of_maps = map (λ made. outs.Map made) maps

  pub answers_are : (i : ℕ) (book : BookView) → slice_get books i ≡ Some book → answers_of i (outs_of books maps) ≡ history_outputs book.history
  answers_are i book e =
      answers_append i (outs_from 0 books) of_maps
      ∙ (ap (λ (os : List Output). answers_of i (outs_from 0 books) ++ os) (no_answers i maps)
      ∙ (append-nil (answers_of i (outs_from 0 books)) ∙ answers_at 0 i i books book (omega arith) e))

  pub maps_are : maps_in (outs_of books maps) ≡ maps
  maps_are =
      filter_map-append map_in (outs_from 0 books) of_maps
      ∙ (ap (λ (ms : List MapBytes). ms ++ maps_in of_maps) (no_maps_from 0 books) ∙ all_maps maps)

  pub all_under : All (IsUnder (length books)) (outs_of books maps)
  all_under =
      All-from_recursion (IsUnder (length books)) (outs_of books maps)
      (recursion-append (IsUnder (length books)) (outs_from 0 books) of_maps (under_from (length books) 0 books (omega arith)) (under_maps (length books) maps))
