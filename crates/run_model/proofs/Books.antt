-- What a step makes of an operator's book and of what it has put out.
use Rattle.std.proofs.Common.{◌≡◌, ℕ, List, [], ◌∷◌, ◌++◌, Option, Some, None, append-nil, refl, sym, ap, ◌∙◌, subst}
use Rattle.run_model.proofs.Common.{map-append, ConstsFields, RowFields, PlantFields, Action, Entry, Output, operator, own_step, IsAllowed, BookView, IsReplayFrom, actions_of, book_after_action, Step, action_of, isolated_run_from, IsBookFrom, Start}
use Rattle.run_model.proofs.OwnRuns.{own_more, own_same, alone_same, alone_state, alone_outputs, replay_push}

-- what an action, or none, makes of a book, and what is answered
abbrev pub Moves : Option Action → BookView → BookView → List Output → Type 0
Moves None book new now = (new ≡ book) × (now ≡ [])
Moves (Some action) book new now =
    IsAllowed (operator book.consts book.row book.state) action × (new ≡ book_after_action book action) × (now ≡ (own_step (operator book.consts book.row book.state) action).outputs)

module _ (plant : PlantFields) (start : Start) (steps : List Step) (step : Step) (i : ℕ) (row : RowFields) (book new : BookView) (now : List Output) (is : IsBookFrom plant start steps i row book) where
  -- the book's own step is the one of the machine run alone
  step_alone : (action : Action) → own_step (operator book.consts book.row book.state) action ≡ own_step (operator plant.consts row (isolated_run_from plant.consts start row i steps).state) action
  step_alone action = λ k. own_step (operator (is.consts_are k) (is.row_is k) (is.state_is k)) action

  book_more : (action : Action) → action_of row i step ≡ Some action → Moves (Some action) book new now → IsBookFrom plant start (steps ++ step ∷ []) i row new
  book_more action e moves =
      let made : new ≡ book_after_action book action = moves.1 in
      let told : (own_step (operator book.consts book.row book.state) action).state ≡ (isolated_run_from plant.consts start row i (steps ++ step ∷ [])).state =
      ap (λ r. r.state) (step_alone action) ∙ sym (alone_state plant.consts start row i steps step action e) in
      record {
        row_is = ap (λ (b : BookView). b.row) made ∙ is.row_is;
        consts_are = ap (λ (b : BookView). b.consts) made ∙ is.consts_are;
        state_is = ap (λ (b : BookView). b.state) made ∙ told;
        actions_are =
            ap (λ (b : BookView). actions_of b.history) made
            ∙ (map-append (λ (e : Entry). e.action) book.history (record { action = action; outputs = (own_step (operator book.consts book.row book.state) action).outputs } ∷ [])
            ∙ (ap (λ (actions : List Action). actions ++ action ∷ []) is.actions_are ∙ sym (own_more row i steps step action e)));
        replay =
            subst (λ (b : BookView). IsReplayFrom plant.consts row (start.state row) b.history b.state) (sym made)
            (replay_push plant.consts row (start.state row) book.history book.state (own_step (operator book.consts book.row book.state) action).state (record { action = action; outputs = (own_step (operator book.consts book.row book.state) action).outputs }) is.replay
            (subst (λ (r : RowFields). IsAllowed (operator plant.consts r book.state) action) is.row_is (subst (λ (c : ConstsFields). IsAllowed (operator c book.row book.state) action) is.consts_are moves.0))
            (λ k. (own_step (operator (is.consts_are k) (is.row_is k) book.state) action).state)
            (λ k. (own_step (operator (is.consts_are k) (is.row_is k) book.state) action).outputs));
      }

  book_same : action_of row i step ≡ None → Moves None book new now → IsBookFrom plant start (steps ++ step ∷ []) i row new
  book_same e moves =
      subst (IsBookFrom plant start (steps ++ step ∷ []) i row) (sym moves.0)
      (record {
        row_is = is.row_is;
        consts_are = is.consts_are;
        state_is = is.state_is ∙ ap (λ r. r.state) (sym (alone_same plant.consts start row i steps step e));
        actions_are = is.actions_are ∙ sym (own_same row i steps step e);
        replay = is.replay;
      })

  -- the book after the step
  pub book_after : Moves (action_of row i step) book new now → IsBookFrom plant start (steps ++ step ∷ []) i row new
  book_after moves = by (action_of row i step) refl moves
    where
      by : (o : Option Action) → action_of row i step ≡ o → Moves o book new now → IsBookFrom plant start (steps ++ step ∷ []) i row new
      by None e m = book_same e m
      by (Some action) e m = book_more action e m

  -- what is answered is what the machine run alone puts out more
  pub outputs_after : Moves (action_of row i step) book new now → (isolated_run_from plant.consts start row i (steps ++ step ∷ [])).outputs ≡ (isolated_run_from plant.consts start row i steps).outputs ++ now
  outputs_after moves = by (action_of row i step) refl moves
    where
      by : (o : Option Action) → action_of row i step ≡ o → Moves o book new now → (isolated_run_from plant.consts start row i (steps ++ step ∷ [])).outputs ≡ (isolated_run_from plant.consts start row i steps).outputs ++ now
      by None e m =
          ap (λ r. r.outputs) (alone_same plant.consts start row i steps step e)
          ∙ (sym (append-nil (isolated_run_from plant.consts start row i steps).outputs) ∙ ap (λ (os : List Output). (isolated_run_from plant.consts start row i steps).outputs ++ os) (sym m.1))
      by (Some action) e m =
          alone_outputs plant.consts start row i steps step action e
          ∙ ap (λ (os : List Output). (isolated_run_from plant.consts start row i steps).outputs ++ os) (ap (λ r. r.outputs) (sym (step_alone action)) ∙ sym m.2)
