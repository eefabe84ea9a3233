-- The answer to a line.
use Rattle.std.proofs.Common.{◌≡◌, ℕ, true, false, List, [], ◌∷◌, ◌++◌, Option, map, refl, sym, ap, ◌∙◌, inl, inr}
use Rattle.state_service.proofs.ResumedLemmas.Common.{PlantFields, Step, Out, Start, CoreView, IsAfterFrom, OperatorState, BookView, Snapshot, text_of_snapshot, sfid_with_flow, saved_flow, state_of, saved_state, answer_text, LineIsAnswered, state_of_book, saved_book, IsCoreSnapshot, asks_snapshot, begins_plant, core_snapshot, asks_frame, IsSavedCore, in_service, ItemIsAnswered, WritesSnapshot}
use Rattle.snapshot_format.specs.declared.saved.SavedFlow.{SavedFlow}
use Rattle.snapshot_format.specs.declared.saved.SavedOperator.{SavedOperator}

module _ (file : List ℕ) (plant : PlantFields) (start : Start) (before : List Step) (shown : List Out) (number : ℕ) (line : List ℕ) (w0 w1 : Option (List ℕ)) where
  -- the line of a script
  pub line_answered : (live : CoreView) → begins_plant line ≡ false → asks_snapshot line ≡ false → asks_frame line ≡ false → LineIsAnswered plant start before shown number line live w0 w1
      → ItemIsAnswered (in_service file plant start before shown) number line live w0 w1
  line_answered live no_plant no_snapshot no_frame told = record {
    answer = record {
      lines = 1;
      next = in_service file plant start (before ++ told.answered.done) (shown ++ told.answered.told);
      changes = false;
      renumbers = false;
      text = answer_text plant number told.answered;
    };
    is = λ lines. inl (record {
      live = live;
      answered = told.answered;
      is = told.is;
      no_plant = no_plant;
      no_snapshot = no_snapshot;
      no_frame = no_frame;
      one = refl;
      on = refl;
      same_numbers = refl;
      next_is = refl;
      text_is = refl;
    });
    one = refl;
    same_file = refl;
    leads = told.is.after;
    written = told.written;
  }

  -- the request for a snapshot
  pub snapshot_answered : (live : CoreView) → asks_snapshot line ≡ true → IsAfterFrom plant start before shown live → WritesSnapshot file live number w0 w1
      → ItemIsAnswered (in_service file plant start before shown) number line live w0 w1
  snapshot_answered live asks after wrote = record {
    answer = record { lines = 1; next = in_service file plant start before shown; changes = false; renumbers = false; text = wrote.text };
    is = λ lines. inr (inr (inr (record {
      on = refl;
      same_numbers = refl;
      next_is = refl;
      why = inl (record { live = live; leads = after; requests = asks; one = refl; answered = wrote.answered });
    })));
    one = refl;
    same_file = refl;
    leads = after;
    written = wrote.written;
  }

-- ---- the text of a snapshot

flows_back : (flows : List SavedFlow) → map saved_flow (map sfid_with_flow flows) ≡ flows
flows_back [] = refl
flows_back (flow ∷ flows) = ap (λ (more : List SavedFlow). flow ∷ more) (flows_back flows)

abbrev saved_named : List ℕ × OperatorState → SavedOperator
saved_named named = saved_state named.0 named.1

operator_back : (frame : ℕ) (saved : SavedOperator) → saved_state saved.name (state_of frame saved) ≡ saved
operator_back frame saved = ap (λ (flows : List SavedFlow). record saved { flows = flows }) (flows_back saved.flows)

operators_back : (frame : ℕ) (operators : List SavedOperator) → map saved_named (map (λ operator. (operator.name, state_of frame operator)) operators) ≡ operators
operators_back frame [] = refl
operators_back frame (operator ∷ operators) =
    ap (λ (more : List SavedOperator). saved_state operator.name (state_of frame operator) ∷ more) (operators_back frame operators)
    ∙ ap (λ (one : SavedOperator). one ∷ operators) (operator_back frame operator)

books_saved : (books : List BookView) → map saved_named (map state_of_book books) ≡ map saved_book books
books_saved [] = refl
books_saved (book ∷ books) = ap (λ (more : List SavedOperator). saved_book book ∷ more) (books_saved books)

-- the snapshot that is saved of a core
pub core_saved : (file : List ℕ) (live : CoreView) (saved : Snapshot) → IsCoreSnapshot live file saved → IsSavedCore file live saved
core_saved file live saved is =
    let operators : saved.operators ≡ map saved_book live.books =
    sym (operators_back saved.frame saved.operators) ∙ (ap (map saved_named) is.states_are ∙ books_saved live.books) in
    record {
      rests = is.rests;
      saved_is = λ k. record { plant = is.plant_is k; frame = saved.frame; operators = operators k };
    }

-- it has this text
pub core_text : (file : List ℕ) (live : CoreView) (saved : Snapshot) → IsSavedCore file live saved → text_of_snapshot saved ≡ core_snapshot file live saved.frame
core_text file live saved is = ap text_of_snapshot is.saved_is
