-- What was handled so far.
use Rattle.plant_script.proofs.Common.{◌≡◌, ℕ, List, ◌++◌, drop, operator, own_run, BookView, sent_actions, outputs_of, text_of_outputs}
use Rattle.plant_script.specs.OperatorA.{row_a, consts_a}
use Rattle.plant_script.specs.View.{IsOfA}

-- the book is operator A's, and its run of the messages from the place on ends the text
pub record IsRunSoFar (messages : List (List ℕ)) (book : BookView) (text : List ℕ) (place : ℕ) : Type 0 where
  pub of_a : IsOfA book
  pub goes_on : text ++ text_of_outputs (own_run (operator consts_a row_a book.state) (sent_actions (drop place messages))).outputs ≡ text_of_outputs (outputs_of messages)
