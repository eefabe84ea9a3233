-- How far the program comes, and what it has written then.
use Rattle.std.proofs.Common.{◌≡◌, ◌≢◌, ◌⊎◌, inl, inr, ℕ, Bool, List, [], ◌++◌, Option, Some, None, IfSome, Result, Ok, Err, IfOk, refl, sym, subst, ◌∙◌}
use Rattle.plant_script.proofs.Common.{MatchResult, Appends, Order, order_of, Word, WordsFault, NamesOrder, AsksHelp, AreWrong, GivesOrder, GivesHelp, GivesWrong, Answer, memory_line, status_code, IsThreadedRunOf, RunsTo, IsWritten, WritesOutcome, Comes, AnswersWith, RunsOut, AnswersRead, AnswersOrder, EndsOrder, ReachesOrder, Completes, AnswersWords, ReachesWords}
use Rattle.plant_script.specs.declared.progress.Progress.{Progress}
use Rattle.plant_script.specs.declared.progress.Progress.TheVariants.{Ended, Threads}
use Rattle.plant_script.specs.declared.input_outcome.InputOutcome.TheVariants as outcomes
use Rattle.plant_script.specs.declared.input_outcome.Task.{Task}
use Rattle.plant_script.proofs.Tasks.{same_order}

-- one status is not another
five_six : {P : Type 0} (status : ℕ) → status ≡ 5 → status ≡ 6 → P
five_six status five six = cc

-- ---- a run

-- memory ran out before anything was written
pub memory_written : (results : ℕ → List ℕ → Type 0) (status : ℕ) (wrote : List ℕ → Type 0) → status ≡ 5 → wrote memory_line → IsWritten results status wrote
memory_written results status wrote five told = inr ([], five, told, inl refl)

-- an answer of a run is written, or that memory ran out
pub outcome_written : {E : Type 0} (results : ℕ → List ℕ → Type 0) (outcome : Result Answer E) (status : ℕ) (wrote : List ℕ → Type 0)
    → IfOk outcome (λ answer. results (status_code answer.status) answer.text.items) → WritesOutcome outcome status wrote → IsWritten results status wrote
outcome_written results (Ok answer) status wrote runs (is, told) =
    inl (
      answer.text.items,
      (λ five. answer.no_want (sym is ∙ five)),
      (λ six. answer.no_failure (sym is ∙ six)),
      subst (λ (n : ℕ). results n answer.text.items) (sym is) runs,
      told,
    )
outcome_written results (Err error) status wrote runs (five, told) = memory_written results status wrote five told

-- ---- an order

-- what is written of a run is what is answered
pub written_answers : (order : Order) (read : Option (List ℕ)) (results : ℕ → List ℕ → Type 0) (status : ℕ) (wrote : List ℕ → Type 0)
    → IfSome read (λ input. (status : ℕ) (text : List ℕ) → results status text → AnswersWith order input status text)
    → IsWritten results status wrote → AnswersOrder order read status wrote
written_answers order read results status wrote comes (inl (text, no_memory, no_io, runs, told)) = inr (no_memory, no_io, at read comes)
  where
    at : (r : Option (List ℕ)) → IfSome r (λ input. (status : ℕ) (text : List ℕ) → results status text → AnswersWith order input status text) → AnswersRead order r status wrote
    at None known = tt
    at (Some input) known = (text, known status text runs, told)
written_answers order read results status wrote comes (inr (before, five, told, inl none)) = inl (five, (before, told, inl none))
written_answers order read results status wrote comes (inr (before, five, told, inr runs)) = inl (five, (before, told, inr (at read comes)))
  where
    at : (r : Option (List ℕ)) → IfSome r (λ input. (status : ℕ) (text : List ℕ) → results status text → AnswersWith order input status text)
        → IfSome r (λ input. AnswersWith order input 5 (before ++ memory_line))
    at None known = tt
    at (Some input) known = known 5 (before ++ memory_line) runs

-- the run of a task is the answer
pub task_ends : (order : Order) (read : Option (List ℕ)) (failed : Bool) (task : Task) (script : List ℕ) (status : ℕ) (wrote : List ℕ → Type 0) → IfSome read (λ input. Comes (outcomes.Task task) script (AnswersWith order input))
    → IsWritten (RunsTo task.plant task.report script task.lines.items) status wrote → EndsOrder order read failed status wrote
task_ends order read failed task script status wrote comes told = inr (written_answers order read (RunsTo task.plant task.report script task.lines.items) status wrote comes told)

-- ---- words

-- words that give an order are answered as the order is
module _ (words : List (List ℕ)) (read : Option (List ℕ)) (word : Word) (result : Result Word WordsFault) (is : result ≡ Ok word) (names : NamesOrder words (order_of word))
    (named : (order : Order) → NamesOrder words order → GivesOrder order result) (help : AsksHelp words → GivesHelp result) (wrong : AreWrong words → GivesWrong result) where
  no_help : {P : Type 0} → AsksHelp words → P
  no_help asks = let given : GivesHelp (Ok word) = subst GivesHelp is (help asks) in absurd given

  not_wrong : {P : Type 0} → AreWrong words → P
  not_wrong are = let given : GivesWrong (Ok word) = subst GivesWrong is (wrong are) in absurd given

  is_order : (order : Order) → NamesOrder words order → order_of word ≡ order
  is_order order so = same_order order result word (named order so) is

  out_of_memory : (status : ℕ) (wrote : List ℕ → Type 0) → status ≡ 5 → RunsOut (order_of word) read wrote → AnswersWords words read status wrote
  out_of_memory status wrote five (before, told, how) = record {
    served = λ order so no_memory. absurd (no_memory five);
    refused = λ are. not_wrong are;
    helped = λ asks. no_help asks;
    memory = λ same. (before, told, by how);
  }
    where
      by : (before ≡ []) ⊎ IfSome read (λ input. AnswersWith (order_of word) input 5 (before ++ memory_line))
          → (before ≡ []) ⊎ ((order : Order) × NamesOrder words order × IfSome read (λ input. AnswersWith order input 5 (before ++ memory_line)))
      by (inl none) = inl none
      by (inr runs) = inr (order_of word, names, runs)

  answered : (status : ℕ) (wrote : List ℕ → Type 0) → AnswersOrder (order_of word) read status wrote → (status ≢ 6) × AnswersWords words read status wrote
  answered status wrote (inl (five, out)) = ((λ six. five_six status five six), out_of_memory status wrote five out)
  answered status wrote (inr (no_memory, no_io, answers)) = (
    no_io,
    record {
      served = λ order so other. subst (λ (o : Order). AnswersRead o read status wrote) (is_order order so) answers;
      refused = λ are. not_wrong are;
      helped = λ asks. no_help asks;
      memory = λ five. absurd (no_memory five);
    },
  )

  pub word_reaches : (progress : Progress) (old new : Option (List ℕ)) → ReachesOrder (order_of word) read progress old new → ReachesWords words read progress old new
  word_reaches (Ended status failed) old new (inl (six, why, told)) = inl (six, told, (order_of word, names, why))
  word_reaches (Ended status failed) old new (inr ends) = inr (answered (status_code status) (λ text. Appends old new text) ends)
  word_reaches (Threads plant lines) old new (same, threaded, comes) = (
    same,
    subst (NamesOrder words) threaded names,
    λ status later told. answered status (λ text. Appends old later text)
        (written_answers (order_of word) read (IsThreadedRunOf plant lines.items) status (λ text. Appends old later text) comes told),
  )

-- ---- the whole program

-- what was reached is completed
pub words_completed : {E : Type 0} (words : List (List ℕ)) (read : Option (List ℕ)) (reached : Result Progress E) (status : ℕ) (w0 w1 w2 : Option (List ℕ))
    → IfOk reached (λ progress. ReachesWords words read progress w0 w1)
    → MatchResult reached (λ progress. Completes progress status w1 w2) (λ error. ⊥) → status ≢ 6 → AnswersWords words read status (λ text. Appends w0 w2 text)
words_completed words read (Err error) status w0 w1 w2 reaches completes no_io = absurd completes
words_completed words read (Ok progress) status w0 w1 w2 reaches completes no_io = by progress reaches completes
  where
    by : (p : Progress) → ReachesWords words read p w0 w1 → Completes p status w1 w2 → AnswersWords words read status (λ text. Appends w0 w2 text)
    by (Ended ended failed) (inl unread) (is, same) = absurd (no_io (is ∙ unread.0))
    by (Ended ended failed) (inr answers) (is, same) =
        subst (λ (w : Option (List ℕ)). AnswersWords words read status (λ text. Appends w0 w text)) (sym same)
        (subst (λ (n : ℕ). AnswersWords words read n (λ text. Appends w0 w1 text)) (sym is) answers.1)
    by (Threads plant lines) (same, named, answers) told =
        let from_old : IsWritten (IsThreadedRunOf plant lines.items) status (λ text. Appends w0 w2 text) =
        subst (λ (w : Option (List ℕ)). IsWritten (IsThreadedRunOf plant lines.items) status (λ text. Appends w w2 text)) same told in
        (answers status w2 from_old).1
