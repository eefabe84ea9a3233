-- How much of a trace is written so far.
use Rattle.std.proofs.Common.{◌≡◌, ℕ, List, [], take, drop, Option}
use Rattle.trace_report.proofs.Common.{Appends, PlantFields, Out, CoreView, IsStateAfter, LineStep, steps_without_numbers, Decision, AreDecided, IsTraceText, last_quoted, IsReportText}

-- some of the steps are done and told, and these are left; the line of `next` is quoted, and `last` is the greatest number before
pub record IsTracedSoFar (plant : PlantFields) (script : List ℕ) (steps : List LineStep) (last : ℕ) (next : Option LineStep) (core : CoreView) (old new : Option (List ℕ)) (left : List LineStep) : Type 0 where
  pub at : ℕ
  pub told : List Out
  pub decisions : List (Option Decision)
  pub text : List ℕ
  pub reached : IsStateAfter plant (steps_without_numbers (take at steps)) told core
  pub decided : AreDecided plant [] (steps_without_numbers (take at steps)) decisions
  pub is_text : IsTraceText decisions text
  pub last_is : last ≡ last_quoted 0 (take at steps)
  pub reported : IsReportText script 0 (take at steps) decisions next text
  pub written : Appends old new text
  pub left_are : drop at steps ≡ left
