-- What a reader of a trace finds who takes the lines of checks alone (implementation-specific).
use Rattle.std.specs.Prelude.{◌≡◌, ℕ, List, [], ◌∷◌, ◌++◌, Option, Some, None}
use Rattle.trace_report.specs.declared.decision.Decision.{Decision}
use Rattle.trace_report.specs.Remarks.{HasNoCheckLine, check_lines}
use Rattle.trace_report.specs.Trace.{IsDecisionText, IsTraceText}

-- these are the lines of these decisions, in order: one for each that is a check, and no other
abbrev pub AreDecisionLines : List (Option Decision) → List (List ℕ) → Type 0
AreDecisionLines [] lines = lines ≡ []
AreDecisionLines (None ∷ more) lines = AreDecisionLines more lines
AreDecisionLines (Some decision ∷ more) [] = ⊥
AreDecisionLines (Some decision ∷ more) (line ∷ lines) =
    IsDecisionText (Some decision) (line ++ 10 ∷ []) × AreDecisionLines more lines

-- the lines of a trace that begin as that of a check are just those of its decisions, whatever line ends the output
abbrev pub TraceIsRead : Type 0
TraceIsRead = (decisions : List (Option Decision)) (text last : List ℕ) → IsTraceText decisions text → HasNoCheckLine last
    → AreDecisionLines decisions (check_lines (text ++ last))
