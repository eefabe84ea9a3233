-- Decisions and their texts, one behind the other.
use Rattle.std.proofs.Common.{◌≡◌, ℕ, List, [], ◌∷◌, ◌++◌, Option, sym, ap, ◌∙◌, subst, append_assoc, append-nil}
use Rattle.trace_report.proofs.Common.{PlantFields, Step, Decision, HasNoCheckLine, IsDecisionAfter, AreDecided, IsDecisionText, IsTraceText}
use Rattle.trace_report.proofs.RemarkLemmas.{no_remark, remark_both}

-- three pieces with a fourth behind them
behind_three : (a b c d : List ℕ) → (a ++ (b ++ c)) ++ d ≡ a ++ (b ++ (c ++ d))
behind_three a b c d = append_assoc a (b ++ c) d ∙ ap (λ (l : List ℕ). a ++ l) (append_assoc b c d)

-- a remark after a trace
pub text_remark : (decisions : List (Option Decision)) (text remark : List ℕ) → IsTraceText decisions text → HasNoCheckLine remark → IsTraceText decisions (text ++ remark)
text_remark [] text remark is none = remark_both text remark is none
text_remark (decision ∷ more) text remark (before, line, rest, same, others_before, told, others) none =
    (before, line, rest ++ remark, ap (λ (l : List ℕ). l ++ remark) same ∙ behind_three before line rest remark, others_before, told, text_remark more rest remark others none)

-- a decision more after a trace
pub text_more : (decisions : List (Option Decision)) (decision : Option Decision) (text line : List ℕ) → IsTraceText decisions text → IsDecisionText decision line
    → IsTraceText (decisions ++ decision ∷ []) (text ++ line)
text_more [] decision text line is told = (text, line, [], ap (λ (l : List ℕ). text ++ l) (sym (append-nil line)), is, told, no_remark)
text_more (first ∷ more) decision text line (before, own, rest, same, others_before, told_first, others) told =
    (before, own, rest ++ line, ap (λ (l : List ℕ). l ++ line) same ∙ behind_three before own rest line, others_before, told_first, text_more more decision rest line others told)

-- a step more, with its decision
pub decided_more : (plant : PlantFields) (before steps : List Step) (decisions : List (Option Decision)) (step : Step) (decision : Option Decision)
    → AreDecided plant before steps decisions → IsDecisionAfter plant (before ++ steps) step decision → AreDecided plant before (steps ++ step ∷ []) (decisions ++ decision ∷ [])
decided_more plant before [] [] step decision decided is = (subst (λ (s : List Step). IsDecisionAfter plant s step decision) (append-nil before) is, tt)
decided_more plant before [] (d ∷ decisions) step decision decided is = absurd decided
decided_more plant before (s ∷ steps) [] step decision decided is = absurd decided
decided_more plant before (s ∷ steps) (d ∷ decisions) step decision decided is = (
  decided.0,
  decided_more plant (before ++ s ∷ []) steps decisions step decision decided.1
      (subst (λ (l : List Step). IsDecisionAfter plant l step decision) (sym (append_assoc before (s ∷ []) steps)) is),
)
