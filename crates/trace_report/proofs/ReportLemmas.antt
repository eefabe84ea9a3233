-- What is written of steps, one step after the other.
use Rattle.std.proofs.Common.{◌≡◌, ℕ, List, [], ◌∷◌, ◌++◌, max, Option, Some, None, refl, sym, ap, ◌∙◌, append_assoc, append-nil}
use Rattle.trace_report.proofs.Common.{LineStep, Decision, quote_after, AreWords, IsDecisionText, last_quoted, IsReportText}

-- a step more is quoted
pub last_more : (last : ℕ) (lines : List LineStep) (line : LineStep) → last_quoted last (lines ++ line ∷ []) ≡ max (last_quoted last lines) line.number
last_more last [] line = refl
last_more last (first ∷ lines) line = last_more (max last first.number) lines line

behind_four : (a b c d e : List ℕ) → (a ++ (b ++ (c ++ d))) ++ e ≡ a ++ (b ++ (c ++ (d ++ e)))
behind_four a b c d e =
    append_assoc a (b ++ (c ++ d)) e
    ∙ ap (λ (l : List ℕ). a ++ l) (append_assoc b (c ++ d) e ∙ ap (λ (l : List ℕ). b ++ l) (append_assoc c d e))

-- the quote before the next step is written
pub next_quoted : (script : List ℕ) (last : ℕ) (lines : List LineStep) (decisions : List (Option Decision)) (line : LineStep) (text : List ℕ)
    → IsReportText script last lines decisions None text → IsReportText script last lines decisions (Some line) (text ++ quote_after script (last_quoted last lines) line.number)
next_quoted script last [] [] line text is = ap (λ (l : List ℕ). l ++ quote_after script last line.number) is
next_quoted script last [] (decision ∷ more) line text is = absurd is
next_quoted script last (first ∷ lines) [] line text is = absurd is
next_quoted script last (first ∷ lines) (decision ∷ more) line text (told, words, rest, same, is_told, are, others) =
    let quote = quote_after script (last_quoted (max last first.number) lines) line.number in (
      told,
      words,
      rest ++ quote,
      ap (λ (l : List ℕ). l ++ quote) same ∙ behind_four (quote_after script last first.number) told words rest quote,
      is_told,
      are,
      next_quoted script (max last first.number) lines more line rest others,
    )

-- the decision of the next step, and words
pub step_reported : (script : List ℕ) (last : ℕ) (lines : List LineStep) (decisions : List (Option Decision)) (line : LineStep) (decision : Option Decision) (text told words : List ℕ)
    → IsReportText script last lines decisions (Some line) text → IsDecisionText decision told → AreWords words
    → IsReportText script last (lines ++ line ∷ []) (decisions ++ decision ∷ []) None (text ++ (told ++ words))
step_reported script last [] [] line decision text told words is is_told are =
    (told, words, [], ap (λ (l : List ℕ). l ++ (told ++ words)) is ∙ ap (λ (l : List ℕ). quote_after script last line.number ++ (told ++ l)) (sym (append-nil words)), is_told, are, refl)
step_reported script last [] (d ∷ more) line decision text told words is is_told are = absurd is
step_reported script last (first ∷ lines) [] line decision text told words is is_told are = absurd is
step_reported script last (first ∷ lines) (d ∷ more) line decision text told words (own, own_words, rest, same, is_own, are_own, others) is_told are = (
  own,
  own_words,
  rest ++ (told ++ words),
  ap (λ (l : List ℕ). l ++ (told ++ words)) same ∙ behind_four (quote_after script last first.number) own own_words rest (told ++ words),
  is_own,
  are_own,
  step_reported script (max last first.number) lines more line decision rest told words others is_told are,
)
