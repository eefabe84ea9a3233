-- Lines that are done one after the other.
use Rattle.std.proofs.Common.{◌≡◌, ℕ, suc, ◌+◌, length, arith, List, [], ◌∷◌, ◌++◌, refl, sym, ap, subst, ◌∙◌, append_assoc, append-nil, Bool, false, nat_eq, drop, ◌-◌, codes}
use Rattle.state_service.proofs.DurableLemmas.Common.{◌≢◌, PlantFields, Start, Step, Out, CoreView, IsAfterFrom, Decides-eqb, pointwise, LineRun, answer_text, end_text, AreAnswered, all_done, all_told, service_text, AreLinesDone, LineIsDone, LinesAreDone}
use Rattle.std.proofs.lemmas.Grind.{flat_map-append}
use Rattle.std.proofs.lemmas.List.Elements.{All-append, All-nil, All-cons}
use Rattle.std.proofs.lemmas.Slice.Eq.{ends_is}
use Rattle.std.proofs.lemmas.Bool.{true≢false}
use Rattle.line_service.specs.script.Text.{outs_text}
use Rattle.line_service.specs.declared.line_outcome.LineOutcome.{LineOutcome}
use Rattle.line_service.specs.declared.line_outcome.LineOutcome.TheVariants.{NoMemory}

-- ---- what is done from other steps that are the same

moved : (plant : PlantFields) (start : Start) (b b' : List Step) (o o' : List Out) (n n' : ℕ) (lines : List (List ℕ)) (answers : List LineRun) → b ≡ b' → o ≡ o' → n ≡ n'
    → AreAnswered plant start b o n lines answers → AreAnswered plant start b' o' n' lines answers
moved plant start b b' o o' n n' lines answers eb eo en are =
    subst (λ (x : List Step). AreAnswered plant start x o' n' lines answers) eb
    (subst (λ (x : List Out). AreAnswered plant start b x n' lines answers) eo (subst (λ (x : ℕ). AreAnswered plant start b o x lines answers) en are))

after_moved : (plant : PlantFields) (start : Start) (b b' : List Step) (o o' : List Out) (live : CoreView) → b ≡ b' → o ≡ o' → IsAfterFrom plant start b o live → IsAfterFrom plant start b' o' live
after_moved plant start b b' o o' live eb eo after =
    subst (λ (x : List Step). IsAfterFrom plant start x o' live) eb (subst (λ (x : List Out). IsAfterFrom plant start b x live) eo after)

-- ---- lines, and then more

answered_joined : (plant : PlantFields) (start : Start) (before : List Step) (shown : List Out) (number : ℕ) (lines more : List (List ℕ)) (answers later : List LineRun)
    → AreAnswered plant start before shown number lines answers
    → AreAnswered plant start (before ++ all_done answers) (shown ++ all_told answers) (number + length lines) more later
    → AreAnswered plant start before shown number (lines ++ more) (answers ++ later)
answered_joined plant start before shown number [] more [] later h k = moved plant start _ before _ shown _ number more later (append-nil before) (append-nil shown) (omega arith) k
answered_joined plant start before shown number [] more (b ∷ bs) later h k = absurd h
answered_joined plant start before shown number (l ∷ ls) more [] later h k = absurd h
answered_joined plant start before shown number (l ∷ ls) more (b ∷ bs) later h k = (
  h.0,
  h.1,
  answered_joined plant start (before ++ b.done) (shown ++ b.told) (number + 1) ls more bs later h.2
      (moved plant start _ _ _ _ _ _ more later (sym (append_assoc before b.done (all_done bs))) (sym (append_assoc shown b.told (all_told bs))) (omega arith) k),
)

as_many : (plant : PlantFields) (start : Start) (before : List Step) (shown : List Out) (number : ℕ) (lines : List (List ℕ)) (answers : List LineRun)
    → AreAnswered plant start before shown number lines answers → length answers ≡ length lines
as_many plant start before shown number [] [] h = refl
as_many plant start before shown number [] (b ∷ bs) h = absurd h
as_many plant start before shown number (l ∷ ls) [] h = absurd h
as_many plant start before shown number (l ∷ ls) (b ∷ bs) h = ap suc (as_many plant start (before ++ b.done) (shown ++ b.told) (number + 1) ls bs h.2)

text_joined : (plant : PlantFields) (number : ℕ) (answers later : List LineRun)
    → service_text plant number (answers ++ later) ≡ service_text plant number answers ++ service_text plant (number + length answers) later
text_joined plant number [] later = ap (λ (n : ℕ). service_text plant n later) (omega arith)
text_joined plant number (b ∷ bs) later =
    ap (λ (t : List ℕ). answer_text plant number b ++ t) (text_joined plant (number + 1) bs later)
    ∙ sym (append_assoc (answer_text plant number b) (service_text plant (number + 1) bs) (service_text plant (number + 1 + length bs) later))
    ∙ ap (λ (n : ℕ). service_text plant number (b ∷ bs) ++ service_text plant n later) (omega arith)

module _ (plant : PlantFields) (start : Start) (before : List Step) (shown : List Out) (number : ℕ) where
  -- nothing is done yet
  pub none_done : (live : CoreView) → IsAfterFrom plant start before shown live → AreLinesDone plant start before shown number [] live []
  none_done live after = record {
    answers = [];
    answered = tt;
    enough = All-nil (λ (answered : LineRun). answered.end ≢ NoMemory);
    after = after_moved plant start before (before ++ []) shown (shown ++ []) live (sym (append-nil before)) (sym (append-nil shown)) after;
    text_is = refl;
  }

  pub done_joined : (lines more : List (List ℕ)) (live later : CoreView) (text next : List ℕ) (first : AreLinesDone plant start before shown number lines live text)
      → AreLinesDone plant start (before ++ all_done first.answers) (shown ++ all_told first.answers) (number + length lines) more later next
      → AreLinesDone plant start before shown number (lines ++ more) later (text ++ next)
  done_joined lines more live later text next first second =
      let many = as_many plant start before shown number lines first.answers first.answered in
      record {
        answers = first.answers ++ second.answers;
        answered = answered_joined plant start before shown number lines more first.answers second.answers first.answered second.answered;
        enough = All-append (λ (answered : LineRun). answered.end ≢ NoMemory) first.answers second.answers first.enough second.enough;
        after = after_moved plant start _ _ _ _ later
            (append_assoc before (all_done first.answers) (all_done second.answers) ∙ ap (λ (s : List Step). before ++ s) (sym (flat_map-append (λ (x : LineRun). x.done) first.answers second.answers)))
            (append_assoc shown (all_told first.answers) (all_told second.answers) ∙ ap (λ (s : List Out). shown ++ s) (sym (flat_map-append (λ (x : LineRun). x.told) first.answers second.answers)))
            second.after;
        text_is = ap (λ (t : List ℕ). t ++ next) first.text_is ∙ ap (λ (t : List ℕ). service_text plant number first.answers ++ t) second.text_is
            ∙ ap (λ (n : ℕ). service_text plant number first.answers ++ service_text plant (number + n) second.answers) (sym many)
            ∙ sym (text_joined plant number first.answers second.answers);
      }

  -- one line
  pub one_done : (line : List ℕ) (live : CoreView) (old new : List ℕ) → (is : LineIsDone plant start before shown number line live old new)
      → AreLinesDone plant start before shown number (line ∷ []) live (answer_text plant number is.answered)
  one_done line live old new is = record {
    answers = is.answered ∷ [];
    answered = (live, is.is, tt);
    enough = All-cons (λ (answered : LineRun). answered.end ≢ NoMemory) is.answered [] is.enough (All-nil (λ (answered : LineRun). answered.end ≢ NoMemory));
    after = after_moved plant start _ _ _ _ live (ap (λ (s : List Step). before ++ s) (sym (append-nil is.answered.done))) (ap (λ (s : List Out). shown ++ s) (sym (append-nil is.answered.told))) is.is.after;
    text_is = sym (append-nil (answer_text plant number is.answered));
  }

-- one line more
pub line_joined : (plant : PlantFields) (start : Start) (before : List Step) (shown : List Out) (number : ℕ) (lines : List (List ℕ)) (line : List ℕ) (live later : CoreView) (old mid new : List ℕ)
    → (first : LinesAreDone plant start before shown number lines live old mid)
    → LineIsDone plant start (before ++ all_done first.done.answers) (shown ++ all_told first.done.answers) (number + length lines) line later mid new
    → LinesAreDone plant start before shown number (lines ++ line ∷ []) later old new
line_joined plant start before shown number lines line live later old mid new first second = record {
  text = first.text ++ answer_text plant (number + length lines) second.answered;
  done = done_joined plant start before shown number lines (line ∷ []) live later first.text (answer_text plant (number + length lines) second.answered) first.done
      (one_done plant start (before ++ all_done first.done.answers) (shown ++ all_told first.done.answers) (number + length lines) line later mid new second);
  added = second.added ∙ ap (λ (t : List ℕ). t ++ answer_text plant (number + length lines) second.answered) first.added
      ∙ append_assoc old first.text (answer_text plant (number + length lines) second.answered);
}

-- ---- where memory did not run out

abbrev pub out_of_memory : List ℕ
out_of_memory = codes "fault: memory" ++ 10 ∷ []

-- the text does not end with the answer to a line for which it did
pub enough_memory : (plant : PlantFields) (number : ℕ) (old new : List ℕ) (answered : LineRun) (r : Bool) → new ≡ old ++ answer_text plant number answered
    → r ≡ pointwise nat_eq out_of_memory (drop (length new - length out_of_memory) new) → r ≡ false → answered.end ≢ NoMemory
enough_memory plant number old new answered r is found differs = λ ran_out.
    let end : answer_text plant number answered ≡ outs_text plant answered.told ++ out_of_memory =
    ap (λ (e : LineOutcome). outs_text plant answered.told ++ end_text number e) ran_out in
    let whole : new ≡ (old ++ outs_text plant answered.told) ++ out_of_memory =
    is ∙ ap (λ (t : List ℕ). old ++ t) end ∙ sym (append_assoc old (outs_text plant answered.told) out_of_memory) in
    true≢false (sym ((ends_is Decides-eqb new out_of_memory r found).1 (old ++ outs_text plant answered.told) whole) ∙ differs)
