-- The lines of a service, one after the other.
use Rattle.line_service.proofs.Common.{Start, Appends, Appends-nil, Appends-trans, flat_map-append, PlantFields, Step, Out, CoreView, IsAfterFrom, lines_of, LineBreak, WhereKnown, lines_left, IsLineRead, LineRun, answer_text, IsAnswer, AreAnswered, service_text, all_done, all_told, IsServiceOf, ServiceIsShown, IsHeld, LineIsAnswered, IsServedSoFar}
use Rattle.std.proofs.Common.{◌≡◌, ℕ, suc, ◌+◌, length, arith, Bool, List, [], ◌∷◌, ◌++◌, Option, Some, None, IfSome, refl, sym, ap, subst, ◌∙◌, append_assoc, append-nil, length-append}
use Rattle.plant_core.proofs.LiveLemmas.LawLemmas.{live_shown, live_ordered}

-- ---- one line more

moved : (plant : PlantFields) (start : Start) (b b' : List Step) (o o' : List Out) (n n' : ℕ) (line : List ℕ) (live : CoreView) (a : LineRun) → b ≡ b' → o ≡ o' → n ≡ n' → IsAnswer plant start b o n line live a → IsAnswer plant start b' o' n' line live a
moved plant start b b' o o' n n' line live a eb eo en is =
    subst (λ (x : List Step). IsAnswer plant start x o' n' line live a) eb
    (subst (λ (x : List Out). IsAnswer plant start b x n' line live a) eo (subst (λ (x : ℕ). IsAnswer plant start b o x line live a) en is))

answered_more : (plant : PlantFields) (start : Start) (before : List Step) (shown : List Out) (number : ℕ) (lines : List (List ℕ)) (answers : List LineRun) (line : List ℕ) (live : CoreView) (a : LineRun)
    → AreAnswered plant start before shown number lines answers → IsAnswer plant start (before ++ all_done answers) (shown ++ all_told answers) (number + length lines) line live a
    → AreAnswered plant start before shown number (lines ++ line ∷ []) (answers ++ a ∷ [])
answered_more plant start before shown number [] [] line live a h is =
    (live, moved plant start _ before _ shown _ number line live a (append-nil before) (append-nil shown) (omega arith) is, tt)
answered_more plant start before shown number [] (b ∷ bs) line live a h is = absurd h
answered_more plant start before shown number (l ∷ ls) [] line live a h is = absurd h
answered_more plant start before shown number (l ∷ ls) (b ∷ bs) line live a h is = (
  h.0,
  h.1,
  answered_more plant start (before ++ b.done) (shown ++ b.told) (number + 1) ls bs line live a h.2
      (moved plant start _ _ _ _ _ _ line live a (sym (append_assoc before b.done (all_done bs))) (sym (append_assoc shown b.told (all_told bs))) (omega arith) is),
)

as_many : (plant : PlantFields) (start : Start) (before : List Step) (shown : List Out) (number : ℕ) (lines : List (List ℕ)) (answers : List LineRun) → AreAnswered plant start before shown number lines answers → length answers ≡ length lines
as_many plant start before shown number [] [] h = refl
as_many plant start before shown number [] (b ∷ bs) h = absurd h
as_many plant start before shown number (l ∷ ls) [] h = absurd h
as_many plant start before shown number (l ∷ ls) (b ∷ bs) h = ap suc (as_many plant start (before ++ b.done) (shown ++ b.told) (number + 1) ls bs h.2)

text_more : (plant : PlantFields) (number : ℕ) (answers : List LineRun) (a : LineRun) → service_text plant number (answers ++ a ∷ []) ≡ service_text plant number answers ++ answer_text plant (number + length answers) a
text_more plant number [] a = append-nil (answer_text plant number a) ∙ ap (λ (n : ℕ). answer_text plant n a) (omega arith)
text_more plant number (b ∷ bs) a =
    ap (λ (t : List ℕ). answer_text plant number b ++ t) (text_more plant (number + 1) bs a)
    ∙ sym (append_assoc (answer_text plant number b) (service_text plant (number + 1) bs) (answer_text plant (number + 1 + length bs) a))
    ∙ ap (λ (n : ℕ). service_text plant number (b ∷ bs) ++ answer_text plant n a) (omega arith)

-- ---- what is done so far

module _ (plant : PlantFields) (start : Start) (before : List Step) (shown : List Out) where
  -- nothing is read yet
  pub begun : (input : List ℕ) (live : CoreView) (known : Option (List ℕ)) → IsAfterFrom plant start before shown live
      → IsServedSoFar plant start before shown input (lines_of input) 1 live known known
  begun input live known after = record {
    lines = [];
    answers = [];
    lines_are = refl;
    number_is = refl;
    answered = tt;
    after = subst (λ (s : List Step). IsAfterFrom plant start s (shown ++ []) live) (sym (append-nil before)) (subst (λ (o : List Out). IsAfterFrom plant start before o live) (sym (append-nil shown)) after);
    written = Appends-nil known;
  }

  -- all that is answered with a line more
  module _ (input line : List ℕ) (left : List (List ℕ)) (number : ℕ) (old live : CoreView) (w0 w1 w2 : Option (List ℕ))
      (so_far : IsServedSoFar plant start before shown input (line ∷ left) number old w0 w1)
      (new : LineIsAnswered plant start (before ++ all_done so_far.answers) (shown ++ all_told so_far.answers) number line live w1 w2) where
    all : List LineRun
    all = so_far.answers ++ new.answered ∷ []

    are_answered : AreAnswered plant start before shown 1 (so_far.lines ++ line ∷ []) all
    unfolding all
    are_answered =
        answered_more plant start before shown 1 so_far.lines so_far.answers line live new.answered so_far.answered
        (subst (λ (n : ℕ). IsAnswer plant start (before ++ all_done so_far.answers) (shown ++ all_told so_far.answers) n line live new.answered) so_far.number_is new.is)

    run_is : IsAfterFrom plant start (before ++ all_done all) (shown ++ all_told all) live
    unfolding all
    run_is =
        let a = new.answered in
        let done : (before ++ all_done so_far.answers) ++ a.done ≡ before ++ all_done (so_far.answers ++ a ∷ []) =
        append_assoc before (all_done so_far.answers) a.done
        ∙ ap (λ (s : List Step). before ++ s) (ap (λ (s : List Step). all_done so_far.answers ++ s) (sym (append-nil a.done)) ∙ sym (flat_map-append (λ (x : LineRun). x.done) so_far.answers (a ∷ []))) in
        let told : (shown ++ all_told so_far.answers) ++ a.told ≡ shown ++ all_told (so_far.answers ++ a ∷ []) =
        append_assoc shown (all_told so_far.answers) a.told
        ∙ ap (λ (s : List Out). shown ++ s) (ap (λ (s : List Out). all_told so_far.answers ++ s) (sym (append-nil a.told)) ∙ sym (flat_map-append (λ (x : LineRun). x.told) so_far.answers (a ∷ []))) in
        subst (λ (s : List Step). IsAfterFrom plant start s (shown ++ all_told (so_far.answers ++ a ∷ [])) live) done
        (subst (λ (o : List Out). IsAfterFrom plant start ((before ++ all_done so_far.answers) ++ a.done) o live) told new.is.after)

    is_written : Appends w0 w2 (service_text plant 1 all)
    unfolding all
    is_written =
        let count : 1 + length so_far.answers ≡ number = ap (λ (n : ℕ). 1 + n) (as_many plant start before shown 1 so_far.lines so_far.answers so_far.answered) ∙ sym so_far.number_is in
        subst (λ (t : List ℕ). Appends w0 w2 t) (sym (text_more plant 1 so_far.answers new.answered))
        (Appends-trans w0 w1 w2 _ _ so_far.written (subst (λ (n : ℕ). Appends w1 w2 (answer_text plant n new.answered)) (sym count) new.written))

    -- the line is answered, and these are left
    pub line_answered : (next : ℕ) → next ≡ number + 1 → IsServedSoFar plant start before shown input left next live w0 w2
    unfolding all are_answered run_is is_written
    line_answered next next_is = record {
      lines = so_far.lines ++ line ∷ [];
      answers = all;
      lines_are = so_far.lines_are ∙ sym (append_assoc so_far.lines (line ∷ []) left);
      number_is = let n : number ≡ 1 + length so_far.lines = so_far.number_is in next_is ∙ ap (λ (k : ℕ). k + 1) n ∙ counted so_far.lines line;
      answered = are_answered;
      after = run_is;
      written = is_written;
    }
      where
        counted : (xs : List (List ℕ)) (x : List ℕ) → 1 + length xs + 1 ≡ 1 + length (xs ++ x ∷ [])
        counted xs x = let long = length-append xs (x ∷ []) in omega (arith, long)

    -- the input has ended
    pub input_ended : left ≡ [] → IsServiceOf plant start before shown input live w0 w2
    unfolding all are_answered run_is is_written
    input_ended ends = record {
      answers = all;
      answered = subst (λ (ls : List (List ℕ)). AreAnswered plant start before shown 1 ls all) (sym (so_far.lines_are ∙ ap (λ (ls : List (List ℕ)). so_far.lines ++ line ∷ ls) ends)) are_answered;
      after = run_is;
      written = is_written;
    }

-- ---- a line is read, and answered

-- what a line is answered, if it is held so
abbrev pub AnswersHeld : CoreView → CoreView → ℕ → List ℕ → Bool → Option (List ℕ) → Option (List ℕ) → Type 0
AnswersHeld old live number bytes is_long w1 w2 =
    (plant : PlantFields) (start : Start) (before : List Step) (shown : List Out) → IsAfterFrom plant start before shown old
    → (line : List ℕ) → IsHeld bytes is_long line → LineIsAnswered plant start before shown number line live w1 w2

module _ (plant : PlantFields) (start : Start) (before : List Step) (shown : List Out) (number : ℕ) (old live : CoreView) (bytes : List ℕ) (is_long : Bool)
    (w0 w1 w2 : Option (List ℕ)) (answers : AnswersHeld old live number bytes is_long w1 w2) (input rest left : List ℕ)
    (so_far : IsServedSoFar plant start before shown input (lines_of rest) number old w0 w1) where
  module _ (end : LineBreak) (read : IsLineRead rest left bytes is_long end) where
    here : IsServedSoFar plant start before shown input (read.line ∷ lines_left end left) number old w0 w1
    here = subst (λ (ls : List (List ℕ)). IsServedSoFar plant start before shown input ls number old w0 w1) read.lines_are so_far

    answer : LineIsAnswered plant start (before ++ all_done here.answers) (shown ++ all_told here.answers) number read.line live w1 w2
    unfolding here
    answer = answers plant start (before ++ all_done here.answers) (shown ++ all_told here.answers) here.after read.line read.is_held

    pub served_on : (next : ℕ) → next ≡ number + 1 → IsServedSoFar plant start before shown input (lines_left end left) next live w0 w2
    unfolding here answer
    served_on next next_is = line_answered plant start before shown input read.line (lines_left end left) number old live w0 w1 w2 here answer next next_is

    pub served_all : lines_left end left ≡ [] → IsServiceOf plant start before shown input live w0 w2
    unfolding here answer
    served_all ends = input_ended plant start before shown input read.line (lines_left end left) number old live w0 w1 w2 here answer ends

-- ---- where the reader's bytes are known

pub known_same : (known : Option (List ℕ)) (P : List ℕ → List ℕ → Type 0) → ((input : List ℕ) → P input input) → WhereKnown known known P
known_same None P h = tt
known_same (Some input) P h = h input

-- what holds of an input and of what is left of it, and what holds of that and of what is left then, make a third
pub known_then : (a b d : Option (List ℕ)) (P Q R : List ℕ → List ℕ → Type 0) → ((input rest left : List ℕ) → P input rest → Q rest left → R input left) → WhereKnown a b P → WhereKnown b d Q → WhereKnown a d R
known_then None b d P Q R on h k = tt
known_then (Some input) None d P Q R on h k = absurd h
known_then (Some input) (Some rest) None P Q R on h k = absurd k
known_then (Some input) (Some rest) (Some left) P Q R on h k = on input rest left h k

pub known_ended : (a b d : Option (List ℕ)) (G : PlantFields → Start → List Step → List Out → Type 0) (P : PlantFields → Start → List Step → List Out → List ℕ → List ℕ → Type 0) (L : List ℕ → List ℕ → Type 0)
    (Q : PlantFields → Start → List Step → List Out → List ℕ → Type 0)
    → ((plant : PlantFields) (start : Start) (before : List Step) (shown : List Out) → G plant start before shown → WhereKnown a b (P plant start before shown)) → WhereKnown b d L
    → ((plant : PlantFields) (start : Start) (before : List Step) (shown : List Out) (input rest left : List ℕ) → P plant start before shown input rest → L rest left → Q plant start before shown input)
    → IfSome a (λ input. (plant : PlantFields) (start : Start) (before : List Step) (shown : List Out) → G plant start before shown → Q plant start before shown input)
known_ended None b d G P L Q h read on = tt
known_ended (Some input) None d G P L Q h read on = λ plant start before shown is. absurd (h plant start before shown is)
known_ended (Some input) (Some rest) None G P L Q h read on = absurd read
known_ended (Some input) (Some rest) (Some left) G P L Q h read on = λ plant start before shown is. on plant start before shown input rest left (h plant start before shown is) read

-- ---- the law

pub service_shown : ServiceIsShown
service_shown plant start input live old new service = (live_shown plant start _ _ live service.after, live_ordered plant start _ _ live service.after)
