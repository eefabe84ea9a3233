-- What a line is answered.
use Rattle.line_service.proofs.Common.{Start, nat_tests, Appends, Appends-nil, Appends-trans, PlantFields, Step, Out, CoreView, IsAfterFrom, LineStep, TooLong, steps_without_numbers, outs_text, LineOutcome, StepsEnd, line_outcome, LineRun, steps_said, end_text, IsEndAt, IsNotDone, EndsAs, IsStepsEndAt, HasDone, IsHeld, HasAnswered, LineIsAnswered}
use Rattle.std.proofs.Common.{◌≡◌, inl, inr, ℕ, List, [], ◌++◌, take, length, arith, ◌<◌, ◌≤◌, Bool, true, false, nat_le, Option, Some, None, Ok, Err, refl, sym, subst, ◌∙◌, append-nil}
use Rattle.std.specs.Prelude.{slice_get}
use Rattle.line_service.specs.declared.script.fields.FieldError.{FieldError}
use Rattle.line_service.specs.script.Fields.{FieldResult, behind}
use Rattle.line_service.specs.script.Script.{ArePlaced, line_steps}
use Rattle.line_service.proofs.ScriptLemmas.Placed.{line_placed}
use Rattle.line_service.specs.declared.line_outcome.LineOutcome.TheVariants.{AtFault, NoMemory}
use Rattle.line_service.specs.declared.steps_end.StepsEnd.TheVariants as ends

-- a line ends as its steps do
ends_so : (live : CoreView) (next : Option LineStep) (end : StepsEnd) → IsStepsEndAt live next end → IsEndAt live next (line_outcome end)
ends_so live None ends.Done is = tt
ends_so live None (ends.Refused number) is = is
ends_so live None ends.NoMemory is = is
ends_so live (Some line) ends.Done is = is
ends_so live (Some line) (ends.Refused number) is = is.1
ends_so live (Some line) ends.NoMemory is = is

-- a line that is too long says no steps
short_enough : (plant : PlantFields) (number : ℕ) (line : List ℕ) (steps : List LineStep) → steps_said plant number line ≡ Ok steps → 4096 < length line → ⊥
short_enough plant number line steps said long =
    let over : nat_le (length line) 4096 ≡ false = grind (arith, nat_tests, long) in
    let none : steps_said plant number line ≡ Err TooLong = rw over refl in
    let wrong : ◌≡◌ {A = FieldResult (List LineStep)} (Err TooLong) (Ok steps) = sym none ∙ said in cc

-- the steps that a line says are placed
pub said_placed : (plant : PlantFields) (number : ℕ) (line : List ℕ) (before steps : List LineStep) → before ≡ [] → behind before (line_steps plant number line) ≡ Ok steps
    → ArePlaced plant steps
said_placed plant number line before steps none said =
    cases (line_steps plant number line) refl (subst (λ (b : List LineStep). behind b (line_steps plant number line) ≡ Ok steps) none said) where
      cases : (r : FieldResult (List LineStep)) → line_steps plant number line ≡ r → behind [] r ≡ Ok steps → ArePlaced plant steps
      cases (Ok more) e is = line_placed plant number line steps (e ∙ is)
      cases (Err error) e is = absurd cc

-- a line that says steps
pub steps_answered : (plant : PlantFields) (start : Start) (before : List Step) (shown : List Out) (number : ℕ) (line : List ℕ) (steps : List LineStep) (live : CoreView) (end : StepsEnd) (w0 w1 : Option (List ℕ))
    → steps_said plant number line ≡ Ok steps → HasDone plant start before shown steps live end w0 w1 → HasAnswered plant start before shown number line live (line_outcome end) w0 w1
steps_answered plant start before shown number line steps live end w0 w1 said has = record {
  answered = record { done = steps_without_numbers (take has.at steps); told = has.told; end = line_outcome end };
  is = record {
    after = has.after;
    ends = subst (λ (r : FieldResult (List LineStep)). EndsAs r live (record { done = steps_without_numbers (take has.at steps); told = has.told; end = line_outcome end })) (sym said)
        (inr (record { at = has.at; done_are = refl; ends = ends_so live (slice_get steps has.at) end has.ends }));
    too_long = λ long. absurd (short_enough plant number line steps said long);
  };
  end_is = refl;
  written = has.written;
}

unchanged : (plant : PlantFields) (start : Start) (before : List Step) (shown : List Out) (live : CoreView) → IsAfterFrom plant start before shown live → IsAfterFrom plant start (before ++ []) (shown ++ []) live
unchanged plant start before shown live after =
    subst (λ (s : List Step). IsAfterFrom plant start s (shown ++ []) live) (sym (append-nil before)) (subst (λ (o : List Out). IsAfterFrom plant start before o live) (sym (append-nil shown)) after)

abbrev nothing : LineOutcome → LineRun
nothing end = record { done = []; told = []; end = end }

not_done : (end : LineOutcome) → IsNotDone end (nothing end)
not_done end = record { none_done = refl; none_told = refl; end_is = refl }

-- a line that says none
pub none_answered : (plant : PlantFields) (start : Start) (before : List Step) (shown : List Out) (number : ℕ) (line : List ℕ) (error : FieldError) (live : CoreView) (known : Option (List ℕ))
    → IsAfterFrom plant start before shown live → steps_said plant number line ≡ Err error → HasAnswered plant start before shown number line live AtFault known known
none_answered plant start before shown number line error live known after said = record {
  answered = nothing AtFault;
  is = record {
    after = unchanged plant start before shown live after;
    ends = subst (λ (r : FieldResult (List LineStep)). EndsAs r live (nothing AtFault)) (sym said) (inr (not_done AtFault));
    too_long = λ long. not_done AtFault;
  };
  end_is = refl;
  written = Appends-nil known;
}

not_parsed : (said : FieldResult (List LineStep)) (live : CoreView) → EndsAs said live (nothing NoMemory)
not_parsed (Ok steps) live = inl (not_done NoMemory)
not_parsed (Err fault) live = inl (not_done NoMemory)

-- an allocation failed while the line was parsed, which is not too long
pub memory_answered : (plant : PlantFields) (start : Start) (before : List Step) (shown : List Out) (number : ℕ) (line : List ℕ) (live : CoreView) (known : Option (List ℕ))
    → IsAfterFrom plant start before shown live → length line ≤ 4096 → HasAnswered plant start before shown number line live NoMemory known known
memory_answered plant start before shown number line live known after few = record {
  answered = nothing NoMemory;
  is = record {
    after = unchanged plant start before shown live after;
    ends = not_parsed (steps_said plant number line) live;
    too_long = λ long. absurd (omega (arith, few, long));
  };
  end_is = refl;
  written = Appends-nil known;
}

-- the end is written too
pub end_written : (plant : PlantFields) (start : Start) (before : List Step) (shown : List Out) (number : ℕ) (line : List ℕ) (live : CoreView) (end : LineOutcome) (w0 w1 w2 : Option (List ℕ))
    → HasAnswered plant start before shown number line live end w0 w1 → Appends w1 w2 (end_text number end) → LineIsAnswered plant start before shown number line live w0 w2
end_written plant start before shown number line live end w0 w1 w2 has wrote = record {
  answered = has.answered;
  is = has.is;
  written =
      Appends-trans w0 w1 w2 (outs_text plant has.answered.told) (end_text number has.answered.end) has.written
      (subst (λ (e : LineOutcome). Appends w1 w2 (end_text number e)) (sym has.end_is) wrote);
}

-- a line that is too long says nothing
pub long_said : (plant : PlantFields) (number : ℕ) (bytes line : List ℕ) (is_long : Bool) → is_long ≡ true → IsHeld bytes is_long line → steps_said plant number line ≡ Err TooLong
long_said plant number bytes line is_long is held =
    let long : 4096 < length line = subst (λ (b : Bool). IsHeld bytes b line) is held in
    let over : nat_le (length line) 4096 ≡ false = grind (arith, nat_tests, long) in
    rw over refl

-- a line that is held whole
pub whole_held : (bytes line : List ℕ) (is_long : Bool) → is_long ≡ false → IsHeld bytes is_long line → bytes ≡ line
whole_held bytes line is_long is held =
    let whole : (bytes ≡ line) × (length line ≤ 4096) = subst (λ (b : Bool). IsHeld bytes b line) is held in
    whole.0
