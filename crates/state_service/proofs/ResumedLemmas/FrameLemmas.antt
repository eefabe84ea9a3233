-- A line that requests another number for the next frame, and its answer.
use Rattle.std.proofs.Common.{◌≡◌, ◌≢◌, ℕ, ◌+◌, ◌<◌, ◌^◌, Bool, true, false, List, ◌∷◌, drop, Option, Result, Ok, inl, inr, refl, sym, ap, subst, ◌∙◌, arith}
use Rattle.std.specs.Fmt.{decimal}
use Rattle.state_service.proofs.ResumedLemmas.Common.{IsUtf8, ParsesUnsigned, IsUtf8-from_ascii, Appends, PlantFields, IsPlant, CoreView, WhereKnown, lines_left, IsHeld, Snapshot, states_of, NoMemory, IsRestarted, LineBreak, InService, begun_from, asks_frame, NamesFrame, IsCoreRenumbered, IsNewFrameFault, IsStartRefusal, IsNotStarted, frame_text, frame_refusal_text, IsNumberAfter, AreServedSoFar, HoldsLine, AwaitsFrame}
use Rattle.std.proofs.lemmas.Fmt.{IsAscii-decimal, parse-decimal}
use Rattle.state_service.specs.declared.resumed.new_frame_fault.NewFrameFault.{NewFrameFault}
use Rattle.state_service.specs.declared.resumed.new_frame_fault.NewFrameFault.TheVariants as faults
use Rattle.state_service.proofs.ResumedLemmas.RenumberLemmas.{run_renumbered}
use Rattle.state_service.proofs.ResumedLemmas.ServedLemmas.{answered, known_map}

-- ---- the number that a line names

-- what is after the space is the number
digits_are : (line digits : List ℕ) (to : ℕ) → digits ≡ drop 2 line → NamesFrame line to → digits ≡ decimal to
digits_are line digits to is names = is ∙ ap (λ (l : List ℕ). drop 2 l) names.0

wide : (to : ℕ) → to < 2 ^ 32 → to < 2 ^ 64
wide to lt = omega arith

pub no_text : (line digits : List ℕ) (to : ℕ) → digits ≡ drop 2 line → ¬ IsUtf8 digits → NamesFrame line to → ⊥
no_text line digits to is other names = other (subst IsUtf8 (sym (digits_are line digits to is names)) (IsUtf8-from_ascii (decimal to) (IsAscii-decimal to (wide to names.1))))

pub parsed : {E : Type 0} (line digits : List ℕ) (r : Result ℕ E) (to : ℕ) → digits ≡ drop 2 line → ParsesUnsigned 32 10 digits r → NamesFrame line to → r ≡ Ok to
parsed line digits r to is parses names = parse-decimal 32 to digits r names.1 (wide to names.1) (digits_are line digits to is names) parses

pub other_number : {E : Type 0} (line digits : List ℕ) (r : Result ℕ E) (number to : ℕ) → digits ≡ drop 2 line → ParsesUnsigned 32 10 digits r → r ≡ Ok number → decimal number ≢ digits → NamesFrame line to → ⊥
other_number line digits r number to is parses gives other names =
    let same : number ≡ to = let a = parsed line digits r to is parses names in cc in
    other (ap decimal same ∙ sym (digits_are line digits to is names))

-- ---- the line that is held

pub line_is : (bytes line : List ℕ) (is_long : Bool) → is_long ≡ false → IsHeld bytes is_long line → bytes ≡ line
line_is bytes line is_long whole held = (subst (λ (long : Bool). IsHeld bytes long line) whole held).0

-- ---- the answer

module _ (first : InService) (input line : List ℕ) (number : ℕ) (old : CoreView) (file : List ℕ) (w0 w1 w2 : Option (List ℕ)) (rest : List ℕ) (end : LineBreak) (next : ℕ)
    (so_far : AreServedSoFar first input (line ∷ lines_left end rest) number old file w0 w1) (asks : asks_frame line ≡ true) (counted : IsNumberAfter end (number + 1) next) where
  -- the frame keeps its number
  frame_kept : (fault : NewFrameFault) → IsNewFrameFault file old line fault → Appends w1 w2 (frame_refusal_text number fault) → AreServedSoFar first input (lines_left end rest) next old file w0 w2
  frame_kept fault is wrote =
      answered first input line (lines_left end rest) number old file w0 w1 w2 so_far rest end next old file
      (record { lines = 1; next = so_far.now; changes = false; renumbers = false; text = frame_refusal_text number fault })
      (inr (inr (inr (record {
        on = refl;
        same_numbers = refl;
        next_is = refl;
        why = inr (inr (record {
          live = old;
          leads = so_far.leads;
          requests = asks;
          one = refl;
          fault = fault;
          is = subst (λ (f : List ℕ). IsNewFrameFault f old line fault) (sym so_far.file_is) is;
          text_is = refl;
        }));
      })))) refl counted so_far.leads so_far.file_is wrote

  module _ (other : Snapshot) (plant : PlantFields) (names : NamesFrame line other.frame) (renumbered : IsCoreRenumbered file old other.frame other) (plant_is : plant ≡ old.plant) where
    -- it gets the number
    frame_given : (new : CoreView) → IsPlant plant → IsRestarted plant other.frame (states_of other) new → Appends w1 w2 (frame_text other.frame) → AreServedSoFar first input (lines_left end rest) next new file w0 w2
    frame_given new valid restarted wrote =
        let run = so_far.now.run in
        let same : plant ≡ run.plant = plant_is ∙ so_far.leads.plant_is in
        let started = subst (λ (p : PlantFields). IsRestarted p other.frame (states_of other) new) same restarted in
        let here = subst (λ (f : List ℕ). IsCoreRenumbered f old other.frame other) (sym so_far.file_is) renumbered in
        answered first input line (lines_left end rest) number old file w0 w1 w2 so_far rest end next new file
        (record { lines = 1; next = record { run = begun_from run.plant other; file = so_far.now.file }; changes = true; renumbers = true; text = frame_text other.frame })
        (inr (inr (inl (record {
          live = old;
          leads = so_far.leads;
          requests = asks;
          one = refl;
          other = other;
          names = names;
          renumbered = here;
          new = refl;
          other_numbers = refl;
          changed = run_renumbered old run.plant run.start run.steps run.outs (subst IsPlant same valid) so_far.leads so_far.now.file other new here started;
          next_is = refl;
          after = new;
          leads_on = started.reached;
          text_is = refl;
        })))) refl counted started.reached so_far.file_is wrote

    -- the plant does not start before a frame of that number
    start_fault : (fault : NewFrameFault) → IsStartRefusal plant other.frame (states_of other) fault → IsNewFrameFault file old line fault
    start_fault faults.NoNumber is = absurd is
    start_fault (faults.Unfinished why) is = absurd is
    start_fault (faults.NotRenumbered from to why) is = absurd is
    start_fault faults.BeforeFirstFrame is = absurd is
    start_fault (faults.NotRestored why) is = record {
      other = other;
      names = names;
      renumbered = renumbered;
      refused = subst (λ (p : PlantFields). IsNotStarted p other.frame (states_of other) why) plant_is is;
    }
    start_fault faults.NoMemory is = ((other.frame, names), (renumbered.frame, renumbered.rests))

-- ---- where the reader's bytes are known

module _ (first : InService) (end : LineBreak) (number : ℕ) (old : CoreView) (file bytes : List ℕ) (is_long : Bool) (w0 w1 : Option (List ℕ)) (a b : Option (List ℕ))
    (holds : WhereKnown a b (λ input rest. HoldsLine first input rest end number old file bytes is_long w0 w1)) (asks : (line : List ℕ) → IsHeld bytes is_long line → asks_frame line ≡ true) (whole : is_long ≡ false)
    (next : ℕ) (counted : IsNumberAfter end (number + 1) next) where
  -- the line waits for a core
  pub frame_awaits : (other : Snapshot) (plant : PlantFields) → NamesFrame bytes other.frame → IsCoreRenumbered file old other.frame other → plant ≡ old.plant → IsPlant plant
      → WhereKnown a b (λ input rest. AwaitsFrame first input rest end number next old file other plant w0 w1)
  frame_awaits other plant names renumbered plant_is valid =
      known_map a b (λ input rest. HoldsLine first input rest end number old file bytes is_long w0 w1) (λ input rest. AwaitsFrame first input rest end number next old file other plant w0 w1)
      (λ input rest here. record {
        line = here.line;
        so_far = here.so_far;
        requests = asks here.line here.is_held;
        names = subst (λ (l : List ℕ). NamesFrame l other.frame) (line_is bytes here.line is_long whole here.is_held) names;
        renumbered = renumbered;
        plant_is = plant_is;
        valid = valid;
        counted = counted;
      }) holds

  -- or it is refused
  pub frame_refused : (fault : NewFrameFault) (w2 : Option (List ℕ)) → IsNewFrameFault file old bytes fault → Appends w1 w2 (frame_refusal_text number fault)
      → WhereKnown a b (λ input rest. AreServedSoFar first input (lines_left end rest) next old file w0 w2)
  frame_refused fault w2 is wrote =
      known_map a b (λ input rest. HoldsLine first input rest end number old file bytes is_long w0 w1) (λ input rest. AreServedSoFar first input (lines_left end rest) next old file w0 w2)
      (λ input rest here.
      frame_kept first input here.line number old file w0 w1 w2 rest end next here.so_far (asks here.line here.is_held) counted fault
      (subst (λ (l : List ℕ). IsNewFrameFault file old l fault) (line_is bytes here.line is_long whole here.is_held) is) wrote) holds

-- a core is restored for it, or not
module _ (first : InService) (end : LineBreak) (number next : ℕ) (old : CoreView) (file : List ℕ) (other : Snapshot) (plant : PlantFields) (w0 w1 w2 : Option (List ℕ)) (a b : Option (List ℕ))
    (waits : WhereKnown a b (λ input rest. AwaitsFrame first input rest end number next old file other plant w0 w1)) where
  pub frame_changed : (new : CoreView) → IsRestarted plant other.frame (states_of other) new → Appends w1 w2 (frame_text other.frame)
      → WhereKnown a b (λ input rest. AreServedSoFar first input (lines_left end rest) next new file w0 w2)
  frame_changed new restarted wrote =
      known_map a b (λ input rest. AwaitsFrame first input rest end number next old file other plant w0 w1) (λ input rest. AreServedSoFar first input (lines_left end rest) next new file w0 w2)
      (λ input rest here.
      frame_given first input here.line number old file w0 w1 w2 rest end next here.so_far here.requests here.counted other plant here.names here.renumbered here.plant_is new here.valid restarted wrote) waits

  pub frame_not_changed : (fault : NewFrameFault) → IsStartRefusal plant other.frame (states_of other) fault → Appends w1 w2 (frame_refusal_text number fault)
      → WhereKnown a b (λ input rest. AreServedSoFar first input (lines_left end rest) next old file w0 w2)
  frame_not_changed fault is wrote =
      known_map a b (λ input rest. AwaitsFrame first input rest end number next old file other plant w0 w1) (λ input rest. AreServedSoFar first input (lines_left end rest) next old file w0 w2)
      (λ input rest here.
      frame_kept first input here.line number old file w0 w1 w2 rest end next here.so_far here.requests here.counted fault
      (start_fault first input here.line number old file w0 w1 w2 rest end next here.so_far here.requests here.counted other plant here.names here.renumbered here.plant_is fault is) wrote) waits
