-- The steps of a script, one after the other.
use Rattle.std.proofs.Common.{◌≡◌, inl, inr, true, false, ℕ, zero, suc, List, [], ◌∷◌, ◌++◌, take, max, Option, Some, None, Err, refl, sym, ap, subst, ◌∙◌, append_assoc}
use Rattle.trace_report.proofs.Common.{slice_get, Appends-nil, Appends-trans, map-append, PlantFields, Step, Out, CoreView, IsStateAfter, LineStep, steps_without_numbers, Decision, IsDecision, quote_after, no_words_line, AreDecided, IsTraceText, last_quoted, IsReportText, HasNoWords, HasTraced, HasQuoted, HasToldStep, first_left, none_left, take_next, drop_next, ends_at}
use Rattle.plant_core.specs.declared.live.core_fault.CoreFault.{CoreFault}
use Rattle.plant_core.specs.live.Faults.{step_fault, IsReported}
use Rattle.line_service.specs.declared.steps_end.StepsEnd.{StepsEnd}
use Rattle.line_service.specs.declared.steps_end.StepsEnd.TheVariants as ends
use Rattle.line_service.specs.Ends.{steps_end}
use Rattle.line_service.specs.Steps.{IsStepsEndAt}
use Rattle.trace_report.proofs.TracedSoFar.{IsTracedSoFar}
use Rattle.trace_report.proofs.RemarkLemmas.{no_remark, words_remark, no_words_are}
use Rattle.trace_report.proofs.ReportLemmas.{last_more, next_quoted, step_reported}
use Rattle.trace_report.proofs.TextLemmas.{text_remark, text_more, decided_more}

module _ (plant : PlantFields) (script : List ℕ) (steps : List LineStep) where
  abbrev SoFar : ℕ → Option LineStep → CoreView → Option (List ℕ) → Option (List ℕ) → List LineStep → Type 0
  SoFar last next core old new left = IsTracedSoFar plant script steps last next core old new left

  -- ---- one step more

  -- nothing is done yet
  pub none_traced : (core : CoreView) (known : Option (List ℕ)) → IsStateAfter plant [] [] core → SoFar 0 None core known known steps
  none_traced core known reached = record {
    at = zero;
    told = [];
    decisions = [];
    text = [];
    reached = reached;
    decided = tt;
    is_text = no_remark;
    last_is = refl;
    reported = refl;
    written = Appends-nil known;
    left_are = refl;
  }

  -- the line of the next step is quoted
  pub line_traced : (last : ℕ) (line : LineStep) (core : CoreView) (w0 w1 w2 : Option (List ℕ)) (left : List LineStep) → SoFar last None core w0 w1 left → HasQuoted script last line.number w1 w2
      → SoFar last (Some line) core w0 w2 left
  line_traced last line core w0 w1 w2 left half quoted = record {
    at = half.at;
    told = half.told;
    decisions = half.decisions;
    text = half.text ++ quote_after script last line.number;
    reached = half.reached;
    decided = half.decided;
    is_text = text_remark half.decisions half.text (quote_after script last line.number) half.is_text quoted.0;
    last_is = half.last_is;
    reported =
        subst (λ (n : ℕ). IsReportText script 0 (take half.at steps) half.decisions (Some line) (half.text ++ quote_after script n line.number)) (sym half.last_is)
        (next_quoted script 0 (take half.at steps) half.decisions line half.text half.reported);
    written = Appends-trans w0 w1 w2 half.text (quote_after script last line.number) half.written quoted.1;
    left_are = half.left_are;
  }

  module _ (last : ℕ) (old new : CoreView) (w0 w1 w2 : Option (List ℕ)) (line : LineStep) (rest : List LineStep) (now : List Out) (decision : Option Decision)
      (half : SoFar last (Some line) old w0 w1 (line ∷ rest)) (is : IsDecision old line.step decision)
      (reached : (b : List Step) (t : List Out) → IsStateAfter old.plant b t old → IsStateAfter old.plant (b ++ line.step ∷ []) (t ++ now) new) where
    done : List Step
    done = steps_without_numbers (take half.at steps)

    steps_more : done ++ line.step ∷ [] ≡ steps_without_numbers (take (suc half.at) steps)
    unfolding done
    steps_more =
        sym (map-append (λ (l : LineStep). l.step) (take half.at steps) (line ∷ []))
        ∙ ap steps_without_numbers (sym (take_next steps half.at line rest half.left_are))

    reached_more : IsStateAfter plant (done ++ line.step ∷ []) (half.told ++ now) new
    unfolding done
    reached_more =
        let same : old.plant ≡ plant = half.reached.plant_is in
        subst (λ (p : PlantFields). IsStateAfter p (done ++ line.step ∷ []) (half.told ++ now) new) same
        (reached done half.told (subst (λ (p : PlantFields). IsStateAfter p done half.told old) (sym same) half.reached))

    -- the step is done and told
    pub step_traced : HasToldStep decision true w1 w2 → SoFar (max last line.number) None new w0 w2 rest
    unfolding done
    step_traced told = record {
      at = suc half.at;
      told = half.told ++ now;
      decisions = half.decisions ++ decision ∷ [];
      text = half.text ++ (told.0 ++ told.1);
      reached = subst (λ (s : List Step). IsStateAfter plant s (half.told ++ now) new) steps_more reached_more;
      decided =
          subst (λ (s : List Step). AreDecided plant [] s (half.decisions ++ decision ∷ [])) steps_more
          (decided_more plant [] done half.decisions line.step decision half.decided (old, half.told, half.reached, is));
      is_text =
          subst (λ (t : List ℕ). IsTraceText (half.decisions ++ decision ∷ []) t) (append_assoc half.text told.0 told.1)
          (text_remark (half.decisions ++ decision ∷ []) (half.text ++ told.0) told.1 (text_more half.decisions decision half.text told.0 half.is_text told.2) (words_remark told.1 told.3));
      last_is =
          ap (λ (n : ℕ). max n line.number) half.last_is ∙ sym (last_more 0 (take half.at steps) line)
          ∙ ap (last_quoted 0) (sym (take_next steps half.at line rest half.left_are));
      reported =
          subst (λ (done_are : List LineStep). IsReportText script 0 done_are (half.decisions ++ decision ∷ []) None (half.text ++ (told.0 ++ told.1))) (sym (take_next steps half.at line rest half.left_are))
          (step_reported script 0 (take half.at steps) half.decisions line decision half.text told.0 told.1 half.reported told.2 told.3);
      written = Appends-trans w0 w1 w2 half.text (told.0 ++ told.1) half.written told.4;
      left_are = drop_next steps half.at line rest half.left_are;
    }

    -- the step is done, and an allocation failed for its words
    pub words_fail : HasToldStep decision false w1 w2 → HasTraced plant script steps new ends.NoMemory w0 w2
    unfolding step_traced
    words_fail told =
        let all : SoFar (max last line.number) None new w0 w2 rest = step_traced (told.0, no_words_line, told.1, no_words_are, told.2) in
        let none : HasNoWords (half.decisions ++ decision ∷ []) (half.text ++ (told.0 ++ no_words_line)) ends.NoMemory =
        record { end_is = refl; others = half.decisions; last = decision; decisions_are = refl; before = half.text; line = told.0; told = told.1; text_is = refl } in
        record {
          at = all.at;
          told = all.told;
          decisions = half.decisions ++ decision ∷ [];
          text = half.text ++ (told.0 ++ no_words_line);
          reached = all.reached;
          ends = inr none;
          decided = all.decided;
          is_text = all.is_text;
          next = None;
          next_is = inr (none, refl);
          reported = all.reported;
          written = all.written;
        }

  -- ---- how a trace ends

  ends_so : (last : ℕ) (next : Option LineStep) (core : CoreView) (end : StepsEnd) (w0 w1 : Option (List ℕ)) (left : List LineStep) (half : SoFar last next core w0 w1 left)
      → next ≡ slice_get steps half.at → IsStepsEndAt core (slice_get steps half.at) end → HasTraced plant script steps core end w0 w1
  ends_so last next core end w0 w1 left half next_is ends = record {
    at = half.at;
    told = half.told;
    decisions = half.decisions;
    text = half.text;
    reached = half.reached;
    ends = inl ends;
    decided = half.decided;
    is_text = half.is_text;
    next = next;
    next_is = inl next_is;
    reported = half.reported;
    written = half.written;
  }

  pub all_traced : (last : ℕ) (core : CoreView) (w0 w1 : Option (List ℕ)) (left : List LineStep) → SoFar last None core w0 w1 left → left ≡ [] → HasTraced plant script steps core ends.Done w0 w1
  all_traced last core w0 w1 left half none =
      let past : slice_get steps half.at ≡ None = none_left steps half.at (half.left_are ∙ none) in
      ends_so last None core ends.Done w0 w1 left half (sym past) (rw past tt)

  -- an allocation failed for a step that is not refused
  pub memory_wants : (last : ℕ) (core : CoreView) (w0 w1 : Option (List ℕ)) (line : LineStep) (rest : List LineStep) → SoFar last (Some line) core w0 w1 (line ∷ rest) → step_fault core line.step ≡ None
      → HasTraced plant script steps core ends.NoMemory w0 w1
  memory_wants last core w0 w1 line rest half none =
      let there : slice_get steps half.at ≡ Some line = first_left steps half.at line rest half.left_are in
      ends_so last (Some line) core ends.NoMemory w0 w1 (line ∷ rest) half (sym there) (rw there none)

  -- a trace ends where a step is not done
  pub step_not_done : (last : ℕ) (old core : CoreView) (w0 w1 : Option (List ℕ)) (line : LineStep) (rest : List LineStep) (A : Type 0) (fault : CoreFault) (end : StepsEnd)
      → SoFar last (Some line) old w0 w1 (line ∷ rest) → core ≡ old → IsReported {A = A} (Err fault) (step_fault old line.step) → end ≡ steps_end line.number fault
      → HasTraced plant script steps core end w0 w1
  step_not_done last old core w0 w1 line rest A fault end half same told is =
      let there : slice_get steps half.at ≡ Some line = first_left steps half.at line rest half.left_are in
      subst (λ (c : CoreView). HasTraced plant script steps c end w0 w1) (sym same)
      (ends_so last (Some line) old end w0 w1 (line ∷ rest) half (sym there) (rw (there, is) (ends_at A old line fault told)))
