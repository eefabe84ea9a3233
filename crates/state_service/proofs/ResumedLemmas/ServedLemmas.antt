-- The items of a service, one after the other.
use Rattle.std.proofs.Common.{◌≡◌, ℕ, suc, ◌+◌, Bool, true, false, List, [], ◌∷◌, ◌++◌, Option, Some, None, IfSome, inl, inr, refl, sym, ap, subst, ◌∙◌, arith, append_assoc, append-nil, codes}
use Rattle.state_service.proofs.ResumedLemmas.Common.{drop, Appends, Appends-nil, Appends-trans, bytes_eq-Decides, PlantFields, Step, Out, Start, CoreView, IsAfterFrom, Snapshot, states_of, WhereKnown, IsHeld, known_same, known_then, start_by_name, IsChangeOf, IsRestarted, states_by_name, LineBreak, Another, End, Keeping, AtEnd, LastState, IsBeginningRead, lines_left, IsLineRead, IsNewFileFault, IsChangeRefusal, IsNewPlantFault, refusal_text, lines_taken, break_after, file_text, IsFileOf, IsFileKept, IsFileRead, IsNumberAfter, InService, ItemAnswer, IsRunSoFarOf, IsItemAnswer, AreItemAnswers, begins_plant, change_text, texts_of, IsLastState, IsServedTo, resumed_service, EndsInput, in_service, ItemIsAnswered, AreServedSoFar, HoldsLine, AwaitsPlant}
use Rattle.line_service.specs.script.Lines.{lines_of}
use Rattle.state_service.specs.declared.resumed.new_plant_fault.NewPlantFault.{NewPlantFault}
use Rattle.state_service.specs.declared.resumed.new_plant_fault.NewPlantFault.TheVariants as new_faults
use Rattle.state_service.specs.declared.resumed.plant_file.PlantFileEnd.{PlantFileEnd}
use Rattle.state_service.specs.declared.resumed.serving.ServiceEnd.TheVariants as ends

-- nothing is read yet
pub begun : (first : InService) (input : List ℕ) (live : CoreView) (file : List ℕ) (known : Option (List ℕ)) → IsRunSoFarOf first.run live → first.file ≡ file
    → AreServedSoFar first input (lines_of input) 1 live file known known
begun first input live file known leads same = record {
  now = first;
  text = [];
  leads = leads;
  file_is = same;
  goes_on = λ more are. (more, are, refl, refl);
  written = Appends-nil known;
}

-- the number of a line that is not there says nothing
renumber : (end : LineBreak) (rest : List ℕ) (number next : ℕ) → IsNumberAfter end number next → (now : InService) (more : List ItemAnswer) → AreItemAnswers now next (lines_left end rest) more
    → AreItemAnswers now number (lines_left end rest) more
renumber Another rest number next is now more are = subst (λ (n : ℕ). AreItemAnswers now n (lines_of rest) more) is are
renumber End rest number next is now [] are = tt
renumber End rest number next is now (answer ∷ more) are = absurd are

past_first : (line : List ℕ) (lines : List (List ℕ)) (count : ℕ) → drop (1 + count) (line ∷ lines) ≡ drop count lines
past_first line lines count = let next : 1 + count ≡ suc count = omega arith in ap (λ (n : ℕ). drop n (line ∷ lines)) next

-- ---- an item is answered

module _ (first : InService) (input line : List ℕ) (lines : List (List ℕ)) (number : ℕ) (old : CoreView) (file : List ℕ) (w0 w1 w2 : Option (List ℕ)) (so_far : AreServedSoFar first input (line ∷ lines) number old file w0 w1)
    (rest : List ℕ) (end : LineBreak) (next : ℕ) where
  pub answered : (new : CoreView) (new_file : List ℕ) (answer : ItemAnswer) → IsItemAnswer so_far.now number line lines answer → drop answer.lines (line ∷ lines) ≡ lines_left end rest
      → IsNumberAfter end (number + answer.lines) next → IsRunSoFarOf answer.next.run new → answer.next.file ≡ new_file → Appends w1 w2 answer.text
      → AreServedSoFar first input (lines_left end rest) next new new_file w0 w2
  answered new new_file answer is left counted leads same wrote = record {
    now = answer.next;
    text = so_far.text ++ answer.text;
    leads = leads;
    file_is = same;
    goes_on = λ more are.
        let here = renumber end rest (number + answer.lines) next counted answer.next more are in
        let tail = subst (λ (ls : List (List ℕ)). AreItemAnswers answer.next (number + answer.lines) ls more) (sym left) here in
        let all = so_far.goes_on (answer ∷ more) (is, tail) in
        (all.0, all.1, all.2 ∙ sym (append_assoc so_far.text answer.text (texts_of more)), all.3);
    written = Appends-trans w0 w1 w2 so_far.text answer.text so_far.written wrote;
  }

  -- a line of a script, or the request for a snapshot
  pub line_served : (new : CoreView) → ItemIsAnswered so_far.now number line new w1 w2 → lines ≡ lines_left end rest → IsNumberAfter end (number + 1) next
      → AreServedSoFar first input (lines_left end rest) next new file w0 w2
  line_served new now left counted =
      answered new file now.answer (now.is lines) (ap (λ (n : ℕ). drop n (line ∷ lines)) now.one ∙ left)
      (subst (λ (n : ℕ). IsNumberAfter end (number + n) next) (sym now.one) counted) now.leads (now.same_file ∙ so_far.file_is) now.written

  module _ (begins : begins_plant line ≡ true) (left : drop (lines_taken lines) lines ≡ lines_left end rest) (counted : IsNumberAfter end (number + 1 + lines_taken lines) next) where
    all_left : drop (1 + lines_taken lines) (line ∷ lines) ≡ lines_left end rest
    all_left = past_first line lines (lines_taken lines) ∙ left

    all_counted : IsNumberAfter end (number + (1 + lines_taken lines)) next
    all_counted = let same : number + 1 + lines_taken lines ≡ number + (1 + lines_taken lines) = omega arith in subst (λ (n : ℕ). IsNumberAfter end n next) same counted

    -- a plant file, to which the plant is not changed
    pub refused : (fault : NewPlantFault) → IsNewPlantFault old lines fault → Appends w1 w2 (refusal_text number fault) → AreServedSoFar first input (lines_left end rest) next old file w0 w2
    refused fault is wrote =
        answered old file (record { lines = 1 + lines_taken lines; next = so_far.now; changes = false; renumbers = false; text = refusal_text number fault })
        (inr (inr (inr (record {
          on = refl;
          same_numbers = refl;
          next_is = refl;
          why = inr (inl (record { live = old; leads = so_far.leads; begins = begins; taken = refl; fault = fault; is = is; text_is = refl }));
        })))) all_left all_counted so_far.leads so_far.file_is wrote

    -- a plant file, to which the plant is changed
    pub changed : (new : CoreView) (text : List ℕ) (plant : PlantFields) → IsFileOf lines plant → text ≡ file_text lines → (is : IsChangeOf old plant new) → Appends w1 w2 (change_text is.frame)
        → AreServedSoFar first input (lines_left end rest) next new text w0 w2
    changed new text plant is_file text_is is wrote =
        let start = start_by_name plant is.frame (states_by_name old) in
        let run = so_far.now.run in
        answered new text (record { lines = 1 + lines_taken lines; next = in_service text plant start [] []; changes = true; renumbers = false; text = change_text is.frame })
        (inr (inl (record {
          live = new;
          begins = begins;
          taken = refl;
          is_file = is_file;
          new = refl;
          same_numbers = refl;
          changed = is.changes run.plant run.start run.steps run.outs so_far.leads;
          leads = is.is_restarted.reached;
          file_is = text_is;
          text_is = refl;
        }))) all_left all_counted is.is_restarted.reached refl wrote

-- a fault of the file, or of the change, is one of both
pub file_refused : (live : CoreView) (lines : List (List ℕ)) (fault : NewPlantFault) → IsNewFileFault lines fault → IsNewPlantFault live lines fault
file_refused live lines new_faults.NotEnded is = is
file_refused live lines new_faults.TooLong is = is
file_refused live lines new_faults.NotText is = is
file_refused live lines (new_faults.InvalidPlant fault) is = is
file_refused live lines (new_faults.NotChanged why) is = absurd is
file_refused live lines new_faults.NoMemory is = is

pub change_refused : (live : CoreView) (lines : List (List ℕ)) (plant : PlantFields) (fault : NewPlantFault) → IsFileOf lines plant → IsChangeRefusal live plant fault → IsNewPlantFault live lines fault
change_refused live lines plant new_faults.NotEnded is_file is = absurd is
change_refused live lines plant new_faults.TooLong is_file is = absurd is
change_refused live lines plant new_faults.NotText is_file is = absurd is
change_refused live lines plant (new_faults.InvalidPlant fault) is_file is = absurd is
change_refused live lines plant (new_faults.NotChanged why) is_file is = record { plant = plant; is_file = is_file; refused = is }
change_refused live lines plant new_faults.NoMemory is_file is = is_file.is_text.0.0

-- ---- where the reader's bytes are known

pub known_map : (a b : Option (List ℕ)) (P Q : List ℕ → List ℕ → Type 0) → ((input rest : List ℕ) → P input rest → Q input rest) → WhereKnown a b P → WhereKnown a b Q
known_map None b P Q on h = tt
known_map (Some input) None P Q on h = absurd h
known_map (Some input) (Some rest) P Q on h = on input rest h

-- before the first line
pub service_begun : (plant : PlantFields) (saved : Snapshot) (live core : CoreView) (file : List ℕ) (number : ℕ) (after : LineBreak) (known w0 : Option (List ℕ)) → IsRestarted plant saved.frame (states_of saved) live → core ≡ live
    → file ≡ saved.plant → number ≡ 1 → after ≡ Another → WhereKnown known known (λ input rest. AreServedSoFar (resumed_service plant saved) input (lines_left after rest) number core file w0 w0)
service_begun plant saved live core file number after known w0 is same_core same_file one more =
    let first = resumed_service plant saved in
    known_same known (λ input rest. AreServedSoFar first input (lines_left after rest) number core file w0 w0)
    (λ input.
    subst (λ (a : LineBreak). AreServedSoFar first input (lines_left a input) number core file w0 w0) (sym more)
    (subst (λ (n : ℕ). AreServedSoFar first input (lines_of input) n core file w0 w0) (sym one)
    (subst (λ (v : CoreView). AreServedSoFar first input (lines_of input) 1 v file w0 w0) (sym same_core)
    (subst (λ (f : List ℕ). AreServedSoFar first input (lines_of input) 1 live f w0 w0) (sym same_file) (begun first input live saved.plant w0 is.reached refl)))))

-- the end of the input
pub all_served : (first : InService) (number : ℕ) (live : CoreView) (file : List ℕ) (w0 w1 : Option (List ℕ)) (end : LineBreak) (a b : Option (List ℕ)) (at_end : AtEnd) (last : LastState) → end ≡ End
    → IsLastState at_end file live last → WhereKnown a b (λ input rest. AreServedSoFar first input (lines_left end rest) number live file w0 w1) → IfSome a (λ input. IsServedTo first input w0 w1 at_end last)
all_served first number live file w0 w1 end None b at_end last is made h = tt
all_served first number live file w0 w1 end (Some input) None at_end last is made h = absurd h
all_served first number live file w0 w1 end (Some input) (Some rest) at_end last is made h =
    let so_far = subst (λ (e : LineBreak). AreServedSoFar first input (lines_left e rest) number live file w0 w1) is h in
    let all = so_far.goes_on [] tt in
    let here = subst (λ (f : List ℕ). IsLastState at_end f live last) (sym so_far.file_is) made in
    record {
      live = live;
      performed = record { answers = all.0; answer = all.1; leads = subst (λ (now : InService). IsRunSoFarOf now.run live) (sym all.3) so_far.leads };
      written = subst (λ (t : List ℕ). Appends w0 w1 t) (sym (all.2 ∙ append-nil so_far.text)) so_far.written;
      last_is = subst (λ (now : InService). IsLastState at_end now.file live last) (sym all.3) here;
    }

-- an item is read: its first line, and what is left
module _ (first : InService) (number : ℕ) (old : CoreView) (file bytes : List ℕ) (is_long : Bool) (end : LineBreak) (w0 w1 : Option (List ℕ)) where
  line_here : (input rest left : List ℕ) → AreServedSoFar first input (lines_of rest) number old file w0 w1 → (read : IsLineRead rest left bytes is_long end)
      → AreServedSoFar first input (read.line ∷ lines_left end left) number old file w0 w1
  line_here input rest left so_far read = subst (λ (ls : List (List ℕ)). AreServedSoFar first input ls number old file w0 w1) read.lines_are so_far

  pub item_served : (a b d : Option (List ℕ)) (next : ℕ) (new : CoreView) (w2 : Option (List ℕ)) → WhereKnown a b (λ input rest. AreServedSoFar first input (lines_of rest) number old file w0 w1)
      → WhereKnown b d (λ rest left. IsLineRead rest left bytes is_long end) → IsNumberAfter end (number + 1) next
      → ((plant : PlantFields) (start : Start) (before : List Step) (shown : List Out) → IsAfterFrom plant start before shown old → (line : List ℕ) → IsHeld bytes is_long line → ItemIsAnswered (in_service file plant start before shown) number line new w1 w2)
      → WhereKnown a d (λ input left. AreServedSoFar first input (lines_left end left) next new file w0 w2)
  item_served a b d next new w2 so_far read counted now =
      known_then a b d (λ input rest. AreServedSoFar first input (lines_of rest) number old file w0 w1) (λ rest left. IsLineRead rest left bytes is_long end)
      (λ input left. AreServedSoFar first input (lines_left end left) next new file w0 w2)
      (λ input rest left served line.
      let here = line_here input rest left served line in
      let run = here.now.run in
      line_served first input line.line (lines_left end left) number old file w0 w1 w2 here left end next new
      (subst (λ (f : List ℕ). ItemIsAnswered (in_service f run.plant run.start run.steps run.outs) number line.line new w1 w2) (sym here.file_is) (now run.plant run.start run.steps run.outs here.leads line.line line.is_held))
      refl counted) so_far read

  -- the line `P`
  pub plant_begun : (a b d : Option (List ℕ)) → WhereKnown a b (λ input rest. AreServedSoFar first input (lines_of rest) number old file w0 w1) → WhereKnown b d (λ rest left. IsLineRead rest left bytes is_long end)
      → ((line : List ℕ) → IsHeld bytes is_long line → begins_plant line ≡ true) → WhereKnown a d (λ input left. AreServedSoFar first input (codes "P" ∷ lines_left end left) number old file w0 w1)
  plant_begun a b d so_far read begins =
      known_then a b d (λ input rest. AreServedSoFar first input (lines_of rest) number old file w0 w1) (λ rest left. IsLineRead rest left bytes is_long end)
      (λ input left. AreServedSoFar first input (codes "P" ∷ lines_left end left) number old file w0 w1)
      (λ input rest left served line.
      subst (λ (l : List ℕ). AreServedSoFar first input (l ∷ lines_left end left) number old file w0 w1) ((bytes_eq-Decides line.line (codes "P")).0 (begins line.line line.is_held))
      (line_here input rest left served line)) so_far read

  -- any line
  pub line_held : (a b d : Option (List ℕ)) → WhereKnown a b (λ input rest. AreServedSoFar first input (lines_of rest) number old file w0 w1) → WhereKnown b d (λ rest left. IsLineRead rest left bytes is_long end)
      → WhereKnown a d (λ input left. HoldsLine first input left end number old file bytes is_long w0 w1)
  line_held a b d so_far read =
      known_then a b d (λ input rest. AreServedSoFar first input (lines_of rest) number old file w0 w1) (λ rest left. IsLineRead rest left bytes is_long end)
      (λ input left. HoldsLine first input left end number old file bytes is_long w0 w1)
      (λ input rest left served line. record { line = line.line; so_far = line_here input rest left served line; is_held = line.is_held }) so_far read

-- the plant file after it
module _ (first : InService) (number next : ℕ) (old : CoreView) (file : List ℕ) (w0 w1 : Option (List ℕ)) (keeping : Keeping) (bytes : List ℕ) (before : LineBreak) (end : PlantFileEnd) (a b d : Option (List ℕ))
    (so_far : WhereKnown a b (λ input rest. AreServedSoFar first input (codes "P" ∷ lines_left before rest) number old file w0 w1))
    (read : WhereKnown b d (λ rest left. IsFileRead (lines_left before rest) left (number + 1) next keeping bytes end)) where
  pub file_awaits : (plant : PlantFields) → ((lines : List (List ℕ)) → IsFileKept lines keeping bytes end → IsFileOf lines plant × (bytes ≡ file_text lines))
      → WhereKnown a d (λ input left. AwaitsPlant first input left (break_after end) number next old file bytes plant w0 w1)
  file_awaits plant valid =
      known_then a b d (λ input rest. AreServedSoFar first input (codes "P" ∷ lines_left before rest) number old file w0 w1)
      (λ rest left. IsFileRead (lines_left before rest) left (number + 1) next keeping bytes end)
      (λ input left. AwaitsPlant first input left (break_after end) number next old file bytes plant w0 w1)
      (λ input rest left served lines.
      let says = valid (lines_left before rest) lines.is_kept in
      record {
        line = codes "P";
        lines = lines_left before rest;
        so_far = served;
        begins = refl;
        is_file = says.0;
        text_is = says.1;
        left = lines.left;
        counted = lines.counted;
      }) so_far read

  pub file_not_taken : (fault : NewPlantFault) (w2 : Option (List ℕ)) → ((lines : List (List ℕ)) → IsFileKept lines keeping bytes end → IsNewFileFault lines fault) → Appends w1 w2 (refusal_text number fault)
      → WhereKnown a d (λ input left. AreServedSoFar first input (lines_left (break_after end) left) next old file w0 w2)
  file_not_taken fault w2 invalid wrote =
      known_then a b d (λ input rest. AreServedSoFar first input (codes "P" ∷ lines_left before rest) number old file w0 w1)
      (λ rest left. IsFileRead (lines_left before rest) left (number + 1) next keeping bytes end)
      (λ input left. AreServedSoFar first input (lines_left (break_after end) left) next old file w0 w2)
      (λ input rest left served lines.
      refused first input (codes "P") (lines_left before rest) number old file w0 w1 w2 served left (break_after end) next refl lines.left lines.counted fault
      (file_refused old (lines_left before rest) fault (invalid (lines_left before rest) lines.is_kept)) wrote) so_far read

-- the change
module _ (first : InService) (end : LineBreak) (number next : ℕ) (old : CoreView) (file text : List ℕ) (plant : PlantFields) (w0 w1 w2 : Option (List ℕ)) (a b : Option (List ℕ))
    (waits : WhereKnown a b (λ input rest. AwaitsPlant first input rest end number next old file text plant w0 w1)) where
  pub plant_changed : (new : CoreView) → (is : IsChangeOf old plant new) → Appends w1 w2 (change_text is.frame)
      → WhereKnown a b (λ input rest. AreServedSoFar first input (lines_left end rest) next new text w0 w2)
  plant_changed new is wrote =
      known_map a b (λ input rest. AwaitsPlant first input rest end number next old file text plant w0 w1) (λ input rest. AreServedSoFar first input (lines_left end rest) next new text w0 w2)
      (λ input rest here.
      changed first input here.line here.lines number old file w0 w1 w2 here.so_far rest end next here.begins here.left here.counted new text plant here.is_file here.text_is is wrote) waits

  pub plant_kept : (fault : NewPlantFault) → IsChangeRefusal old plant fault → Appends w1 w2 (refusal_text number fault)
      → WhereKnown a b (λ input rest. AreServedSoFar first input (lines_left end rest) next old file w0 w2)
  plant_kept fault is wrote =
      known_map a b (λ input rest. AwaitsPlant first input rest end number next old file text plant w0 w1) (λ input rest. AreServedSoFar first input (lines_left end rest) next old file w0 w2)
      (λ input rest here.
      refused first input here.line here.lines number old file w0 w1 w2 here.so_far rest end next here.begins here.left here.counted fault
      (change_refused old here.lines plant fault here.is_file is) wrote) waits

-- ---- the whole

-- the lines are answered
pub begun_served : (known mid : Option (List ℕ)) (plant : PlantFields) (saved : Snapshot) (w0 w1 : Option (List ℕ)) (at_end : AtEnd) (last : LastState)
    → IfSome known (λ input. IsBeginningRead input mid plant saved) → IfSome mid (λ lines. IsServedTo (resumed_service plant saved) lines w0 w1 at_end last) → EndsInput known w0 w1 ends.Served
begun_served None mid plant saved w0 w1 at_end last read served = tt
begun_served (Some input) mid plant saved w0 w1 at_end last read served =
    let to = subst (λ (m : Option (List ℕ)). IfSome m (λ lines. IsServedTo (resumed_service plant saved) lines w0 w1 at_end last)) read.left_is served in
    record {
      plant = plant;
      saved = saved;
      begins = read.begins;
      served = record { answers = to.performed.answers; answer = to.performed.answer; written = to.written };
    }
