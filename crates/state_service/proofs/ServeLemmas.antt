-- Lines that are done, one batch after the other, and commands.
use Rattle.std.proofs.Common.{◌≡◌, ℕ, ◌+◌, List, [], ◌∷◌, ◌++◌, length, Option, Some, None, inl, inr, ⊎_elim, refl, ap, subst, sym, ◌∙◌, arith, append-nil, length-append}
use Rattle.state_service.proofs.Common.{Appends, Appends-trans, CoreView, WhereKnown, states_of, IsRestarted, IsKeptState, frame_text, DueState, BatchEnd, AreNoCommands, IsRefusedCommand, IsCommandRefusedFor, IsSnapshotDue, IsNumberDue, IsCommandDue, AreTakenSoFar, IsAfterBatch, Event, lines_done, text_told, LeadOn, AreDoneNext, IsServing, IsAtLine, GoesOnFromState, GoesOnUnderNumber, IsAfterLines, GoesOnAfterSave}
use Rattle.state_service.proofs.ResumedLemmas.ServedLemmas.{known_map}
use Rattle.state_service.specs.declared.reading.BatchEnd.TheVariants.{Open, Command, Ended}
use Rattle.state_service.specs.declared.performing.CommandRefusal.{CommandRefusal}
use Rattle.state_service.specs.declared.performing.CommandRefusal.TheVariants.{NoSnapshot, NoNumber}
use Rattle.state_service.specs.Serving.Event.{Done, Saved, SnapshotGiven, NumberGiven, CommandRefused}

pub none_if : {A : Type 0} (option : Option A) → ((some : A) → option ≡ Some some → ⊥) → option ≡ None
none_if None other = refl
none_if (Some some) other = absurd (other some refl)

-- what a batch that was read is
abbrev pub Reads : BatchEnd → List (List ℕ) → List ℕ → List ℕ → Option (List ℕ) → Option (List ℕ) → Type 0
Reads end lines old_part new_part a b = (known : Option (List ℕ)) (before : List (List ℕ)) → WhereKnown known a (λ input rest. AreTakenSoFar input rest before old_part)
    → WhereKnown known b (λ input rest. IsAfterBatch end input rest (before ++ lines) new_part)

module _ (file : List ℕ) (first : CoreView) (count : ℕ) (input rest part : List ℕ) (live : CoreView) (now : ℕ) (old new : Option (List ℕ)) where
  -- these events lead there
  pub after_events : (end : BatchEnd) (events : List Event) → LeadOn file first count events live → now ≡ count + length (lines_done events)
      → IsAfterBatch end input rest (lines_done events) part → Appends old new (text_told events) → IsAfterLines end file first count input rest part live now old new
  after_events Open events lead counted taken written = record { events = events; lead = lead; count_is = counted; taken = taken; written = written }
  after_events (Command line) events lead counted taken written = record { events = events; lead = lead; count_is = counted; taken = taken; written = written }
  after_events Ended events lead counted taken written = record { events = events; lead = lead; count_is = counted; taken = taken; written = written }

module _ (file : List ℕ) (first : CoreView) (count : ℕ) (end : BatchEnd) (old_part new_part : List ℕ) where
  -- no line has ended
  pub none_served : (a b known written now : Option (List ℕ)) (live : CoreView) (done : ℕ) (lines : List (List ℕ)) → lines ≡ [] → Reads end lines old_part new_part a b
      → WhereKnown known a (λ input rest. IsServing file first count input rest old_part live done written now)
      → WhereKnown known b (λ input rest. IsAfterLines end file first count input rest new_part live done written now)
  none_served a b None written now live done lines none reads so_far = tt
  none_served None b (Some input) written now live done lines none reads so_far = absurd so_far
  none_served (Some rest) None (Some input) written now live done lines none reads so_far = absurd (reads (Some input) (lines_done so_far.events) so_far.taken)
  none_served (Some rest) (Some left) (Some input) written now live done lines none reads so_far =
      after_events file first count input left new_part live done written now end so_far.events so_far.lead so_far.count_is
      (subst (λ (ls : List (List ℕ)). IsAfterBatch end input left ls new_part) (ap (λ (ls : List (List ℕ)). lines_done so_far.events ++ ls) none ∙ append-nil (lines_done so_far.events))
      (reads (Some input) (lines_done so_far.events) so_far.taken)) so_far.written

  -- lines are done and answered
  pub batch_served : (a b known written was now : Option (List ℕ)) (mid live : CoreView) (before done : ℕ) (lines : List (List ℕ)) (text : List ℕ)
      → Reads end lines old_part new_part a b
      → AreNoCommands lines → AreDoneNext mid before lines live text → done ≡ before + length lines → Appends was now text
      → WhereKnown known a (λ input rest. IsServing file first count input rest old_part mid before written was)
      → WhereKnown known b (λ input rest. IsAfterLines end file first count input rest new_part live done written now)
  batch_served a b None written was now mid live before done lines text reads plain are counted wrote so_far = tt
  batch_served None b (Some input) written was now mid live before done lines text reads plain are counted wrote so_far = absurd so_far
  batch_served (Some rest) None (Some input) written was now mid live before done lines text reads plain are counted wrote so_far =
      absurd (reads (Some input) (lines_done so_far.events) so_far.taken)
  batch_served (Some rest) (Some left) (Some input) written was now mid live before done lines text reads plain are counted wrote so_far =
      let events = so_far.events in
      after_events file first count input left new_part live done written now end (Done lines text ∷ events)
      (mid, so_far.lead, plain, subst (λ (n : ℕ). AreDoneNext mid n lines live text) so_far.count_is are)
      (omega (arith, counted, so_far.count_is, length-append (lines_done events) lines)) (reads (Some input) (lines_done events) so_far.taken)
      (Appends-trans written was now (text_told events) text so_far.written wrote)

-- ---- a state that is to be saved

module _ (file : List ℕ) (first : CoreView) (count : ℕ) (input rest part : List ℕ) (live : CoreView) (now : ℕ) (old new : Option (List ℕ)) (due : DueState) where
  -- it is the core's, and nothing waits for it
  pub state_due : due.answer.items ≡ [] → IsKeptState live file now due.kept.snapshot due.kept.start.plant due.kept.start.saved
      → IsServing file first count input rest part live now old new → GoesOnAfterSave due file first count input rest part now old new
  state_due none kept so_far = λ next later restarted wrote. record {
    events = Saved ∷ so_far.events;
    lead = (
      live,
      so_far.lead,
      subst (λ (n : ℕ). GoesOnFromState file n live next) so_far.count_is
          (record { snapshot = due.kept.snapshot; plant = due.kept.start.plant; read = due.kept.start.saved; kept = kept; is_restarted = restarted }),
    );
    count_is = so_far.count_is;
    taken = so_far.taken;
    written =
        subst (λ (bytes : List ℕ). Appends old later bytes) (ap (λ (l : List ℕ). text_told so_far.events ++ l) none ∙ append-nil (text_told so_far.events))
        (Appends-trans old new later (text_told so_far.events) due.answer.items so_far.written wrote);
  }

  module _ (line : List ℕ) (so_far : IsAtLine line file first count input rest part live now old new) where
    counted : now + 1 ≡ count + length (lines_done so_far.events ++ line ∷ [])
    counted = omega (arith, so_far.count_is, length-append (lines_done so_far.events) (line ∷ []))

    after : now + 1 ≡ count + length (lines_done so_far.events) + 1
    after = omega (arith, so_far.count_is)

    -- a snapshot is requested
    snapshot_due : IsSnapshotDue file live line (now + 1) due → GoesOnAfterSave due file first count input rest part (now + 1) old new
    snapshot_due is = λ next later restarted wrote. record {
      events = SnapshotGiven line due.answer.items ∷ so_far.events;
      lead = (
        live,
        so_far.lead,
        is.requests,
        is.given,
        subst (λ (n : ℕ). GoesOnFromState file n live next) after
            (record { snapshot = due.kept.snapshot; plant = due.kept.start.plant; read = due.kept.start.saved; kept = is.kept; is_restarted = restarted }),
      );
      count_is = counted;
      taken = so_far.taken;
      written = Appends-trans old new later (text_told so_far.events) due.answer.items so_far.written wrote;
    }

    -- another frame number is
    number_due : IsNumberDue file live line (now + 1) due → GoesOnAfterSave due file first count input rest part (now + 1) old new
    number_due is = λ next later restarted wrote. record {
      events = NumberGiven line is.other.frame ∷ so_far.events;
      lead = (
        live,
        so_far.lead,
        subst (λ (n : ℕ). GoesOnUnderNumber file n line is.other.frame live next) after
            (record {
              requests = is.requests;
              names = is.names;
              other = is.other;
              renumbered = is.renumbered;
              snapshot = due.kept.snapshot;
              plant = due.kept.start.plant;
              read = due.kept.start.saved;
              kept = is.kept;
              is_restarted = restarted;
            }),
      );
      count_is = counted;
      taken = so_far.taken;
      written =
          Appends-trans old new later (text_told so_far.events) (frame_text is.other.frame) so_far.written
          (subst (λ (bytes : List ℕ). Appends new later bytes) is.answer_is wrote);
    }

    command_due : IsCommandDue file live line (now + 1) due → GoesOnAfterSave due file first count input rest part (now + 1) old new
    command_due is = ⊎_elim snapshot_due number_due is

refused_for : (file : List ℕ) (live : CoreView) (line : List ℕ) (refusal : CommandRefusal) → IsCommandRefusedFor file live line refusal → IsRefusedCommand file live line
refused_for file live line NoSnapshot is = inl is
refused_for file live line (NoNumber why) is = inr (why, is)

-- a command is refused
command_refused : (file : List ℕ) (first : CoreView) (count : ℕ) (input rest part line text : List ℕ) (live next : CoreView) (now : ℕ) (old new later : Option (List ℕ))
    → IsRefusedCommand file live line → AreDoneNext live now (line ∷ []) next text → Appends new later text
    → IsAtLine line file first count input rest part live now old new → IsServing file first count input rest part next (now + 1) old later
command_refused file first count input rest part line text live next now old new later refused are wrote so_far = record {
  events = CommandRefused line text ∷ so_far.events;
  lead = (live, so_far.lead, refused, subst (λ (n : ℕ). AreDoneNext live n (line ∷ []) next text) so_far.count_is are);
  count_is = omega (arith, so_far.count_is, length-append (lines_done so_far.events) (line ∷ []));
  taken = so_far.taken;
  written = Appends-trans old new later (text_told so_far.events) text so_far.written wrote;
}

-- ---- where the reader's bytes are known

module _ (file : List ℕ) (first : CoreView) (count : ℕ) (part : List ℕ) (known rest old : Option (List ℕ)) where
  -- a state is saved, and its answer written
  pub saved_where : (due : DueState) (next : CoreView) (now : ℕ) (new later : Option (List ℕ)) → IsRestarted due.kept.start.plant due.kept.start.saved.frame (states_of due.kept.start.saved) next
      → Appends new later due.answer.items → WhereKnown known rest (λ input left. GoesOnAfterSave due file first count input left part now old new)
      → WhereKnown known rest (λ input left. IsServing file first count input left part next now old later)
  saved_where due next now new later restarted wrote =
      known_map known rest (λ input left. GoesOnAfterSave due file first count input left part now old new) (λ input left. IsServing file first count input left part next now old later)
      (λ input left here. here next later restarted wrote)

  module _ (live : CoreView) (now : ℕ) (new : Option (List ℕ)) where
    pub state_due_where : (due : DueState) → due.answer.items ≡ [] → IsKeptState live file now due.kept.snapshot due.kept.start.plant due.kept.start.saved
        → WhereKnown known rest (λ input left. IsServing file first count input left part live now old new)
        → WhereKnown known rest (λ input left. GoesOnAfterSave due file first count input left part now old new)
    state_due_where due none kept =
        known_map known rest (λ input left. IsServing file first count input left part live now old new) (λ input left. GoesOnAfterSave due file first count input left part now old new)
        (λ input left. state_due file first count input left part live now old new due none kept)

    -- a command is performed once the state is saved
    pub command_due_where : (due : DueState) (saved_file line : List ℕ) (number : ℕ) → saved_file ≡ file → number ≡ now + 1 → IsCommandDue saved_file live line number due
        → WhereKnown known rest (λ input left. IsAtLine line file first count input left part live now old new)
        → WhereKnown known rest (λ input left. GoesOnAfterSave due file first count input left part number old new)
    command_due_where due saved_file line number same counted is =
        known_map known rest (λ input left. IsAtLine line file first count input left part live now old new) (λ input left. GoesOnAfterSave due file first count input left part number old new)
        (λ input left so_far.
        subst (λ (n : ℕ). GoesOnAfterSave due file first count input left part n old new) (sym counted)
        (command_due file first count input left part live now old new due line so_far
        (subst (λ (n : ℕ). IsCommandDue file live line n due) counted (subst (λ (f : List ℕ). IsCommandDue f live line number due) same is))))

    -- it is refused
    pub command_refused_where : (saved_file line text : List ℕ) (lines : List (List ℕ)) (refusal : CommandRefusal) (next : CoreView) (done : ℕ) (later : Option (List ℕ)) → saved_file ≡ file → lines ≡ line ∷ []
        → done ≡ now + length lines → IsCommandRefusedFor saved_file live line refusal → AreDoneNext live now lines next text → Appends new later text
        → WhereKnown known rest (λ input left. IsAtLine line file first count input left part live now old new)
        → WhereKnown known rest (λ input left. IsServing file first count input left part next done old later)
    command_refused_where saved_file line text lines refusal next done later same alone counted refused are wrote =
        known_map known rest (λ input left. IsAtLine line file first count input left part live now old new) (λ input left. IsServing file first count input left part next done old later)
        (λ input left so_far.
        let one : done ≡ now + 1 = counted ∙ ap (λ (ls : List (List ℕ)). now + length ls) alone in
        subst (λ (n : ℕ). IsServing file first count input left part next n old later) (sym one)
        (command_refused file first count input left part line text live next now old new later (refused_for file live line refusal (subst (λ (f : List ℕ). IsCommandRefusedFor f live line refusal) same refused))
        (subst (λ (ls : List (List ℕ)). AreDoneNext live now ls next text) alone are) wrote so_far))
