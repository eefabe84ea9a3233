-- What a journal leads to.
use Rattle.std.proofs.Common.{◌≡◌, inl, inr, ⊎_elim, ℕ, ◌+◌, ◌==◌, true, List, [], ◌++◌, length, Option, Vec, sym, ap, subst, ◌∙◌, arith, length-append}
use Rattle.state_service.proofs.DurableLemmas.Common.{Global, nat_tests, length-map, nil_from_length, texts, PlantFields, Start, Step, Out, CoreView, IsAfterFrom, BehindEachRun, IsReachableFromStart, JournalContent, journal_content, with_lines, fresh, all_done, all_told, SaysState, saved_start, AreLinesDone, LineIsDone, LinesAreDone, LeadsTo, IsLeading, IsOpeningState, IsBegunWith}
use Rattle.plant_restart.specs.Restarted.{IsRestarted}
use Rattle.snapshot_format.specs.States.{states_of}
use Rattle.line_service.proofs.StepLemmas.{reachable_on}
use Rattle.snapshot_format.specs.declared.saved.Snapshot.{Snapshot}
use Rattle.line_journal.specs.Device.{LeavesOnly}
use Rattle.state_service.proofs.DurableLemmas.DoneLemmas.{none_done, done_joined}

-- a batch more
pub leads_on : (plant : PlantFields) (old new : CoreView) (count later : ℕ) (lines : List (List ℕ)) (text : List ℕ) (before after : Option JournalContent)
    → BehindEachRun old (λ p start steps shown. AreLinesDone p start steps shown (count + 1) lines new text)
    → after ≡ with_lines lines before → later ≡ count + length lines → IsLeading before plant old count → IsLeading after plant new later
leads_on plant old new count later lines text before after done is counted leading =
    let was = leading.stored in
    let led = leading.leads in
    let start = saved_start plant led.saved in
    let number : count + 1 ≡ led.before + 1 + length was.lines = omega (arith, led.count_is) in
    let more = subst (λ (n : ℕ). AreLinesDone plant start (all_done led.done.answers) (all_told led.done.answers) n lines new text) number
    (done plant start (all_done led.done.answers) (all_told led.done.answers) led.done.after) in
    record {
      stored = record { snapshot = was.snapshot; lines = was.lines ++ lines };
      stands_for = is ∙ ap (λ (o : Option JournalContent). with_lines lines o) leading.stands_for;
      leads = record {
        before = led.before;
        saved = led.saved;
        state = led.state;
        text = led.text ++ text;
        done = done_joined plant start [] [] (led.before + 1) was.lines lines old new led.text text led.done more;
        count_is = omega (arith, counted, led.count_is, length-append was.lines lines);
      };
    }

-- a state that takes the place of lines
pub leads_anew : (plant : PlantFields) (saved : Snapshot) (live : CoreView) (count : ℕ) (snapshot : List (List ℕ)) (content : Option JournalContent) → SaysState snapshot count plant saved
    → IsAfterFrom plant (saved_start plant saved) [] [] live → content ≡ fresh snapshot → IsLeading content plant live count
leads_anew plant saved live count snapshot content says after is = record {
  stored = record { snapshot = snapshot; lines = [] };
  stands_for = is;
  leads = record {
    before = count;
    saved = saved;
    state = says;
    text = [];
    done = none_done plant (saved_start plant saved) [] [] (count + 1) live after;
    count_is = omega arith;
  };
}

-- ---- cores that some run leads to

pub restarted_reached : (plant : PlantFields) (saved : Snapshot) (live : CoreView) → IsRestarted plant saved.frame (states_of saved) live → IsReachableFromStart live
restarted_reached plant saved live is =
    let start = saved_start plant saved in
    (start, [], [], subst (λ (p : PlantFields). IsAfterFrom p start [] [] live) (sym (ap (λ (v : CoreView). v.plant) is.is_started)) is.reached)

pub line_reached : (old new : CoreView) (number : ℕ) (line text added : List ℕ) → IsReachableFromStart old
    → BehindEachRun old (λ plant start before shown. LineIsDone plant start before shown number line new text added) → IsReachableFromStart new
line_reached old new number line text added was done =
    reachable_on old new was (λ plant start before shown after.
    let is = done plant start before shown after in
    (before ++ is.answered.done, shown ++ is.answered.told, is.is.after))

-- ---- a saved state, and the lines since

pub leads_from : (plant : PlantFields) (saved : Snapshot) (first live : CoreView) (before count : ℕ) (lines : List (Vec ℕ Global)) (old new : List ℕ)
    → IsRestarted plant saved.frame (states_of saved) first
    → BehindEachRun first (λ p start steps shown. LinesAreDone p start steps shown (before + 1) (texts lines) live old new) → count ≡ before + length lines
    → (content : JournalContent) → SaysState content.snapshot before plant saved → content.lines ≡ texts lines → LeadsTo content plant live count
leads_from plant saved first live before count lines old new restarted done counted content says same =
    let now = done plant (saved_start plant saved) [] [] restarted.reached in
    record {
      before = before;
      saved = saved;
      state = says;
      text = now.text;
      done = subst (λ (ls : List (List ℕ)). AreLinesDone plant (saved_start plant saved) [] [] (before + 1) ls live now.text) (sym same) now.done;
      count_is = omega (arith, counted, ap (λ (ls : List (List ℕ)). length ls) same, length-map lines (λ (v : Vec ℕ Global). v.items));
    }

-- the text alone
pub text_alone : (plant : PlantFields) (start : Start) (before : List Step) (shown : List Out) (number : ℕ) (lines : List (List ℕ)) (live : CoreView) (old new : List ℕ)
    → old ≡ [] → LinesAreDone plant start before shown number lines live old new → AreLinesDone plant start before shown number lines live new
text_alone plant start before shown number lines live old new none done =
    subst (λ (t : List ℕ). AreLinesDone plant start before shown number lines live t) (sym (done.added ∙ ap (λ (t : List ℕ). t ++ done.text) none)) done.done

-- ---- a journal that opens a plant

pub opening_state : (file : List ℕ) (plant : PlantFields) (saved : Snapshot) → saved.plant ≡ file → saved.frame ≡ plant.consts.channel.first_frame
    → (length saved.operators == 0) ≡ true → IsOpeningState file plant saved
opening_state file plant saved file_is frame_is none = record {
  file_is = file_is;
  frame_is = frame_is;
  none_saved = nil_from_length saved.operators (grind (arith, nat_tests, none));
}

pub begun_with : (file : List ℕ) (plant : PlantFields) (saved : Snapshot) (snapshot : List (List ℕ)) → SaysState snapshot 0 plant saved → IsOpeningState file plant saved
    → (c : List ℕ) → journal_content c ≡ fresh snapshot → IsBegunWith file (journal_content c)
begun_with file plant saved snapshot says opens c is = record { plant = plant; saved = saved; stands = record { snapshot = snapshot; stands_for = is; says = says }; opens = opens }

pub left_at_most : {D : Type 0} (moment : D → ℕ) (left_since : D → ℕ → List ℕ → Type 0) (old new : D) (P Q : List ℕ → Type 0) → LeavesOnly moment left_since old new P
    → ((c : List ℕ) → P c → Q c) → LeavesOnly moment left_since old new Q
left_at_most moment left_since old new P Q only to = record {
  later = only.later;
  each = λ c left. to c (only.each c left);
  before = λ t c le left. ⊎_elim (λ was. inl was) (λ now. inr (to c now)) (only.before t c le left);
}
