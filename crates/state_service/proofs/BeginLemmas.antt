-- The beginning of a service with a journal.
use Rattle.std.proofs.Common.{◌≡◌, ◌≢◌, ◌⊎◌, inl, inr, ⊎_elim, ℕ, ◌+◌, List, [], ◌∷◌, length, Option, Some, None, IfSome, Result, Ok, Err, OnOk, refl, sym, ap, subst, ◌∙◌, arith}
use Rattle.std.specs.Prelude.{◌==◌, if◌then◌else◌}
use Rattle.std.specs.declared.io.buffered.BufReader.{BufReader}
use Rattle.state_service.proofs.Common.{reader_buffer, reader_capacity, reader_inner, reader_remaining, Appends, prepend_known, Appends-nil, CoreView, plant_text, script_text, WhereKnown, PlantFields, Snapshot, states_of, IsRestarted, LeavesOnly, JournalContent, journal_content, SaysState, LeadsTo, PeriodEnd, Ended, Open, AreTakenSoFar, IsServing, LeadsHere, HasLines, HasNoFewer, LosesNoLine, IsRestFrame, greeting, IsAfterPeriod, LeadsAtEnd, ServiceOrigin, IsJournalOf, IsLeftFrom, IsLeftBy, HoldsTakenLines, IsFoundIn, IsSavedWith, IsChangedTo, IsUnderFile, IsFirstCore, IsRestoredFrom, IsServiceSoFar, IsServiceOn, IsStateService, IsUnharmed, IsLeftUnder, IsLeftByService, IsLeftByOpening, IsLeftAt}
use Rattle.line_service.specs.script.Lines.{parts_of}
use Rattle.state_service.proofs.ReadLemmas.{take_nil}
use Rattle.state_service.proofs.KeepLemmas.{weaker, joined, begun_loses_none}
use Rattle.state_service.proofs.CrashLemmas.{origin_of, under_file, none_taken}

pub on_ok : {T E : Type 0} (r : Result T E) (P : Type 0) → P → OnOk r P
on_ok (Ok x) P h = h
on_ok (Err e) P h = tt

-- nothing is read yet
pub none_read : (file : List ℕ) (first : CoreView) (count : ℕ) (input part : List ℕ) (written : Option (List ℕ)) → part ≡ [] → IsServing file first count input input part first count written written
unfolding parts_of
none_read file first count input part written none = record {
  events = [];
  lead = refl;
  count_is = omega arith;
  taken = inl (record { whole = []; begun = []; lines_are = refl; taken_are = refl; part_is = none ∙ sym (take_nil 4097) });
  written = Appends-nil written;
}

pub nothing_taken : (input part : List ℕ) → part ≡ [] → AreTakenSoFar input input [] part
unfolding parts_of
nothing_taken input part none = inl (record { whole = []; begun = []; lines_are = refl; taken_are = refl; part_is = none ∙ sym (take_nil 4097) })

pub none_read_where : (file : List ℕ) (first : CoreView) (count : ℕ) (part : List ℕ) (known written : Option (List ℕ)) → part ≡ []
    → WhereKnown known known (λ input rest. IsServing file first count input rest part first count written written)
none_read_where file first count part None written none = tt
none_read_where file first count part (Some input) written none = none_read file first count input part written none

-- the first lines are served
pub first_served : (found content : Option JournalContent) (file part : List ℕ) (end : PeriodEnd) (first live : CoreView) (count now : ℕ) (frame : Option ℕ) (known rest old mid new : Option (List ℕ))
    → IsFirstCore found file first count → IsRestFrame first frame → Appends old mid (greeting (count + 1) frame)
    → IfSome known (λ input. IsLeftBy found file first count input content)
    → WhereKnown known rest (λ input left. IsAfterPeriod end file first count input left part live now mid new)
    → WhereKnown known rest (λ input left. IsServiceSoFar found file end content input left part live now old new)
first_served found content file part end first live count now frame None rest old mid new is_first rests greeted left after = tt
first_served found content file part end first live count now frame (Some input) None old mid new is_first rests greeted left after = absurd after
first_served found content file part end first live count now frame (Some input) (Some more) old mid new is_first rests greeted left after = record {
  first = first;
  count = count;
  is_first = is_first;
  frame = frame;
  is_frame = rests;
  mid = mid;
  greeted = greeted;
  so_far = after;
  left = inr left;
}

-- and then more
pub more_served : (found before_put put content : Option JournalContent) (file part next : List ℕ) (old_end end : PeriodEnd) (mid live : CoreView) (before now least : ℕ) (known a b old was new : Option (List ℕ))
    → ((first : CoreView) (count : ℕ) (written : Option (List ℕ)) → WhereKnown known a (λ input rest. IsAfterPeriod old_end file first count input rest part mid before written was)
    → WhereKnown known b (λ input rest. IsAfterPeriod end file first count input rest next live now written new))
    → ((origin : ServiceOrigin) → IsJournalOf origin Open put a part → IsLeftFrom origin content) → HasNoFewer least put
    → ((input rest : List ℕ) (so_far : IsServiceSoFar found file old_end before_put input rest part mid before old was) → HoldsTakenLines found file so_far.first so_far.count Open put input rest part)
    → WhereKnown known a (λ input rest. IsServiceSoFar found file old_end before_put input rest part mid before old was)
    → WhereKnown known b (λ input rest. IsServiceSoFar found file end content input rest next live now old new)
more_served found before_put put content file part next old_end end mid live before now least None a b old was new on left has holds so_far = tt
more_served found before_put put content file part next old_end end mid live before now least (Some input) None b old was new on left has holds so_far = absurd so_far
more_served found before_put put content file part next old_end end mid live before now least (Some input) (Some rest) None old was new on left has holds so_far =
    absurd (on so_far.first so_far.count so_far.mid so_far.so_far)
more_served found before_put put content file part next old_end end mid live before now least (Some input) (Some rest) (Some more) old was new on left has holds so_far =
    let by = left (origin_of found file so_far.first so_far.count least (Some input)) (record { no_fewer = has; holds = holds input rest so_far }) in
    record {
      first = so_far.first;
      count = so_far.count;
      is_first = so_far.is_first;
      frame = so_far.frame;
      is_frame = so_far.is_frame;
      mid = so_far.mid;
      greeted = so_far.greeted;
      so_far = on so_far.first so_far.count so_far.mid so_far.so_far;
      left = inr by.named;
    }

-- up to the end of the input
pub all_served : (found content : Option JournalContent) (file part : List ℕ) (end : PeriodEnd) (live : CoreView) (now : ℕ) (known rest old new : Option (List ℕ)) → end ≡ Ended
    → LeadsHere content live now → WhereKnown known rest (λ input left. IsServiceSoFar found file end content input left part live now old new)
    → IfSome known (λ input. IsServiceOn found file input content old new)
all_served found content file part end live now None rest old new is leads so_far = tt
all_served found content file part end live now (Some input) None old new is leads so_far = absurd so_far
all_served found content file part end live now (Some input) (Some left) old new is leads so_far =
    let here = subst (λ (e : PeriodEnd). IsServiceSoFar found file e content input left part live now old new) is so_far in
    record {
      live = live;
      now = now;
      serves = record {
        first = here.first;
        count = here.count;
        is_first = here.is_first;
        frame = here.frame;
        is_frame = here.is_frame;
        mid = here.mid;
        greeted = here.greeted;
        so_far = here.so_far;
        left = here.left;
      };
      leads = leads;
    }

-- ---- what the journal leads to

pub restored_leads : (content : Option JournalContent) (file : List ℕ) (count : ℕ) (lines : List (List ℕ)) (first live : CoreView) (now : ℕ) → IsRestoredFrom content file count lines first
    → ((stored : JournalContent) (plant : PlantFields) (saved : Snapshot) → SaysState stored.snapshot count plant saved → stored.lines ≡ lines
    → IsRestarted plant saved.frame (states_of saved) first → LeadsTo stored plant live now) → LeadsHere content live now
restored_leads content file count lines first live now restored leads =
    let stands = restored.stands in
    let stored : JournalContent = record { snapshot = stands.snapshot; lines = lines } in
    (restored.plant, record { stored = stored; stands_for = stands.stands_for; leads = leads stored restored.plant restored.saved stands.says refl restored.restored })

pub ended_leads : (end : PeriodEnd) (content : Option JournalContent) (live : CoreView) (count : ℕ) → end ≡ Ended → LeadsAtEnd end content live count → LeadsHere content live count
ended_leads end content live count is leads = subst (λ (e : PeriodEnd). LeadsAtEnd e content live count) is leads

-- ---- under which plant file

-- its state was saved with the file of the core that is restored from it
pub restored_saved : (content : Option JournalContent) (file later : List ℕ) (count : ℕ) (lines : List (List ℕ)) (first : CoreView) → IsRestoredFrom content file count lines first → later ≡ file → IsSavedWith content later
restored_saved content file later count lines first restored same = record {
  count = count;
  plant = restored.plant;
  saved = restored.saved;
  lines = lines;
  stands = restored.stands;
  file_is = restored.file_is ∙ sym same;
}

-- the given plant file is the one that was saved
pub plant_stays : (saved given : List ℕ) (live : CoreView) → given ≡ saved → IsUnderFile saved given live live
plant_stays saved given live same = (λ is. refl, λ other. absurd (other same))

-- it is another one
pub plant_changes : (saved given : List ℕ) (led first : CoreView) → given ≢ saved → IsChangedTo given led first → IsUnderFile saved given led first
plant_changes saved given led first other changed = (λ same. absurd (other same), λ is. changed)

-- ---- a reader in front of the input

prepend_none : (known : Option (List ℕ)) → prepend_known [] known ≡ known
prepend_none None = refl
prepend_none (Some bytes) = refl

-- of which nothing is read yet
pub unread_same : {T A : Type 0} (remaining : T → Option (List ℕ)) (reader : BufReader T A) → reader_buffer reader ≡ [] → reader_capacity reader ≡ 16384
    → reader_remaining remaining reader ≡ remaining (reader_inner reader)
unread_same remaining reader empty room =
    ap (λ (n : ℕ). if n == 0 then None else prepend_known (reader_buffer reader) (remaining (reader_inner reader))) room
    ∙ (ap (λ (bytes : List ℕ). prepend_known bytes (remaining (reader_inner reader))) empty ∙ prepend_none (remaining (reader_inner reader)))

-- ---- the plant file of the input

pub given_serves : (known rest : Option (List ℕ)) (file bytes : List ℕ) (found content : Option JournalContent) (old new : Option (List ℕ)) → IfSome known (λ input. file ≡ plant_text input)
    → IfSome known (λ input. rest ≡ Some (script_text input)) → IsFoundIn bytes file found → IfSome rest (λ input. IsServiceOn found file input content old new)
    → IfSome known (λ input. IsStateService bytes (plant_text input) (script_text input) content old new)
given_serves None rest file bytes found content old new file_is rest_is is_found serves = tt
given_serves (Some input) rest file bytes found content old new file_is rest_is is_found serves =
    let here : IsServiceOn found file (script_text input) content old new = subst (λ (r : Option (List ℕ)). IfSome r (λ i. IsServiceOn found file i content old new)) rest_is serves in
    record {
      found = found;
      is_found = subst (λ (f : List ℕ). IsFoundIn bytes f found) file_is is_found;
      serves = subst (λ (f : List ℕ). IsServiceOn found f (script_text input) content old new) file_is here;
    }

pub unharmed_from : (bytes file : List ℕ) (mid content : Option JournalContent) → IsFoundIn bytes file mid → LosesNoLine mid content → IsUnharmed bytes content
unharmed_from [] file mid content is_found loses = inr (record {
  least = 0;
  had = inr (refl, refl);
  has = record { count = loses.has.count; has = loses.has.has; enough = omega arith };
})
unharmed_from (b ∷ bytes) file mid content is_found loses = inr (subst (λ (m : Option JournalContent). LosesNoLine m content) (is_found.0 (λ none. omega (arith, ap (λ (l : List ℕ). length l) none))) loses)

-- ---- what a crash leaves

-- the plant stays, and nothing is read yet
module _ (content : Option JournalContent) (saved file : List ℕ) (live : CoreView) (count least : ℕ) (known : Option (List ℕ)) (part : List ℕ) (leads : LeadsHere content live count) (is_saved : IsSavedWith content saved) (same : file ≡ saved) (none : part ≡ []) (has : HasLines content least) where
  pub saved_first : IsFirstCore content file live count
  saved_first = record { led = live; leads = leads; saved = saved; is_saved_with = is_saved; is_under = plant_stays saved file live same }

  begun_journal : IsJournalOf (origin_of content file live count least known) Open content known part
  begun_journal = none_taken content file live count least known part (λ input. nothing_taken input part none) leads (record { count = least; has = has; enough = omega arith })

  pub begun_left : (later : Option JournalContent) → ((origin : ServiceOrigin) → IsJournalOf origin Open content known part → IsLeftFrom origin later) → IsLeftFrom (origin_of content file live count least known) later
  begun_left later left = left (origin_of content file live count least known) begun_journal

  pub begun_leaves : {D : Type 0} (moment : D → ℕ) (left_since : D → ℕ → List ℕ → Type 0) (old new : D)
      → ((origin : ServiceOrigin) → IsJournalOf origin Open content known part → LeavesOnly moment left_since old new (λ c. IsLeftFrom origin (journal_content c)))
      → LeavesOnly moment left_since old new (λ c. IsLeftUnder content file known (journal_content c))
  begun_leaves moment left_since old new leaves =
      let origin = origin_of content file live count least known in
      weaker moment left_since old new (λ c. IsLeftFrom origin (journal_content c)) (λ c. IsLeftUnder content file known (journal_content c)) (leaves origin begun_journal)
      (λ c left. under_file content file live count least known (journal_content c) saved_first has left)

-- the file had no byte
opening_left : (bytes file later : List ℕ) (content : Option JournalContent) (input : List ℕ) → file ≡ later → IsLeftByOpening bytes file content → IsLeftAt bytes later input content
opening_left bytes file later content input same left =
    ⊎_elim (λ as_it_was. inl as_it_was) (λ begun. inr (content, (λ some. absurd (some begun.0), λ none. begun.1), inl refl))
    (subst (λ (f : List ℕ). IsLeftByOpening bytes f content) same left)

pub opening_unharmed : (bytes file : List ℕ) (content : Option JournalContent) → IsLeftByOpening bytes file content → IsUnharmed bytes content
opening_unharmed bytes file content left = ⊎_elim (λ same. inl same) (λ begun. inr (begun_loses_none bytes file content begun.0 begun.1)) left

-- the input is known
left_at_from : (bytes file later input : List ℕ) (known : Option (List ℕ)) (found content : Option JournalContent) → file ≡ later → known ≡ Some input → IsFoundIn bytes file found
    → IsLeftUnder found file known content → IsLeftAt bytes later input content
left_at_from bytes file later input known found content same is is_found left =
    let under = subst (λ (f : List ℕ). IsLeftUnder found f known content) same left in
    inr (found, subst (λ (f : List ℕ). IsFoundIn bytes f found) same is_found, subst (λ (k : Option (List ℕ)). IfSome k (λ i. (content ≡ found) ⊎ IsLeftByService found later i content)) is under.named)

module _ {D : Type 0} (moment : D → ℕ) (left_since : D → ℕ → List ℕ → Type 0) (bytes : List ℕ) where
  -- nothing is done
  pub still_named : (known : Option (List ℕ)) (device : D) → LeavesOnly moment left_since device device (λ c. journal_content c ≡ journal_content bytes)
      → IfSome known (λ input. LeavesOnly moment left_since device device (λ c. IsLeftAt bytes (plant_text input) (script_text input) (journal_content c)))
  still_named None device only = tt
  still_named (Some input) device only =
      weaker moment left_since device device (λ c. journal_content c ≡ journal_content bytes) (λ c. IsLeftAt bytes (plant_text input) (script_text input) (journal_content c)) only (λ c same. inl same)

  -- the journal is opened
  pub opening_named : (known : Option (List ℕ)) (old new : D) (file : List ℕ) → IfSome known (λ input. file ≡ plant_text input)
      → LeavesOnly moment left_since old new (λ c. IsLeftByOpening bytes file (journal_content c))
      → IfSome known (λ input. LeavesOnly moment left_since old new (λ c. IsLeftAt bytes (plant_text input) (script_text input) (journal_content c)))
  opening_named None old new file file_is only = tt
  opening_named (Some input) old new file file_is only =
      weaker moment left_since old new (λ c. IsLeftByOpening bytes file (journal_content c)) (λ c. IsLeftAt bytes (plant_text input) (script_text input) (journal_content c)) only
      (λ c left. opening_left bytes file (plant_text input) (journal_content c) (script_text input) file_is left)

  -- and lines are served
  pub service_named : (known rest : Option (List ℕ)) (old mid new : D) (file : List ℕ) (found : Option JournalContent) → IfSome known (λ input. file ≡ plant_text input)
      → IfSome known (λ input. rest ≡ Some (script_text input)) → IsFoundIn bytes file found
      → LeavesOnly moment left_since old mid (λ c. IsLeftByOpening bytes file (journal_content c))
      → LeavesOnly moment left_since mid new (λ c. IsLeftUnder found file rest (journal_content c))
      → IfSome known (λ input. LeavesOnly moment left_since old new (λ c. IsLeftAt bytes (plant_text input) (script_text input) (journal_content c)))
  service_named None rest old mid new file found file_is rest_is is_found opening only = tt
  service_named (Some input) rest old mid new file found file_is rest_is is_found opening only =
      joined moment left_since old mid new (λ c. IsLeftAt bytes (plant_text input) (script_text input) (journal_content c)) (opening_named (Some input) old mid file file_is opening)
      (weaker moment left_since mid new (λ c. IsLeftUnder found file rest (journal_content c)) (λ c. IsLeftAt bytes (plant_text input) (script_text input) (journal_content c)) only
      (λ c left. left_at_from bytes file (plant_text input) (script_text input) rest found (journal_content c) file_is rest_is is_found left))
