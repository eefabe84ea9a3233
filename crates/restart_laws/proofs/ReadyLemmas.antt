-- A core that is ready to be saved: its snapshot begins a service, which goes on where the core was.
use Rattle.std.proofs.Common.{◌≡◌, ◌≢◌, ℕ, ◌<◌, ◌^◌, Bool, true, false, cond, MatchBool, List, [], ◌∷◌, ◌++◌, length, map, Option, Some, Result, Ok, Err, IfSome, inl, inr, refl, sym, ap, subst, ◌∙◌, arith, append_assoc}
use Rattle.restart_laws.proofs.Common.{slice_get, AllByRecursion, is_utf8, length-map, recursion_from_All, All-from_recursion, All-contains, parse_document, RowFields, PlantFields, IsPlant, IsRowOf, IsOperatorName, PlantFault, text_plant, OperatorState, operator, opened_before, BookView, IsSound, IsStateUnder, PairsByRecursion, pairs_from_AllPairs, pairs-map, IsPlantChange, CoreView, some_at, at_place, over_map, book_at_place, plant_text, script_text, Snapshot, states_of, IsSavedOperator, IsSnapshot, state_under, state_or_opened, start_by_name, state_of_book, states_by_name, saved_book, HasNoRow, HaveRows, names_of, CanRestart, is_snapshot_head, GoesOnFrom, BeginsAnew, IsBeginning, IsSavedFile, IsPlantFile, IsRestoringFault, IsBeginFault, InService, core_snapshot, IsServedFrom, resumed_service, IsReadyToSave, AnsweredIsReady, HaveTypedStates, IsOfItsModems, StartsOfItsModems, ModemsGoOn, BeginsOfItsModems, StaysOfItsModems, snapshot_at, BeginsWith, SnapshotBeginsService, IsRestorable, SavedStatesAreRestored, OnlyMemoryRefuses, RestartIsChange, SnapshotIsServed}
use Rattle.snapshot_format.specs.declared.fault.SnapshotFault.{SnapshotFault}
use Rattle.snapshot_format.specs.declared.fault.SnapshotFault.TheVariants.{Line}
use Rattle.snapshot_format.specs.Snapshot.{snapshot_of}
use Rattle.snapshot_format.proofs.SnapshotLemmas.{snapshot_back}
use Rattle.plant_restart.specs.declared.fault.RestoreFault.{RestoreFault}
use Rattle.plant_restart.specs.declared.fault.RestoreFault.TheVariants as restore
use Rattle.plant_restart.specs.declared.fault.RestartFault.{RestartFault}
use Rattle.plant_restart.proofs.RefusalLemmas.{memory_alone}
use Rattle.plant_restart.proofs.SaveLemmas.{states_saved}
use Rattle.state_service.specs.declared.resumed.begin_fault.BeginFault.{BeginFault}
use Rattle.state_service.specs.declared.resumed.begin_fault.BeginFault.TheVariants.{NotText, InvalidSnapshot, InvalidPlant, NotRestored, NoMemory}
use Rattle.restart_laws.proofs.BarLemmas.{bar, text_before, text_after, read_before}
use Rattle.restart_laws.proofs.TextLemmas.{version_line, state_lines, states_before, front_before, text_parts}
use Rattle.restart_laws.proofs.ModemLemmas.{opened_of_its_modems}
use Rattle.restart_laws.proofs.PlantLemmas.{valid_plant, have_names}
use Rattle.restart_laws.proofs.SavedLemmas.{own_names_follow, operator_saved, snapshot_saved}
use Rattle.restart_laws.proofs.CoreLemmas as cores

module _ (old : InService) (live : CoreView) (frame : ℕ) (ready : IsReadyToSave old live frame) where
  abbrev plant : PlantFields
  plant = old.run.plant

  abbrev saved : Snapshot
  saved = snapshot_at old.file live frame

  abbrev text : List ℕ
  text = core_snapshot old.file live frame

  valid : IsPlant plant
  valid = valid_plant (parse_document old.file) plant ready.in_force.says

  same_plant : live.plant ≡ plant
  same_plant = cores.same_plant plant old.run.start old.run.steps old.run.outs live frame ready.leads valid ready.rests

  says_plant : text_plant (parse_document old.file) ≡ Ok live.plant
  says_plant = ready.in_force.says ∙ ap (λ (p : PlantFields). let r : Result PlantFields PlantFault = Ok p in r) (sym same_plant)

  states_are : states_of saved ≡ states_by_name live
  states_are = states_saved live frame (map saved_book live.books) refl ready.rests

  -- ---- the change of plant

  now_change : IsPlantChange old.run (record { plant = plant; start = start_by_name plant frame (states_by_name live); steps = []; outs = [] })
  now_change = cores.is_change plant old.run.start old.run.steps old.run.outs live frame ready.leads valid ready.rests

  pub is_change : IsPlantChange old.run (resumed_service live.plant saved).run
  is_change =
      subst (λ (p : PlantFields). IsPlantChange old.run (record { plant = p; start = start_by_name p frame (states_of saved); steps = []; outs = [] })) (sym same_plant)
      (subst (λ (states : List (List ℕ × OperatorState)). IsPlantChange old.run (record { plant = plant; start = start_by_name plant frame states; steps = []; outs = [] })) (sym states_are) now_change)

  -- ---- whose all of it is

  pub modems_go_on : StartsOfItsModems old.run → StartsOfItsModems (resumed_service live.plant saved).run
  modems_go_on starts =
      subst (λ (p : PlantFields). StartsOfItsModems (record { plant = p; start = start_by_name p frame (states_of saved); steps = []; outs = [] })) (sym same_plant)
      (subst (λ (states : List (List ℕ × OperatorState)). StartsOfItsModems (record { plant = plant; start = start_by_name plant frame states; steps = []; outs = [] })) (sym states_are)
      (λ i row here. subst (IsOfItsModems row) (sym (cores.start_state plant old.run.start old.run.steps old.run.outs live frame ready.leads valid ready.rests i row here))
      (cores.of_its_modems plant old.run.start old.run.steps old.run.outs live frame ready.leads valid ready.rests starts i row here)))

  -- ---- the states

  names_are : names_of (states_of saved) ≡ map (λ (book : BookView). book.row.name) live.books
  names_are = ap names_of states_are ∙ over_map (λ (named : List ℕ × OperatorState). named.0) state_of_book live.books

  have_rows : HaveRows plant.rows (names_of (states_of saved))
  have_rows =
      subst (HaveRows plant.rows) (sym names_are)
      (All-from_recursion (λ (name : List ℕ). ¬ HasNoRow plant.rows name) (map (λ (book : BookView). book.row.name) live.books) (each live.books here))
    where
      each : (books : List BookView) → AllByRecursion (λ (book : BookView). ¬ HasNoRow plant.rows book.row.name) books → AllByRecursion (λ (name : List ℕ). ¬ HasNoRow plant.rows name) (map (λ (book : BookView). book.row.name) books)
      each [] h = tt
      each (book ∷ books) h = (h.0, each books h.1)

      here : AllByRecursion (λ (book : BookView). ¬ HasNoRow plant.rows book.row.name) live.books
      here = cores.each_place (λ (book : BookView). ¬ HasNoRow plant.rows book.row.name) live.books (λ i book at none.
          at_place (λ (row : RowFields). row.name ≢ book.row.name) plant.rows i book.row (recursion_from_All (λ (row : RowFields). row.name ≢ book.row.name) plant.rows none)
          (cores.at_row plant old.run.start old.run.steps old.run.outs live frame ready.leads valid ready.rests i book at).row_there refl)

  module _ (typed : HaveTypedStates live) where
    at_book : (i : ℕ) (book : BookView) → slice_get live.books i ≡ Some book → IsSound (operator plant.consts book.row book.state)
    at_book i book here =
        let at = cores.at_row plant old.run.start old.run.steps old.run.outs live frame ready.leads valid ready.rests i book here in
        subst (λ (s : OperatorState). IsSound (operator plant.consts book.row s)) (sym at.state_is)
        (cores.sound_at plant old.run.start old.run.steps old.run.outs live frame ready.leads valid ready.rests i book.row at.row_there)

    module _ (starts : StartsOfItsModems old.run) where
      under : (i : ℕ) (book : BookView) → slice_get live.books i ≡ Some book → IsStateUnder plant.consts book.row book.state
      under i book here =
          let fits = typed i book here in
          let at = cores.at_row plant old.run.start old.run.steps old.run.outs live frame ready.leads valid ready.rests i book here in
          let mine = subst (IsOfItsModems book.row) (sym at.state_is) (cores.of_its_modems plant old.run.start old.run.steps old.run.outs live frame ready.leads valid ready.rests starts i book.row at.row_there) in
          record {
            sound = at_book i book here;
            one_each = fits.one_each;
            ticking = All-from_recursion _ book.state.kept (each_of (λ e is. is.ticking) book.state.kept fits.responses);
            held = All-from_recursion _ book.state.kept (each_of (λ e is. is.held) book.state.kept fits.responses);
            flow_modems = mine.flows;
            response_modems = mine.responses;
            message_modems = mine.messages;
          }
        where
          each_of : {A : Type 0} {P Q : A → Type 0} → ((x : A) → P x → Q x) → (xs : List A) → AllByRecursion P xs → AllByRecursion Q xs
          each_of f [] h = tt
          each_of f (x ∷ xs) h = (f x h.0, each_of f xs h.1)

      can_restart : CanRestart plant frame (states_by_name live)
      can_restart = record {
        stand = λ i row here.
            let book = book_at_place plant old.run.start old.run.steps old.run.outs live ready.leads i row here in
            let stands = under i book.book book.held in
            subst (λ (o : Option OperatorState). IfSome o (λ state. IsStateUnder plant.consts row state))
            (sym (cores.found plant old.run.start old.run.steps old.run.outs live frame ready.leads valid ready.rests i row here))
            (subst (λ (s : OperatorState). IsStateUnder plant.consts row s) book.state_is (subst (λ (r : RowFields). IsStateUnder plant.consts r book.book.state) book.row_is stands));
        go_together = cores.go_together plant old.run.start old.run.steps old.run.outs live frame ready.leads valid ready.rests;
        has_begun = cores.has_begun plant old.run.start old.run.steps old.run.outs live frame ready.leads valid ready.rests;
        slices = cores.now_valid plant old.run.start old.run.steps old.run.outs live frame ready.leads valid ready.rests;
        next_slices = cores.next_valid plant old.run.start old.run.steps old.run.outs live frame ready.leads valid ready.rests;
      }

      pub restorable : IsRestorable live.plant saved
      restorable =
          subst (λ (p : PlantFields). IsRestorable p saved) (sym same_plant)
          (record {
            have_rows = have_rows;
            can = subst (λ (states : List (List ℕ × OperatorState)). CanRestart plant frame states) (sym states_are) can_restart;
          })

    -- ---- the text

    module _ (short : length text < 2 ^ 32) where
      frame_small : frame < 2 ^ 32
      frame_small =
          let book = some_at live.books 0 (let some = valid.some in let many = cores.as_many plant old.run.start old.run.steps old.run.outs live frame ready.leads valid ready.rests in omega (arith, some, many)) in
          omega (arith, (typed 0 book.0 book.1).frame, ready.rests.before 0 book.0 book.1)

      named : (i : ℕ) (book : BookView) → slice_get live.books i ≡ Some book → IsOperatorName book.row.name
      named i book here =
          at_place (λ (row : RowFields). IsOperatorName row.name) plant.rows i book.row (have_names (parse_document old.file) plant ready.in_force.says)
          (cores.at_row plant old.run.start old.run.steps old.run.outs live frame ready.leads valid ready.rests i book here).row_there

      row_of : (i : ℕ) (book : BookView) → slice_get live.books i ≡ Some book → IsRowOf plant.consts book.row
      row_of i book here =
          at_place (IsRowOf plant.consts) plant.rows i book.row (recursion_from_All (IsRowOf plant.consts) plant.rows valid.rows)
          (cores.at_row plant old.run.start old.run.steps old.run.outs live frame ready.leads valid ready.rests i book here).row_there

      operators_saved : AllByRecursion IsSavedOperator (map saved_book live.books)
      operators_saved = mapped live.books (cores.each_place (λ (book : BookView). IsSavedOperator (saved_book book)) live.books
          (λ i book here. operator_saved plant.consts book valid.consts.channel (row_of i book here) (named i book here) (at_book i book here) (typed i book here)))
        where
          mapped : (books : List BookView) → AllByRecursion (λ (book : BookView). IsSavedOperator (saved_book book)) books → AllByRecursion IsSavedOperator (map saved_book books)
          mapped [] h = tt
          mapped (book ∷ books) h = (h.0, mapped books h.1)

      own_names : PairsByRecursion (λ (a b : BookView). a.row.name ≢ b.row.name) live.books
      own_names =
          pairs-map (λ (a b : RowFields). a.name ≢ b.name) (λ (book : BookView). book.row) live.books
          (subst (λ (rows : List RowFields). PairsByRecursion (λ (a b : RowFields). a.name ≢ b.name) rows)
          (sym (cores.rows_are plant old.run.start old.run.steps old.run.outs live frame ready.leads valid ready.rests))
          (pairs_from_AllPairs (λ (a b : RowFields). a.name ≢ b.name) plant.rows valid.names))

      is_snapshot : IsSnapshot saved
      is_snapshot =
          let many = cores.as_many plant old.run.start old.run.steps old.run.outs live frame ready.leads valid ready.rests in
          let long = length-map live.books saved_book in
          let few = valid.few in
          snapshot_saved saved short frame_small (omega (arith, many, long, few)) operators_saved (own_names_follow live.books own_names)

      read_back : snapshot_of text ≡ Ok saved
      read_back = snapshot_back saved is_snapshot

      has_head : is_snapshot_head text ≡ true
      has_head = ap is_snapshot_head (text_parts saved)

      goes_on : GoesOnFrom text live.plant saved
      goes_on = record { saved_is = read_back; plant_is = says_plant }

      pub is_beginning : IsBeginning text live.plant saved
      is_beginning = subst (λ (b : Bool). MatchBool b (GoesOnFrom text live.plant saved) (BeginsAnew text live.plant saved)) (sym has_head) goes_on

      same_ok : {A E : Type 0} (x y : A) → ◌≡◌ {A = Result A E} (Ok x) (Ok y) → x ≡ y
      same_ok x y e = cc

      same_saved : (s : Snapshot) → snapshot_of text ≡ Ok s → s ≡ saved
      same_saved s is = same_ok {E = SnapshotFault} s saved (sym is ∙ read_back)

      pub begins_alone : (p : PlantFields) (s : Snapshot) → IsBeginning text p s → (p ≡ live.plant) × (s ≡ saved)
      begins_alone p s begins =
          let is : GoesOnFrom text p s = subst (λ (b : Bool). MatchBool b (GoesOnFrom text p s) (BeginsAnew text p s)) has_head begins in
          let same = same_saved s is.saved_is in
          (same_ok {E = PlantFault} p live.plant (sym is.plant_is ∙ (ap (λ (x : Snapshot). text_plant (parse_document x.plant)) same ∙ says_plant)), same)

      module _ (lines : List ℕ) where
        abbrev input : List ℕ
        input = text ++ bar lines

        abbrev first : List ℕ
        first = version_line saved ++ saved.plant

        whole : input ≡ first ++ bar (state_lines saved ++ bar lines)
        whole = ap (λ (bs : List ℕ). bs ++ bar lines) (text_parts saved) ∙ append_assoc first (bar (state_lines saved)) (bar lines)

        file_before : plant_text input ≡ first
        file_before = ap plant_text whole ∙ text_before first (state_lines saved ++ bar lines) (front_before saved is_snapshot (read_before old.file [] ready.in_force.whole))

        rest_after : script_text input ≡ state_lines saved ++ bar lines
        rest_after = ap script_text whole ∙ text_after first (state_lines saved ++ bar lines) (front_before saved is_snapshot (read_before old.file [] ready.in_force.whole))

        head_before : is_snapshot_head (plant_text input) ≡ true
        head_before = ap is_snapshot_head file_before

        pub begins_with : BeginsWith text lines live.plant saved input
        begins_with = record {
          text_is =
              ap (λ (t : Bool). cond t (plant_text input ++ bar (plant_text (script_text input))) (plant_text input)) head_before
              ∙ ((λ k. file_before k ++ bar ((ap plant_text rest_after ∙ text_before (state_lines saved) lines (states_before saved is_snapshot)) k)) ∙ sym (text_parts saved));
          lines_are =
              ap (λ (t : Bool). cond t (script_text (script_text input)) (script_text input)) head_before
              ∙ (ap script_text rest_after ∙ text_after (state_lines saved) lines (states_before saved is_snapshot));
          begins = is_beginning;
          alone = begins_alone;
        }

      -- ---- no fault but memory

      module _ (starts : StartsOfItsModems old.run) where
        none_refused : (why : RestoreFault) → IsRestoringFault live.plant saved (NotRestored why) → ⊥
        none_refused (restore.UnknownOperator name) is =
            let unknown = is.0 in
            All-contains (λ (n : List ℕ). ¬ HasNoRow live.plant.rows n) (names_of (states_of saved)) name (restorable starts).have_rows unknown.0 unknown.1
        none_refused (restore.Restart why) is =
            let refused = is.0 in
            is.1 (ap (λ (f : RestartFault). restore.Restart f) (memory_alone live.plant frame (states_of saved) why (restorable starts).can refused.1))

        file_is : (file : List ℕ) → IsPlantFile text file → file ≡ old.file
        file_is file is =
            let kept : IsSavedFile text file = subst (λ (b : Bool). MatchBool b (IsSavedFile text file) (file ≡ text)) has_head is in
            kept.2 ∙ ap (λ (s : Snapshot). s.plant) (same_saved kept.0 kept.1)

        pub only_memory : (fault : BeginFault) → IsBeginFault text fault → fault ≡ NoMemory
        only_memory NotText is =
            let wrong : true ≡ false = sym ready.in_force.is_text ∙ (ap is_utf8 (sym (file_is is.0 is.1)) ∙ is.2) in absurd cc
        only_memory (InvalidSnapshot number wrong) is =
            let both : ◌≡◌ {A = Result Snapshot SnapshotFault} (Ok saved) (Err (Line number wrong)) = sym read_back ∙ is.1 in absurd cc
        only_memory (InvalidPlant fault) is =
            let both : ◌≡◌ {A = Result PlantFields PlantFault} (Ok live.plant) (Err fault) = sym says_plant ∙ (ap (λ (f : List ℕ). text_plant (parse_document f)) (sym (file_is is.0 is.1)) ∙ is.2) in absurd cc
        only_memory (NotRestored why) is =
            let same = begins_alone is.plant is.saved is.begins in
            absurd (none_refused why
            (subst (λ (s : Snapshot). IsRestoringFault live.plant s (NotRestored why)) same.1 (subst (λ (p : PlantFields). IsRestoringFault p is.saved (NotRestored why)) same.0 is.refused)))
        only_memory NoMemory is = refl

-- ---- the laws

pub modems_begin : BeginsOfItsModems
modems_begin text plant saved other begins i row here =
    let anew : BeginsAnew text plant saved = subst (λ (b : Bool). MatchBool b (GoesOnFrom text plant saved) (BeginsAnew text plant saved)) other begins in
    let valid = valid_plant (parse_document text) plant anew.plant_is in
    let none : states_of saved ≡ [] = ap states_of anew.saved_is in
    let opened : (start_by_name plant saved.frame (states_of saved)).state row ≡ opened_before saved.frame plant.consts row =
    cores.start_of plant saved.frame (states_of saved) valid i row here ∙ ap (λ (states : List (List ℕ × OperatorState)). state_or_opened saved.frame plant.consts row (state_under states row.name)) none in
    subst (IsOfItsModems row) (sym opened)
    (opened_of_its_modems row saved.frame plant.consts (at_place (IsRowOf plant.consts) plant.rows i row (recursion_from_All (IsRowOf plant.consts) plant.rows valid.rows) here))

pub modems_stay : StaysOfItsModems
modems_stay old number line lines answer (inl said) same starts = subst (λ (s : InService). StartsOfItsModems s.run) (sym said.next_is) starts
modems_stay old number line lines answer (inr (inl changed)) same starts = absurd (let wrong : true ≡ false = sym changed.new ∙ same in cc)
modems_stay old number line lines answer (inr (inr (inl frame))) same starts = absurd (let wrong : true ≡ false = sym frame.new ∙ same in cc)
modems_stay old number line lines answer (inr (inr (inr kept))) same starts = subst (λ (s : InService). StartsOfItsModems s.run) (sym kept.next_is) starts

pub modems_on : ModemsGoOn
modems_on old live frame ready starts = modems_go_on old live frame ready starts

pub change : RestartIsChange
change old live frame ready = is_change old live frame ready

pub answered_ready : AnsweredIsReady
answered_ready old number line answer is given in_force = (record { leads = is.leads; in_force = in_force; rests = given.rests }, given.text_is)

pub begins_service : SnapshotBeginsService
begins_service old live frame lines ready typed short = begins_with old live frame ready typed short lines

pub restored : SavedStatesAreRestored
restored old live frame ready typed starts = restorable old live frame ready typed starts

pub no_other_fault : OnlyMemoryRefuses
no_other_fault old live frame ready typed starts short fault is = only_memory old live frame ready typed short starts fault is

pub is_served : SnapshotIsServed
is_served old live frame lines before after ready typed short resumed =
    let same = begins_alone old live frame ready typed short resumed.plant resumed.saved resumed.begins in
    subst (λ (s : Snapshot). IsServedFrom (resumed_service live.plant s) lines before after) same.1
    (subst (λ (p : PlantFields). IsServedFrom (resumed_service p resumed.saved) lines before after) same.0 resumed.served)
