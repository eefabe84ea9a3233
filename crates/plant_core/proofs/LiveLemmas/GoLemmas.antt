-- What one step makes of a live core, it makes of each core of which that is held.
use Rattle.std.proofs.Common.{◌≡◌, ℕ, zero, suc, ◌<◌, List, [], ◌∷◌, ◌++◌, length, map, get_or, Option, Some, None, option_map, refl, sym, ap, ap₂, subst, ◌∙◌, arith}
use Rattle.plant_core.proofs.LiveLemmas.Common.{slice_get, slice_set, map-set, length-map, All-pop, slice_get-map, same_Some, ∥∥₁_map, ∥∥₁_elim, props, Minislots, ElementsFields, ConstsFields, RowFields, PlantFields, IsPlant, SliceRow, Action, operator, own_step, IsAllowed, BookView, book_after_action, MapBytes, GatherFault, AreSlices, Gathering, gathering_of, put_fault, after_put, gathering_after_reslice, IsGathering, MayReslice, GoesOnAlike, holder, Step, Out, outputs_under, slice_of, Reslicing, Start, first_start, IsStart, opened_core, started_book, started_core, gathering_from, target, CoreView, frames_of, Acts, Collects, Reslices, Steps, told_map, step_from, core_of, HaveTakenAs, reslice_fault, forgotten, went, IsOf, Performs, IsAfter, IsAfterFrom, IsReachableFromStart}
use Rattle.operator_model.specs.declared.action.Action.TheVariants as actions
use Rattle.map_assembly.proofs.GoneLemmas.{alike_again, alike_self}
use Rattle.run_model.specs.declared.step.Step.TheVariants as steps
use Rattle.run_model.proofs.Opening.{started_reached}
use Rattle.run_model.proofs.Fits.{fits_from, opened_starts}
use Rattle.run_model.proofs.Anew.{anew_from}
use Rattle.plant_core.proofs.LiveLemmas.FreeLemmas.{AreFree, are_free}
use Rattle.plant_core.proofs.LiveLemmas.ReachLemmas.{step_acts}
use Rattle.plant_core.proofs.LiveLemmas.PlaceLemmas.{seen_at, set_alike, set_seen}
use Rattle.plant_core.specs.live.Putting.{FitsOldest, PutsOldest}
use Rattle.plant_core.proofs.LiveLemmas.BehindLemmas.{found, behind, after_of}
use Rattle.plant_core.proofs.LiveLemmas.AlikeLemmas.{same_fault, same_answer, alike_put, held_put, alike_resliced, held_resliced, may_too}

-- ---- what is done to a core behind

-- whatever core this is kept of, to that core the same is done, with these outputs
abbrev pub GoesOn : (CoreView → CoreView → List Out → Type 0) → CoreView → CoreView → List Out → Type 0
GoesOn does old new now = (core : CoreView) → IsOf old core → (after : CoreView) × does core after now × IsOf new after

twice_forgotten : (books : List BookView) → map forgotten (map forgotten books) ≡ map forgotten books
twice_forgotten [] = refl
twice_forgotten (book ∷ books) = ap (λ (bs : List BookView). forgotten book ∷ bs) (twice_forgotten books)

-- a live core has no histories
bare_of : (live core : CoreView) → IsOf live core → map forgotten live.books ≡ live.books
bare_of live core is = ap (map forgotten) (sym is.books_are) ∙ (twice_forgotten core.books ∙ is.books_are)

pub bare_seen : {X : Type 0} (book : X → BookView) (xs : List X) → ((x : X) → forgotten (book x) ≡ book x) → map forgotten (map book xs) ≡ map book xs
bare_seen book [] bare = refl
bare_seen book (x ∷ xs) bare = ap₂ (λ (b : BookView) (bs : List BookView). b ∷ bs) (bare x) (bare_seen book xs bare)

-- so it is kept of itself
pub performed : (does : CoreView → CoreView → List Out → Type 0) (plant : PlantFields) (gathering : Gathering) (lives : List BookView) (queues : List (List (ℕ × ElementsFields))) (new : CoreView) (now : List Out)
    → map forgotten lives ≡ lives → IsGathering gathering → GoesOn does (core_of plant lives queues gathering) new now → Performs does (core_of plant lives queues gathering) new now
performed does plant gathering lives queues new now bare held goes =
    goes (core_of plant lives queues gathering)
    (record { plant_is = refl; books_are = bare; queues_are = refl; gathering_is = alike_self gathering; held = held })

-- what is gathered may lack more slices that no frame to come needs
looser : (does : CoreView → CoreView → List Out → Type 0) (old mid new : CoreView) (now : List Out) → GoesOn does old mid now → new.plant ≡ mid.plant → new.books ≡ mid.books → new.queues ≡ mid.queues
    → GoesOnAlike mid.gathering new.gathering → GoesOn does old new now
looser does old mid new now goes plant books queues alike = λ core is.
    let done = goes core is in (
      done.0,
      done.1,
      record {
        plant_is = done.2.plant_is ∙ sym plant;
        books_are = done.2.books_are ∙ sym books;
        queues_are = done.2.queues_are ∙ sym queues;
        gathering_is = alike_again done.0.gathering mid.gathering new.gathering done.2.gathering_is alike;
        held = done.2.held;
      },
    )

-- ---- an action

acts_behind : (plant : PlantFields) (gathering : Gathering) (lives : List BookView) (queues : List (List (ℕ × ElementsFields))) (op : ℕ) (action : Action) (book : BookView) (waiting : List (ℕ × ElementsFields))
    (core : CoreView) → IsOf (core_of plant lives queues gathering) core → slice_get core.books op ≡ Some book → slice_get queues op ≡ Some waiting → IsAllowed (operator book.consts book.row book.state) action
    → (after : CoreView) × Acts op action core after (outputs_under op (own_step (operator book.consts book.row book.state) action).outputs)
    × IsOf (core_of plant (slice_set lives op (went (forgotten book) action)) (slice_set queues op (waiting ++ frames_of (own_step (operator book.consts book.row book.state) action).outputs)) gathering) after
acts_behind plant gathering lives queues op action book waiting core is there waits allowed = (
  record core {
    books = slice_set core.books op (book_after_action book action);
    queues = slice_set core.queues op (waiting ++ frames_of (own_step (operator book.consts book.row book.state) action).outputs);
  },
  record {
    book = book;
    waiting = waiting;
    book_is = there;
    waiting_is = ap (λ (qs : List (List (ℕ × ElementsFields))). slice_get qs op) is.queues_are ∙ waits;
    allowed = allowed;
    new_is = refl;
    now_is = refl;
  },
  record {
    plant_is = is.plant_is;
    books_are = map-set forgotten core.books op (book_after_action book action) ∙ ap (λ (bs : List BookView). slice_set bs op (went (forgotten book) action)) is.books_are;
    queues_are = ap (λ (qs : List (List (ℕ × ElementsFields))). slice_set qs op (waiting ++ frames_of (own_step (operator book.consts book.row book.state) action).outputs)) is.queues_are;
    gathering_is = is.gathering_is;
    held = is.held;
  },
)

pub acts_on : (plant : PlantFields) (gathering : Gathering) (lives lives' : List BookView) (queues queues' : List (List (ℕ × ElementsFields))) (op : ℕ) (action : Action) (b : BookView) (waiting : List (ℕ × ElementsFields)) (now : List Out)
    → slice_get lives op ≡ Some b → slice_get queues op ≡ Some waiting → IsAllowed (operator b.consts b.row b.state) action
    → lives' ≡ slice_set lives op (went b action) → queues' ≡ slice_set queues op (waiting ++ frames_of (own_step (operator b.consts b.row b.state) action).outputs)
    → now ≡ outputs_under op (own_step (operator b.consts b.row b.state) action).outputs
    → GoesOn (Acts op action) (core_of plant lives queues gathering) (core_of plant lives' queues' gathering) now
acts_on plant gathering lives lives' queues queues' op action b waiting now there waits allowed bs qs now_is = λ core is.
    let at = found core.books lives op b is.books_are there in
    let book = at.0 in
    let same : forgotten book ≡ b = at.2 in
    let after = acts_behind plant gathering lives queues op action book waiting core is at.1 waits
    (subst (λ (x : BookView). IsAllowed (operator x.consts x.row x.state) action) (sym same) allowed) in (
      after.0,
      subst (λ (os : List Out). Acts op action core after.0 os) (ap (λ (x : BookView). outputs_under op (own_step (operator x.consts x.row x.state) action).outputs) same ∙ sym now_is) after.1,
      subst (λ (v : CoreView). IsOf v after.0)
          (ap₂ (λ (ls : List BookView) (qs : List (List (ℕ × ElementsFields))). core_of plant ls qs gathering)
          (ap (λ (x : BookView). slice_set lives op (went x action)) same ∙ sym bs)
          (ap (λ (x : BookView). slice_set queues op (waiting ++ frames_of (own_step (operator x.consts x.row x.state) action).outputs)) same ∙ sym qs))
          after.2,
    )

-- ---- a collection

pub collects_on : (plant : PlantFields) (old put new : Gathering) (lives lives' : List BookView) (queues queues' : List (List (ℕ × ElementsFields))) (op : ℕ) (waiting left : List (ℕ × ElementsFields)) (made : Option MapBytes)
    → slice_get queues op ≡ Some waiting → FitsOldest op waiting old → PutsOldest op waiting left old put made
    → lives' ≡ lives → queues' ≡ slice_set queues op left → GoesOnAlike put new → IsGathering new
    → GoesOn (Collects op) (core_of plant lives queues old) (core_of plant lives' queues' new) (told_map made)
collects_on plant old put new lives lives' queues queues' op waiting left made there fits puts bs qs on held = λ core is.
    let frame = puts.frame in
    let part = puts.part in
    let alike : GoesOnAlike (after_put core.gathering op part) new =
    alike_again (after_put core.gathering op part) (after_put old op part) new (alike_put core.gathering old op part is.gathering_is)
    (subst (λ (x : Gathering). GoesOnAlike x new) puts.new_is on) in (
      record core { queues = slice_set core.queues op left; gathering = after_put core.gathering op part },
      record {
        frame = frame;
        part = part;
        waiting = left;
        waiting_is = ap (λ (q : List (List (ℕ × ElementsFields))). slice_get q op) is.queues_are ∙ (there ∙ ap (λ (fs : List (ℕ × ElementsFields)). Some fs) puts.waiting_is);
        fits = same_fault core.gathering old op frame part is.gathering_is ∙ fits frame part left puts.waiting_is;
        made = made;
        made_is = same_answer core.gathering old op frame part made is.gathering_is puts.made_is;
        new_is = refl;
        now_is = refl;
      },
      record {
        plant_is = is.plant_is;
        books_are = is.books_are ∙ sym bs;
        queues_are = ap (λ (q : List (List (ℕ × ElementsFields))). slice_set q op left) is.queues_are ∙ sym qs;
        gathering_is = alike;
        held = held_put core.gathering new op part alike is.held held;
      },
    )

-- ---- what the core that has the histories knows

none_refused : (plant : PlantFields) (gathering : Gathering) (lives : List BookView) (queues : List (List (ℕ × ElementsFields))) (op frame : ℕ) (part : ElementsFields) (rest : List (ℕ × ElementsFields)) (fault : GatherFault)
    → IsPlant plant → ∥ IsReachableFromStart (core_of plant lives queues gathering) ∥₁ → slice_get queues op ≡ Some ((frame, part) ∷ rest) → put_fault gathering op frame part ≡ Some fault → ⊥
none_refused plant gathering lives queues op frame part rest fault valid reached there refused =
    ∥∥₁_elim reached (λ x y. absurd x) (λ r.
    let had = behind plant r.0 r.1 r.2 (core_of plant lives queues gathering) r.3 in
    let core = had.core in
    let is = had.is_of in
    let fits = fits_from plant r.0 r.1 r.2 core op frame part rest had.starts had.reached is.held (ap (λ (q : List (List (ℕ × ElementsFields))). slice_get q op) is.queues_are ∙ there) in
    let wrong : None ≡ Some fault = sym fits ∙ (same_fault core.gathering gathering op frame part is.gathering_is ∙ refused) in cc)

-- the assembly takes each frame that waits longest
pub oldest_fits : (plant : PlantFields) (gathering : Gathering) (lives : List BookView) (queues : List (List (ℕ × ElementsFields))) (op : ℕ) (waiting : List (ℕ × ElementsFields))
    → IsPlant plant → ∥ IsReachableFromStart (core_of plant lives queues gathering) ∥₁ → slice_get queues op ≡ Some waiting → FitsOldest op waiting gathering
oldest_fits plant gathering lives queues op waiting valid reached there = λ frame part rest front.
    by frame part rest (there ∙ ap (λ (fs : List (ℕ × ElementsFields)). Some fs) front) (put_fault gathering op frame part) refl
  where
    by : (frame : ℕ) (part : ElementsFields) (rest : List (ℕ × ElementsFields)) → slice_get queues op ≡ Some ((frame, part) ∷ rest) → (o : Option GatherFault) → put_fault gathering op frame part ≡ o → o ≡ None
    by frame part rest at None e = refl
    by frame part rest at (Some fault) e = absurd (none_refused plant gathering lives queues op frame part rest fault valid reached at e)

-- the desk of a place puts its oldest frame, and has its book as before
pub desk_collects : {X : Type 0} (book : X → BookView) (waits : X → List (ℕ × ElementsFields)) (plant : PlantFields) (old put new : Gathering) (desks : List X) (n op : ℕ) (desk after : X) (made : Option MapBytes)
    → IsPlant plant → ∥ IsReachableFromStart (core_of plant (map book desks) (map waits desks) old) ∥₁ → n ≡ length desks → op < n → desk ≡ get_or desks op desk
    → PutsOldest op (waits desk) (waits after) old put made → book after ≡ book desk → GoesOnAlike put new → IsGathering new
    → ((x : X) → forgotten (book x) ≡ book x) → IsGathering old
    → Performs (Collects op) (core_of plant (map book desks) (map waits desks) old) (core_of plant (map book (slice_set desks op after)) (map waits (slice_set desks op after)) new) (told_map made)
desk_collects book waits plant old put new desks n op desk after made valid reached long within at puts same on held bare was_held =
    let there = seen_at waits desks n op desk long within at in
    performed (Collects op) plant old (map book desks) (map waits desks) _ (told_map made) (bare_seen book desks bare) was_held
    (collects_on plant old put new _ _ _ _ op (waits desk) (waits after) made there (oldest_fits plant old _ _ op (waits desk) valid reached there) puts
    (set_alike book desks op after (book desk) (seen_at book desks n op desk long within at) same) (set_seen waits desks op after (waits after) refl) on held)

-- ---- other slices

-- each book takes its row
abbrev taken : ℕ → List BookView → List SliceRow → List BookView
taken from [] rows = []
taken from (b ∷ books) [] = b ∷ books
taken from (b ∷ books) (row ∷ rows) = book_after_action b (actions.Reslice from row) ∷ taken from books rows

taken_length : (from : ℕ) (books : List BookView) (rows : List SliceRow) → length (taken from books rows) ≡ length books
taken_length from [] rows = refl
taken_length from (b ∷ books) [] = refl
taken_length from (b ∷ books) (row ∷ rows) = ap suc (taken_length from books rows)

taken_at : (from : ℕ) (books : List BookView) (rows : List SliceRow) (i : ℕ) (row : SliceRow) (book : BookView) → slice_get rows i ≡ Some row → slice_get books i ≡ Some book
    → slice_get (taken from books rows) i ≡ Some (book_after_action book (actions.Reslice from row))
taken_at from [] rows i row book e f = absurd (cc)
taken_at from (b ∷ books) [] i row book e f = absurd (cc)
taken_at from (b ∷ books) (r ∷ rows) zero row book e f = λ k. Some (book_after_action (same_Some b book f k) (actions.Reslice from (same_Some r row e k)))
taken_at from (b ∷ books) (r ∷ rows) (suc i) row book e f = taken_at from books rows i row book e f

-- their histories forgotten
went_all : (from : ℕ) (books lives : List BookView) (rows : List SliceRow) → length rows ≡ length books → length lives ≡ length books
    → ((i : ℕ) (row : SliceRow) (b : BookView) → slice_get rows i ≡ Some row → slice_get (map forgotten books) i ≡ Some b → slice_get lives i ≡ Some (went b (actions.Reslice from row)))
    → map forgotten (taken from books rows) ≡ lives
went_all from [] [] rows one long each = refl
went_all from [] (l ∷ lives) rows one long each = absurd (omega (arith, long))
went_all from (b ∷ books) lives [] one long each = absurd (omega (arith, one))
went_all from (b ∷ books) [] (row ∷ rows) one long each = absurd (omega (arith, long))
went_all from (b ∷ books) (l ∷ lives) (row ∷ rows) one long each =
    ap₂ (λ (x : BookView) (xs : List BookView). x ∷ xs) (sym (same_Some l (went (forgotten b) (actions.Reslice from row)) (each 0 row (forgotten b) refl refl)))
    (went_all from books lives rows (omega (arith, one)) (omega (arith, long)) (λ i r x e f. each (suc i) r x e f))

-- rows that have no fault at the books without their histories have none at those with them
free_behind : (from : ℕ) (books lives : List BookView) (rows : List SliceRow) → map forgotten books ≡ lives → reslice_fault from lives rows ≡ None → AreFree from books rows
free_behind from books lives rows are none =
    let free = are_free from lives rows none in
    record {
      one_each = free.one_each ∙ (sym (ap (λ (bs : List BookView). length bs) are) ∙ length-map books forgotten);
      apart = free.apart;
      fit = λ i row book e f.
          free.fit i row (forgotten book) e
          (ap (λ (bs : List BookView). slice_get bs i) (sym are) ∙ (slice_get-map forgotten books i ∙ ap (option_map forgotten) f));
    }

pub reslices_on : (plant : PlantFields) (gathering gathering' : Gathering) (lives lives' : List BookView) (queues queues' : List (List (ℕ × ElementsFields))) (from : ℕ) (rows : List SliceRow)
    → reslice_fault from lives rows ≡ None → HaveTakenAs (λ book row. went book (actions.Reslice from row)) rows lives lives' → queues' ≡ queues → MayReslice gathering from (map slice_of rows)
    → GoesOnAlike (gathering_after_reslice gathering from (map slice_of rows)) gathering' → IsGathering gathering'
    → GoesOn (Reslices from rows) (core_of plant lives queues gathering) (core_of plant lives' queues' gathering') []
reslices_on plant gathering gathering' lives lives' queues queues' from rows none have qs may on held = λ core is.
    let free = free_behind from core.books lives rows is.books_are none in
    let valid : AreSlices core.gathering.channel (length core.gathering.quotas) (map slice_of rows) =
    subst (λ (x : Gathering). AreSlices x.channel (length x.quotas) (map slice_of rows))
    (λ k. record gathering { channel = is.gathering_is.channel_is k; quotas = is.gathering_is.quotas_are k }) may.slices_are in
    let all : GoesOnAlike (gathering_after_reslice core.gathering from (map slice_of rows)) gathering' =
    alike_again (gathering_after_reslice core.gathering from (map slice_of rows)) (gathering_after_reslice gathering from (map slice_of rows)) gathering'
    (alike_resliced core.gathering gathering from (map slice_of rows) is.gathering_is) on in (
      record core { books = taken from core.books rows; gathering = gathering_after_reslice core.gathering from (map slice_of rows) },
      record {
        one_each = free.one_each;
        apart = free.apart;
        fit = free.fit;
        books = taken_length from core.books rows;
        acted_is = taken_at from core.books rows;
        plant_is = refl;
        queues_are = refl;
        gathering_is = refl;
        now_is = refl;
      },
      record {
        plant_is = is.plant_is;
        books_are = went_all from core.books lives' rows free.one_each
            (have.one_each ∙ (sym (ap (λ (bs : List BookView). length bs) is.books_are) ∙ length-map core.books forgotten))
            (λ i row b e f. have.taken i row b e (ap (λ (bs : List BookView). slice_get bs i) (sym is.books_are) ∙ f));
        queues_are = is.queues_are ∙ sym qs;
        gathering_is = all;
        held = held_resliced core.gathering gathering gathering' from (map slice_of rows) all is.held valid held;
      },
    )

-- ---- what a core does, the core behind it does

pub acts_go : (op : ℕ) (action : Action) (old new : CoreView) (now : List Out) → Performs (Acts op action) old new now → GoesOn (Acts op action) old new now
acts_go op action old new now performs = λ core is.
    let acts = performs.1 in
    let kept = performs.2 in
    let outputs = (own_step (operator acts.book.consts acts.book.row acts.book.state) action).outputs in
    let mid = core_of old.plant (slice_set old.books op (went acts.book action)) (slice_set old.queues op (acts.waiting ++ frames_of outputs)) old.gathering in
    looser (Acts op action) old mid new now
    (acts_on old.plant old.gathering old.books mid.books old.queues mid.queues op action acts.book acts.waiting now acts.book_is acts.waiting_is acts.allowed refl refl acts.now_is)
    (sym kept.plant_is ∙ ap (λ (c : CoreView). c.plant) acts.new_is)
    (sym kept.books_are
    ∙ (ap (λ (c : CoreView). map forgotten c.books) acts.new_is
    ∙ (map-set forgotten old.books op (book_after_action acts.book action) ∙ ap (λ (bs : List BookView). slice_set bs op (went acts.book action)) (bare_of old core is))))
    (sym kept.queues_are ∙ ap (λ (c : CoreView). c.queues) acts.new_is)
    (subst (λ (g : Gathering). GoesOnAlike g new.gathering) (ap (λ (c : CoreView). c.gathering) acts.new_is) kept.gathering_is) core is

front_is : (frame frame' : ℕ) (part part' : ElementsFields) (rest rest' : List (ℕ × ElementsFields))
    → ◌≡◌ {A = List (ℕ × ElementsFields)} ((frame, part) ∷ rest) ((frame', part') ∷ rest') → ◌≡◌ {A = ℕ × ElementsFields} (frame, part) (frame', part')
front_is frame frame' part part' rest rest' h = cc

pub collects_go : (op : ℕ) (old new : CoreView) (now : List Out) → Performs (Collects op) old new now → GoesOn (Collects op) old new now
collects_go op old new now performs = λ core is.
    let collects = performs.1 in
    let kept = performs.2 in
    let put = after_put old.gathering op collects.part in
    let put_is : performs.0.gathering ≡ put = ap (λ (c : CoreView). c.gathering) collects.new_is in
    let mid = core_of old.plant old.books (slice_set old.queues op collects.waiting) put in
    looser (Collects op) old mid new now
    (subst (λ (os : List Out). GoesOn (Collects op) old mid os) (sym collects.now_is)
    (collects_on old.plant old.gathering put put old.books old.books old.queues mid.queues op ((collects.frame, collects.part) ∷ collects.waiting) collects.waiting collects.made collects.waiting_is
    (λ frame part rest front. (λ k. put_fault old.gathering op (sym (front_is collects.frame frame collects.part part collects.waiting rest front) k).0 (sym (front_is collects.frame frame collects.part part collects.waiting rest front) k).1) ∙ collects.fits)
    (record { frame = collects.frame; part = collects.part; waiting_is = refl; made_is = collects.made_is; new_is = refl }) refl refl (alike_self put)
    (subst IsGathering put_is kept.held)))
    (sym kept.plant_is ∙ ap (λ (c : CoreView). c.plant) collects.new_is)
    (sym kept.books_are ∙ (ap (λ (c : CoreView). map forgotten c.books) collects.new_is ∙ bare_of old core is))
    (sym kept.queues_are ∙ ap (λ (c : CoreView). c.queues) collects.new_is)
    (subst (λ (g : Gathering). GoesOnAlike g new.gathering) put_is kept.gathering_is) core is

pub reslices_go : (from : ℕ) (rows : List SliceRow) (old new : CoreView) (now : List Out) → Performs (Reslices from rows) old new now → GoesOn (Reslices from rows) old new now
reslices_go from rows old new now performs = λ core is.
    let reslices = performs.1 in
    let kept = performs.2 in
    let slices = map slice_of rows in
    let given = gathering_after_reslice old.gathering from slices in
    let held : IsGathering given = subst IsGathering reslices.gathering_is kept.held in
    let last : Reslicing = record { from = from; slicing = slices } in
    let valid : AreSlices old.gathering.channel (length old.gathering.quotas) slices =
    (All-pop (λ (r : Reslicing). AreSlices old.gathering.channel (length old.gathering.quotas) r.slicing) given.reslicings old.gathering.reslicings (Some last) refl held.reslicings_are).1 in
    let long : length old.books ≡ length core.books = ap (λ (bs : List BookView). length bs) (sym is.books_are) ∙ length-map core.books forgotten in
    let alike = alike_resliced core.gathering old.gathering from slices is.gathering_is in (
      record core { books = taken from core.books rows; gathering = gathering_after_reslice core.gathering from slices },
      record {
        one_each = reslices.one_each ∙ long;
        apart = reslices.apart;
        fit = λ i row book e f. reslices.fit i row (forgotten book) e (ap (λ (bs : List BookView). slice_get bs i) (sym is.books_are) ∙ (slice_get-map forgotten core.books i ∙ ap (option_map forgotten) f));
        books = taken_length from core.books rows;
        acted_is = taken_at from core.books rows;
        plant_is = refl;
        queues_are = refl;
        gathering_is = refl;
        now_is = reslices.now_is;
      },
      record {
        plant_is = is.plant_is ∙ (sym reslices.plant_is ∙ kept.plant_is);
        books_are = went_all from core.books new.books rows (reslices.one_each ∙ long)
            (ap (λ (bs : List BookView). length bs) (sym kept.books_are) ∙ (length-map performs.0.books forgotten ∙ (reslices.books ∙ long)))
            (λ i row b e f.
            ap (λ (bs : List BookView). slice_get bs i) (sym kept.books_are)
            ∙ (slice_get-map forgotten performs.0.books i
            ∙ ap (option_map forgotten) (reslices.acted_is i row b e (ap (λ (bs : List BookView). slice_get bs i) (sym is.books_are) ∙ f))));
        queues_are = is.queues_are ∙ (sym reslices.queues_are ∙ kept.queues_are);
        gathering_is = alike_again (gathering_after_reslice core.gathering from slices) given new.gathering alike (subst (λ (g : Gathering). GoesOnAlike g new.gathering) reslices.gathering_is kept.gathering_is);
        held = held_resliced core.gathering old.gathering given from slices alike is.held
            (subst (λ (x : Gathering). AreSlices x.channel (length x.quotas) slices) (λ k. record old.gathering { channel = is.gathering_is.channel_is k; quotas = is.gathering_is.quotas_are k }) valid) held;
      },
    )

step_goes : (step : Step) (old new : CoreView) (now : List Out) → Performs (Steps step) old new now → GoesOn (Steps step) old new now
step_goes (steps.Arrive modem heard) old new now performs = λ core is.
    let done = acts_go performs.1.0 (actions.Arrive modem heard) old new now (performs.0, performs.1.2, performs.2) core is in
    (done.0, (performs.1.0, ap (λ (p : PlantFields). holder p.rows modem) is.plant_is ∙ performs.1.1, done.1), done.2)
step_goes (steps.Work op) old new now performs = acts_go op actions.Work old new now performs
step_goes (steps.Tick op) old new now performs = acts_go op actions.Tick old new now performs
step_goes (steps.Collect op) old new now performs = collects_go op old new now performs
step_goes (steps.Reslice from rows) old new now performs = reslices_go from rows old new now performs

-- ---- one step more

pub after_more : (plant : PlantFields) (start : Start) (before : List Step) (told : List Out) (step : Step) (old new : CoreView) (now : List Out) → IsPlant plant → Performs (Steps step) old new now
    → IsAfterFrom plant start before told old → IsAfterFrom plant start (before ++ step ∷ []) (told ++ now) new
after_more plant start before told step old new now valid performs so_far =
    let had = behind plant start before told old so_far in
    let done = step_goes step old new now performs had.core had.is_of in
    after_of plant start (before ++ step ∷ []) (told ++ now) new had.starts done.0
    (step_from plant start before told step had.core done.0 now valid had.reached had.is_of.held done.1) done.2

pub stepped_on : (step : Step) (old new : CoreView) (now : List Out) → IsPlant old.plant → new.plant ≡ old.plant → Performs (Steps step) old new now → ∥ IsReachableFromStart old ∥₁ → ∥ IsReachableFromStart new ∥₁
stepped_on step old new now valid same performs reached = ∥∥₁_map reached (λ r. (
  r.0,
  r.1 ++ step ∷ [],
  r.2 ++ now,
  subst (λ (p : PlantFields). IsAfterFrom p r.0 (r.1 ++ step ∷ []) (r.2 ++ now) new) (sym same) (after_more old.plant r.0 r.1 r.2 step old new now valid performs r.3),
))

pub acts_step : (step : Step) (op : ℕ) (action : Action) (old new : CoreView) (now : List Out) → target old.plant step ≡ Some (op, action) → Performs (Acts op action) old new now → Performs (Steps step) old new now
acts_step step op action old new now goal performs = (performs.0, step_acts step op action old performs.0 now goal performs.1, performs.2)

-- ---- what a live core knows

may_prop : (g : Gathering) (from : ℕ) (slices : List Minislots) → IsProp (MayReslice g from slices)
may_prop g from slices = hlevel props

pub may_take : (plant : PlantFields) (gathering : Gathering) (lives : List BookView) (queues : List (List (ℕ × ElementsFields))) (from : ℕ) (rows : List SliceRow) → IsPlant plant
    → ∥ IsReachableFromStart (core_of plant lives queues gathering) ∥₁ → reslice_fault from lives rows ≡ None → MayReslice gathering from (map slice_of rows)
may_take plant gathering lives queues from rows valid reached none =
    ∥∥₁_elim reached (may_prop gathering from (map slice_of rows)) (λ r.
    let had = behind plant r.0 r.1 r.2 (core_of plant lives queues gathering) r.3 in
    let core = had.core in
    let is = had.is_of in
    let free = free_behind from core.books lives rows is.books_are none in
    may_too core.gathering gathering from (map slice_of rows) is.gathering_is
    (anew_from plant r.0 r.1 r.2 core from rows valid had.starts had.reached is.held free.one_each free.apart free.fit))

-- ---- a core that is resumed, and one that is opened

started_forgotten : (consts : ConstsFields) (start : Start) (rows : List RowFields) → map forgotten (map (started_book consts start) rows) ≡ map (started_book consts start) rows
started_forgotten consts start [] = refl
started_forgotten consts start (row ∷ rows) = ap (λ (bs : List BookView). started_book consts start row ∷ bs) (started_forgotten consts start rows)

pub started_after : (plant : PlantFields) (start : Start) → IsPlant plant → IsStart plant start → IsGathering (gathering_from plant start) → IsAfterFrom plant start [] [] (started_core plant start)
started_after plant start valid starts held =
    after_of plant start [] [] (started_core plant start) starts (started_core plant start) (started_reached plant start valid starts.at_one_frame)
    (record { plant_is = refl; books_are = started_forgotten plant.consts start plant.rows; queues_are = refl; gathering_is = alike_self (gathering_from plant start); held = held })

pub opened_after : (plant : PlantFields) → IsPlant plant → IsGathering (gathering_of plant) → IsAfter plant [] [] (opened_core plant)
opened_after plant valid held = started_after plant (first_start plant) valid (opened_starts plant (gathering_of plant) valid refl held) held
