-- Behind a live core stands a core with histories, which does the same.
use Rattle.std.proofs.Common.{◌≡◌, ℕ, zero, suc, ◌+◌, List, [], ◌∷◌, length, map, Option, Some, None, option_map, refl, sym, ap, ap₂, subst, ◌∙◌, arith}
use Rattle.plant_core.proofs.LiveLemmas.Common.{slice_get, length-map, slice_get-map, slice_get_within, same_Some, ElementsFields, RowFields, PlantFields, Action, Operator, operator, own_step, after_step, own_run, MayRun, BookView, AreTold, actions_of, Step, Out, own_steps, Start, IsStart, CoreView, IsBookFrom, IsStateAfterFrom, told_may, some_at, forgotten, IsOf, IsOperatorFrom, IsAfterFrom}
use Rattle.operator_model.specs.declared.action.Entry.{Entry}

-- ---- a book behind one without its history

pub found : (books lives : List BookView) (op : ℕ) (b : BookView) → map forgotten books ≡ lives → slice_get lives op ≡ Some b → (book : BookView) × (slice_get books op ≡ Some book) × (forgotten book ≡ b)
found books lives op b are there = by (slice_get books op) refl (sym (slice_get-map forgotten books op) ∙ (ap (λ (bs : List BookView). slice_get bs op) are ∙ there))
  where
    by : (o : Option BookView) → slice_get books op ≡ o → option_map forgotten (slice_get books op) ≡ Some b → (book : BookView) × (slice_get books op ≡ Some book) × (forgotten book ≡ b)
    by None e is = absurd (let wrong : ◌≡◌ {A = Option BookView} None (Some b) = sym (ap (option_map forgotten) e) ∙ is in cc)
    by (Some book) e is = (book, e, same_Some (forgotten book) b (sym (ap (option_map forgotten) e) ∙ is))

-- ---- the entries of actions

abbrev entries : Operator → List Action → List Entry
entries o [] = []
entries o (action ∷ actions) = record { action = action; outputs = (own_step o action).outputs } ∷ entries (after_step o action) actions

entries_of : (o : Operator) (actions : List Action) → actions_of (entries o actions) ≡ actions
entries_of o [] = refl
entries_of o (action ∷ actions) = ap (λ (others : List Action). action ∷ others) (entries_of (after_step o action) actions)

entries_told : (o : Operator) (actions : List Action) → MayRun o actions → AreTold o (entries o actions)
entries_told o [] may = tt
entries_told o (action ∷ actions) may = (may.0, refl, entries_told (after_step o action) actions may.1)

module _ (plant : PlantFields) (start : Start) (steps : List Step) where
  abbrev own : ℕ → RowFields → List Entry
  own i row = entries (operator plant.consts row (start.state row)) (own_steps row i steps)

  -- the book with its own entries
  abbrev told_book : ℕ → RowFields → BookView → BookView
  told_book i row book = record { row = book.row; consts = book.consts; state = book.state; history = own i row }

  abbrev told_books : ℕ → List RowFields → List BookView → List BookView
  told_books n [] books = []
  told_books n (row ∷ rows) [] = []
  told_books n (row ∷ rows) (book ∷ books) = told_book n row book ∷ told_books (suc n) rows books

  told_long : (n : ℕ) (rows : List RowFields) (books : List BookView) → length books ≡ length rows → length (told_books n rows books) ≡ length rows
  told_long n [] books long = refl
  told_long n (row ∷ rows) [] long = absurd (omega (arith, long))
  told_long n (row ∷ rows) (book ∷ books) long = ap suc (told_long (suc n) rows books (omega (arith, long)))

  told_at : (n : ℕ) (rows : List RowFields) (books : List BookView) (i : ℕ) (row : RowFields) (told : BookView) → slice_get rows i ≡ Some row → slice_get (told_books n rows books) i ≡ Some told
      → (book : BookView) × (slice_get books i ≡ Some book) × (told_book (n + i) row book ≡ told)
  told_at n [] books i row told e f = absurd (cc)
  told_at n (r ∷ rows) [] i row told e f = absurd (cc)
  told_at n (r ∷ rows) (b ∷ books) zero row told e f =
      let here : n + zero ≡ n = omega arith in
      (b, refl, (λ k. told_book (here k) (sym (same_Some r row e) k) b) ∙ same_Some (told_book n r b) told f)
  told_at n (r ∷ rows) (b ∷ books) (suc i) row told e f =
      let found = told_at (suc n) rows books i row told e f in
      let here : n + suc i ≡ suc n + i = omega arith in
      (found.0, found.1, ap (λ (k : ℕ). told_book k row found.0) here ∙ found.2)

  told_forgotten : (n : ℕ) (rows : List RowFields) (books : List BookView) → length books ≡ length rows
      → ((i : ℕ) (book : BookView) → slice_get books i ≡ Some book → book.history ≡ []) → map forgotten (told_books n rows books) ≡ books
  told_forgotten n [] [] long none = refl
  told_forgotten n [] (book ∷ books) long none = absurd (omega (arith, long))
  told_forgotten n (row ∷ rows) [] long none = refl
  told_forgotten n (row ∷ rows) (book ∷ books) long none =
      ap₂ (λ (b : BookView) (bs : List BookView). b ∷ bs) (λ k. record { row = book.row; consts = book.consts; state = book.state; history = sym (none 0 book refl) k })
      (told_forgotten (suc n) rows books (omega (arith, long)) (λ i b e. none (suc i) b e))

  told_is_book : (i : ℕ) (row : RowFields) (book : BookView) → IsOperatorFrom plant start steps i row book → IsBookFrom plant start steps i row (told_book i row book)
  told_is_book i row book stands =
      let first = operator plant.consts row (start.state row) in
      let are = entries_of first (own_steps row i steps) in
      record {
        row_is = stands.row_is;
        consts_are = stands.consts_are;
        state_is = stands.state_is;
        actions_are = are;
        replay = record {
          state_is = stands.state_is ∙ ap (λ (actions : List Action). (own_run first actions).state) (sym are);
          told = entries_told first (own_steps row i steps) stands.may;
        };
      }

-- ---- the core behind

module _ (plant : PlantFields) (start : Start) (steps : List Step) (outs : List Out) (live : CoreView) where
  -- a core with histories after the steps, of which the live core keeps the rest
  pub record HasCore : Type 0 where
    pub starts : IsStart plant start
    pub core : CoreView
    pub reached : IsStateAfterFrom plant start steps outs core
    pub is_of : IsOf live core

  none_kept : (after : IsAfterFrom plant start steps outs live) (i : ℕ) (book : BookView) → slice_get live.books i ≡ Some book → book.history ≡ []
  none_kept after i book there =
      let row = some_at plant.rows i (omega (arith, slice_get_within live.books i book there, after.one_book)) in
      (after.operators i row.0 book row.1 there).no_history

  pub behind : IsAfterFrom plant start steps outs live → HasCore
  behind after = record {
    starts = after.starts;
    core = record live { books = told_books plant start steps 0 plant.rows live.books; gathering = after.gathering };
    reached = record {
      at_one_frame = after.starts.at_one_frame;
      plant_is = after.plant_is;
      shown = after.shown;
      ordered = after.ordered;
      one_book = told_long plant start steps 0 plant.rows live.books after.one_book;
      one_queue = after.one_queue;
      books = λ i row told here there.
          let at = told_at plant start steps 0 plant.rows live.books i row told here there in
          let here_is : zero + i ≡ i = omega arith in
          subst (IsBookFrom plant start steps i row) (ap (λ (k : ℕ). told_book plant start steps k row at.0) (sym here_is) ∙ at.2) (told_is_book plant start steps i row at.0 (after.operators i row at.0 here at.1));
      frames = after.frames;
      gathered = after.gathered;
    };
    is_of = record {
      plant_is = refl;
      books_are = told_forgotten plant start steps 0 plant.rows live.books after.one_book (none_kept after);
      queues_are = refl;
      gathering_is = after.gathering_is;
      held = after.held;
    };
  }

  -- and what is kept of a core after the steps is a live core after them
  pub after_of : IsStart plant start → (core : CoreView) → IsStateAfterFrom plant start steps outs core → IsOf live core → IsAfterFrom plant start steps outs live
  after_of starts core reached is = record {
    starts = starts;
    plant_is = sym is.plant_is ∙ reached.plant_is;
    shown = reached.shown;
    ordered = reached.ordered;
    one_book = ap (λ (books : List BookView). length books) (sym is.books_are) ∙ (length-map core.books forgotten ∙ reached.one_book);
    one_queue = ap (λ (qs : List (List (ℕ × ElementsFields))). length qs) (sym is.queues_are) ∙ reached.one_queue;
    operators = λ i row book here there.
        let at = found core.books live.books i book is.books_are there in
        let stood = reached.books i row at.0 here at.1 in
        subst (IsOperatorFrom plant start steps i row) at.2
        (record {
          row_is = stood.row_is;
          consts_are = stood.consts_are;
          state_is = stood.state_is;
          may = subst (MayRun (operator plant.consts row (start.state row))) stood.actions_are (told_may plant.consts row (start.state row) at.0.history stood.replay.told);
          no_history = refl;
        });
    gathering = core.gathering;
    gathered = reached.gathered;
    frames = λ i row waiting put here there at. reached.frames i row waiting put here (ap (λ (qs : List (List (ℕ × ElementsFields))). slice_get qs i) is.queues_are ∙ there) at;
    gathering_is = is.gathering_is;
    held = is.held;
  }
