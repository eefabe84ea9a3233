-- How far the steps lead operators' histories, step by step.
use Rattle.std.proofs.Common.{◌≡◌, ℕ, zero, suc, ◌+◌, ◌<◌, ◌≤◌, true, false, is_some, List, [], ◌∷◌, ◌++◌, length, take, get_or, replicate, Option, Some, None, ◌⊎◌, inl, inr, refl, sym, ap, ◌∙◌, subst, arith, append-nil}
use Rattle.plant_workers.proofs.AuditLemmas.Common.{slice_get, slice_set, cases_eq, length-map, length-set, length-replicate, take-replicate, take_all, none-some, same_Some, slice_get_within, get_or_from_slice_get, RowFields, PlantFields, IsPlant, Action, Entry, BookView, actions_of, Step, action_of, get_same, get_other, same_at, some_at, taken_by, waiting_operator, AreOwnRuns, Advances, HasAdvanced, HaveAdvanced, AllEndAt}
use Rattle.plant_workers.proofs.AuditLemmas.Differing.{take_next, more_none, more_some}
use Rattle.plant_workers.proofs.AuditLemmas.Judging.{book_told}
use Rattle.plant_workers.proofs.AuditLemmas.Whose.{others_none, none_is, some_is, waits_as_taken}

-- ---- one operator

module _ (row : RowFields) (op : ℕ) (all : List Step) (at : ℕ) (step : Step) (here : slice_get all at ≡ Some step) (book : BookView) (old : ℕ) (was : HasAdvanced row op (take at all) book old) where
  pub advanced : (new : ℕ) → Advances (actions_of book.history) (action_of row op step) old new → HasAdvanced row op (take (at + 1) all) book new
  advanced new moves = by (action_of row op step) refl moves
    where
      by : (o : Option Action) → action_of row op step ≡ o → Advances (actions_of book.history) o old new → HasAdvanced row op (take (at + 1) all) book new
      by None e same = record {
        within = omega (arith, was.within, same);
        own = more_none (action_of row op) all at step here e ∙ (was.own ∙ ap (λ (n : ℕ). take n (actions_of book.history)) (sym same));
      }
      by (Some a) e moved = record {
        within =
            let inside = slice_get_within (actions_of book.history) old a moved.0 in
            let long = length-map book.history (λ (x : Entry). x.action) in
            omega (arith, inside, long, moved.1);
        own =
            more_some (action_of row op) all at step here a e
            ∙ (ap (λ (done : List Action). done ++ a ∷ []) was.own
            ∙ (take_next (actions_of book.history) [] old a moved.0
            ∙ (append-nil (take (old + 1) (actions_of book.history)) ∙ ap (λ (n : ℕ). take n (actions_of book.history)) (sym moved.1))));
      }

  pub stays : action_of row op step ≡ None → HasAdvanced row op (take (at + 1) all) book old
  stays e = advanced old (subst (λ (o : Option Action). Advances (actions_of book.history) o old old) (sym e) refl)

-- ---- operator by operator

-- the first operators have advanced by the step at this place, and the others have not
pub record HaveAdvancedTo (plant : PlantFields) (books : List BookView) (all : List Step) (at count : ℕ) (places : List ℕ) : Type 0 where
  pub one_each : length places ≡ length plant.rows
  pub done : (op : ℕ) (row : RowFields) (book : BookView) (place : ℕ) → op < count → slice_get plant.rows op ≡ Some row → slice_get books op ≡ Some book → slice_get places op ≡ Some place
      → HasAdvanced row op (take (at + 1) all) book place
  pub left : (op : ℕ) (row : RowFields) (book : BookView) (place : ℕ) → count ≤ op → slice_get plant.rows op ≡ Some row → slice_get books op ≡ Some book → slice_get places op ≡ Some place
      → HasAdvanced row op (take at all) book place

-- what an operator's own step asks of its place
abbrev pub Moves : PlantFields → List BookView → Step → List ℕ → ℕ → ℕ → Type 0
Moves plant books step places op new =
    (row : RowFields) (book : BookView) (old : ℕ) → slice_get plant.rows op ≡ Some row → slice_get books op ≡ Some book → slice_get places op ≡ Some old
    → Advances (actions_of book.history) (action_of row op step) old new

module _ (plant : PlantFields) (books : List BookView) (all : List Step) (at : ℕ) where
  pub none_advanced : (places : List ℕ) → HaveAdvanced plant books (take at all) places → HaveAdvancedTo plant books all at 0 places
  none_advanced places are = record {
    one_each = are.one_each;
    done = λ op row book place lt r b p. absurd (omega (arith, lt));
    left = λ op row book place le r b p. are.each op row book place r b p;
  }

  pub all_advanced : (count : ℕ) (places : List ℕ) → length places ≤ count → HaveAdvancedTo plant books all at count places → HaveAdvanced plant books (take (at + 1) all) places
  all_advanced count places le are = record {
    one_each = are.one_each;
    each = λ op row book place r b p. are.done op row book place (let within = slice_get_within places op place p in omega (arith, le, within)) r b p;
  }

  module _ (step : Step) (here : slice_get all at ≡ Some step) where
    module _ (count : ℕ) (places : List ℕ) (within : count < length places) (new : ℕ) (moves : Moves plant books step places count new) where
      -- what stands at the operator's own place is the new one
      own_advanced_place : ((row : RowFields) (book : BookView) (old : ℕ) → slice_get plant.rows count ≡ Some row → slice_get books count ≡ Some book → slice_get places count ≡ Some old → HasAdvanced row count (take at all) book old)
          → (op : ℕ) (row : RowFields) (book : BookView) (place : ℕ) → op ≡ count → slice_get plant.rows op ≡ Some row → slice_get books op ≡ Some book → slice_get (slice_set places count new) op ≡ Some place
          → HasAdvanced row op (take (at + 1) all) book place
      own_advanced_place was op row book place same r b p =
          let r_here : slice_get plant.rows count ≡ Some row = ap (λ (n : ℕ). slice_get plant.rows n) (sym same) ∙ r in
          let b_here : slice_get books count ≡ Some book = ap (λ (n : ℕ). slice_get books n) (sym same) ∙ b in
          let old = some_at places count within in
          let place_is : new ≡ place =
          same_at (slice_set places count new) count new place (get_same places count new within) (ap (λ (n : ℕ). slice_get (slice_set places count new) n) (sym same) ∙ p) in
          subst (λ (n : ℕ). HasAdvanced row n (take (at + 1) all) book place) (sym same)
          (subst (λ (n : ℕ). HasAdvanced row count (take (at + 1) all) book n) place_is
          (advanced row count all at step here book old.0 (was row book old.0 r_here b_here old.1) new (moves row book old.0 r_here b_here old.1)))

      pub one_advanced : HaveAdvancedTo plant books all at count places → HaveAdvancedTo plant books all at (count + 1) (slice_set places count new)
      one_advanced are = record {
        one_each = length-set places count new ∙ are.one_each;
        done = λ op row book place lt r b p. by op row book place lt r b p (cases_eq op count);
        left = λ op row book place le r b p. are.left op row book place (omega (arith, le)) r b (sym (get_other places count op new (λ same. absurd (omega (arith, le, same)))) ∙ p);
      }
        where
          by : (op : ℕ) (row : RowFields) (book : BookView) (place : ℕ) → op < count + 1 → slice_get plant.rows op ≡ Some row → slice_get books op ≡ Some book → slice_get (slice_set places count new) op ≡ Some place
              → (op ≡ count) ⊎ (op ≡ count → ⊥) → HasAdvanced row op (take (at + 1) all) book place
          by op row book place lt r b p (inl same) =
              own_advanced_place (λ row book old r b p. are.left count row book old (omega arith) r b p) op row book place same r b p
          by op row book place lt r b p (inr ne) = are.done op row book place (omega (arith, lt, ne)) r b (sym (get_other places count op new ne) ∙ p)

      -- the step is this operator's, and it alone advances
      pub own_advanced : IsPlant plant → waiting_operator plant step ≡ Some count → HaveAdvanced plant books (take at all) places → HaveAdvanced plant books (take (at + 1) all) (slice_set places count new)
      own_advanced is waits are = record {
        one_each = length-set places count new ∙ are.one_each;
        each = λ op row book place r b p. by op row book place r b p (cases_eq op count);
      }
        where
          by : (op : ℕ) (row : RowFields) (book : BookView) (place : ℕ) → slice_get plant.rows op ≡ Some row → slice_get books op ≡ Some book → slice_get (slice_set places count new) op ≡ Some place
              → (op ≡ count) ⊎ (op ≡ count → ⊥) → HasAdvanced row op (take (at + 1) all) book place
          by op row book place r b p (inl same) =
              own_advanced_place (λ row book old r b p. are.each count row book old r b p) op row book place same r b p
          by op row book place r b p (inr ne) =
              stays row op all at step here book place (are.each op row book place r b (sym (get_other places count op new ne) ∙ p)) (others_none plant step count op row is waits ne r).action

    -- the step is of an operator that is not there
    pub stranger_advanced : IsPlant plant → (op : ℕ) → waiting_operator plant step ≡ Some op → length plant.rows ≤ op → (places : List ℕ) → HaveAdvanced plant books (take at all) places
        → HaveAdvanced plant books (take (at + 1) all) places
    stranger_advanced is op waits past places are = record {
      one_each = are.one_each;
      each = λ i row book place r b p.
          let within = slice_get_within plant.rows i row r in
          stays row i all at step here book place (are.each i row book place r b p)
          (others_none plant step op i row is waits (λ same. absurd (omega (arith, past, within, same))) r).action;
    }

    -- the step is no action of the operator in whose history it waits
    pub untaken_advanced : IsPlant plant → (op : ℕ) → waiting_operator plant step ≡ Some op → false ≡ is_some (taken_by op step) → (places : List ℕ) → HaveAdvanced plant books (take at all) places
        → HaveAdvanced plant books (take (at + 1) all) places
    untaken_advanced is op waits untaken places are = record {
      one_each = are.one_each;
      each = λ i row book place r b p. stays row i all at step here book place (are.each i row book place r b p) (by i row r (cases_eq i op));
    }
      where
        by : (i : ℕ) (row : RowFields) → slice_get plant.rows i ≡ Some row → (i ≡ op) ⊎ (i ≡ op → ⊥) → action_of row i step ≡ None
        by i row r (inl same) =
            subst (λ (n : ℕ). action_of row n step ≡ None) (sym same)
            (waits_as_taken plant step op row is waits (ap (λ (n : ℕ). slice_get plant.rows n) (sym same) ∙ r) ∙ none_is (taken_by op step) (sym untaken))
        by i row r (inr ne) = (others_none plant step op i row is waits ne r).action

-- what an operator's own step asks of its place, by what stands there
pub moves_there : (plant : PlantFields) (books : List BookView) (step : Step) (places : List ℕ) (op new : ℕ) (view : BookView) (history : List Entry) → slice_get books op ≡ Some view → history ≡ view.history
    → ((row : RowFields) → slice_get plant.rows op ≡ Some row → Advances (actions_of history) (action_of row op step) (get_or places op 0) new) → Moves plant books step places op new
moves_there plant books step places op new view history here same moves row book old r b o =
    let view_is : view ≡ book = same_at books op view book here b in
    let old_is : get_or places op 0 ≡ old = get_or_from_slice_get places op old 0 o in
    subst (λ (n : ℕ). Advances (actions_of book.history) (action_of row op step) n new) old_is
    (subst (λ (h : List Entry). Advances (actions_of h) (action_of row op step) (get_or places op 0) new) (same ∙ ap (λ (v : BookView). v.history) view_is) (moves row r))

-- an operator moves by the action that the step is taken as
pub taken_moves : (plant : PlantFields) (step : Step) (op : ℕ) (row : RowFields) → IsPlant plant → waiting_operator plant step ≡ Some op → slice_get plant.rows op ≡ Some row → true ≡ is_some (taken_by op step)
    → (history : List Action) (old new : ℕ) → ((action : Action) → taken_by op step ≡ Some action → Advances history (Some action) old new) → Advances history (action_of row op step) old new
taken_moves plant step op row is waits r taken history old new moves =
    let found = some_is (taken_by op step) (sym taken) in
    subst (λ (o : Option Action). Advances history o old new) (sym (waits_as_taken plant step op row is waits r ∙ found.1)) (moves found.0 found.1)

-- ---- the start and the end

-- each place is 0 at the start
zero_there : (operators op place : ℕ) → slice_get (replicate operators 0) op ≡ Some place → place ≡ 0
zero_there zero op place p = let none : ◌≡◌ {A = Option ℕ} None (Some place) = p in absurd (none-some place none)
zero_there (suc operators) zero place p = sym (same_Some 0 place p)
zero_there (suc operators) (suc op) place p = zero_there operators op place p

pub none_yet : (plant : PlantFields) (books : List BookView) (n : ℕ) → length plant.rows ≤ n → HaveAdvanced plant books [] (take (length plant.rows) (replicate n 0))
none_yet plant books n le = record {
  one_each = ap (λ (zs : List ℕ). length zs) (take-replicate (length plant.rows) n 0 le) ∙ length-replicate {A = ℕ} (length plant.rows) 0;
  each = λ op row book place r b p.
      let none = zero_there (length plant.rows) op place (ap (λ (zs : List ℕ). slice_get zs op) (sym (take-replicate (length plant.rows) n 0 le)) ∙ p) in
      record {
        within = omega (arith, none);
        own = ap (λ (k : ℕ). take k (actions_of book.history)) (sym none);
      };
}

pub own_runs : (plant : PlantFields) (books : List BookView) (steps : List Step) (places : List ℕ) → HaveAdvanced plant books steps places → AllEndAt plant books places → AreOwnRuns plant steps books
own_runs plant books steps places are end i row book r b =
    let within = slice_get_within plant.rows i row r in
    let place = some_at places i (omega (arith, within, are.one_each)) in
    let has = are.each i row book place.0 r b place.1 in
    let ends = end i row book place.0 r b place.1 in
    let long = length-map book.history (λ (x : Entry). x.action) in
    book_told plant steps i row book ends.row_is ends.consts_are ends.replayed None
    (sym (has.own ∙ take_all place.0 (actions_of book.history) (omega (arith, long, ends.end))))
