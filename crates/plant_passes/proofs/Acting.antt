-- A turn from its ticket to its end.
use Rattle.std.proofs.Common.{◌≡◌, ℕ, ◌<◌, List, [], ◌∷◌, ◌++◌, length, Some, None, Option, Result, Ok, Err, OnOk, IfOk, OnErr, sym, refl, ap, ◌∙◌, subst}
use Rattle.plant_passes.proofs.Common.{append_cancel_left, TableId, rest, Action, Entry, own_step, stranger_of, unfit_of, BookView, operator_of_book, book_after_action, Modem, MarkedEntry, Origin, Knowledge, BookParts, origin_of, IsOwnRun, history_entry, mark_entry, entries, places, SeatNow, with_ticket, SeesHistory, HasBookInHand, with_entry, history_in_hand, after_closing, seat_view, ActsInTurn, EndsCell, IsCellAction, IsInTurn, HasBookWith}
use Rattle.operator_model.specs.declared.output.Output.{Output}
use Rattle.operator_model.specs.declared.action.Unfit.{Unfit}
use Rattle.plant_passes.proofs.Logs.{entries_push, places_own}

pub one_in_hand : {X : Type 0} (m : SeatNow X) (c : List (ℕ × Option (BookParts X))) → HasBookInHand m c
    → (x : Option (BookParts X)) × (m.1 ≡ (0, x) ∷ rest m.1)
one_in_hand m c h = (Some h.book, h.hand_is ∙ ap (λ l. (0, Some h.book) ∷ rest l) (sym h.hand_is))

-- what the slot that was taken last has
abbrev value_of : {X : Type 0} → List (ℕ × Option (BookParts X)) → Option (BookParts X)
value_of [] = None
value_of (x ∷ c) = x.1

-- the book that was taken out is that of the history that was seen
pub record IsOurs {X : Type 0} (v : Knowledge X) (book : BookParts X) : Type 0 where
  pub history : book.kept.book.history ≡ entries v.seen
  pub origin : origin_of book.kept.book ≡ v.origin
  pub ranking : v.ranking ≡ Some book.ranking

pub taken_out : {X : Type 0} (m : SeatNow X) (r : Option (BookParts X)) (book : BookParts X) → HasBookInHand m [] → m.1 ≡ (0, r) ∷ rest m.1
    → r ≡ Some book → IsOurs m.0 book
taken_out {X} m r book h e is =
    let heads : (0, r) ∷ rest m.1 ≡ (0, Some h.book) ∷ [] = sym e ∙ h.hand_is in
    let found : book ≡ h.book = let x : r ≡ Some h.book = ap value_of heads in let y : Some book ≡ Some h.book = sym is ∙ x in cc y in record {
      history = ap (λ (x : BookParts X). x.kept.book.history) found ∙ h.history_is;
      origin = ap (λ (x : BookParts X). origin_of x.kept.book) found ∙ h.origin;
      ranking = h.ranking ∙ ap (λ (x : BookParts X). Some x.ranking) (sym found);
    }

-- what holds of a value that was answered
pub if_ok : {A E : Type 0} (P : Type 0) (Q R : A → Type 0) (r : Result A E) → OnOk r P → IfOk r Q → ((a : A) → P → Q a → R a) → IfOk r R
if_ok P Q R (Ok a) p q f = f a p q
if_ok P Q R (Err e) p q f = tt

pub on_err : {A E : Type 0} (P R : Type 0) (r : Result A E) → OnErr r P → (P → R) → OnErr r R
on_err P R (Ok a) p f = tt
on_err P R (Err e) p f = f p

-- an action of a modem of the row is no stranger's
pub no_stranger : (origin : Origin) (b : BookView) (action : Action) (modem : Modem) → origin_of b ≡ origin → IsCellAction origin action
    → stranger_of b.row action ≡ Some modem → ⊥
no_stranger origin b action modem e does h =
    let z : None ≡ Some modem = sym (ap (λ (o : Origin). stranger_of o.row action) e ∙ does.mine) ∙ h in absurd (cc z)

pub no_misfit : (origin : Origin) (b : BookView) (action : Action) (why : Unfit) → IsCellAction origin action → unfit_of (operator_of_book b) action ≡ Some why → ⊥
no_misfit origin b action why does h = let z : None ≡ Some why = sym (does.fits (operator_of_book b)) ∙ h in absurd (cc z)

-- the book has one entry more, of the outputs that it told
acted_history : (book b : BookView) (action : Action) (outputs : List Output) (seen : List MarkedEntry) → b ≡ book_after_action book action
    → outputs ≡ (own_step (operator_of_book book) action).outputs → book.history ≡ entries seen → b.history ≡ entries seen ++ history_entry action outputs ∷ []
acted_history book b action outputs seen is said line =
    ap (λ (x : BookView). x.history) is ∙ (λ i. line i ++ history_entry action (sym said i) ∷ [])

-- the book that was put back, after it acted
pub acted_in_hand : {X : Type 0} (v : Knowledge X) (book b : BookParts X) (m : SeatNow X) (action : Action) (outputs : List Output) → IsOurs v book
    → m ≡ (v, (0, Some b) ∷ []) → b.kept.book ≡ book_after_action book.kept.book action → b.ranking ≡ book.ranking
    → outputs ≡ (own_step (operator_of_book book.kept.book) action).outputs → IsOwnRun (origin_of b.kept.book) b.kept.book.history
    → HasBookWith (entries v.seen ++ history_entry action outputs ∷ []) m
acted_in_hand {X} v book b m action outputs ours put is same said run = record {
  book = b;
  hand_is = ap (λ (x : SeatNow X). x.1) put;
  history_is = acted_history book.kept.book b.kept.book action outputs v.seen is said ours.history;
  origin = ap (λ (x : BookView). origin_of x) is ∙ (ours.origin ∙ ap (λ (x : SeatNow X). x.0.origin) (sym put));
  ranking = ap (λ (x : SeatNow X). x.0.ranking) put ∙ (ours.ranking ∙ ap Some (sym same));
  run = run;
}

-- the book that was put back as it was
pub unchanged_in_hand : {X : Type 0} (v : Knowledge X) (book b : BookParts X) (m : SeatNow X) → IsOurs v book → m ≡ (v, (0, Some b) ∷ [])
    → b.kept.book ≡ book.kept.book → b.ranking ≡ book.ranking → IsOwnRun (origin_of b.kept.book) b.kept.book.history
    → HasBookWith (entries v.seen) m
unchanged_in_hand {X} v book b m ours put is same run = record {
  book = b;
  hand_is = ap (λ (x : SeatNow X). x.1) put;
  history_is = ap (λ (x : BookView). x.history) is ∙ ours.history;
  origin = ap (λ (x : BookView). origin_of x) is ∙ (ours.origin ∙ ap (λ (x : SeatNow X). x.0.origin) (sym put));
  ranking = ap (λ (x : SeatNow X). x.0.ranking) put ∙ (ours.ranking ∙ ap Some (sym same));
  run = run;
}

pub acts_now : {X : Type 0} (cell : TableId) (u : Knowledge X) (t index : ℕ) (action : Action) (outputs : List Output) (m1 m3 : SeatNow X) (w : Knowledge X)
    → SeesHistory (with_ticket u t) m1.0 → IsInTurn t m1 → m3.0 ≡ m1.0 → 0 < u.number
    → HasBookWith (entries m1.0.seen ++ history_entry action outputs ∷ []) m3
    → (e : Entry) → history_in_hand m3.1 ≡ entries m3.0.seen ++ e ∷ [] → w ≡ with_entry m3.0 e
    → (cell' : TableId) → cell' ≡ cell → index ≡ t
    → ActsInTurn (seat_view cell u) action record { index = index; action = action; outputs = outputs } (seat_view cell' w)
acts_now {X} cell u t index action outputs m1 m3 w looks mine same here held e wrote end cell' same_cell index_eq =
    let v : Knowledge X = m1.0 in
    let line : history_in_hand m3.1 ≡ entries v.seen ++ history_entry action outputs ∷ [] = ap history_in_hand held.hand_is ∙ held.history_is in
    let entry_is : e ≡ history_entry action outputs =
    let x : e ∷ [] ≡ history_entry action outputs ∷ [] = append_cancel_left (entries v.seen) _ _ (ap (λ (x : Knowledge X). entries x.seen ++ e ∷ []) (sym same) ∙ (sym wrote ∙ line)) in cc x in
    let w_is : w ≡ with_entry m1.0 (history_entry action outputs) = end ∙ (λ i. with_entry (same i) (entry_is i)) in
    let own : v.made ≡ places v.number v.seen = looks.own here in
    let b_origin : origin_of held.book.kept.book ≡ v.origin = held.origin ∙ ap (λ (x : Knowledge X). x.origin) same in
    let b_line : held.book.kept.book.history ≡ entries (v.seen ++ mark_entry v.number (history_entry action outputs) ∷ []) =
    held.history_is ∙ sym (entries_push v.seen v.number (history_entry action outputs)) in
    let place : index ≡ length v.seen = index_eq ∙ mine.place in
    let good : ActsInTurn (seat_view cell u) action record { index = index; action = action; outputs = outputs } (seat_view cell' (with_entry v (history_entry action outputs))) = record {
      same = record { cell = same_cell; number = looks.number; origin = looks.origin };
      action_is = refl;
      between = looks.seen.0;
      seen = λ i. looks.seen.1 i ++ mark_entry (looks.number i) (history_entry action outputs) ∷ [];
      index_is = place ∙ ap length looks.seen.1;
      made = λ i. looks.made i ++ sym place i ∷ [];
      own = ap (λ l. l ++ length v.seen ∷ []) own ∙ sym (places_own v.number v.seen (history_entry action outputs));
      run = subst (λ (p : Origin × List Entry). IsOwnRun p.0 p.1) (λ i. (b_origin i, b_line i)) held.run;
      going = mine.closed;
      ended_cell = looks.ended_cell;
    } in
    subst (λ (x : Knowledge X). ActsInTurn (seat_view cell u) action record { index = index; action = action; outputs = outputs } (seat_view cell' x)) (sym w_is) good

-- a pass whose turn was refused, and closed the cell
pub ends_now : {X : Type 0} (cell : TableId) (u : Knowledge X) (t : ℕ) (v m w : Knowledge X) → SeesHistory (with_ticket u t) v → m ≡ v → 0 < u.number
    → w ≡ after_closing m → (cell' : TableId) → cell' ≡ cell → EndsCell (seat_view cell u) (seat_view cell' w)
ends_now {X} cell u t v m w looks same here end cell' same_cell =
    let good : EndsCell (seat_view cell u) (seat_view cell' (after_closing v)) = (
      record {
        same = record { cell = same_cell; number = looks.number; origin = looks.origin };
        seen = looks.seen;
        made = looks.made;
        own = looks.own here;
        run = looks.run here;
      },
      refl,
      refl,
    ) in
    subst (λ (x : Knowledge X). EndsCell (seat_view cell u) (seat_view cell' x)) (sym (end ∙ ap after_closing same)) good
