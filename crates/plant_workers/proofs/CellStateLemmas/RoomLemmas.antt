-- Room in each history, and what waits after a slice change.
use Rattle.std.proofs.Common.{◌≡◌, ℕ, ◌+◌, ◌<◌, ◌≤◌, List, ◌++◌, length, map, get_or, append-nil, ap, ◌∙◌, arith}
use Rattle.plant_workers.proofs.CellStateLemmas.Common.{slice_set, AllWithin, length-set, AllWithin-more_set, ElementsFields, SliceRow, BookView, book_after_action, frames_of, waiting_in, waiting_acted}
use Rattle.operator_model.specs.declared.action.Action.TheVariants as actions
use Rattle.run_model.proofs.Moving.{silent}
use Rattle.plant_core.proofs.LiveLemmas.PlaceLemmas.{seen_at, set_alike}

-- a slice change outputs no frame
pub waits_still : (book new : BookView) (from : ℕ) (row : SliceRow) (place : ℕ) → place ≤ length book.history → new ≡ book_after_action book (actions.Reslice from row) → waiting_in new.history place ≡ waiting_in book.history place
waits_still book new from row place within is =
    ap (λ (b : BookView). waiting_in b.history place) is
    ∙ (waiting_acted book (actions.Reslice from row) place within
    ∙ (ap (λ outputs. waiting_in book.history place ++ frames_of outputs) (silent book.consts book.row book.state from row) ∙ append-nil (waiting_in book.history place)))

-- the histories of the operators before this place have room, and no book has changed
pub record HaveRoomSoFar {X : Type 0} (book : X → BookView) (waits : X → List (ℕ × ElementsFields)) (room : X → ℕ) (old now : List X) (op : ℕ) : Type 0 where
  pub one_each : length now ≡ length old
  pub room_is : AllWithin (λ x. 0 < room x) now 0 op
  pub books : map book now ≡ map book old
  pub waiting : map waits now ≡ map waits old

module _ {X : Type 0} (book : X → BookView) (waits : X → List (ℕ × ElementsFields)) (room : X → ℕ) (old now : List X) (n op : ℕ) (x y : X) (long : n ≡ length now) (within : op < n) (is : x ≡ get_or now op x)
    (same_book : book y ≡ book x) (same_waits : waits y ≡ waits x) (so_far : HaveRoomSoFar book waits room old now op) where
  pub books_alike : map book (slice_set now op y) ≡ map book old
  books_alike = set_alike book now op y (book x) (seen_at book now n op x long within is) same_book ∙ so_far.books

  pub waiting_alike : map waits (slice_set now op y) ≡ map waits old
  waiting_alike = set_alike waits now op y (waits x) (seen_at waits now n op x long within is) same_waits ∙ so_far.waiting

  pub one_more_room : 0 < room y → HaveRoomSoFar book waits room old (slice_set now op y) (op + 1)
  one_more_room some = record {
    one_each = length-set now op y ∙ so_far.one_each;
    room_is = AllWithin-more_set now op y (omega (arith, long, within)) (λ z. 0 < room z) so_far.room_is some;
    books = books_alike;
    waiting = waiting_alike;
  }
