-- The desks of a core, of which one acts, whatever a desk is.
use Rattle.std.proofs.Common.{◌≡◌, ℕ, ◌<◌, List, map, length, get_or, slice_set, Some, Result, OnOk, OnErr}
use Rattle.plant_core.proofs.LiveLemmas.Common.{slice_get, on_ok_weaker, on_err_weaker, ElementsFields, BookView}
use Rattle.plant_core.proofs.LiveLemmas.PlaceLemmas.{seen_at, set_alike, set_seen}

-- what a map sees of all desks, when one has acted or was left as it was
acted_one : {X Y A E : Type 0} (f : X → Y) (result : Result A E) (xs : List X) (n i : ℕ) (x new : X) (y : Y) → n ≡ length xs → i < n → x ≡ get_or xs i x
    → OnOk result (f new ≡ y) → OnErr result (f new ≡ f x)
    → OnOk result (map f (slice_set xs i new) ≡ slice_set (map f xs) i y) × OnErr result (map f (slice_set xs i new) ≡ map f xs)
acted_one f result xs n i x new y long lt is acts stays = (
  on_ok_weaker result (λ same. set_seen f xs i new y same) acts,
  on_err_weaker result (λ same. set_alike f xs i new (f x) (seen_at f xs n i x long lt is) same) stays,
)

-- both together: what two maps see of all desks, when one has acted or was left as it was
pub record ActsOne {X A E : Type 0} (f : X → BookView) (g : X → List (ℕ × ElementsFields)) (result : Result A E) (xs : List X) (i : ℕ) (x new : X) (book : BookView) (waiting : List (ℕ × ElementsFields)) : Type 0 where
  pub book_is : slice_get (map f xs) i ≡ Some (f x)
  pub waiting_is : slice_get (map g xs) i ≡ Some (g x)
  pub books : OnOk result (map f (slice_set xs i new) ≡ slice_set (map f xs) i book)
  pub queues : OnOk result (map g (slice_set xs i new) ≡ slice_set (map g xs) i waiting)
  pub same_books : OnErr result (map f (slice_set xs i new) ≡ map f xs)
  pub same_queues : OnErr result (map g (slice_set xs i new) ≡ map g xs)

pub acts_one : {X A E : Type 0} (f : X → BookView) (g : X → List (ℕ × ElementsFields)) (result : Result A E) (xs : List X) (n i : ℕ) (x new : X) (book : BookView) (waiting : List (ℕ × ElementsFields))
    → n ≡ length xs → i < n → x ≡ get_or xs i x
    → OnOk result (f new ≡ book) → OnErr result (f new ≡ f x) → OnOk result (g new ≡ waiting) → OnErr result (g new ≡ g x) → ActsOne f g result xs i x new book waiting
acts_one f g result xs n i x new book waiting long lt is acts stays puts waits =
    let books = acted_one f result xs n i x new book long lt is acts stays in
    let queues = acted_one g result xs n i x new waiting long lt is puts waits in
    record {
      book_is = seen_at f xs n i x long lt is;
      waiting_is = seen_at g xs n i x long lt is;
      books = books.0;
      queues = queues.0;
      same_books = books.1;
      same_queues = queues.1;
    }
