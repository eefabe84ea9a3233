-- The first frame that was not put as it was due, over several operators.
use Rattle.std.proofs.Common.{◌≡◌, ℕ, zero, suc, ◌+◌, ◌<◌, ◌≤◌, List, [], ◌∷◌, length, map, take, get_or, Option, Some, None, ◌⊎◌, inl, inr, refl, sym, ap, ◌∙◌, subst, arith}
use Rattle.plant_workers.proofs.AuditLemmas.Common.{slice_get, MatchOption, cases_eq, slice_get_within, BookView, Step, AreNumbered, Numbered, same_at, Placing, puts_of, due_of, ArePut, IsPutStray, AllAreNumbered, IsMissed}
use Rattle.plant_workers.specs.receipts.Straying.{lesser}

-- each of the first operators put what was due
abbrev pub ArePutBelow : List Step → List BookView → List Placing → ℕ → Type 0
ArePutBelow steps books placings n = (i : ℕ) (book : BookView) → i < n → slice_get books i ≡ Some book → puts_of i placings ≡ due_of steps i book

-- of the first operators, this is the first frame that one of them did not put as it was due
pub record IsFirstBelow (first : ℕ) (steps : List Step) (books : List BookView) (placings : List Placing) (n frame : ℕ) : Type 0 where
  pub place : ℕ
  pub frame_is : frame ≡ first + place
  pub before : (i : ℕ) (book : BookView) → i < n → slice_get books i ≡ Some book → take place (puts_of i placings) ≡ take place (due_of steps i book)
  pub op : ℕ
  pub book : BookView
  pub book_is : slice_get books op ≡ Some book
  pub there : slice_get (puts_of op placings) place ≡ slice_get (due_of steps op book) place → ⊥

abbrev pub IsFirstOf : ℕ → List Step → List BookView → List Placing → ℕ → Option ℕ → Type 0
IsFirstOf first steps books placings n None = ArePutBelow steps books placings n
IsFirstOf first steps books placings n (Some frame) = IsFirstBelow first steps books placings n frame

take_take : {A : Type 0} (zs : List A) (k n : ℕ) → k ≤ n → take k (take n zs) ≡ take k zs
take_take zs zero n le = refl
take_take [] (suc k) zero le = absurd (omega (arith, le))
take_take [] (suc k) (suc n) le = refl
take_take (z ∷ zs) (suc k) zero le = absurd (omega (arith, le))
take_take {A} (z ∷ zs) (suc k) (suc n) le = ap (λ (ws : List A). z ∷ ws) (take_take zs k n (omega (arith, le)))

take_less : {A : Type 0} (xs ys : List A) (k n : ℕ) → k ≤ n → take n xs ≡ take n ys → take k xs ≡ take k ys
take_less {A} xs ys k n le e = sym (take_take xs k n le) ∙ (ap (λ (zs : List A). take k zs) e ∙ take_take ys k n le)

-- one place more
pub next_place : {B : Type 0} (books : List B) (n : ℕ) (book : B) → slice_get books n ≡ Some book → (P : ℕ → B → Type 0) → ((i : ℕ) (b : B) → i < n → slice_get books i ≡ Some b → P i b) → P n book
    → (i : ℕ) (b : B) → i < n + 1 → slice_get books i ≡ Some b → P i b
next_place books n book here P below at i b lt e = by (cases_eq i n)
  where
    by : (i ≡ n) ⊎ (i ≡ n → ⊥) → P i b
    by (inl same) = subst (λ (k : ℕ). P k b) (sym same) (subst (P n) (same_at books n book b here (ap (slice_get books) (sym same) ∙ e)) at)
    by (inr other) = below i b (omega (arith, lt, other)) e

module _ (first : ℕ) (steps : List Step) (books : List BookView) (placings : List Placing) (n : ℕ) (book : BookView) (here : slice_get books n ≡ Some book) where
  below_next : (P : ℕ → BookView → Type 0) → ((i : ℕ) (b : BookView) → i < n → slice_get books i ≡ Some b → P i b) → P n book → (i : ℕ) (b : BookView) → i < n + 1 → slice_get books i ≡ Some b → P i b
  below_next = next_place books n book here

  -- one operator more
  pub first_next : (least missed : Option ℕ) → IsFirstOf first steps books placings n least
      → MatchOption missed (puts_of n placings ≡ due_of steps n book) (IsMissed first (puts_of n placings) (due_of steps n book))
      → IsFirstOf first steps books placings (n + 1) (lesser least missed)
  first_next None None below at = below_next (λ i b. puts_of i placings ≡ due_of steps i b) below at
  first_next None (Some frame) below at = record {
    place = at.place;
    frame_is = at.frame_is;
    before = below_next (λ i b. take at.place (puts_of i placings) ≡ take at.place (due_of steps i b)) (λ i b lt e. ap (λ (fs : List Numbered). take at.place fs) (below i b lt e)) at.differ.before;
    op = n;
    book = book;
    book_is = here;
    there = at.differ.there;
  }
  first_next (Some least) None below at = record {
    place = below.place;
    frame_is = below.frame_is;
    before = below_next (λ i b. take below.place (puts_of i placings) ≡ take below.place (due_of steps i b)) below.before (ap (λ (fs : List Numbered). take below.place fs) at);
    op = below.op;
    book = below.book;
    book_is = below.book_is;
    there = below.there;
  }
  first_next (Some least) (Some frame) below at = by (order below.place at.place)
    where
      order : (a b : ℕ) → (a ≤ b) ⊎ (b ≤ a)
      order zero b = inl (omega arith)
      order (suc a) zero = inr (omega arith)
      order (suc a) (suc b) = next (order a b)
        where
          next : (a ≤ b) ⊎ (b ≤ a) → (suc a ≤ suc b) ⊎ (suc b ≤ suc a)
          next (inl le) = inl (omega (arith, le))
          next (inr le) = inr (omega (arith, le))

      by : (below.place ≤ at.place) ⊎ (at.place ≤ below.place) → IsFirstOf first steps books placings (n + 1) (lesser (Some least) (Some frame))
      by (inl le) = record {
        place = below.place;
        frame_is = omega (arith, le, below.frame_is, at.frame_is);
        before = below_next (λ i b. take below.place (puts_of i placings) ≡ take below.place (due_of steps i b)) below.before
            (take_less (puts_of n placings) (due_of steps n book) below.place at.place le at.differ.before);
        op = below.op;
        book = below.book;
        book_is = below.book_is;
        there = below.there;
      }
      by (inr le) = record {
        place = at.place;
        frame_is = omega (arith, le, below.frame_is, at.frame_is);
        before = below_next (λ i b. take at.place (puts_of i placings) ≡ take at.place (due_of steps i b))
            (λ i b lt e. take_less (puts_of i placings) (due_of steps i b) at.place below.place le (below.before i b lt e)) at.differ.before;
        op = n;
        book = book;
        book_is = here;
        there = at.differ.there;
      }

  pub first_more : (due : List Numbered) → due ≡ due_of steps n book → (least missed after : Option ℕ) → after ≡ lesser least missed → AllAreNumbered first steps books placings
      → (AreNumbered first (puts_of n placings) → AreNumbered first due → MatchOption missed (puts_of n placings ≡ due) (IsMissed first (puts_of n placings) due))
      → IsFirstOf first steps books placings n least → IsFirstOf first steps books placings (n + 1) after
  first_more due is least missed after e numbered found below =
      subst (IsFirstOf first steps books placings (n + 1)) (sym e)
      (first_next least missed below
      (subst (λ (ds : List Numbered). MatchOption missed (puts_of n placings ≡ ds) (IsMissed first (puts_of n placings) ds)) is
      (found (numbered n book here).0 (subst (AreNumbered first) (sym is) (numbered n book here).1))))

-- of all operators
pub first_of_all : (first : ℕ) (steps : List Step) (books : List BookView) (placings : List Placing) (n : ℕ) (least : Option ℕ) → length books ≤ n → IsFirstOf first steps books placings n least
    → MatchOption least (ArePut steps books placings) (IsPutStray first steps books placings)
first_of_all first steps books placings n None le below = λ i book e. below i book (omega (arith, le, slice_get_within books i book e)) e
first_of_all first steps books placings n (Some frame) le below = record {
  place = below.place;
  frame_is = below.frame_is;
  before = λ i book e. below.before i book (omega (arith, le, slice_get_within books i book e)) e;
  op = below.op;
  book = below.book;
  book_is = below.book_is;
  there = below.there;
}

pub map_there : {X Y : Type 0} (f : X → Y) (xs : List X) (i : ℕ) (x : X) → i < length xs → x ≡ get_or xs i x → slice_get (map f xs) i ≡ Some (f x)
map_there f [] i x lt e = absurd (omega (arith, lt))
map_there {X} {Y} f (z ∷ xs) zero x lt e = ap (λ (w : X). let o : Option Y = Some (f w) in o) (sym e)
map_there f (z ∷ xs) (suc i) x lt e = map_there f xs i x (omega (arith, lt)) e
