-- The first passes of a cell, and passes that are taken in.
use Rattle.std.proofs.Common.{◌≡◌, ℕ, zero, suc, ◌-◌, ◌<◌, ◌≤◌, false, List, [], ◌∷◌, ◌++◌, map, length, All, Contains, Some, Option, option_map, sym, refl, ap, ◌∙◌, subst, arith, append_assoc}
use Rattle.plant_passes.proofs.Common.{cond_both, map-append, some, get_elem?, State, TableId, BookParts, origin_of, CellOpening, IsCellTable, Origin, MarkedEntry, Knowledge, StartsWith, Knows, joint, CellView, PassView, IsOfCell, first_passes, IsLongest, Gathers}
use Rattle.std.proofs.lemmas.List.Elements.{All-pop, All-weaker, All-nil, All-cons, Contains-append_left, Contains-append_right, Contains-push}
use Rattle.grant_policy.specs.declared.policy.Policy.{Policy}
use Rattle.plant_passes.proofs.Logs.{begins_self}
use Rattle.plant_passes.proofs.Moves.{ends}

abbrev head_of : {A : Type 0} → A → List A → A
head_of d [] = d
head_of d (x ∷ xs) = x

abbrev tail_of : {A : Type 0} → List A → List A
tail_of [] = []
tail_of (x ∷ xs) = xs

-- the first passes are of their cell
pub first_are_of : {A : Type 0} (c : CellView) (origin : Origin) (past : List MarkedEntry) (f : A → PassView) (xs : List A) (n : ℕ) → origin ≡ c.origin → map f xs ≡ first_passes c.cell origin past n → All (λ p. IsOfCell c (f p)) xs
first_are_of c origin past f [] n is e = All-nil (λ p. IsOfCell c (f p))
first_are_of c origin past f (x ∷ xs) zero is e = absurd (cc e)
first_are_of c origin past f (x ∷ xs) (suc n) is e =
    All-cons (λ p. IsOfCell c (f p)) x xs record { cell = ap (λ l. (head_of (f x) l).cell) e; origin = ap (λ l. (head_of (f x) l).origin) e ∙ is } (first_are_of c origin past f xs n is (ap tail_of e))

abbrev seens : List PassView → List (List MarkedEntry)
seens ps = map (λ (p : PassView). p.seen) ps

pub gathers_one : {X : Type 0} (p : PassView) (v : Knowledge X) → v.passes ≡ 1 → 0 < v.number → v.holds_book ≡ false → v.seen ≡ p.seen
    → Gathers (p ∷ []) v
gathers_one p v part number idle same = record {
  count = part;
  number = number;
  holds_book = idle;
  among = subst (Contains (p.seen ∷ [])) (sym same) (Contains-push [] p.seen);
  begins = λ h begun _. All-cons (λ (q : PassView). StartsWith h q.seen) p [] (subst (StartsWith h) same begun) (All-nil (λ (q : PassView). StartsWith h q.seen));
}

pub gathers_more : {X : Type 0} (p : PassView) (ps : List PassView) (v w : Knowledge X) → Gathers ps v → w.passes ≡ 1 → w.seen ≡ p.seen
    → Gathers (p ∷ ps) (joint v w)
gathers_more p ps v w g part same = record {
  count = let n = g.count in omega arith;
  number = g.number;
  holds_book = g.holds_book;
  among = cond_both _ w.seen v.seen (Contains (seens (p ∷ ps))) (λ _. subst (Contains (seens (p ∷ ps))) (sym same) (Contains-append_left (p.seen ∷ []) (seens ps) p.seen (Contains-push [] p.seen)))
      (λ _. Contains-append_right (p.seen ∷ []) (seens ps) v.seen g.among);
  begins = λ h _ told. All-cons (λ (q : PassView). StartsWith h q.seen) p ps (subst (StartsWith h) same told.1.0) (g.begins h told.0 told.1.1);
}

-- lists of passes, seen through a function

pub pop_all : {A : Type 0} (xs ys : List A) (x : A) (f : A → TableId) (id : TableId) → xs ≡ ys ++ x ∷ [] → All (λ p. f p ≡ id) xs → All (λ p. f p ≡ id) ys × (f x ≡ id)
pop_all {A} xs ys x f id e all = let h = All-pop (λ (p : A). f p ≡ id) xs ys (Some x) e all in (h.0, h.1)

-- passes of a cell, when the last was taken from them
pub popped_are_of : {A : Type 0} (xs ys : List A) (x : A) (f : A → PassView) (c : CellView) → xs ≡ ys ++ x ∷ [] → All (λ p. IsOfCell c (f p)) xs → ((f x).cell ≡ c.cell) × All (λ p. (f p).cell ≡ c.cell) ys
popped_are_of {A} xs ys x f c e all =
    let h = pop_all xs ys x (λ p. (f p).cell) c.cell e (All-weaker (λ (p : A). IsOfCell c (f p)) (λ (p : A). (f p).cell ≡ c.cell) (λ p h. h.cell) xs all) in (h.1, h.0)

pub map_popped : {A : Type 0} (xs ys : List A) (x : A) (f : A → PassView) (ps : List PassView) → xs ≡ ys ++ x ∷ [] → map f ys ++ f x ∷ ps ≡ map f xs ++ ps
map_popped xs ys x f ps e = sym (append_assoc (map f ys) (f x ∷ []) ps) ∙ ap (λ l. l ++ ps) (sym (ap (map f) e ∙ map-append f ys (x ∷ [])))

length_map : {A B : Type 0} (f : A → B) (xs : List A) → length (map f xs) ≡ length xs
length_map f [] = refl
length_map f (x ∷ xs) = ap suc (length_map f xs)

pub gathers_of : {A X : Type 0} (xs ys : List A) (f : A → PassView) (v : Knowledge X) → xs ≡ ys → Gathers (map f ys) v → Gathers (map f xs) v × (v.passes ≡ length xs)
gathers_of {A} xs ys f v e g = let h = subst (λ (l : List A). Gathers (map f l) v) (sym e) g in (h, h.count ∙ length_map f xs)

pub no_hands : {A : Type 0} (l : List A) → length l ≡ 0 → l ≡ []
no_hands [] e = refl
no_hands (x ∷ l) e = absurd (omega arith)

-- the book that lies in the slot, where every pass was joined to one seat
pub record IsWholeBook {X : Type 0} (policy : X → Policy) (cell : CellOpening X) (s : State (Option (BookParts X)) (Knowledge X)) (passes : List PassView) : Type 0 where
  pub book : BookParts X
  pub home : get_elem? s.homes 0 ≡ some (some (Some book))
  pub origin : origin_of book.kept.book ≡ cell.origin
  pub longest : IsLongest passes book.kept.book.history
  pub follows : policy book.ranking ≡ book.kept.book.row.policy

pub the_book : {A X : Type 0} (policy : X → Policy) (cell : CellOpening X) (s : State (Option (BookParts X)) (Knowledge X)) → IsCellTable cell s
    → (id : ℕ) (v : Knowledge X) → Knows s.views id v → length s.homes ≡ 1
    → (xs ys : List A) (f : A → PassView) → xs ≡ ys → Gathers (map f ys) v → option_map policy v.ranking ≡ Some v.origin.row.policy
    → cell.passes ≤ length xs → IsWholeBook policy cell s (map f xs)
the_book {A} {X} policy cell s rule id v at one xs ys f same gathers follows enough =
    let both = gathers_of xs ys f v same gathers in
    let g = both.0 in
    let count = both.1 in
    let e = ends X cell s rule id v g.number at one (omega arith) g.holds_book in
    let p : Some (policy e.book.ranking) ≡ Some v.origin.row.policy = ap (option_map policy) (sym e.ranking) ∙ follows in
    let q : policy e.book.ranking ≡ v.origin.row.policy = cc p in record {
      book = e.book;
      home = e.home;
      origin = e.origin;
      longest = record { longest = v.seen; among = g.among; begins = g.begins v.seen (begins_self v.seen) e.begins; entries_are = e.history_is };
      follows = q ∙ (ap (λ (o : Origin). o.row.policy) e.known_origin ∙ ap (λ (o : Origin). o.row.policy) (sym e.origin));
    }
