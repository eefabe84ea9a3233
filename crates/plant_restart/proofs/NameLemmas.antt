-- States that are found by their names.
use Rattle.std.proofs.Common.{◌≡◌, ℕ, zero, suc, ◌+◌, ◌<◌, ◌≤◌, List, [], ◌∷◌, length, map, drop, get_or, Option, Some, None, Bool, true, false, cond, refl, sym, ap, ◌∙◌}
use Rattle.plant_restart.proofs.Common.{slice_get, ◌≢◌, AllByRecursion, at_drop_more, at_drop_all, none-some, same_Some, OperatorState, PairsByRecursion, at_place, SavedOperator, state_of, state_under, saved_by_name}
use Rattle.std.specs.Str.{bytes_eq}
use Rattle.std.proofs.lemmas.Slice.Eq.{bytes_eq-Decides}

other_name : (a b : List ℕ) → a ≢ b → bytes_eq a b ≡ false
other_name a b ne = by (bytes_eq a b) refl
  where
    by : (c : Bool) → bytes_eq a b ≡ c → c ≡ false
    by true e = absurd (ne ((bytes_eq-Decides a b).0 e))
    by false e = refl

-- the first state has the name, or it has another one
pub found_first : (named : List ℕ × OperatorState) (states : List (List ℕ × OperatorState)) (name : List ℕ) → named.0 ≡ name → state_under (named ∷ states) name ≡ Some named.1
found_first named states name same = ap (λ (b : Bool). cond b (Some named.1) (state_under states name)) ((bytes_eq-Decides named.0 name).1 same)

pub passed_over : (named : List ℕ × OperatorState) (states : List (List ℕ × OperatorState)) (name : List ℕ) → named.0 ≢ name → state_under (named ∷ states) name ≡ state_under states name
passed_over named states name ne = ap (λ (b : Bool). cond b (Some named.1) (state_under states name)) (other_name named.0 name ne)

-- ---- among operators that are saved

module _ (frame : ℕ) (saved : List SavedOperator) (name : List ℕ) where
  abbrev pub under : List SavedOperator → Option OperatorState
  under ops = state_under (map (saved_by_name frame) ops) name

  pub saved_here : (i : ℕ) (one : SavedOperator) → i < length saved → one ≡ get_or saved i one → one.name ≡ name → under (drop i saved) ≡ Some (state_of frame one)
  saved_here i one lt is same =
      at_drop_more under saved i one lt
      ∙ (ap (λ (x : SavedOperator). under (x ∷ drop (i + 1) saved)) (sym is) ∙ found_first (saved_by_name frame one) (map (saved_by_name frame) (drop (i + 1) saved)) name same)

  pub saved_past : (i : ℕ) (one : SavedOperator) → i < length saved → one ≡ get_or saved i one → one.name ≢ name → under (drop i saved) ≡ under (drop (i + 1) saved)
  saved_past i one lt is ne =
      at_drop_more under saved i one lt
      ∙ (ap (λ (x : SavedOperator). under (x ∷ drop (i + 1) saved)) (sym is) ∙ passed_over (saved_by_name frame one) (map (saved_by_name frame) (drop (i + 1) saved)) name ne)

  pub saved_nowhere : (i : ℕ) → length saved ≤ i → under (drop i saved) ≡ None
  saved_nowhere i le = at_drop_all under saved i le

-- ---- among those of things of which each has a name of its own

module _ {X : Type 0} (see : X → List ℕ × OperatorState) where
  pub state_there : (xs : List X) (i : ℕ) (x : X) (name : List ℕ) → PairsByRecursion (λ a b. (see a).0 ≢ (see b).0) xs → slice_get xs i ≡ Some x → (see x).0 ≡ name → state_under (map see xs) name ≡ Some (see x).1
  state_there [] i x name own e same = let f : ◌≡◌ {A = Option X} None (Some x) = e in absurd (none-some x f)
  state_there (y ∷ ys) zero x name own e same =
      let is : y ≡ x = same_Some y x e in
      found_first (see y) (map see ys) name (ap (λ z. (see z).0) is ∙ same) ∙ ap (λ z. let o : Option OperatorState = Some (see z).1 in o) is
  state_there (y ∷ ys) (suc i) x name own e same =
      passed_over (see y) (map see ys) name (λ has. at_place (λ z. (see y).0 ≢ (see z).0) ys i x own.0 e (has ∙ sym same))
      ∙ state_there ys i x name own.1 e same

  pub no_state : (xs : List X) (name : List ℕ) → AllByRecursion (λ x. (see x).0 ≢ name) xs → state_under (map see xs) name ≡ None
  no_state [] name none = refl
  no_state (x ∷ xs) name none = passed_over (see x) (map see xs) name none.0 ∙ no_state xs name none.1
