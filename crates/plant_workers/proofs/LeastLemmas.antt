-- The least operator that refused a turn for itself, thread by thread.
use Rattle.std.specs.List.{list_any}
use Rattle.std.proofs.Common.{[], ◌∷◌, map, ◌||◌, ◌≡◌, ℕ, ◌+◌, ◌<◌, ◌≤◌, Bool, List, length, if◌then◌else◌, Option, Some, None, ◌⊎◌, inl, inr, refl, sym, ap, ◌∙◌, subst, arith}
use Rattle.plant_workers.proofs.Common.{slice_get, same_Some, same_at, EarlyEnd, own_turn, lesser_turn, EndsLeast, IsLeastOf, IsLeastTurn}
use Rattle.std.proofs.lemmas.Bool.{cases_eq, cases_lt, lt-ltb, le-ltb}
use Rattle.plant_workers.specs.declared.cell_state.cell_fault.CellFault.{CellFault}

abbrev Turned : Type 0
Turned = ℕ × CellFault

module _ (refused : List (Option EarlyEnd)) (at : ℕ) (r : Option EarlyEnd) (here : slice_get refused at ≡ Some r) where
  -- a fact of the threads before this one, and of this one
  pub next : (P : Option EarlyEnd → Type 0) → ((i : ℕ) (other : Option EarlyEnd) → i < at → slice_get refused i ≡ Some other → P other) → P r
      → (i : ℕ) (other : Option EarlyEnd) → i < at + 1 → slice_get refused i ≡ Some other → P other
  next P before this i other lt there = by (cases_eq i at)
    where
      by : (i ≡ at) ⊎ (i ≡ at → ⊥) → P other
      by (inl same) = subst P (same_at refused at r other here (ap (slice_get refused) (sym same) ∙ there)) this
      by (inr ne) = before i other (omega (arith, lt, ne)) there

  this_least : (turn : Turned) → own_turn r ≡ Some turn
      → ((i : ℕ) (other : Option EarlyEnd) → i < at → slice_get refused i ≡ Some other → (t : Turned) → own_turn other ≡ Some t → turn.0 ≤ t.0)
      → EndsLeast refused (at + 1) turn
  this_least turn e before = record {
    place = at;
    refusal = r;
    refusal_is = here;
    turn_is = e;
    least = λ i other t lt there is.
        next (λ (o : Option EarlyEnd). (u : Turned) → own_turn o ≡ Some u → turn.0 ≤ u.0) before
        (λ u f. let same : turn ≡ u = same_Some turn u (sym e ∙ f) in let first : turn.0 ≡ u.0 = ap (λ (x : Turned). x.0) same in omega (arith, first)) i other lt there t is;
  }

  earlier_least : (turn : Turned) → EndsLeast refused at turn → ((t : Turned) → own_turn r ≡ Some t → turn.0 ≤ t.0) → EndsLeast refused (at + 1) turn
  earlier_least turn so_far this = record {
    place = so_far.place;
    refusal = so_far.refusal;
    refusal_is = so_far.refusal_is;
    turn_is = so_far.turn_is;
    least = λ i other t lt there is.
        next (λ (o : Option EarlyEnd). (u : Turned) → own_turn o ≡ Some u → turn.0 ≤ u.0) (λ j o below at_j u f. so_far.least j o u below at_j f) this i other lt there t is;
  }

  pub least_more : (least : Option Turned) → IsLeastOf refused at least → IsLeastOf refused (at + 1) (lesser_turn least (own_turn r))
  least_more None so_far = by (own_turn r) refl
    where
      by : (o : Option Turned) → own_turn r ≡ o → IsLeastOf refused (at + 1) (lesser_turn None o)
      by None e = next (λ (o : Option EarlyEnd). own_turn o ≡ None) so_far e
      by (Some turn) e = this_least turn e (λ i other lt there t is. let none : own_turn other ≡ None = so_far i other lt there in cc)
  least_more (Some least) so_far = by (own_turn r) refl
    where
      by : (o : Option Turned) → own_turn r ≡ o → IsLeastOf refused (at + 1) (lesser_turn (Some least) o)
      by None e = earlier_least least so_far (λ t f. cc)
      by (Some turn) e = which (cases_lt turn.0 least.0)
        where
          which : (turn.0 < least.0) ⊎ (least.0 ≤ turn.0) → IsLeastOf refused (at + 1) (lesser_turn (Some least) (Some turn))
          which (inl lt) =
              subst (IsLeastOf refused (at + 1)) (sym (ap (λ (b : Bool). if b then Some turn else Some least) (lt-ltb turn.0 least.0 lt)))
              (this_least turn e (λ i other below there t is. let le : least.0 ≤ t.0 = so_far.least i other t below there is in omega (arith, lt, le)))
          which (inr le) =
              subst (IsLeastOf refused (at + 1)) (sym (ap (λ (b : Bool). if b then Some turn else Some least) (le-ltb turn.0 least.0 le)))
              (earlier_least least so_far (λ t f. let same : turn ≡ t = same_Some turn t (sym e ∙ f) in let first : turn.0 ≡ t.0 = ap (λ (x : Turned). x.0) same in omega (arith, first, le)))

pub least_end : (refused : List (Option EarlyEnd)) (n : ℕ) (least : Option Turned) → length refused ≡ n → IsLeastOf refused n least → IsLeastTurn refused least
least_end refused n least long so_far = subst (λ (k : ℕ). IsLeastOf refused k least) (sym long) so_far

-- one of the values at the items is so where it is so at one of the items
pub any_of_map : {A B : Type 0} (f : A → B) (p : B → Bool) (xs : List A) → list_any p (map f xs) ≡ list_any (λ x. p (f x)) xs
any_of_map f p [] = refl
any_of_map f p (x ∷ xs) = ap (λ (b : Bool). p (f x) || b) (any_of_map f p xs)
