-- What a call of a cell answers, of what its steps answered.
use Rattle.std.proofs.Common.{◌≡◌, ◌≢◌, inl, inr, true, [], ◌∷◌, ◌++◌, length, Result, Ok, Err, IfErr, IsErrAnd, sym, subst, ap, ◌∙◌, append_assoc, arith}
use Rattle.std.proofs.lemmas.Bool.Decides.{nat_tests}
use Rattle.plant_passes.proofs.Common.{Modem, Action, is_spent, history_entry, mark_entry, PassView, ActsInTurn, LooksOn, EndsCell, RefusesBeforeTurn, RefusesTurn, RefusesArrival, state_seen}
use Rattle.operator_model.specs.declared.action.Action.TheVariants.{Arrive, Work, Tick, Reslice}
use Rattle.operator_model.specs.declared.action.Unfit as misfits
use Rattle.operator_model.specs.State.{OperatorState}
use Rattle.operator_book.specs.declared.book.BookFault.{BookFault}
use Rattle.operator_book.specs.declared.book.BookFault.TheVariants.{NotMine, FramesSpent, Unfit, NoMemory}
use Rattle.plant_workers.specs.declared.receipts.receipt.Receipt.{Receipt}
use Rattle.plant_workers.specs.declared.cell_state.cell_fault.CellFault.{CellFault}
use Rattle.plant_workers.specs.declared.cell_state.cell_fault.CellFault.TheVariants.{Book, Passed, Stopped, Closed}
use Rattle.plant_passes.proofs.Again.{begins_again}

-- an action after a look, told by a copy of it
pub acts_later : (p q s : PassView) (action told : Action) (r : Receipt) → LooksOn p q → q.ended_cell ≡ p.ended_cell → told ≡ action
    → ActsInTurn q action r s → ActsInTurn p action record { index = r.index; action = told; outputs = r.outputs } s
acts_later p q s action told r look same is acts =
    let all : q.seen ++ acts.between ≡ p.seen ++ (look.seen.0 ++ acts.between) =
    ap (λ l. l ++ acts.between) look.seen.1 ∙ append_assoc p.seen look.seen.0 acts.between in record {
      same = record {
        cell = acts.same.cell ∙ look.same.cell;
        number = acts.same.number ∙ look.same.number;
        origin = acts.same.origin ∙ look.same.origin;
      };
      action_is = is;
      between = look.seen.0 ++ acts.between;
      seen = acts.seen ∙ (λ i. all i ++ mark_entry (look.same.number i) (history_entry action r.outputs) ∷ []);
      index_is = acts.index_is ∙ ap length all;
      made = acts.made ∙ ap (λ l. l ++ r.index ∷ []) look.made;
      own = acts.own;
      run = acts.run;
      going = acts.going;
      ended_cell = acts.ended_cell ∙ same;
    }

-- one look after another
looks_later : (p q s : PassView) → LooksOn p q → LooksOn q s → LooksOn p s
looks_later p q s a b = record {
  same = record { cell = b.same.cell ∙ a.same.cell; number = b.same.number ∙ a.same.number; origin = b.same.origin ∙ a.same.origin };
  seen = begins_again p.seen q.seen s.seen a.seen b.seen;
  made = b.made ∙ a.made;
  own = b.own;
  run = b.run;
}

-- an arrival that is refused in its turn, after a look
pub refused_later : (p q s : PassView) (fault : CellFault) → LooksOn p q → q.ended_cell ≡ p.ended_cell → RefusesTurn q fault s
    → RefusesArrival p fault s
refused_later p q s (Book (NotMine modem)) look same h = absurd h
refused_later p q s (Book FramesSpent) look same h = ((looks_later p q s look h.0.0, h.0.1, h.0.2), h.1)
refused_later p q s (Book (Unfit why)) look same h = absurd h
refused_later p q s (Book NoMemory) look same h = inl (looks_later p q s look h.0, h.1, h.2)
refused_later p q s (Passed op index) look same h = absurd h
refused_later p q s (Stopped op) look same h = absurd h
refused_later p q s Closed look same h = (looks_later p q s look h.0, h.1, h.2 ∙ same)

-- an arrival that is refused before its turn
pub refused_early : (p q : PassView) (fault : CellFault) → LooksOn p q → q.ended_cell ≡ p.ended_cell → RefusesBeforeTurn q fault
    → RefusesArrival p fault q
refused_early p q (Book (NotMine modem)) look same h = absurd h
refused_early p q (Book FramesSpent) look same h = absurd h
refused_early p q (Book (Unfit why)) look same h = absurd h
refused_early p q (Book NoMemory) look same h = inr (look, h, same)
refused_early p q (Passed op index) look same h = absurd h
refused_early p q (Stopped op) look same h = absurd h
refused_early p q Closed look same h = (look, h, same)

-- what a refused call passes on
pub refused_now : {B : Type 0} (R : CellFault → Type 0) (fault : CellFault) (out : Result B CellFault) → IsErrAnd out (λ f. f ≡ fault) → R fault → IfErr out R
refused_now R fault (Ok b) out h = tt
refused_now R fault (Err e) out h = subst R (sym out) h

spent_frame : (s : OperatorState) (action : Action) → is_spent s action ≡ true → s.frame ≡ 4294967295
spent_frame s (Arrive modem heard) h = absurd (cc h)
spent_frame s Work h = absurd (cc h)
spent_frame s Tick h = grind (arith, nat_tests)
spent_frame s (Reslice from row) h = absurd (cc h)

-- a refusal of the book in its turn, which closes the cell
pub refuses_turn : {A : Type 0} (p q : PassView) (action : Action) (r : Result A BookFault) (fault : BookFault) → r ≡ Err fault → EndsCell p q
    → ((modem : Modem) → r ≢ Err (NotMine modem)) → ((why : misfits.Unfit) → r ≢ Err (Unfit why))
    → (r ≡ Err FramesSpent → is_spent (state_seen q) action ≡ true) → RefusesTurn p (Book fault) q
refuses_turn p q action r (NotMine modem) is ended mine fits spent = absurd (mine modem is)
refuses_turn p q action r FramesSpent is ended mine fits spent = (ended, spent_frame (state_seen q) action (spent is))
refuses_turn p q action r (Unfit why) is ended mine fits spent = absurd (fits why is)
refuses_turn p q action r NoMemory is ended mine fits spent = ended
