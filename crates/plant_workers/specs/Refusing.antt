-- Which refusal of the threads of a run is reported (implementation-specific).
use Rattle.std.specs.Prelude.{◌≡◌, ℕ, ◌<◌, ◌≤◌, nat_lt, Bool, List, length, is_some, Option, Some, None, slice_get, if◌then◌else◌}
use Rattle.std.specs.List.{list_any}
use Rattle.operator_book.specs.declared.book.BookFault.TheVariants as book_faults
use Rattle.map_assembly.specs.declared.refused.GatherFault.{GatherFault}
use Rattle.map_assembly.specs.declared.refused.GatherFault.TheVariants as gather_faults
use Rattle.plant_core.specs.declared.live.core_fault.CoreFault.TheVariants as core_faults
use Rattle.plant_workers.specs.declared.receipts.run_fault.RunFault.{RunFault}
use Rattle.plant_workers.specs.declared.receipts.run_fault.RunFault.TheVariants.{Strayed, Core, NoMemory}
use Rattle.plant_workers.specs.declared.cell_state.cell_fault.CellFault.{CellFault}
use Rattle.plant_workers.specs.declared.cell_state.cell_fault.CellFault.TheVariants.{Book, Passed, Stopped, Closed}
use Rattle.plant_workers.specs.cell_state.Telling.{IsOfTurn, IsOfTaking}
use Rattle.operator_model.specs.declared.action.Action.{Action}
use Rattle.plant_workers.specs.declared.thread_report.EarlyEnd.{EarlyEnd}
use Rattle.plant_workers.specs.declared.thread_report.EarlyEnd.TheVariants.{Turn, Assembly}

-- a thread ends on the turn of this operator at this place, for a fault of this action (implementation-specific)
abbrev pub IsOfAct : ℕ → ℕ → Action → EarlyEnd → Type 0
IsOfAct op index action (Turn other fault) = (other ≡ op) × IsOfTurn op index action fault
IsOfAct op index action (Assembly fault) = ⊥

-- a thread ends on a frame of this operator that cannot be taken, or that the assembly refuses (implementation-specific)
abbrev pub IsOfPut : ℕ → EarlyEnd → Type 0
IsOfPut op (Turn other fault) = (other ≡ op) × IsOfTaking op fault
IsOfPut op (Assembly fault) = Unit {0}

-- the turn on which a thread ended, if the operator refused it for itself, and was not stopped for another's sake
abbrev pub own_turn : Option EarlyEnd → Option (ℕ × CellFault)
own_turn None = None
own_turn (Some (Turn op (Book fault))) = Some (op, Book fault)
own_turn (Some (Turn op (Passed other index))) = Some (op, Passed other index)
own_turn (Some (Turn op (Stopped other))) = None
own_turn (Some (Turn op Closed)) = None
own_turn (Some (Assembly fault)) = None

-- the turn of the lesser operator, where there are two
abbrev pub lesser_turn : Option (ℕ × CellFault) → Option (ℕ × CellFault) → Option (ℕ × CellFault)
lesser_turn None b = b
lesser_turn (Some a) None = Some a
lesser_turn (Some a) (Some b) = if nat_lt b.0 a.0 then Some b else Some a

-- one of the first threads ended on this turn, and none on a turn of a lesser operator
pub record EndsLeast (refused : List (Option EarlyEnd)) (count : ℕ) (turn : ℕ × CellFault) : Type 0 where
  pub place : ℕ
  pub refusal : Option EarlyEnd
  pub refusal_is : slice_get refused place ≡ Some refusal
  pub turn_is : own_turn refusal ≡ Some turn
  pub least : (i : ℕ) (other : Option EarlyEnd) (turn' : ℕ × CellFault) → i < count → slice_get refused i ≡ Some other
      → own_turn other ≡ Some turn' → turn.0 ≤ turn'.0

-- of the first threads, the turn that the least operator refused for itself; none where none did
abbrev pub IsLeastOf : List (Option EarlyEnd) → ℕ → Option (ℕ × CellFault) → Type 0
IsLeastOf refused count None =
    (i : ℕ) (other : Option EarlyEnd) → i < count → slice_get refused i ≡ Some other → own_turn other ≡ None
IsLeastOf refused count (Some turn) = EndsLeast refused count turn

-- of the refused turns that of the least operator, which refused it for itself and was not stopped for another's sake; none where none did
abbrev pub IsLeastTurn : List (Option EarlyEnd) → Option (ℕ × CellFault) → Type 0
IsLeastTurn refused turn = IsLeastOf refused (length refused) turn

-- ---- what a run reports of it (implementation-specific)

-- The fault of a run of which this operator refused a turn for itself: the book's own fault, or a history that has passed the
-- turn's place. Out of memory is one fault of a run, whoever finds it. No run reports that a turn was stopped.
abbrev pub fault_of_turn : ℕ → CellFault → RunFault
fault_of_turn op (Book book_faults.NoMemory) = NoMemory
fault_of_turn op (Book fault) = Core (core_faults.Book fault)
fault_of_turn op (Passed other index) = Strayed op index
fault_of_turn op (Stopped other) = NoMemory
fault_of_turn op Closed = NoMemory

-- the fault of a run of which the assembly refused a frame
abbrev pub fault_of_assembly : GatherFault → RunFault
fault_of_assembly gather_faults.NoMemory = NoMemory
fault_of_assembly fault = Core (core_faults.Gather fault)

-- what the assembly refused, where a thread ended on that
abbrev pub of_assembly : Option EarlyEnd → Option GatherFault
of_assembly None = None
of_assembly (Some (Turn op fault)) = None
of_assembly (Some (Assembly fault)) = Some fault

-- the first of some threads that ended on a refusal of the assembly ended on this one
pub record EndsFirst (refused : List (Option EarlyEnd)) (fault : GatherFault) : Type 0 where
  pub place : ℕ
  pub refusal : Option EarlyEnd
  pub refusal_is : slice_get refused place ≡ Some refusal
  pub fault_is : of_assembly refusal ≡ Some fault
  pub first : (i : ℕ) (other : Option EarlyEnd) → i < place → slice_get refused i ≡ Some other → of_assembly other ≡ None

-- the first refusal of the assembly, thread by thread; none where no thread ended on one
abbrev pub IsFirstOfAssembly : List (Option EarlyEnd) → Option GatherFault → Type 0
IsFirstOfAssembly refused None =
    (i : ℕ) (other : Option EarlyEnd) → slice_get refused i ≡ Some other → of_assembly other ≡ None
IsFirstOfAssembly refused (Some fault) = EndsFirst refused fault

-- what is reported where no operator refused a turn for itself: what the assembly refused first; else, where a thread ended
-- early, it was stopped for a thread that could not be made
abbrev pub end_without_turn : Option GatherFault → Bool → Option RunFault
end_without_turn (Some fault) is_any = Some (fault_of_assembly fault)
end_without_turn None is_any = if is_any then Some NoMemory else None

-- this is reported where no operator refused a turn for itself
pub record IsEndWithoutTurn (refused : List (Option EarlyEnd)) (reported : Option RunFault) : Type 0 where
  pub assembly : Option GatherFault
  pub assembly_is : IsFirstOfAssembly refused assembly
  pub reported_is : reported ≡ end_without_turn assembly (list_any is_some refused)

-- this is reported after the turn that the least operator refused for itself, if one did
abbrev pub IsEndAfter : List (Option EarlyEnd) → Option (ℕ × CellFault) → Option RunFault → Type 0
IsEndAfter refused None reported = IsEndWithoutTurn refused reported
IsEndAfter refused (Some turn) reported = reported ≡ Some (fault_of_turn turn.0 turn.1)

-- this is reported of threads that ended so: the turn that the least operator refused for itself comes before what the
-- assembly refused
pub record IsEndOfRun (refused : List (Option EarlyEnd)) (reported : Option RunFault) : Type 0 where
  pub turn : Option (ℕ × CellFault)
  pub turn_is : IsLeastTurn refused turn
  pub after : IsEndAfter refused turn reported
