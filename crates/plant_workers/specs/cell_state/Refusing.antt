-- Why a book refuses an action, out of memory apart (implementation-specific).
use Rattle.std.specs.Prelude.{◌≡◌, Option, Some, None, option_map, if◌then◌else◌}
use Rattle.operator_model.specs.declared.action.Action.{Action}
use Rattle.operator_model.specs.declared.action.Action.TheVariants.{Arrive, Work, Tick, Reslice}
use Rattle.operator_model.specs.Machine.{stranger_of, is_spent, unfit_from}
use Rattle.operator_model.specs.Replay.{BookView, operator_of_book}
use Rattle.operator_book.specs.declared.book.BookFault.{BookFault}
use Rattle.operator_book.specs.declared.book.BookFault.TheVariants.{NotMine, FramesSpent, Unfit, NoMemory}

-- the modem is another operator's, the frame numbers are spent, or the slice does not fit
abbrev pub refusal_of : BookView → Action → Option BookFault
refusal_of book (Arrive modem heard) = option_map (λ stranger. NotMine stranger) (stranger_of book.row (Arrive modem heard))
refusal_of book Work = None
refusal_of book Tick = if is_spent book.state Tick then Some FramesSpent else None
refusal_of book (Reslice from row) = option_map (λ unfit. Unfit unfit) (unfit_from (operator_of_book book) from row)

-- The faults for which a book can refuse an action, whatever the book: the stranger is the modem of the arrival, only a tick
-- finds the frame numbers spent, only a slice change is unfit, and work is refused only where memory runs out.
abbrev pub IsActionFault : Action → BookFault → Type 0
IsActionFault action NoMemory = Unit {0}
IsActionFault (Arrive modem heard) (NotMine stranger) = stranger ≡ modem
IsActionFault Tick FramesSpent = Unit {0}
IsActionFault (Reslice from row) (Unfit why) = Unit {0}
IsActionFault action fault = ⊥
