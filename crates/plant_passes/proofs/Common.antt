-- The names that several proofs of this crate cite, passed on from one place. Declares nothing.
pub use Rattle.atomic_table.proofs.Lists.{set_else, at_set, set_again, at_longer, at_last}
pub use Rattle.atomic_table.specs.Seated.{TableId}
pub use Rattle.atomic_table.specs.Table.{rest, State, Act, Valid, step, keeps, takes, gives, stepped, carried_after, opening, Allows, Splits, Joins}
pub use Rattle.dsx_messages.specs.declared.modem.Modem.{Modem}
pub use Rattle.operator_book.specs.ViewOf.{policy_of}
pub use Rattle.operator_model.specs.Machine.{own_step, stranger_of, unfit_of, is_spent}
pub use Rattle.operator_model.specs.Replay.{BookView, operator_of_book, book_after_action}
pub use Rattle.operator_model.specs.declared.action.Action.{Action}
pub use Rattle.operator_model.specs.declared.action.Entry.{Entry}
pub use Rattle.plant_passes.specs.Histories.{history_entry, mark_entry, entries, places, StartsWith, StartsWithAll, mark_entries, places_from, longer}
pub use Rattle.plant_passes.specs.Passes.{seat_view, ActsInTurn, EndsCell, PassView, LooksOn, RefusesBeforeTurn, RefusesTurn, RefusesArrival, state_seen, CellView, IsOfCell, first_passes, IsLongest, pass_view}
pub use Rattle.plant_passes.specs.Rule.{CellOpening, IsCellTable, opening_of, Progress, IsOpen, CountsTurns, HasTicket, HasTurn, IsTrueOf, IsTicketOut, AreTicketsOut, AreTicketsApart, IsHistorySeen, IsBookAtHome, IsBookOut}
pub use Rattle.plant_passes.specs.Runs.{origin_of, IsOwnRun, state_after}
pub use Rattle.plant_passes.specs.Seats.{SeatNow, closing_mark, knowledge, Knows, joint, passes_of, no_pass, opener, after_giving, new_pass, copy_of}
pub use Rattle.plant_passes.specs.Steps.{with_ticket, SeesHistory, HasBookInHand, with_entry, history_in_hand, after_closing, FindsServing, DrawsTicket, LooksAtServing, EndsTurn, ClosesCell}
pub use Rattle.plant_passes.specs.Turns.{IsCellAction, IsInTurn, HasBookWith, WaitsForTurn, Gathers, FollowsPolicy}
pub use Rattle.plant_passes.specs.declared.view.BookParts.{BookParts}
pub use Rattle.plant_passes.specs.declared.view.Knowledge.{Knowledge}
pub use Rattle.plant_passes.specs.declared.view.MarkedEntry.{MarkedEntry}
pub use Rattle.plant_passes.specs.declared.view.Origin.{Origin}
pub use Rattle.std.proofs.lemmas.Bool.{cond_both, ltb-true, ltb-false}
pub use Rattle.std.proofs.lemmas.List.{append_cancel_left, map-append}
pub use lib.ListN.{get_elem?}
pub use mathlib.Core.Option.{some, some-injective, some-ne-none, none}
