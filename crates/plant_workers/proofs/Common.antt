-- The names that several proofs of this crate cite, passed on from one place. Declares nothing.
pub use Rattle.plant_workers.specs.cell_state.HeldView.{cell_book}
pub use Rattle.plant_core.specs.declared.live.core_fault.CoreFault.{CoreFault}
pub use Rattle.operator_model.specs.Replay.{BookView}
pub use Rattle.plant.specs.declared.operator_row.RowFields.{RowFields}
pub use Rattle.plant_workers.specs.Faulting.{IsResliceTold, IsOfReslice}
pub use Rattle.plant_workers.specs.Refusing.{own_turn, lesser_turn, EndsLeast, IsLeastOf, IsLeastTurn, of_assembly}
pub use Rattle.plant_workers.specs.declared.thread_report.EarlyEnd.{EarlyEnd}
pub use Rattle.plant_workers.specs.declared.thread_report.ThreadReport.{ThreadReport}
pub use Rattle.plant_workers.proofs.AuditLemmas.Least.{next_place, map_there}
pub use Rattle.run_model.proofs.Entries.{same_at, some_at}
pub use Rattle.run_model.specs.IsStateAfter.{IsBookAfter}
pub use Rattle.std.proofs.lemmas.List.{length-map}
pub use Rattle.std.proofs.lemmas.Option.{none-some, same_Some, slice_get_within}
pub use Rattle.std.specs.Prelude.{slice_get}
