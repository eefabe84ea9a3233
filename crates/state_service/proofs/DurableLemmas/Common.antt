-- The names that several proofs of this crate cite, passed on from one place. Declares nothing.
pub use Rattle.state_service.specs.durable.Durable.{AreLinesDone, LineIsDone, LinesAreDone, SaysState, saved_start, LeadsTo, IsLeading, IsOpeningState, IsBegunWith, joined_text, count_line}
pub use Rattle.line_journal.specs.Found.{texts}
pub use Rattle.line_journal.specs.Journal.{JournalContent, journal_content, with_lines, fresh}
pub use Rattle.line_service.specs.Service.{LineRun, answer_text, end_text, AreAnswered, all_done, all_told, service_text}
pub use Rattle.plant_core.specs.live.After.{IsAfterFrom, BehindEachRun, IsReachableFromStart}
pub use Rattle.plant_core.specs.live.LiveView.{live_view}
pub use Rattle.plant.specs.declared.plant.PlantFields.{PlantFields}
pub use Rattle.run_model.specs.IsStateAfter.{CoreView}
pub use Rattle.run_model.specs.Starts.{Start}
pub use Rattle.run_model.specs.declared.step.Out.{Out}
pub use Rattle.run_model.specs.declared.step.Step.{Step}
pub use Rattle.std.proofs.lemmas.Bool.Decides.{Decides-eqb, nat_tests}
pub use Rattle.std.proofs.lemmas.List.{length-map, nil_from_length, map-append, length-take-le, take_all}
pub use Rattle.std.specs.Cmp.Lexicographic.{pointwise}
pub use Rattle.std.specs.Prelude.{◌≢◌, slice_index_or}
pub use Rattle.std.specs.declared.alloc.Global.{Global}
