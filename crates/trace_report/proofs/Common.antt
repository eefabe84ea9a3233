-- The names that several proofs of this crate cite, passed on from one place. Declares nothing.
pub use Rattle.line_service.proofs.LeftLemmas.{first_left, none_left, take_next, drop_next, count_next}
pub use Rattle.line_service.proofs.StepLemmas.{ends_at, on_err_of}
pub use Rattle.line_service.specs.Front.{HasNoBreak}
pub use Rattle.plant.specs.declared.plant.PlantFields.{PlantFields}
pub use Rattle.plant_core.specs.CoreView.{core_view}
pub use Rattle.run_model.specs.IsStateAfter.{CoreView, IsStateAfter}
pub use Rattle.run_model.specs.declared.step.Out.{Out}
pub use Rattle.run_model.specs.declared.step.Step.{Step}
pub use Rattle.line_service.specs.script.Script.{steps_without_numbers}
pub use Rattle.line_service.specs.declared.script.script.LineStep.{LineStep}
pub use Rattle.std.proofs.KnownBytes.{Appends-nil, Appends-trans}
pub use Rattle.std.proofs.lemmas.List.{take_all, map-append, nil_from_length}
pub use Rattle.std.proofs.lemmas.Option.{slice_get-map, slice_get_within}
pub use Rattle.std.specs.Fmt.{decimal}
pub use Rattle.std.specs.Io.KnownBytes.{Appends}
pub use Rattle.std.specs.List.{AllByRecursion, list_all}
pub use Rattle.std.specs.Prelude.{slice_get, slice_index, slice_index_or, nat_lt, filter, map}
pub use Rattle.std.specs.Vec.Iter.{into_iter_items, into_iter_len}
pub use Rattle.trace_report.specs.Decision.{AtHand, IsDecision, IsDecisionOf, first_message, message_of_step, message_at_hand}
pub use Rattle.trace_report.specs.Quotes.{line_at, IsRestAfter, quote, quote_after}
pub use Rattle.trace_report.specs.Remarks.{HasNoCheckLine, is_check_line, IsOtherLine, with_ends, check_lines, indented_line, AreWords, no_words_line}
pub use Rattle.trace_report.specs.Told.{HasQuoted, HasWorded, HasToldStep}
pub use Rattle.trace_report.specs.Trace.{check_line, IsDecisionText, IsTraceText, last_quoted, IsReportText, IsDecisionAfter, AreDecided, HasNoWords, HasTraced}
pub use Rattle.trace_report.specs.declared.decision.Decision.{Decision}
