-- The names that several proofs of this crate cite, passed on from one place. Declares nothing.
pub use Rattle.line_service.specs.Bytes.{Takes, WhereKnown}
pub use Rattle.line_service.specs.Ends.{line_outcome, steps_end}
pub use Rattle.line_service.specs.Front.{HasNoBreak, IsReadSoFar, IsFrontText, ReadsOn}
pub use Rattle.line_service.specs.Lines.{IsPartRead, IsLineRead, lines_left, IsMoreRead}
pub use Rattle.line_service.specs.Service.{LineRun, steps_said, end_text, IsEndAt, IsNotDone, EndsAs, answer_text, IsAnswer, AreAnswered, service_text, all_done, all_told, IsServiceOf, ServiceIsShown}
pub use Rattle.line_service.specs.SoFar.{IsHeld, HasAnswered, LineIsAnswered, IsServedSoFar, IsHalfDone}
pub use Rattle.line_service.specs.Steps.{IsStepsEndAt, HasDone}
pub use Rattle.line_service.specs.declared.line_break.LineBreak.{LineBreak}
pub use Rattle.line_service.specs.declared.line_break.LineBreak.TheVariants.{Another, End}
pub use Rattle.line_service.specs.declared.line_outcome.LineOutcome.{LineOutcome}
pub use Rattle.line_service.specs.declared.steps_end.StepsEnd.{StepsEnd}
pub use Rattle.plant_core.specs.live.After.{IsAfterFrom, IsAfter, IsReachableFromStart}
pub use Rattle.plant_core.specs.live.Faults.{step_fault, IsReported}
pub use Rattle.plant_core.specs.live.LiveView.{live_view}
pub use Rattle.plant.specs.declared.plant.PlantFields.{PlantFields}
pub use Rattle.run_model.specs.IsStateAfter.{CoreView}
pub use Rattle.run_model.specs.Starts.{Start, first_start}
pub use Rattle.run_model.specs.declared.step.Out.{Out}
pub use Rattle.run_model.specs.declared.step.Step.{Step}
pub use Rattle.line_service.specs.script.Lines.{lines_of}
pub use Rattle.line_service.specs.script.Script.{steps_without_numbers}
pub use Rattle.line_service.specs.script.Text.{outs_text, out_line}
pub use Rattle.line_service.specs.declared.script.fields.FieldError.TheVariants.{TooLong}
pub use Rattle.line_service.specs.declared.script.script.LineStep.{LineStep}
pub use Rattle.std.proofs.KnownBytes.{Appends-nil, Appends-trans, Appends-kept}
pub use Rattle.std.proofs.lemmas.Bool.Decides.{nat_tests}
pub use Rattle.std.proofs.lemmas.Grind.{flat_map-append}
pub use Rattle.std.proofs.lemmas.List.{take_all, drop_all, drop-append-le, map-append, nil_from_length}
pub use Rattle.std.proofs.lemmas.Slice.Eq.{bytes_eq-Decides}
pub use Rattle.std.specs.Io.BufRead.{DropsConsumable, FillKeeps}
pub use Rattle.std.specs.Io.KnownBytes.{Appends, Keeps}
pub use Rattle.std.specs.Vec.Iter.{into_iter_items, into_iter_len}
