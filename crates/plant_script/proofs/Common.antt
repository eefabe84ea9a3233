-- The names that several proofs of this crate cite, passed on from one place. Declares nothing.
pub use Rattle.clap.specs.Walk.{texts}
pub use Rattle.command_line.specs.CommandLine.{NamesOrder, AsksHelp, AreWrong, GivesOrder, GivesHelp, GivesWrong}
pub use Rattle.command_line.specs.Order.{Order, order_of, serve, batch_order}
pub use Rattle.command_line.specs.declared.asked.RunReport.TheVariants.{History, Trace}
pub use Rattle.command_line.specs.declared.asked.Word.{Word}
pub use Rattle.command_line.specs.declared.asked.WordsFault.{WordsFault}
pub use Rattle.line_service.proofs.LeftLemmas.{first_left, none_left, take_next, drop_next, count_next}
pub use Rattle.line_service.proofs.StepLemmas.{fault_is_told}
pub use Rattle.line_service.specs.Steps.{IsStepsEndAt, HasDone}
pub use Rattle.line_service.specs.declared.steps_end.StepsEnd.{StepsEnd}
pub use Rattle.plant_core.specs.live.Faults.{step_fault}
pub use Rattle.plant_core.specs.declared.live.core_fault.CoreFault.{CoreFault}
pub use Rattle.map_assembly.specs.declared.map_bytes.MapBytes.{MapBytes}
pub use Rattle.operator_book.specs.ViewOf.{view_of}
pub use Rattle.operator_model.specs.Machine.{own_run, stranger_of, unfit_of}
pub use Rattle.operator_model.specs.Replay.{BookView, operator_of_book}
pub use Rattle.operator_model.specs.State.{operator}
pub use Rattle.plant.specs.declared.operator_row.RowFields.{RowFields}
pub use Rattle.plant.specs.declared.plant.PlantFields.{PlantFields}
pub use Rattle.plant_core.specs.CoreView.{core_view}
pub use Rattle.plant_script.specs.Done.{IsRefused, AreCaptured, HasCaptured, IsStatusOf, AreDone, HasRun, book_text}
pub use Rattle.plant_script.specs.Ends.{status_of, line_of}
pub use Rattle.plant_script.specs.OnThreads.{IsThreadedRunOf, ReportsLine, ReportsPlace, ReportsSpent, ReportsCore, ReportsFault}
pub use Rattle.plant_script.specs.One.{sent_actions, outputs_of, text_of_outputs, is_readable}
pub use Rattle.plant_script.specs.Reaching.{RunsOut, AnswersRead, AnswersOrder, EndsOrder, ReachesOrder, Completes, AnswersWords, ReachesWords}
pub use Rattle.plant_script.specs.Run.{IsEndStatus, IsCapturedRunOf, memory_line, EndsBy, IsScriptRun, last_line}
pub use Rattle.plant_script.specs.Statuses.{status_code}
pub use Rattle.plant_script.specs.Task.{IsWritten, EndsRun, RunsTo, WritesOutcome, Comes, history_at, IsEnded, noted_script}
pub use Rattle.plant_script.specs.Traced.{EndsTraceBy, IsTracedRunOf, EndsTraced}
pub use Rattle.plant_script.specs.Words.{AnswersWith, AnswersFront, AnswersServe, AnswersSteps, AnswersOperator}
pub use Rattle.plant_script.specs.declared.answer.Answer.{Answer}
pub use Rattle.plant_script.specs.declared.input_outcome.InputOutcome.{InputOutcome}
pub use Rattle.plant_workers.specs.audit.Outcome.{ticks_of, IsOutcome}
pub use Rattle.plant_workers.specs.audit.Outs.{outs_from, outs_of}
pub use Rattle.run_model.specs.IsStateAfter.{CoreView, IsStateAfter}
pub use Rattle.run_model.specs.Starts.{first_start, Start}
pub use Rattle.run_model.specs.declared.step.Out.{Out}
pub use Rattle.run_model.specs.declared.step.Step.{Step}
pub use Rattle.plant_workers.specs.plan.Spending.{IsSpentAt, IsFirstSpent, is_reslice, before_reslice}
pub use Rattle.plant_workers.specs.receipts.OwnParts.{history_outputs}
pub use Rattle.line_service.proofs.ScriptLemmas.Outcomes.{if_ok}
pub use Rattle.line_service.specs.script.Script.{steps_without_numbers, is_named, steps_of}
pub use Rattle.line_service.specs.script.Text.{outs_text, actions_text, history_text, operator_name, map_line, out_line, output_line}
pub use Rattle.line_service.specs.declared.script.script.LineStep.{LineStep}
pub use Rattle.std.proofs.KnownBytes.{Appends-trans, Appends-kept}
pub use Rattle.std.proofs.lemmas.Bool.{cases_order, cases_Bool, le-leb, lt-leb}
pub use Rattle.std.proofs.lemmas.List.{map-append, take_more, length-map, take-append-le, take-append-drop, drop_more, length-append, nil_from_length}
pub use Rattle.std.proofs.lemmas.Option.{slice_get-get_or, slice_get_past, slice_get_within}
pub use Rattle.std.specs.Global.{Vec}
pub use Rattle.std.specs.Io.KnownBytes.{Appends, Consumes}
pub use Rattle.std.specs.List.{prefix_len, position_from, flat_map}
pub use Rattle.std.specs.Prelude.{slice_get, take, MatchResult, not, ◌≡◌, ℕ, List, ◌++◌, drop}
pub use Rattle.std.specs.Vec.Iter.{into_iter_items, into_iter_len}
