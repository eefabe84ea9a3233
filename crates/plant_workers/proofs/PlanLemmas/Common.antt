-- The names that several proofs of this crate cite, passed on from one place. Declares nothing.
pub use Rattle.plant_core.specs.declared.live.core_fault.CoreFault.{CoreFault}
pub use Rattle.operator_model.specs.declared.action.Action.TheVariants.{Tick}
pub use Rattle.plant.specs.declared.operator_row.RowFields.{RowFields}
pub use Rattle.plant.specs.declared.plant.PlantFields.{PlantFields}
pub use Rattle.plant_workers.proofs.AuditLemmas.Whose.{others_none, arrive_none}
pub use Rattle.plant_workers.specs.audit.Outcome.{is_tick_of, ticks_of}
pub use Rattle.run_model.proofs.Entries.{same_at, get_same, get_other, some_at}
pub use Rattle.run_model.specs.OwnSteps.{action_of, own_steps, is_collect, collects_of, resliced_by}
pub use Rattle.run_model.specs.declared.step.Step.{Step}
pub use Rattle.plant_workers.specs.plan.Courses.{IsCourse, IsOwnTurn, IsNewCourse, AreNewCourses, AreCourses}
pub use Rattle.plant_workers.specs.plan.Serving.{unserved_by, AreServed, IsServable, IsFirstUnserved, AreWaiting, past, all_collected}
pub use Rattle.plant_workers.specs.plan.Spending.{IsSpentAt, IsOwnSpent, NoneSpentBefore, IsFirstSpent, is_reslice}
pub use Rattle.plant_workers.specs.plan.Turns.{IsTickAt, IsDueAt, IsTurn}
pub use Rattle.plant_workers.specs.declared.plan.turns.Course.{Course}
pub use Rattle.std.proofs.lemmas.Bool.{cases_eq, false≢true, eq-eqb, eqb-true, ne_eqb, lt-ltb, le-ltb}
pub use Rattle.std.proofs.lemmas.List.{length-append, length-take-le, take-append-le, length-set, get_or-set_other, take-replicate, length-replicate, get_or-replicate, take_all, take_at}
pub use Rattle.std.proofs.lemmas.List.Sums.{count_by_more_yes, count_by_more_no, sum_by-append, count_by-le-length, prefix_len_is}
pub use Rattle.std.proofs.lemmas.Option.{slice_get_within, slice_get_read, get_or_from_slice_get, same_Some, none-some, slice_get_past}
pub use Rattle.std.specs.Prelude.{slice_get, filter_map, IfSome, IfNone, min, MatchOption, slice_set, slice_index, if◌then◌else◌, not, unwrap_or, Option, List}
