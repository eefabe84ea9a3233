-- The names that several proofs of this crate cite, passed on from one place. Declares nothing.
pub use Rattle.trace_report.specs.checks.Asking.{is_addition, is_deletion, names, subject_of, is_named_in, subjects_of, is_for, ok_of, set_given, gives_for, encoding_sets}
pub use Rattle.trace_report.specs.checks.Deciding.{test_of, is_empty, differs_from, is_alone, do_differ, has_no_identifier, is_taken, is_wrong_alone, is_err_of, gives_none, is_unknown, names_unknown, is_of_another, flow_waits, is_outside, provisioned_of, is_outside_one, one_exceeds, has_no_sid, is_over_next, is_over_budget, does_hold}
pub use Rattle.trace_report.proofs.TableLemmas.FlowLemmas.{same_modems, modem_itself}
pub use Rattle.trace_report.proofs.TableLemmas.ListLemmas.{find-first, first_one, contains-here, contains-later, contains_cases, any_from, contains-nothing, first_contains, none_any}
pub use Rattle.trace_report.specs.table.Holding.{CheckApplies, NamesUnknownClass, AreAdmittedAndActive, AcceptsSetType, GivesNoSet, IsUsedUp, would_commit, WouldCommit, IsOverBudget}
pub use Rattle.trace_report.specs.table.Said.{Said, said_by, identifier, NamesFlow, IsOfFlow, IsAbout, EncodingAsksFor, set_asked, Admits, Activates, IsSetWhere, IsToBeAdmitted, IsToBeActive, IsSetType}
pub use Rattle.trace_report.specs.declared.table.check.Check.{Check}
pub use Rattle.dsx_messages.specs.declared.kind.Kind.{Kind}
pub use Rattle.dsx_messages.specs.declared.modem.Modem.{Modem}
pub use Rattle.flow_table.specs.Table.{sfids_of, sids_of, sid_if}
pub use Rattle.flow_table.specs.declared.flow.Flow.{Flow}
pub use Rattle.lists.specs.First.{IsFirst}
pub use Rattle.operator_model.specs.Sound.{IsSound}
pub use Rattle.operator_model.specs.State.{Operator}
pub use Rattle.plant.specs.Row.{same_modem}
pub use Rattle.std.proofs.lemmas.Bool.{true≢false, false≢true, and_parts, and_from, not-true, not_from_false, lt-ltb, leb-true, le-leb, false_from_ne_true, true_from_ne_false, eqb-true, eq-eqb}
pub use Rattle.std.proofs.lemmas.List.{append-nil, map-append, take_all, take_more}
pub use Rattle.std.proofs.lemmas.List.Elements.{All-contains, All-from_recursion, filter_more}
pub use Rattle.std.specs.Bool.{Decides}
pub use Rattle.std.specs.List.{AllByRecursion, list_any}
pub use Rattle.std.specs.Prelude.{find, MatchOption, if◌then◌else◌, Contains, Any, IsSome, All}
