-- The names that several proofs of this crate cite, passed on from one place. Declares nothing.
pub use Rattle.admission.proofs.FreeLemmas.{first_free_past, first_free_unused, first_free_zero, least_free_iff, least_free_cases, least_free_found}
pub use Rattle.admission.specs.Free.{Numbers, least_free_of, IsLeastFree}
pub use Rattle.admission.specs.Ledger.{LedgerView, total_minislots, total_elements}
pub use Rattle.flow_table.specs.Flow.{activity_of, committed_of, flow_after_ack, taken_back, with_pending, without_pending}
pub use Rattle.flow_table.specs.Gap.{gap_from}
pub use Rattle.flow_table.specs.Index.{flow_in, flows_by, flows_of, active_by, is_active, place_at, with_activity, ArePlaced, IsFlowRows, IsChangedAt, IsIndex, IsFlowTable, sfid_at, with_sid_of, without_sid_of, budgets_of}
pub use Rattle.flow_table.specs.Moved.{change_at, told_of, change_if, asker_of, scheduled_if}
pub use Rattle.flow_table.specs.Table.{flow_at, with_flow, HaveOwnSids, flow_with, sid_if, is_sid, sids_of, committed_minislots, committed_elements, FlowTable, HasRoomFor, flowing_in, flowing_of_set, sfids_of}
pub use Rattle.flow_table.specs.declared.flow.Activity.{Activity}
pub use Rattle.flow_table.specs.declared.flow.Activity.TheVariants.{Idle, Active}
pub use Rattle.flow_table.specs.declared.flow.Flow.{Flow}
pub use Rattle.flow_table.specs.declared.rows.Moved.{Moved}
pub use Rattle.param_sets.specs.Units.{UnitSizes}
pub use Rattle.std.proofs.lemmas.Bool.{lt-ltb, le-ltb, eq-eqb, ne_eqb, cases_order, cases_lt, cases_eq, le-leb, lt-leb}
pub use Rattle.std.proofs.lemmas.Cmp.{ranked, nat_cmp_total, eq_by_cmp_equiv}
pub use Rattle.std.proofs.lemmas.List.{length-map}
pub use Rattle.std.proofs.lemmas.List.Elements.{All-from_recursion, recursion_from_All, Contains-append_right}
pub use Rattle.std.proofs.lemmas.Map.Keys.{IsDistinct-from_sorted, sorted_tail, sorted_head}
pub use Rattle.std.proofs.lemmas.Option.{none-some, same_Some, IfSome_then}
pub use Rattle.std.specs.BTreeMap.{insert_entry, is_at}
pub use Rattle.std.specs.List.{AllByRecursion, All, Contains, cons_option}
pub use Rattle.std.specs.List.Sorted.{IsStrictlySortedBy}
pub use Rattle.std.specs.Map.{remove_entry, keys_of, lookup, set_value}
pub use Rattle.std.specs.Ordering.{nat_cmp, is_eq, match_ordering, is_lt, is_gt}
pub use Rattle.std.specs.declared.cmp.Ordering.{Ordering}
pub use Rattle.std.specs.declared.cmp.Ordering.TheVariants.{Less, Equal, Greater}
