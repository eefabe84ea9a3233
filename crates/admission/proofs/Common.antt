-- The names that several proofs of this crate cite, passed on from one place. Declares nothing.
pub use Rattle.admission.specs.Ledger.{IsAscending, FitsU32, total_minislots, total_elements, HasRow, LedgerView}
pub use Rattle.admission.specs.Place.{StandsAt, IsGap}
pub use Rattle.admission.specs.Window.{IsWindow}
pub use Rattle.admission.specs.declared.budget.Budget.{Budget}
pub use Rattle.std.proofs.lemmas.Bool.{cases_Bool, cases_lt, cases_eq, both_ways, ltb-false, not-true, not-false, false≢true, eq-eqb, ne_eqb, or_right, lt-ltb, le-ltb, cases_order, iff_false}
pub use Rattle.std.proofs.lemmas.Cmp.{nat_cmp_total, ranked}
pub use Rattle.std.proofs.lemmas.List.{get_or-take, length-take-le, length-set, get_or-replicate, get_or-set_same, get_or-set_other, length-replicate}
pub use Rattle.std.proofs.lemmas.List.Elements.{All-nil, All-weaker, All-from_recursion, recursion_from_All}
pub use Rattle.std.proofs.lemmas.List.Sorted.{IsNonDecreasingBy-from_default, answers_always}
pub use Rattle.std.proofs.lemmas.List.Sums.{fails_before_first, sum_by-cons, sum_by-le}
pub use Rattle.std.proofs.lemmas.Map.Views.{All-values-insert_entry, All-map-remove_entry, All-keys-insert_entry}
pub use Rattle.std.specs.BTreeMap.{insert_entry, is_at}
pub use Rattle.std.specs.List.{Contains, position_or_len, insert, remove, AllByRecursion}
pub use Rattle.std.specs.Map.{lookup, remove_entry, values_of, keys_of}
pub use Rattle.std.specs.Ordering.{nat_cmp, ordering_index, is_eq, match_ordering}
