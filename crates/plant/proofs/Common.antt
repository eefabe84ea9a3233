-- The names that several proofs of this crate cite, passed on from one place. Declares nothing.
pub use Rattle.dsx_messages.specs.declared.modem.Modem.{Modem}
pub use Rattle.plant.specs.Plant.{all_modems}
pub use Rattle.plant.specs.Row.{same_modem, is_listed}
pub use Rattle.plant.specs.declared.operator_row.RowFields.{RowFields}
pub use Rattle.std.proofs.lemmas.Bool.{cases_Bool, false≢true}
pub use Rattle.std.proofs.lemmas.List.{get_or_append_left, get_or-append-add, take_at, drop-replicate, length-replicate}
pub use Rattle.std.proofs.lemmas.List.Folds.{list_any-append, Any-from_list_any}
pub use Rattle.std.specs.List.{position_from, list_all}
pub use Rattle.std.specs.Prelude.{slice_get, replicate}
