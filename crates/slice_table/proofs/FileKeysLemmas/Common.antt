-- The names that several proofs of this crate cite, passed on from one place. Declares nothing.
pub use Rattle.dsx_messages.specs.declared.modem.Modem.{Modem}
pub use Rattle.hex.specs.Hex.{decode_sized, decode_of}
pub use Rattle.lists.specs.First.{IsFirst}
pub use Rattle.lists.specs.Results.{◌>>=◌}
pub use Rattle.plant.specs.declared.consts.ConstsFields.{ConstsFields}
pub use Rattle.plant.specs.declared.operator_row.RowFields.{RowFields}
pub use Rattle.slice_table.specs.file_keys.Faults.{IsMissing, IsWrong, IsAtFault, IsToldAs, IsOfTheFirstKey, IsOfAllKeys, HasNoFault}
pub use Rattle.slice_table.specs.file_keys.Held.{item_in, items_or_none, items_in, standing_at, value_of_key, table_in, field_in}
pub use Rattle.slice_table.specs.file_keys.Keys.{in_turn, class_keys, keys_of, keys_at, plant_fields, operator_keys, flow_keys, operator_fields}
pub use Rattle.slice_table.specs.file_keys.Stands.{IsValueOfKey, MustStand, IsNumber, IsNumberIn, IsRange, AllItems, OfPlant, number}
pub use Rattle.slice_table.proofs.Parsed.{ok_same, bind_ok, required_ok, checked_ok}
pub use Rattle.slice_table.proofs.SaidConsts.{class_name_is, encoding_is, consts_are}
pub use Rattle.slice_table.proofs.SaidKeys.{le_true, array_is, text_said, bytes_is, table_said, under, bind_both, required_said, checked_said, address_is, both_true, natural_is, table_is, array_said, range_is, slice_is, string_is, number_in_is}
pub use Rattle.slice_table.proofs.SaidRows.{rows_are, modems_are, sets_there, name_is, row_is}
pub use Rattle.slice_table.proofs.Values.{at_most}
pub use Rattle.slice_table.specs.Says.{SaysConsts, SaysRows, SaysModems, SaysSlice, two, IsAddress, SayInTurn, SaysNumberIn}
pub use Rattle.slice_table.specs.Tree.{each, items_len, expected_value, checked_value, at_field, text_at, bytes_at, table_of, PlantResult, required_value, number_at, number_of_key}
pub use Rattle.slice_table.specs.declared.plant_fault.PlantFault.{PlantFault}
pub use Rattle.slice_table.specs.declared.plant_fault.PlantFault.TheVariants.{BadValue, Missing}
pub use Rattle.slice_table.specs.declared.plant_key.Field.{Field}
pub use Rattle.slice_table.specs.declared.plant_key.Key.{Key}
pub use Rattle.slice_table.specs.declared.plant_key.Key.TheVariants.{Classes, Table, Entry, Operators}
pub use Rattle.slice_table.specs.declared.plant_key.Place.{Place}
pub use Rattle.std.proofs.lemmas.Bool.{true≢false, and_parts, false≢true}
pub use Rattle.std.proofs.lemmas.List.{get_or_append_left, get_or_push}
pub use Rattle.std.proofs.lemmas.List.Elements.{All-from_recursion, recursion_from_All, All-nil, All-cons}
pub use Rattle.std.specs.List.{list_any, AllByRecursion}
pub use Rattle.std.specs.Prelude.{map}
pub use Rattle.toml.specs.Data.{Data, string, array, table, Items, Members, get_member, get_item, as_array, as_str, no_items, item, integer, as_table}
pub use borrow.Author.Count.{below_more}
