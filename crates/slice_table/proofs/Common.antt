-- The names that several proofs of this crate cite, passed on from one place. Declares nothing.
pub use Rattle.admission.specs.Free.{Numbers}
pub use Rattle.dsx_messages.specs.declared.modem.Modem.{Modem}
pub use Rattle.lists.specs.Results.{◌>>=◌, Fails, Gives}
pub use Rattle.plant.proofs.Addresses.{same_is_equal, or_false, listed_append, some_holder, modem_itself}
pub use Rattle.plant.specs.Classes.{is_class_named, StatesParameters, IsClass, AreClasses}
pub use Rattle.plant.specs.Consts.{AreConsts}
pub use Rattle.plant.specs.Plant.{all_modems, IsPlant, most_elements}
pub use Rattle.plant.specs.Provisioned.{sets_of_encoding}
pub use Rattle.plant.specs.Roster.{Places, place_of, holder, Finds, Lists, Adds}
pub use Rattle.plant.specs.Row.{is_listed, same_modem, DoesFit, count_of, IsFrom, IsRow, IsProvision}
pub use Rattle.plant.specs.declared.class_table.Class.{Class}
pub use Rattle.plant.specs.declared.consts.ConstsFields.{ConstsFields}
pub use Rattle.plant.specs.declared.operator_row.RowFields.{RowFields}
pub use Rattle.plant.specs.declared.plant.PlantFields.{PlantFields}
pub use Rattle.plant.specs.declared.provision.Provision.{Provision}
pub use Rattle.slice_scheduler.specs.Minislots.{Minislots}
pub use Rattle.slice_table.specs.Checks.{first_again, modem_twice_fault, unless, rows_fault}
pub use Rattle.slice_table.specs.Ranges.{range_of, default_of}
pub use Rattle.slice_table.specs.ReadConsts.{consts_of, class_read}
pub use Rattle.slice_table.specs.ReadRows.{rows_of, modem_read, provision_read, row_read}
pub use Rattle.slice_table.specs.Says.{SayInTurn, SaysUnits, SaysBackoffs, SaysTimers, SaysKeys, SaysClassName, SaysParameters, SaysClass, SaysClasses, SaysConsts, SaysNumber, SaysNumberIn, two, SaysBytes, IsAddress, SaysSlice, SaysRange, SaysPolicy, SaysPlant, SaysName, SaysModems, SaysProvision, SaysProvisions, SaysRow, SaysRows}
pub use Rattle.slice_table.specs.Tree.{items_len, expected_value, checked_value, text_at, bytes_at, table_of, PlantResult, each, required_value, plant_cause, at_field, number_of_key, modem_at, pair_at, array_at, number_at, pair_in}
pub use Rattle.slice_table.specs.declared.checks.Apart.{Apart}
pub use Rattle.slice_table.specs.declared.checks.Apart.TheVariants.{Slices, Sids, Sfids}
pub use Rattle.slice_table.specs.declared.plant_fault.PlantFault.{PlantFault}
pub use Rattle.slice_table.specs.declared.plant_fault.PlantFault.TheVariants.{NoMemory, ModemTwice, SlicesMeet, SidsMeet, SfidsMeet, TooManyElements, BudgetOverSlice, ProvisionedOver}
pub use Rattle.slice_table.specs.declared.plant_key.Field.{Field}
pub use Rattle.slice_table.specs.declared.plant_key.Key.{Key}
pub use Rattle.slice_table.specs.declared.plant_key.Key.TheVariants.{Classes, Entry, Operators, Table}
pub use Rattle.slice_table.specs.declared.plant_key.Place.{Place}
pub use Rattle.std.proofs.lemmas.Bool.{and_parts, not-true, cases_Bool, false≢true, false_from_ne_true}
pub use Rattle.std.proofs.lemmas.List.{drop_all, drop_more, take_more, length-take, get_or_append_left, get_or-append_right}
pub use Rattle.std.proofs.lemmas.List.Elements.{All-push}
pub use Rattle.std.proofs.lemmas.List.Folds.{list_any_none, list_any_at}
pub use Rattle.std.proofs.lemmas.List.Quantifiers.{all_pairs_push}
pub use Rattle.std.proofs.lemmas.Slice.Eq.{bytes_eq-Decides}
pub use Rattle.std.specs.Char.{is_ascii_alphanumeric}
pub use Rattle.std.specs.List.{list_all, list_any, position_from}
pub use Rattle.std.specs.Option.{option_or}
pub use Rattle.std.specs.Str.{bytes_eq}
pub use Rattle.tlv24.specs.Flow.{flow_of}
pub use Rattle.tlv24.specs.declared.fault.FlowFault.{FlowFault}
pub use Rattle.tlv24.specs.declared.fields.FlowFields.{FlowFields}
pub use Rattle.toml.specs.Data.{Data, Items, Members, as_array, no_items, item, get_member, array, table, string, integer, float, boolean, datetime, as_str, as_table}
pub use Rattle.toml.specs.View.{view, items_view, table_view}
pub use Rattle.toml.specs.declared.value.Value.{Value}
