-- What is under a key of a plant file (implementation-specific).
use Rattle.std.specs.Prelude.{codes, ℕ, Option, Some, None}
use Rattle.toml.specs.Data.{Data, Items, no_items, Members, get_member, at, as_array, as_table}
use Rattle.slice_table.specs.declared.plant_key.Field.{Field}
use Rattle.slice_table.specs.declared.plant_key.Field.TheVariants as field
use Rattle.slice_table.specs.declared.plant_key.Place.{Place}
use Rattle.slice_table.specs.declared.plant_key.Place.TheVariants as place
use Rattle.slice_table.specs.declared.plant_key.Key.{Key}
use Rattle.slice_table.specs.declared.plant_key.Key.TheVariants.{Classes, Operators, Table, Entry}
use Rattle.slice_table.specs.Tree.{at_field}

-- the table that is there
abbrev pub table_in : Option Data → Option Members
table_in None = None
table_in (Some d) = as_table d

-- the item of this number, counted from 0, of the array that is there
abbrev pub item_in : ℕ → Option Data → Option Data
item_in n None = None
item_in n (Some d) = at n d

-- all of them; none where no array is there
abbrev pub items_or_none : Option Items → Items
items_or_none None = no_items
items_or_none (Some ds) = ds

-- the items of the array that is there, if one is; else none
abbrev pub items_in : Option Data → Items
items_in None = no_items
items_in (Some d) = items_or_none (as_array d)

-- what is under a key of a table
abbrev pub field_in : Field → Option Members → Option Data
field_in f None = None
field_in f (Some ms) = at_field f ms

-- what is at a place
abbrev pub standing_at : Members → Place → Option Data
standing_at document place.Plant = get_member (codes "plant") document
standing_at document (place.Class class) = item_in class (get_member (codes "class") document)
standing_at document (place.Operator operator) = item_in operator (get_member (codes "operator") document)
standing_at document (place.Flow operator flow) =
    item_in flow (field_in field.Flow (table_in (item_in operator (get_member (codes "operator") document))))

-- what is under a key
abbrev pub value_of_key : Members → Key → Option Data
value_of_key document Classes = get_member (codes "class") document
value_of_key document Operators = get_member (codes "operator") document
value_of_key document (Table place) = standing_at document place
value_of_key document (Entry place f) = field_in f (table_in (standing_at document place))
