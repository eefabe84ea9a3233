-- What members an object has that the program writes: texts, numbers of 64 bits, and lists of texts (implementation-specific).
use Rattle.std.specs.Prelude.{◌<◌, ◌^◌, ⊤}
use Rattle.serde_json.specs.Data.{Data, string, number, unsigned, array, Items, no_items, item, Members, no_members, member}

-- a value of JSON is a text
abbrev pub IsText : Data → Type 0
IsText (string text) = ⊤
IsText _ = ⊥

-- each value of a list is a text
abbrev pub AreTexts : Items → Type 0
AreTexts no_items = ⊤
AreTexts (item value values) = IsText value × AreTexts values

-- a value that the program writes: a text, a number of 64 bits, or a list of texts
abbrev pub IsWritable : Data → Type 0
IsWritable (string text) = ⊤
IsWritable (number (unsigned n)) = n < 2 ^ 64
IsWritable (array values) = AreTexts values
IsWritable _ = ⊥

-- each member of an object has such a value
abbrev pub AreWritable : Members → Type 0
AreWritable no_members = ⊤
AreWritable (member key value members) = IsWritable value × AreWritable members
