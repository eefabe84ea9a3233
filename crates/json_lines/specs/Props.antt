-- That members are writable is a fact: it has at most one proof.
use Rattle.std.proofs.Props.{props}
use Rattle.serde_json.specs.Data.{Data, null, boolean, number, string, array, object, unsigned, negative, float, Items, no_items, item, Members, no_members, member}
use Rattle.json_lines.specs.Writable.{IsText, AreTexts, IsWritable, AreWritable}

text_prop : (d : Data) → IsProp (IsText d)
text_prop (string s) = Prim.hlevel props
text_prop null = Prim.hlevel props
text_prop (boolean b) = Prim.hlevel props
text_prop (number n) = Prim.hlevel props
text_prop (array ds) = Prim.hlevel props
text_prop (object ms) = Prim.hlevel props

texts_prop : (ds : Items) → IsProp (AreTexts ds)
texts_prop no_items = Prim.hlevel props
texts_prop (item d ds) = Prim.hlevel (props, text_prop d, texts_prop ds)

value_prop : (d : Data) → IsProp (IsWritable d)
value_prop (string s) = Prim.hlevel props
value_prop (number (unsigned n)) = Prim.hlevel props
value_prop (array ds) = texts_prop ds
value_prop null = Prim.hlevel props
value_prop (boolean b) = Prim.hlevel props
value_prop (number (negative z)) = Prim.hlevel props
value_prop (number (float x)) = Prim.hlevel props
value_prop (object ms) = Prim.hlevel props

-- that members are writable has at most one proof
pub members_prop : (ms : Members) → IsProp (AreWritable ms)
members_prop no_members = Prim.hlevel props
members_prop (member k d ms) = Prim.hlevel (props, value_prop d, members_prop ms)
