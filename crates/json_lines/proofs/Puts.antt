-- What is put into members and lists that the program writes keeps them so.
use Rattle.std.proofs.Common.{◌≤◌, ◌++◌, ℕ, List, [], ◌∷◌, arith}
use Rattle.std.proofs.Math.Nat.{max-le}
use Rattle.std.specs.Ordering.{nat_cmp, match_ordering}
use Rattle.std.specs.declared.cmp.Ordering.{Ordering}
use Rattle.std.specs.declared.cmp.Ordering.TheVariants.{Less, Equal, Greater}
use Rattle.std.specs.Cmp.Lexicographic.{slice_cmp}
use Rattle.serde_json.specs.Data.{Data, null, boolean, number, string, array, object, unsigned, negative, float, Items, no_items, item, Members, no_members, member, put, depth, items_depth, members_depth}
use Rattle.serde_json.specs.View.{view, items_view}
use Rattle.serde_json.specs.declared.value.Value.{Value}
use Rattle.json_lines.specs.Writable.{IsText, AreTexts, IsWritable, AreWritable}

-- ---- one more

put_at : (o : Ordering) (k l : List ℕ) (d e : Data) (ms : Members) → IsWritable d → IsWritable e → AreWritable ms → AreWritable (put k d ms)
    → AreWritable (match_ordering o (member k d (member l e ms)) (member l d ms) (member l e (put k d ms)))
put_at Less k l d e ms new old others rest = (new, (old, others))
put_at Equal k l d e ms new old others rest = (new, others)
put_at Greater k l d e ms new old others rest = (old, rest)

-- members, with one more
pub writable_with : (k : List ℕ) (d : Data) (ms : Members) → IsWritable d → AreWritable ms → AreWritable (put k d ms)
writable_with k d no_members new others = (new, tt)
writable_with k d (member l e ms) new others =
    put_at (slice_cmp nat_cmp k l) k l d e ms new others.0 others.1 (writable_with k d ms new others.1)

-- texts, with one more
pub texts_with : (vs : List Value) (v : Value) → AreTexts (items_view vs) → IsText (view v) → AreTexts (items_view (vs ++ v ∷ []))
texts_with [] v others new = (new, tt)
texts_with (w ∷ vs) v others new = (others.0, texts_with vs v others.1 new)

-- ---- how deep they nest

text_depth : (d : Data) → IsText d → depth d ≤ 0
text_depth (string s) is = omega arith
text_depth null is = absurd is
text_depth (boolean b) is = absurd is
text_depth (number n) is = absurd is
text_depth (array ds) is = absurd is
text_depth (object ms) is = absurd is

texts_depth : (ds : Items) → AreTexts ds → items_depth ds ≤ 0
texts_depth no_items are = omega arith
texts_depth (item d ds) are = max-le (text_depth d are.0) (texts_depth ds are.1)

value_depth : (d : Data) → IsWritable d → depth d ≤ 1
value_depth (string s) is = omega arith
value_depth (number (unsigned n)) is = omega arith
value_depth (array ds) is = omega (arith, texts_depth ds is)
value_depth null is = absurd is
value_depth (boolean b) is = absurd is
value_depth (number (negative z)) is = absurd is
value_depth (number (float x)) is = absurd is
value_depth (object ms) is = absurd is

pub writable_depth : (ms : Members) → AreWritable ms → members_depth ms ≤ 1
writable_depth no_members are = omega arith
writable_depth (member k d ms) are = max-le (value_depth d are.0) (writable_depth ms are.1)
