-- The classes that are read are those of a plant.
use Rattle.std.proofs.Common.{◌≡◌, ◌≢◌, ℕ, ◌≤◌, nat_le, ◌&&◌, true, false, not, List, [], ◌∷◌, ◌++◌, length, get_or, All, AllPairs, Option, Some, None, Result, Ok, Err, is_none, subst, arith}
use Rattle.slice_table.proofs.Common.{is_ascii_alphanumeric, list_all, list_any, and_parts, not-true, All-push, all_pairs_push, Data, Items, Members, as_array, flow_of, FlowFields, FlowFault, Class, Key, Classes, Entry, Place, is_class_named, StatesParameters, IsClass, AreClasses, items_len, expected_value, checked_value, text_at, bytes_at, table_of}
use Rattle.slice_table.specs.declared.plant_key.Place.TheVariants as place
use Rattle.slice_table.specs.declared.plant_key.Field.TheVariants as field
use Rattle.slice_table.specs.ReadConsts.{is_class_name, class_name_at, states_parameters, parameters_in, class_encoding_at, class_read, classes_in, classes_if}
use Rattle.slice_table.proofs.Parsed.{bind_ok, checked_ok, each_keeps, each_len}
use Rattle.slice_table.proofs.Values.{none_passes, told_apart, is_none_none}

-- a name that is read: its letters, and that no earlier class has it
name_read : (classes : List Class) (place : Place) (ms : Members) (name : List ℕ) → class_name_at classes place ms ≡ Ok name
    → (is_class_name name ≡ true) × (list_any (is_class_named name) classes ≡ false)
unfolding class_name_at
name_read classes place ms name h =
    let text = bind_ok (text_at place field.Name ms) (λ t. checked_value (Entry place field.Name) (is_class_name t && not (list_any (is_class_named t) classes)) t) name h in
    let test = checked_ok (Entry place field.Name) (is_class_name text.0 && not (list_any (is_class_named text.0) classes)) text.0 name text.2 in
    let parts = and_parts (is_class_name text.0) (not (list_any (is_class_named text.0) classes)) test.0 in (
      subst (λ (n : List ℕ). is_class_name n ≡ true) test.1 parts.0,
      subst (λ (n : List ℕ). list_any (is_class_named n) classes ≡ false) test.1 (not-true (list_any (is_class_named text.0) classes) parts.1),
    )

class_name_letters : (name : List ℕ) → is_class_name name ≡ true → list_all is_ascii_alphanumeric name ≡ true
unfolding is_class_name
class_name_letters name h = (and_parts (nat_le 1 (length name) && nat_le (length name) 15) (list_all is_ascii_alphanumeric name) h).1

pub parameters : (flow : FlowFields) → states_parameters flow ≡ true → StatesParameters flow
unfolding states_parameters
parameters flow h =
    let all = and_parts ((is_none flow.reference && is_none flow.sfid) && (is_none flow.sid && is_none flow.class_name)) (is_none flow.errored && is_none flow.set_type) h in
    let four = and_parts (is_none flow.reference && is_none flow.sfid) (is_none flow.sid && is_none flow.class_name) all.0 in
    let one = and_parts (is_none flow.reference) (is_none flow.sfid) four.0 in
    let two = and_parts (is_none flow.sid) (is_none flow.class_name) four.1 in
    let three = and_parts (is_none flow.errored) (is_none flow.set_type) all.1 in
    record {
      reference = is_none_none flow.reference one.0;
      sfid = is_none_none flow.sfid one.1;
      sid = is_none_none flow.sid two.0;
      class_name = is_none_none flow.class_name two.1;
      errored = is_none_none flow.errored three.0;
      set_type = is_none_none flow.set_type three.1;
    }

parameters_read : (key : Key) (read : Result FlowFields FlowFault) (flow : FlowFields) → parameters_in key read ≡ Ok flow → states_parameters flow ≡ true
parameters_read key (Ok x) flow h =
    let test = checked_ok key (states_parameters x) x flow h in
    subst (λ (f : FlowFields). states_parameters f ≡ true) test.1 test.0
parameters_read key (Err fault) flow h = cc

encoding_read : (place : Place) (ms : Members) (flow : FlowFields) → class_encoding_at place ms ≡ Ok flow → StatesParameters flow
unfolding class_encoding_at
encoding_read place ms flow h =
    let bytes = bind_ok (bytes_at place field.Encoding ms) (λ b. parameters_in (Entry place field.Encoding) (flow_of b)) flow h in
    parameters flow (parameters_read (Entry place field.Encoding) (flow_of bytes.0) flow bytes.2)

-- a class that is read
one_class : (classes : List Class) (d : Data) (class : Class) → class_read classes d ≡ Ok class
    → IsClass class × (list_any (is_class_named class.name) classes ≡ false)
unfolding class_read
one_class classes d class h =
    let place : Place = place.Class (length classes) in
    let table = bind_ok (table_of place d) _ class h in
    let name = bind_ok (class_name_at classes place table.0) _ class table.2 in
    let encoding = bind_ok (class_encoding_at place table.0) _ class name.2 in
    let named = name_read classes place table.0 name.0 name.1 in
    let made : record { name = name.0; encoding = encoding.0 } ≡ class = cc in
    subst (λ (c : Class). IsClass c × (list_any (is_class_named c.name) classes ≡ false)) made
    (record { letters = class_name_letters name.0 named.0; parameters = encoding_read place table.0 encoding.0 encoding.1 }, named.1)

abbrev AreNamed : List Class → Type 0
AreNamed classes = All IsClass classes × AllPairs (λ a b. a.name ≢ b.name) classes

one_more : (classes : List Class) (d : Data) (class : Class) → AreNamed classes → class_read classes d ≡ Ok class → AreNamed (classes ++ class ∷ [])
one_more classes d class h read =
    let one = one_class classes d class read in (
      All-push IsClass classes class h.0 one.0,
      all_pairs_push (λ a b. a.name ≢ b.name) classes class h.1 (λ k e lt.
          told_apart (get_or classes k e).name class.name (none_passes (is_class_named class.name) classes k e one.1 lt)),
    )

in_array : (d : Data) (classes : List Class) → classes_in d ≡ Ok classes → AreClasses classes
unfolding classes_in
in_array d classes h =
    let ds = bind_ok (expected_value Classes (as_array d)) _ classes h in
    let few = bind_ok (checked_value Classes (nat_le (items_len ds.0) 64) ds.0) _ classes ds.2 in
    let test = checked_ok Classes (nat_le (items_len ds.0) 64) ds.0 few.0 few.1 in
    let count : items_len few.0 ≤ 64 = subst (λ (i : Items). items_len i ≤ 64) test.1 (grind (arith, test.0)) in
    let named = each_keeps AreNamed class_read one_more [] few.0 classes (λ k e lt. absurd (omega (arith, lt)), λ i j e lt more. absurd (omega (arith, more))) few.2 in
    record { few = omega (arith, count, each_len class_read [] few.0 classes few.2); each = named.0; distinct = named.1 }

-- the classes of a document
pub classes_read : (o : Option Data) (classes : List Class) → classes_if o ≡ Ok classes → AreClasses classes
classes_read None classes h =
    let none : [] ≡ classes = cc in
    subst AreClasses none (record { few = omega arith; each = λ k e lt. absurd (omega (arith, lt)); distinct = λ i j e lt more. absurd (omega (arith, more)) })
classes_read (Some d) classes h = in_array d classes h
