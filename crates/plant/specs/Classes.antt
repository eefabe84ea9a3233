-- Service classes (CM-SP-MULPIv3.1, Annex C, subtype 4; the table is implementation-specific).
use Rattle.std.specs.Prelude.{◌≡◌, ◌≢◌, ℕ, ◌≤◌, Bool, IsTrue, List, length, All, AllPairs, Option, Some, None, find}
use Rattle.std.specs.Option.{option_map}
use Rattle.std.specs.Char.{is_ascii_alphanumeric}
use Rattle.std.specs.List.{list_all}
use Rattle.std.specs.Str.{bytes_eq}
use Rattle.tlv24.specs.declared.fields.FlowFields.{FlowFields}
use Rattle.param_sets.specs.Overridden.{overridden_of}
use Rattle.plant.specs.declared.class_table.Class.{Class}

-- the class has this name
abbrev pub is_class_named : List ℕ → Class → Bool
is_class_named name class = bytes_eq class.name name

-- the encoding of the class of this name
abbrev pub class_of : List ℕ → List Class → Option FlowFields
class_of name classes = option_map (λ class. class.encoding) (find (is_class_named name) classes)

-- none of the subtypes 1 to 6 is stated: what a class says is of the parameters alone
pub record StatesParameters (flow : FlowFields) : Type 0 where
  pub reference : flow.reference ≡ None
  pub sfid : flow.sfid ≡ None
  pub sid : flow.sid ≡ None
  pub class_name : flow.class_name ≡ None
  pub errored : flow.errored ≡ None
  pub set_type : flow.set_type ≡ None

-- a class: its name is of ASCII letters and digits
pub record IsClass (class : Class) : Type 0 where
  pub letters : IsTrue (list_all is_ascii_alphanumeric class.name)
  pub parameters : StatesParameters class.encoding

-- the classes of a plant: at most 64, no two of one name
pub record AreClasses (classes : List Class) : Type 0 where
  pub few : length classes ≤ 64
  pub each : All IsClass classes
  pub distinct : AllPairs (λ a b. a.name ≢ b.name) classes

-- what an encoding asks for over a class of this name, if it names one
abbrev pub asked_over : Option (List ℕ) → FlowFields → List Class → Option FlowFields
asked_over None stated classes = Some stated
asked_over (Some name) stated classes = option_map (λ class. overridden_of class stated) (class_of name classes)

-- what an encoding asks for: what it states, over its class where it names one; none where no class has that name
abbrev pub asked_of : List Class → FlowFields → Option FlowFields
asked_of classes stated = asked_over stated.class_name stated classes
