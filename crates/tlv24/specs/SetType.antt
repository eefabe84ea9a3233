-- The numbers of the Quality of Service Parameter Set Types (CM-SP-MULPIv3.1, Annex C, type 24, subtype 6).
use Rattle.std.specs.Prelude.{◌==◌, ℕ, List, [], ◌∷◌, find, Option}
use Rattle.tlv24.specs.declared.set_type.SetType.{SetType}
use Rattle.tlv24.specs.declared.set_type.SetType.TheVariants.{Null, Provisioned, Admitted, ProvisionedAndAdmitted, Active, AdmittedAndActive, AllSets}

-- the value of subtype 6 for each set type that has a meaning here, as bits: 1 for the provisioned set, 2 for the admitted set, 4 for the
-- active set
abbrev pub set_type_number : SetType → ℕ
set_type_number Null = 0
set_type_number Provisioned = 1
set_type_number Admitted = 2
set_type_number ProvisionedAndAdmitted = 3
set_type_number Active = 4
set_type_number AdmittedAndActive = 6
set_type_number AllSets = 7

-- the set types that have a meaning here, in ascending order of their numbers
abbrev pub known_set_types : List SetType
known_set_types = Null ∷ Provisioned ∷ Admitted ∷ ProvisionedAndAdmitted ∷ Active ∷ AdmittedAndActive ∷ AllSets ∷ []

-- the set type of a value of subtype 6, if it has a meaning here: there is none for 5, nor for a number from 8
abbrev pub set_type_of : ℕ → Option SetType
set_type_of n = find (λ set_type. n == set_type_number set_type) known_set_types
