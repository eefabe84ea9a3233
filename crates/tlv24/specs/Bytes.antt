-- Bytes that a value owns, few of them in the value itself (implementation-specific).
use Rattle.std.specs.Prelude.{ℕ, List}
use Rattle.tlv24.specs.declared.bytes.Place.{Place}
use Rattle.tlv24.specs.declared.bytes.Place.TheVariants.{Short, Long}

-- the bytes that a value owns, wherever they are kept
abbrev pub bytes_in : Place → List ℕ
bytes_in (Short bytes) = bytes
bytes_in (Long bytes) = bytes.items
