-- What contracts see of a device in memory (implementation-specific).
use Rattle.std.specs.Prelude.{ℕ, List}
use Rattle.line_journal.specs.declared.memory.Memory.{Memory}

-- the bytes of a device in memory
abbrev pub memory_bytes : Memory → List ℕ
memory_bytes m = m.bytes.items
