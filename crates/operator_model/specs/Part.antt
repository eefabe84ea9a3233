-- What an operator puts into a frame's MAP (implementation-specific).
use Rattle.std.specs.Prelude.{ℕ, ◌==◌, ◌&&◌, ◌||◌, nat_le, Bool}
use Rattle.admission.specs.Free.{Numbers}

-- a SID that is nobody's, or of the range
abbrev pub is_own_sid : Numbers → ℕ → Bool
is_own_sid range sid = sid == 0 || (nat_le range.first sid && nat_le sid range.last)
