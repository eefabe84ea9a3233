-- The minislots that are one operator's (implementation-specific).
use Rattle.std.specs.Prelude.{ℕ, ◌+◌, ◌≤◌, ◌&&◌, nat_lt, Bool}

-- a slice: so many minislots from this one on
pub record Minislots : Type 0 where
  pub start : ℕ
  pub length : ℕ

-- there is one, and none is past the 4,096 of a frame
pub record IsSlice (slice : Minislots) : Type 0 where
  pub some : 1 ≤ slice.length
  pub in_range : slice.start + slice.length ≤ 4096

-- two slices have a minislot in common
abbrev pub slices_overlap : Minislots → Minislots → Bool
slices_overlap a b = nat_lt a.start (b.start + b.length) && nat_lt b.start (a.start + a.length)
