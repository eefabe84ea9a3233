-- The measures of an upstream channel, and how microseconds, bytes and rates turn into frames and minislots (implementation-specific).
use Rattle.std.specs.Prelude.{ℕ, ◌*◌, ◌/◌, ◌≤◌}
use Rattle.std.specs.Int.{div_ceil}

-- how long a frame is, in microseconds, and how many bytes a minislot carries
pub record UnitSizes : Type 0 where
  pub frame_us : ℕ
  pub bytes_per_minislot : ℕ

-- a frame takes 1 to 1,000,000 microseconds, a minislot carries 1 to 65,535 bytes
pub record AreUnits (units : UnitSizes) : Type 0 where
  pub frame : 1 ≤ units.frame_us
  pub frame_most : units.frame_us ≤ 1000000
  pub minislot : 1 ≤ units.bytes_per_minislot
  pub minislot_most : units.bytes_per_minislot ≤ 65535

-- the whole frames in an interval
abbrev pub frames_in_interval : ℕ → UnitSizes → ℕ
frames_in_interval microseconds units = microseconds / units.frame_us

-- the minislots that carry so many bytes, rounded up
abbrev pub minislots_of : ℕ → UnitSizes → ℕ
minislots_of bytes units = div_ceil bytes units.bytes_per_minislot

-- the minislots of each frame that carry so many bits a second, rounded up
abbrev pub reserve_of : ℕ → UnitSizes → ℕ
reserve_of rate units = div_ceil (rate * units.frame_us) (8000000 * units.bytes_per_minislot)
