-- Names of service classes (CM-SP-MULPIv3.1, Annex C, subtype 4).
use Rattle.std.specs.Prelude.{◌==◌, ℕ, ◌≤◌, not, IsTrue, List, length}
use Rattle.std.specs.List.{list_all}

-- a class name: 1 to 15 bytes, none of them 0; the type `ClassName` keeps it
pub record IsClassName (name : List ℕ) : Type 0 where
  pub some : 1 ≤ length name
  pub few : length name ≤ 15
  pub no_zero : IsTrue (list_all (λ b. not (b == 0)) name)
