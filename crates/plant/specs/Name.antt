-- Names of operators (implementation-specific).
use Rattle.std.specs.Prelude.{ℕ, ◌≤◌, ◌&&◌, nat_le, Bool, IsTrue, List, length}
use Rattle.std.specs.Char.{is_ascii_alphanumeric}
use Rattle.std.specs.List.{list_all}

-- an operator's name: 1 to 16 ASCII letters or digits
pub record IsOperatorName (name : List ℕ) : Type 0 where
  pub some : 1 ≤ length name
  pub few : length name ≤ 16
  pub letters : IsTrue (list_all is_ascii_alphanumeric name)

-- the same as a test of bytes
unfoldable pub is_operator_name : List ℕ → Bool
is_operator_name text = (nat_le 1 (length text) && nat_le (length text) 16) && list_all is_ascii_alphanumeric text
