-- The first bytes of an input, by which a snapshot is known (implementation-specific).
use Rattle.std.specs.Prelude.{◌≡◌, ℕ, List, ◌++◌}
use Rattle.state_service.specs.resumed.Beginning.{is_snapshot_head}

-- these first bytes of an input are read, the rest is left, and they show whether it begins as a snapshot does
pub record IsHeadRead (input rest head : List ℕ) : Type 0 where
  pub input_is : input ≡ head ++ rest
  pub shows : is_snapshot_head input ≡ is_snapshot_head head
