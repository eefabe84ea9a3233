-- Rankings that follow the policies of a plant's rows (implementation-specific).
use Rattle.std.specs.Prelude.{◌≡◌, ℕ, List, slice_get, Some}
use Rattle.grant_policy.specs.declared.policy.Policy.{Policy}
use Rattle.plant.specs.declared.operator_row.RowFields.{RowFields}

-- a policy at an operator's place is that of the operator's row; an operator may have none
abbrev pub FollowRows : List Policy → List RowFields → Type 0
FollowRows policies rows = (op : ℕ) (policy : Policy) (row : RowFields) → slice_get policies op ≡ Some policy → slice_get rows op ≡ Some row
    → policy ≡ row.policy
