-- When one parameter set is within another (implementation-specific: the standard's subset relation covers all parameters).
use Rattle.std.specs.Prelude.{◌≡◌, ℕ, ◌<◌, ◌≤◌, ◌==◌, ◌&&◌, ◌||◌, not, nat_lt, Bool, List, [], ◌∷◌, Option, Some, None}
use Rattle.tlv24.specs.Subtype.{traffic_priority_subtype, max_sustained_rate_subtype, min_reserved_rate_subtype, scheduling_type_subtype, polling_interval_subtype, grant_size_subtype, grant_interval_subtype, grants_per_interval_subtype}
use Rattle.param_sets.specs.FirstTrue.{first_true}
use Rattle.param_sets.specs.Scheduling.{scheduling_number}
use Rattle.param_sets.specs.declared.param_set.ParamFields.{ParamFields}

-- a is no greater limit than b: 0 is no limit, and is greater than any other
abbrev pub IsNoGreaterLimit : ℕ → ℕ → Type 0
IsNoGreaterLimit a b = 0 < b → (0 < a) × (a ≤ b)

-- a asks for no more than b, in eight facts
pub record IsWithin (a b : ParamFields) : Type 0 where
  pub scheduling : a.scheduling ≡ b.scheduling
  pub priority : a.priority ≤ b.priority
  pub max_sustained_rate : IsNoGreaterLimit a.max_sustained_rate b.max_sustained_rate
  pub min_reserved_rate : a.min_reserved_rate ≤ b.min_reserved_rate
  pub polling_interval : b.polling_interval ≤ a.polling_interval
  pub grant_size : a.grant_size ≤ b.grant_size
  pub grant_interval : b.grant_interval ≤ a.grant_interval
  pub grants_per_interval : a.grants_per_interval ≤ b.grants_per_interval

-- the null set is within every set, and no set is within it
abbrev pub IsWithinOrNull : Option ParamFields → Option ParamFields → Type 0
IsWithinOrNull None b = Unit {0}
IsWithinOrNull (Some a) None = ⊥
IsWithinOrNull (Some a) (Some b) = IsWithin a b

-- a is a greater limit than b: 0 is no limit, and is greater than any other
abbrev pub is_greater_limit : ℕ → ℕ → Bool
is_greater_limit a b = not (b == 0) && (a == 0 || nat_lt b a)

-- where a is not within b, test by test, each with its subtype
abbrev pub failings_of : ParamFields → ParamFields → List (Bool × ℕ)
failings_of a b =
    (not (scheduling_number a.scheduling == scheduling_number b.scheduling), scheduling_type_subtype) ∷
    (nat_lt b.priority a.priority, traffic_priority_subtype) ∷
    (is_greater_limit a.max_sustained_rate b.max_sustained_rate, max_sustained_rate_subtype) ∷
    (nat_lt b.min_reserved_rate a.min_reserved_rate, min_reserved_rate_subtype) ∷
    (nat_lt a.polling_interval b.polling_interval, polling_interval_subtype) ∷
    (nat_lt b.grant_size a.grant_size, grant_size_subtype) ∷
    (nat_lt a.grant_interval b.grant_interval, grant_interval_subtype) ∷
    (nat_lt b.grants_per_interval a.grants_per_interval, grants_per_interval_subtype) ∷ []

-- the first subtype, in this order, in which a is not within b
abbrev pub first_failing : ParamFields → ParamFields → Option ℕ
first_failing a b = first_true (failings_of a b)
