-- A set within another needs no more than it.
use Rattle.std.proofs.Common.{ℕ, zero, suc, ◌*◌, ◌<◌, ◌≤◌, Option, Some, None, subst, arith}
use Rattle.std.specs.Int.{div_ceil}
use Rattle.std.proofs.lemmas.Grind.{div_ceil_times}
use Rattle.std.proofs.Math.Nat.{div-zero, suc-mul, lt_of_mul-lt-mul_right}
use Rattle.std.proofs.lemmas.Nat.{mul-le, div-add-mod'}
use Rattle.operator_model.proofs.Common.{Budget, UnitSizes, reserve_of, need_of_kind, need_of, need_if, IsWithin, IsWithinOrNull, Scheduling, BestEffort, NonRealTimePolling, RealTimePolling, UnsolicitedGrant, ParamFields}

-- quotients that are rounded up rise; by 0 they are none or one
div_ceil-le : (a b n : ℕ) → a ≤ b → div_ceil a n ≤ div_ceil b n
div_ceil-le a b zero h = omega (arith, div-zero a, div-zero b, div-add-mod' a 0, div-add-mod' b 0)
div_ceil-le a b (suc n) h =
    let low = div_ceil_times a (suc n) (omega arith) in
    let high = div_ceil_times b (suc n) (omega arith) in
    let one_more = suc-mul (div_ceil b (suc n)) (suc n) in
    let few : div_ceil a (suc n) * suc n < suc (div_ceil b (suc n)) * suc n = omega (arith, low, high, one_more) in
    let less : div_ceil a (suc n) < suc (div_ceil b (suc n)) = lt_of_mul-lt-mul_right (suc n) few in
    omega arith

-- of each no more
pub record AtMost (a b : Budget) : Type 0 where
  pub minislots : a.minislots ≤ b.minislots
  pub elements : a.elements ≤ b.elements

module _ (units : UnitSizes) where
  reserve_of-le : (a b : ℕ) → a ≤ b → reserve_of a units ≤ reserve_of b units
  reserve_of-le a b h = div_ceil-le (a * units.frame_us) (b * units.frame_us) (8000000 * units.bytes_per_minislot) (mul-le a units.frame_us b units.frame_us h (omega arith))

  need_of_kind-le : (kind : Scheduling) (a b : ParamFields) → IsWithin a b → AtMost (need_of_kind kind a units) (need_of_kind kind b units)
  need_of_kind-le BestEffort a b w = record { minislots = reserve_of-le a.min_reserved_rate b.min_reserved_rate w.min_reserved_rate; elements = omega arith }
  need_of_kind-le NonRealTimePolling a b w = record { minislots = omega (arith, reserve_of-le a.min_reserved_rate b.min_reserved_rate w.min_reserved_rate); elements = omega arith }
  need_of_kind-le RealTimePolling a b w = record { minislots = omega (arith, reserve_of-le a.min_reserved_rate b.min_reserved_rate w.min_reserved_rate); elements = omega arith }
  need_of_kind-le UnsolicitedGrant a b w = record { minislots = mul-le _ _ _ _ w.grants_per_interval (div_ceil-le _ _ _ w.grant_size); elements = w.grants_per_interval }

  -- a set within another needs no more than it
  pub need_of-le : (a b : ParamFields) → IsWithin a b → AtMost (need_of a units) (need_of b units)
  need_of-le a b w = subst (λ (kind : Scheduling). AtMost (need_of_kind a.scheduling a units) (need_of_kind kind b units)) w.scheduling (need_of_kind-le a.scheduling a b w)

  pub need_if-le : (a b : Option ParamFields) → IsWithinOrNull a b → AtMost (need_if units a) (need_if units b)
  need_if-le None b w = record { minislots = omega arith; elements = omega arith }
  need_if-le (Some a) None w = absurd w
  need_if-le (Some a) (Some b) w = need_of-le a b w
