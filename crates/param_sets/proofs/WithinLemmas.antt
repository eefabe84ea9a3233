-- A set is within another exactly where no subtype fails; `IsWithin` is an order.
use Rattle.std.proofs.Common.{◌≡◌, ℕ, ◌<◌, ◌≤◌, ◌==◌, not, nat_lt, false, refl, ap, ◌∙◌, arith}
use Rattle.param_sets.proofs.Common.{nat_tests, Option, Some, None, scheduling_number, Scheduling, BestEffort, NonRealTimePolling, RealTimePolling, UnsolicitedGrant, ParamFields}
use Rattle.param_sets.specs.Within.{IsWithin, IsNoGreaterLimit, IsWithinOrNull, is_greater_limit, failings_of, first_failing}
use Rattle.param_sets.specs.Sets.{AreNested, IsWithinProvisioned}
use Rattle.param_sets.specs.declared.sets.SetsFields.{SetsFields}
use Rattle.param_sets.proofs.First.{AreFalse, none_is_true, all_are_false}

-- two kinds with one number are one kind
pub same_kind : (a b : Scheduling) → not (scheduling_number a == scheduling_number b) ≡ false → a ≡ b
same_kind BestEffort BestEffort same = refl
same_kind BestEffort NonRealTimePolling same = cc
same_kind BestEffort RealTimePolling same = cc
same_kind BestEffort UnsolicitedGrant same = cc
same_kind NonRealTimePolling BestEffort same = cc
same_kind NonRealTimePolling NonRealTimePolling same = refl
same_kind NonRealTimePolling RealTimePolling same = cc
same_kind NonRealTimePolling UnsolicitedGrant same = cc
same_kind RealTimePolling BestEffort same = cc
same_kind RealTimePolling NonRealTimePolling same = cc
same_kind RealTimePolling RealTimePolling same = refl
same_kind RealTimePolling UnsolicitedGrant same = cc
same_kind UnsolicitedGrant BestEffort same = cc
same_kind UnsolicitedGrant NonRealTimePolling same = cc
same_kind UnsolicitedGrant RealTimePolling same = cc
same_kind UnsolicitedGrant UnsolicitedGrant same = refl

one_kind : (a b : Scheduling) → a ≡ b → not (scheduling_number a == scheduling_number b) ≡ false
one_kind a b same = grind (arith, nat_tests, ap scheduling_number same)

not_less : (a b : ℕ) → nat_lt b a ≡ false → a ≤ b
not_less a b test = grind (arith, nat_tests)

at_most : (a b : ℕ) → a ≤ b → nat_lt b a ≡ false
at_most a b most = grind (arith, nat_tests)

no_greater : (a b : ℕ) → is_greater_limit a b ≡ false → IsNoGreaterLimit a b
no_greater a b test limit = (grind (arith, nat_tests), grind (arith, nat_tests))

not_greater : (a b : ℕ) → IsNoGreaterLimit a b → is_greater_limit a b ≡ false
not_greater a b limit = grind (arith, nat_tests)

pub is_within : (a b : ParamFields) → first_failing a b ≡ None → IsWithin a b
is_within a b none =
    let tests : AreFalse (failings_of a b) = none_is_true (failings_of a b) none in
    record {
      scheduling = same_kind a.scheduling b.scheduling tests.0;
      priority = not_less a.priority b.priority tests.1.0;
      max_sustained_rate = no_greater a.max_sustained_rate b.max_sustained_rate tests.1.1.0;
      min_reserved_rate = not_less a.min_reserved_rate b.min_reserved_rate tests.1.1.1.0;
      polling_interval = not_less b.polling_interval a.polling_interval tests.1.1.1.1.0;
      grant_size = not_less a.grant_size b.grant_size tests.1.1.1.1.1.0;
      grant_interval = not_less b.grant_interval a.grant_interval tests.1.1.1.1.1.1.0;
      grants_per_interval = not_less a.grants_per_interval b.grants_per_interval tests.1.1.1.1.1.1.1.0;
    }

pub nothing_fails : (a b : ParamFields) → IsWithin a b → first_failing a b ≡ None
nothing_fails a b inside =
    all_are_false (failings_of a b) (
      one_kind a.scheduling b.scheduling inside.scheduling,
      (
        at_most a.priority b.priority inside.priority,
        (
          not_greater a.max_sustained_rate b.max_sustained_rate inside.max_sustained_rate,
          (
            at_most a.min_reserved_rate b.min_reserved_rate inside.min_reserved_rate,
            (
              at_most b.polling_interval a.polling_interval inside.polling_interval,
              (
                at_most a.grant_size b.grant_size inside.grant_size,
                (
                  at_most b.grant_interval a.grant_interval inside.grant_interval,
                  (at_most a.grants_per_interval b.grants_per_interval inside.grants_per_interval, tt),
                ),
              ),
            ),
          ),
        ),
      ),
    )

pub within_self : (a : ParamFields) → IsWithin a a
within_self a = record {
  scheduling = refl;
  priority = omega arith;
  max_sustained_rate = λ limit. (limit, omega arith);
  min_reserved_rate = omega arith;
  polling_interval = omega arith;
  grant_size = omega arith;
  grant_interval = omega arith;
  grants_per_interval = omega arith;
}

pub within_both : (a b c : ParamFields) → IsWithin a b → IsWithin b c → IsWithin a c
within_both a b c ab bc = record {
  scheduling = ab.scheduling ∙ bc.scheduling;
  priority = omega arith;
  max_sustained_rate = λ limit.
      let outer : (0 < b.max_sustained_rate) × (b.max_sustained_rate ≤ c.max_sustained_rate) = bc.max_sustained_rate limit in
      let inner : (0 < a.max_sustained_rate) × (a.max_sustained_rate ≤ b.max_sustained_rate) = ab.max_sustained_rate outer.0 in
      (inner.0, omega arith);
  min_reserved_rate = omega arith;
  polling_interval = omega arith;
  grant_size = omega arith;
  grant_interval = omega arith;
  grants_per_interval = omega arith;
}

pub within_both_or_null : (a b c : Option ParamFields) → IsWithinOrNull a b → IsWithinOrNull b c → IsWithinOrNull a c
within_both_or_null None b c ab bc = tt
within_both_or_null (Some a) None c ab bc = absurd ab
within_both_or_null (Some a) (Some b) None ab bc = absurd bc
within_both_or_null (Some a) (Some b) (Some c) ab bc = within_both a b c ab bc

pub within_provisioned : (active admitted provisioned : Option ParamFields) → IsWithinOrNull active admitted → IsWithinProvisioned admitted provisioned → IsWithinProvisioned active provisioned
within_provisioned active admitted None inner outer = tt
within_provisioned active admitted (Some provisioned) inner outer = within_both_or_null active admitted (Some provisioned) inner outer

pub within_all : (sets : SetsFields) → AreNested sets → IsWithinProvisioned sets.active sets.provisioned
within_all sets nested = within_provisioned sets.active sets.admitted sets.provisioned nested.active nested.admitted
