-- Parameter sets that were written are read again.
use Rattle.std.proofs.Common.{◌≡◌, ℕ, ◌<◌, ◌^◌, ◌==◌, ◌&&◌, true, nat_le, List, ◌∷◌, ◌++◌, Option, Some, None, Ok, refl, ap, ◌∙◌, append_assoc, arith}
use Rattle.snapshot_format.proofs.Common.{IfSome, decimal, digit_value, le-leb, and_parts, eqb-true, leb-true, ParamFields, SetsFields, IsParameterSet, IsOfKind, HasNoPolls, HasNoGrants, HasGrants, IsWithinProvisioned, IsWithinOrNull, nothing_fails, IsSet, AreSets}
use Rattle.param_sets.specs.declared.scheduling.Scheduling.{Scheduling}
use Rattle.param_sets.specs.declared.scheduling.Scheduling.TheVariants.{BestEffort, NonRealTimePolling, RealTimePolling, UnsolicitedGrant}
use Rattle.param_sets.specs.Scheduling.{scheduling_number, scheduling_of}
use Rattle.snapshot_format.specs.Fields.{take_literal, take_presence, take_number}
use Rattle.snapshot_format.specs.Sets.{take_scheduling, take_params, has_no_polls, has_no_grants, has_grants, is_of_kind, is_parameter_set, take_set, take_optional_set, checked_sets, take_sets}
use Rattle.snapshot_format.specs.Text.{params_text, optional_set_text, sets_text}
use Rattle.snapshot_format.proofs.FieldLemmas.{number_back}

-- ---- numbers of a width

pub long_back : (mark n : ℕ) (rest : List ℕ) → 10 < digit_value mark → n < 2 ^ 32 → take_number 4294967295 mark (decimal n ++ mark ∷ rest) ≡ Ok (n, rest)
long_back mark n rest gt small = number_back 4294967295 mark n rest gt (omega (arith, small)) (omega (arith, small))

pub short_back : (mark n : ℕ) (rest : List ℕ) → 10 < digit_value mark → n < 2 ^ 16 → take_number 65535 mark (decimal n ++ mark ∷ rest) ≡ Ok (n, rest)
short_back mark n rest gt small = number_back 65535 mark n rest gt (omega (arith, small)) (omega (arith, small))

pub byte_back : (mark n : ℕ) (rest : List ℕ) → 10 < digit_value mark → n < 2 ^ 8 → take_number 255 mark (decimal n ++ mark ∷ rest) ≡ Ok (n, rest)
byte_back mark n rest gt small = number_back 255 mark n rest gt (omega (arith, small)) (omega (arith, small))

-- ---- what a kind of scheduling keeps, as a test

no_polls : (set : ParamFields) → HasNoPolls set → has_no_polls set ≡ true
no_polls set is = rw (is.polling_interval, is.poll_jitter) refl

no_grants : (set : ParamFields) → HasNoGrants set → has_no_grants set ≡ true
no_grants set is = rw (is.grant_size, is.grant_interval, is.grant_jitter, is.grants_per_interval) refl

grants : (set : ParamFields) → HasGrants set → has_grants set ≡ true
grants set is = rw (is.min_reserved_rate, le-leb _ _ is.grant_size, le-leb _ _ is.grants_per_interval, le-leb _ _ is.grants_most) refl

kind_is : (kind : Scheduling) (set : ParamFields) → IsOfKind kind set → is_of_kind kind set ≡ true
kind_is BestEffort set is = rw (no_polls set is.0, no_grants set is.1) refl
kind_is NonRealTimePolling set is = no_grants set is
kind_is RealTimePolling set is = no_grants set is
kind_is UnsolicitedGrant set is = rw (no_polls set is.0, grants set is.1) refl

set_is : (set : ParamFields) → IsParameterSet set → is_parameter_set set ≡ true
set_is set is = rw (le-leb _ _ is.priority, kind_is set.scheduling set is.kind) refl

from_polls : (set : ParamFields) → has_no_polls set ≡ true → HasNoPolls set
from_polls set h =
    let p = and_parts (set.polling_interval == 0) (set.poll_jitter == 0) h in
    record { polling_interval = eqb-true _ _ p.0; poll_jitter = eqb-true _ _ p.1 }

from_no_grants : (set : ParamFields) → has_no_grants set ≡ true → HasNoGrants set
from_no_grants set h =
    let p = and_parts ((set.grant_size == 0 && set.grant_interval == 0) && set.grant_jitter == 0) (set.grants_per_interval == 0) h in
    let q = and_parts (set.grant_size == 0 && set.grant_interval == 0) (set.grant_jitter == 0) p.0 in
    let r = and_parts (set.grant_size == 0) (set.grant_interval == 0) q.0 in
    record { grant_size = eqb-true _ _ r.0; grant_interval = eqb-true _ _ r.1; grant_jitter = eqb-true _ _ q.1; grants_per_interval = eqb-true _ _ p.1 }

from_grants : (set : ParamFields) → has_grants set ≡ true → HasGrants set
from_grants set h =
    let p = and_parts ((set.min_reserved_rate == 0 && nat_le 1 set.grant_size) && nat_le 1 set.grants_per_interval) (nat_le set.grants_per_interval 127) h in
    let q = and_parts (set.min_reserved_rate == 0 && nat_le 1 set.grant_size) (nat_le 1 set.grants_per_interval) p.0 in
    let r = and_parts (set.min_reserved_rate == 0) (nat_le 1 set.grant_size) q.0 in
    record { min_reserved_rate = eqb-true _ _ r.0; grant_size = leb-true _ _ r.1; grants_per_interval = leb-true _ _ q.1; grants_most = leb-true _ _ p.1 }

from_kind : (kind : Scheduling) (set : ParamFields) → is_of_kind kind set ≡ true → IsOfKind kind set
from_kind BestEffort set h = let p = and_parts (has_no_polls set) (has_no_grants set) h in (from_polls set p.0, from_no_grants set p.1)
from_kind NonRealTimePolling set h = from_no_grants set h
from_kind RealTimePolling set h = from_no_grants set h
from_kind UnsolicitedGrant set h = let p = and_parts (has_no_polls set) (has_grants set) h in (from_polls set p.0, from_grants set p.1)

-- whoever passes the test keeps what a set keeps
pub set_from : (set : ParamFields) → is_parameter_set set ≡ true → IsParameterSet set
set_from set h =
    let p = and_parts (nat_le set.priority 7) (is_of_kind set.scheduling set) h in
    record { priority = leb-true _ _ p.0; kind = from_kind set.scheduling set p.1 }

-- ---- one set

few_kinds : (kind : Scheduling) → scheduling_number kind < 2 ^ 8
few_kinds BestEffort = omega arith
few_kinds NonRealTimePolling = omega arith
few_kinds RealTimePolling = omega arith
few_kinds UnsolicitedGrant = omega arith

same_kind : (kind : Scheduling) → scheduling_of (Some (scheduling_number kind)) ≡ Some kind
same_kind BestEffort = refl
same_kind NonRealTimePolling = refl
same_kind RealTimePolling = refl
same_kind UnsolicitedGrant = refl

scheduling_back : (kind : Scheduling) (rest : List ℕ) → take_scheduling (decimal (scheduling_number kind) ++ 44 ∷ rest) ≡ Ok (kind, rest)
unfolding take_scheduling
scheduling_back kind rest = rw (byte_back 44 (scheduling_number kind) rest (omega arith) (few_kinds kind), same_kind kind) refl

params_back : (set : ParamFields) (rest : List ℕ) → IsSet set → take_params (params_text set ++ rest) ≡ Ok (set, rest)
unfolding take_params params_text
params_back set rest is =
    let comma : 10 < digit_value 44 = omega arith in
    let space : 10 < digit_value 32 = omega arith in
    let t11 : List ℕ = decimal set.grants_per_interval ++ 32 ∷ rest in
    let t10 : List ℕ = decimal set.grant_jitter ++ 44 ∷ t11 in
    let t9 : List ℕ = decimal set.grant_interval ++ 44 ∷ t10 in
    let t8 : List ℕ = decimal set.grant_size ++ 44 ∷ t9 in
    let t7 : List ℕ = decimal set.poll_jitter ++ 44 ∷ t8 in
    let t6 : List ℕ = decimal set.polling_interval ++ 44 ∷ t7 in
    let t5 : List ℕ = decimal set.request_policy ++ 44 ∷ t6 in
    let t4 : List ℕ = decimal set.min_reserved_rate ++ 44 ∷ t5 in
    let t3 : List ℕ = decimal set.max_burst ++ 44 ∷ t4 in
    let t2 : List ℕ = decimal set.max_sustained_rate ++ 44 ∷ t3 in
    let t1 : List ℕ = decimal set.priority ++ 44 ∷ t2 in
    let whole : params_text set ++ rest ≡ decimal (scheduling_number set.scheduling) ++ 44 ∷ t1 = simp append_assoc in
    ap take_params whole
    ∙ rw (
      scheduling_back set.scheduling t1,
      byte_back 44 set.priority t2 comma is.priority,
      long_back 44 set.max_sustained_rate t3 comma is.max_sustained_rate,
      long_back 44 set.max_burst t4 comma is.max_burst,
      long_back 44 set.min_reserved_rate t5 comma is.min_reserved_rate,
      long_back 44 set.request_policy t6 comma is.request_policy,
      long_back 44 set.polling_interval t7 comma is.polling_interval,
      long_back 44 set.poll_jitter t8 comma is.poll_jitter,
      short_back 44 set.grant_size t9 comma is.grant_size,
      long_back 44 set.grant_interval t10 comma is.grant_interval,
      long_back 44 set.grant_jitter t11 comma is.grant_jitter,
      byte_back 32 set.grants_per_interval rest space is.grants_per_interval,
    ) refl

set_back : (set : ParamFields) (rest : List ℕ) → IsSet set → take_set (params_text set ++ rest) ≡ Ok (set, rest)
unfolding take_set
set_back set rest is = rw (params_back set rest is, set_is set is.kept) refl

optional_back : (set : Option ParamFields) (rest : List ℕ) → IfSome set IsSet → take_optional_set (optional_set_text set ++ rest) ≡ Ok (set, rest)
unfolding take_optional_set optional_set_text take_presence take_literal
optional_back None rest is = refl
optional_back (Some set) rest is = rw (set_back set rest is) refl

-- ---- the sets of a flow

abbrev three : Option ParamFields → Option ParamFields → Option ParamFields → SetsFields
three provisioned admitted active = record { provisioned = provisioned; admitted = admitted; active = active }

sets_are : (provisioned admitted active : Option ParamFields) → IsWithinOrNull active admitted → IsWithinProvisioned admitted provisioned
    → checked_sets provisioned admitted active ≡ Ok (three provisioned admitted active)
sets_are provisioned None None inner outer = refl
sets_are provisioned None (Some c) inner outer = absurd inner
sets_are None (Some a) None inner outer = refl
sets_are None (Some a) (Some c) inner outer = rw (nothing_fails c a inner) refl
sets_are (Some p) (Some a) None inner outer = rw (nothing_fails a p outer) refl
sets_are (Some p) (Some a) (Some c) inner outer = rw (nothing_fails a p outer, nothing_fails c a inner) refl

pub sets_back : (sets : SetsFields) (rest : List ℕ) → AreSets sets → take_sets (sets_text sets ++ rest) ≡ Ok (sets, rest)
unfolding take_sets sets_text
sets_back sets rest is =
    let t2 : List ℕ = optional_set_text sets.active ++ rest in
    let t1 : List ℕ = optional_set_text sets.admitted ++ t2 in
    let whole : sets_text sets ++ rest ≡ optional_set_text sets.provisioned ++ t1 = simp append_assoc in
    ap take_sets whole
    ∙ rw (
      optional_back sets.provisioned t1 is.provisioned,
      optional_back sets.admitted t2 is.admitted,
      optional_back sets.active rest is.active,
      sets_are sets.provisioned sets.admitted sets.active is.nested.active is.nested.admitted,
    ) refl
