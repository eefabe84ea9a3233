-- An encoding is answered by a set exactly where it asks for it.
use Rattle.std.proofs.Common.{◌≡◌, ℕ, ◌≤◌, ◌==◌, ◌||◌, nat_lt, false, refl, sym, ◌∙◌, ap, subst, arith}
use Rattle.param_sets.proofs.Common.{nat_tests, Option, Some, None, Result, Ok, IsSome, IfOk, AreInRange, FlowFields, UnitSizes, frames_in_interval, scheduling_of, IsParameterSet, kept_of, missings_of, missing_of, invalids_of, invalid_of, set_unless, set_of_kind, parameter_set_of, AsksFor, StatesRequired, TakesFrames, Scheduling, BestEffort, NonRealTimePolling, RealTimePolling, UnsolicitedGrant, ParamFields, Refusal}
use Rattle.std.specs.Option.{is_none}
use Rattle.param_sets.proofs.First.{AreFalse, none_is_true, all_are_false}
use Rattle.param_sets.proofs.KeptLemmas.{is_parameter_set}

there : (o : Option ℕ) → is_none o ≡ false → IsSome o
there None test = cc
there (Some n) test = refl

not_missing : (o : Option ℕ) → IsSome o → is_none o ≡ false
not_missing None stands = cc
not_missing (Some n) stands = refl

some_frames : (n : ℕ) → (n == 0) ≡ false → 1 ≤ n
some_frames n test = grind (arith, nat_tests)

not_zero : (n : ℕ) → 1 ≤ n → (n == 0) ≡ false
not_zero n some = grind (arith, nat_tests)

few : (n : ℕ) → 1 ≤ n → n ≤ 127 → (n == 0 || nat_lt 127 n) ≡ false
few n some most = grind (arith, nat_tests)

states_required : (kind : Scheduling) (flow : FlowFields) → AreFalse (missings_of kind flow) → StatesRequired kind flow
states_required BestEffort flow tests = tt
states_required NonRealTimePolling flow tests = tt
states_required RealTimePolling flow tests = there flow.polling_interval tests.0
states_required UnsolicitedGrant flow tests = record {
  grant_size = there flow.grant_size tests.0;
  grant_interval = there flow.grant_interval tests.1.0;
  grants_per_interval = there flow.grants_per_interval tests.1.1.0;
}

none_missing : (kind : Scheduling) (flow : FlowFields) → StatesRequired kind flow → AreFalse (missings_of kind flow)
none_missing BestEffort flow stated = tt
none_missing NonRealTimePolling flow stated = tt
none_missing RealTimePolling flow stated = (not_missing flow.polling_interval stated, tt)
none_missing UnsolicitedGrant flow stated =
    (not_missing flow.grant_size stated.grant_size, (not_missing flow.grant_interval stated.grant_interval, (not_missing flow.grants_per_interval stated.grants_per_interval, tt)))

takes_frames : (kind : Scheduling) (set : ParamFields) (units : UnitSizes) → AreFalse (invalids_of kind set units) → TakesFrames kind set units
takes_frames BestEffort set units tests = tt
takes_frames NonRealTimePolling set units tests = some_frames (frames_in_interval set.polling_interval units) tests.0
takes_frames RealTimePolling set units tests = some_frames (frames_in_interval set.polling_interval units) tests.0
takes_frames UnsolicitedGrant set units tests = some_frames (frames_in_interval set.grant_interval units) tests.1.0

-- what a kind says of a set beside its frames
grants_of : (kind : Scheduling) (flow : FlowFields) (units : UnitSizes) → IsParameterSet (kept_of kind flow) → TakesFrames kind (kept_of kind flow) units → AreFalse (invalids_of kind (kept_of kind flow) units)
grants_of BestEffort flow units valid frames = tt
grants_of NonRealTimePolling flow units valid frames = (not_zero (frames_in_interval (kept_of NonRealTimePolling flow).polling_interval units) frames, tt)
grants_of RealTimePolling flow units valid frames = (not_zero (frames_in_interval (kept_of RealTimePolling flow).polling_interval units) frames, tt)
grants_of UnsolicitedGrant flow units valid frames =
    let set : ParamFields = kept_of UnsolicitedGrant flow in (
      not_zero set.grant_size valid.kind.1.grant_size,
      (
        not_zero (frames_in_interval set.grant_interval units) frames,
        (few set.grants_per_interval valid.kind.1.grants_per_interval valid.kind.1.grants_most, tt),
      ),
    )

asks_for : (kind : Scheduling) (flow : FlowFields) (units : UnitSizes) → AreInRange flow → scheduling_of flow.scheduling_type ≡ Some kind
    → missing_of kind flow ≡ None → invalid_of (kept_of kind flow) units ≡ None → AsksFor flow units (kept_of kind flow)
asks_for kind flow units range known complete valid = record {
  kind = known;
  required = states_required kind flow (none_is_true (missings_of kind flow) complete);
  kept = refl;
  valid = is_parameter_set kind flow units range valid;
  whole_frames = takes_frames kind (kept_of kind flow) units (none_is_true (invalids_of kind (kept_of kind flow) units) valid);
}

asked_unless : (kind : Scheduling) (flow : FlowFields) (units : UnitSizes) (missing invalid : Option ℕ) → AreInRange flow
    → scheduling_of flow.scheduling_type ≡ Some kind → missing_of kind flow ≡ missing → invalid_of (kept_of kind flow) units ≡ invalid
    → IfOk (set_unless missing invalid (kept_of kind flow)) (AsksFor flow units)
asked_unless kind flow units (Some missing) invalid range known complete valid = tt
asked_unless kind flow units None (Some invalid) range known complete valid = tt
asked_unless kind flow units None None range known complete valid = asks_for kind flow units range known complete valid

asked_of_kind : (kind : Option Scheduling) (flow : FlowFields) (units : UnitSizes) → AreInRange flow → scheduling_of flow.scheduling_type ≡ kind
    → IfOk (set_of_kind kind flow units) (AsksFor flow units)
asked_of_kind None flow units range known = tt
asked_of_kind (Some kind) flow units range known =
    asked_unless kind flow units (missing_of kind flow) (invalid_of (kept_of kind flow) units) range known refl refl

-- the set that is answered is asked for
pub answered_is_asked : (flow : FlowFields) (units : UnitSizes) (set : ParamFields) → AreInRange flow
    → parameter_set_of flow units ≡ Ok set → AsksFor flow units set
answered_is_asked flow units set range same =
    subst (λ (r : Result ParamFields Refusal). IfOk r (AsksFor flow units)) same
    (asked_of_kind (scheduling_of flow.scheduling_type) flow units range refl)

pub answered_is_set : (flow : FlowFields) (units : UnitSizes) (set : ParamFields) → AreInRange flow
    → parameter_set_of flow units ≡ Ok set → IsParameterSet set
answered_is_set flow units set range same = (answered_is_asked flow units set range same).valid

asked_kept : (kind : Scheduling) (flow : FlowFields) (units : UnitSizes) → AsksFor flow units (kept_of kind flow)
    → parameter_set_of flow units ≡ Ok (kept_of kind flow)
asked_kept kind flow units asked =
    ap (λ (o : Option Scheduling). set_of_kind o flow units) asked.kind
    ∙ (ap (λ (o : Option ℕ). set_unless o (invalid_of (kept_of kind flow) units) (kept_of kind flow)) (all_are_false (missings_of kind flow) (none_missing kind flow asked.required))
    ∙ ap (λ (o : Option ℕ). set_unless None o (kept_of kind flow)) (all_are_false (invalids_of kind (kept_of kind flow) units) (grants_of kind flow units asked.valid asked.whole_frames)))

abbrev answer_of : ParamFields → Result ParamFields Refusal
answer_of set = Ok set

-- the set that is asked for is answered
pub asked_is_answered : (flow : FlowFields) (units : UnitSizes) (set : ParamFields) → AsksFor flow units set → parameter_set_of flow units ≡ Ok set
asked_is_answered flow units set asked =
    asked_kept set.scheduling flow units (subst (AsksFor flow units) asked.kept asked) ∙ ap answer_of (sym asked.kept)
