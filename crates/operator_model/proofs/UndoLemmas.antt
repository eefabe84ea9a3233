-- What is given up is undone: who is scheduled stays.
use Rattle.std.proofs.Common.{◌≡◌, ◌≢◌, ℕ, Bool, true, false, cond, List, [], ◌∷◌, Option, Some, None, IfSome, IsSome, refl, sym, ap, ◌∙◌, subst}
use Rattle.operator_model.proofs.Common.{AllByRecursion, true≢false, UnitSizes, IsWithinOrNull, ParamFields, SetsFields, Kind, Dsa, Dsc, Dsd, GivenUp, given_up_in, Flowing, RowFields, Flow, Pending, without_pending, taken_back, flow_at, flowing_of_set, flowing_in, Operator, undone, change_if, all_undone, flows_left, IsSoundPending, IsSoundFlow, IsWaitingOf, IsSound}
use Rattle.operator_model.proofs.EntryLemmas.{read-insert, read-remove}
use Rattle.operator_model.proofs.FlowsLemmas.{AreFlows, sound-there}
use Rattle.operator_model.proofs.ChangeLemmas.{MayStep, undone-MayStep, at-undone_other}
use Rattle.operator_model.proofs.KeptLemmas.{HasFlow, HaveFlows, given_up-HaveFlows}
use Rattle.operator_model.proofs.SoundLemmas.{sound-AreFlows}

-- the entry of a flow as it is scheduled
abbrev flowing_of : ℕ × Flow → Option Flowing
flowing_of entry = flowing_of_set entry.0 entry.1 entry.1.sets.active

-- a flow that was added, and not acknowledged, is not scheduled
new_flows_not : (k : ℕ) (flow : Flow) → IsWaitingOf Dsa flow → flowing_of (k, flow) ≡ None
new_flows_not k flow waits = ap (λ (sets : SetsFields). flowing_of_set k flow sets.active) waits.1

-- a flow of which a change is taken back is scheduled as before
taken_back_same : (k frame : ℕ) (flow : Flow) → IsSoundFlow frame flow → flowing_of (k, taken_back flow) ≡ flowing_of (k, flow)
taken_back_same k frame flow sound = by flow.pending sound.pending
  where
    -- where the SID goes no set is active
    gone : (active : Option ParamFields) → IsWithinOrNull active None → flowing_of_set k (record flow { sid = None; pending = None }) active ≡ flowing_of_set k flow active
    gone None within = refl
    gone (Some set) within = absurd within

    stays : (active : Option ParamFields) → flowing_of_set k (record flow { pending = None }) active ≡ flowing_of_set k flow active
    stays None = refl
    stays (Some set) = refl

    by_sid : (pending : Pending) → IsSoundPending flow pending → (b : Bool) → pending.sid_is_new ≡ b
        → flowing_of_set k (record flow { sid = cond b None flow.sid; pending = None }) flow.sets.active ≡ flowing_of_set k flow flow.sets.active
    by_sid pending h true new = gone flow.sets.active (subst (IsWithinOrNull flow.sets.active) (h.new_sid new) sound.nested.active)
    by_sid pending h false new = stays flow.sets.active

    by : (o : Option Pending) → IfSome o (IsSoundPending flow) → flowing_of (k, without_pending flow o) ≡ flowing_of (k, flow)
    by None h = refl
    by (Some pending) h = by_sid pending h pending.sid_is_new refl

module _ {row : RowFields} {frame : ℕ} {flows : List (ℕ × Flow)} (are : AreFlows row frame flows) where
  undone_same : (g : GivenUp) → HasFlow flows g → flowing_in (undone g.kind g.sfid flows) ≡ flowing_in flows
  undone_same g has = by g.kind (flow_at g.sfid flows) refl has.0 has.1
    where
      by : (kind : Kind) (o : Option Flow) → flow_at g.sfid flows ≡ o → IsSome o → IfSome o (IsWaitingOf kind) → flowing_in (undone kind g.sfid flows) ≡ flowing_in flows
      by kind None is some waits = absurd (true≢false (sym some))
      by Dsa (Some flow) is some waits = read-remove flowing_of flows g.sfid flow is (new_flows_not g.sfid flow waits)
      by Dsc (Some flow) is some waits =
          ap (λ (o : Option Flow). flowing_in (change_if g.sfid taken_back flows o)) is
          ∙ read-insert flowing_of flows g.sfid (taken_back flow) flow are.ascending is (taken_back_same g.sfid frame flow (sound-there are g.sfid flow is))
      by Dsd (Some flow) is some waits = absurd waits

-- the others have their flows still
still-HaveFlows : (flows : List (ℕ × Flow)) (kind : Kind) (k : ℕ) (given_up : List GivenUp) → AllByRecursion (λ (h : GivenUp). k ≢ h.sfid) given_up → HaveFlows flows given_up → HaveFlows (undone kind k flows) given_up
still-HaveFlows flows kind k [] apart have = tt
still-HaveFlows flows kind k (g ∷ given_up) apart have =
    (subst (λ (o : Option Flow). IsSome o × IfSome o (IsWaitingOf g.kind)) (sym (at-undone_other g.sfid k (λ same. apart.0 (sym same)) flows kind)) have.0, have.1, still-HaveFlows flows kind k given_up apart.1 have.2)

pub all_undone_same : {row : RowFields} {frame : ℕ} (units : UnitSizes) (given_up : List GivenUp) (flows : List (ℕ × Flow)) → AreFlows row frame flows → HaveFlows flows given_up → flowing_in (all_undone given_up flows) ≡ flowing_in flows
all_undone_same units [] flows are have = refl
all_undone_same {row} {frame} units (g ∷ given_up) flows are have =
    let step : MayStep row units frame flows (undone g.kind g.sfid flows) = undone-MayStep are g.kind g.sfid in
    all_undone_same units given_up (undone g.kind g.sfid flows) step.are (still-HaveFlows flows g.kind g.sfid given_up have.1 have.2) ∙ undone_same are g have.0

module _ (op : Operator) (sound : IsSound op) where
  -- what is given up leaves those that are scheduled
  pub flows_left_same : flowing_in (flows_left op.state) ≡ flowing_in op.state.flows
  flows_left_same = all_undone_same op.consts.units (given_up_in op.state.kept) op.state.flows (sound-AreFlows sound) (given_up-HaveFlows op.state.flows op.state.kept sound.waiting sound.own_flows)
