-- The flows: of which sets are pending, and who waits for them.
use Rattle.std.proofs.Common.{◌≡◌, ◌≢◌, ◌==◌, ℕ, List, [], ◌∷◌, ◌⊎◌, inl, inr, Option, Some, None, IsSome, IfSome, is_some, refl, sym, ap, ◌∙◌, subst}
use Rattle.trace_report.proofs.TableLemmas.Common.{AllByRecursion, cases_eq, cond_both, true≢false, none-some, same_Some, Kind, Dsa, Dsc, Dsd, GivenUp, RowFields, Flow, Pending, with_pending, flow_after_ack, without_pending, taken_back, flow_after_grant, flow_at, without_flow, undone, flows_acked, all_undone, all_granted, IsWaitingOf, Ascends, at-insert_same, at-remove_same, MayStep, undone-MayStep, at-change_other, at-undone_other, HaveFlows}
use Rattle.param_sets.specs.Units.{UnitSizes}
use Rattle.flow_table.specs.Moved.{change_if, change_at}
use Rattle.operator_model.proofs.FlowsLemmas.{AreFlows}

-- the flow of the SFID has sets that are pending
abbrev pub IsPending : List (ℕ × Flow) → ℕ → Type 0
IsPending flows q = (flow : Flow) × (flow_at q flows ≡ Some flow) × IsSome flow.pending

-- ---- what ends the wait

acknowledged_none : (frame : ℕ) (flow : Flow) (o : Option Pending) → flow.pending ≡ o → (with_pending frame flow o).pending ≡ None
acknowledged_none frame flow None is = is
acknowledged_none frame flow (Some pending) is = refl

taken_back_none : (flow : Flow) (o : Option Pending) → flow.pending ≡ o → (without_pending flow o).pending ≡ None
taken_back_none flow None is = is
taken_back_none flow (Some pending) is = refl

-- a change after which no sets are pending
changed_none : (k : ℕ) (change : Flow → Flow) (flows : List (ℕ × Flow)) → ((flow : Flow) → (change flow).pending ≡ None) → ¬ IsPending (change_at k change flows) k
changed_none k change flows clears = by (flow_at k flows) refl
  where
    by : (o : Option Flow) → flow_at k flows ≡ o → ¬ IsPending (change_if k change flows o) k
    by None is pending = none-some pending.0 (sym is ∙ pending.1)
    by (Some old) is pending =
        let same : change old ≡ pending.0 = same_Some (change old) pending.0 (sym (at-insert_same flows k (change old)) ∙ pending.1) in
        true≢false (sym pending.2 ∙ ap is_some (sym (ap (λ (f : Flow). f.pending) same) ∙ clears old))

removed_none : (k : ℕ) (flows : List (ℕ × Flow)) → Ascends flows → ¬ IsPending (without_flow k flows) k
removed_none k flows ascends pending = none-some pending.0 (sym (at-remove_same flows k ascends) ∙ pending.1)

-- what is undone is pending no more
pub undone_none : (kind : Kind) (k : ℕ) (flows : List (ℕ × Flow)) → Ascends flows → IsSome (flow_at k flows) → IfSome (flow_at k flows) (IsWaitingOf kind) → ¬ IsPending (undone kind k flows) k
undone_none Dsa k flows ascends there waits = removed_none k flows ascends
undone_none Dsc k flows ascends there waits = changed_none k taken_back flows (λ flow. taken_back_none flow flow.pending refl)
undone_none Dsd k flows ascends there waits = by (flow_at k flows) there waits
  where
    by : (o : Option Flow) → IsSome o → IfSome o (IsWaitingOf Dsd) → ¬ IsPending flows k
    by None there waits pending = true≢false (sym there)
    by (Some flow) there waits pending = absurd waits

pub acked_none : (kind : Kind) (code frame k : ℕ) (flows : List (ℕ × Flow)) → Ascends flows → IsSome (flow_at k flows) → IfSome (flow_at k flows) (IsWaitingOf kind)
    → ¬ IsPending (flows_acked kind code frame k flows) k
acked_none kind code frame k flows ascends there waits =
    cond_both (code == 0) _ _ (λ (fs : List (ℕ × Flow)). ¬ IsPending fs k)
    (λ _. changed_none k (flow_after_ack frame) flows (λ flow. acknowledged_none frame flow flow.pending refl)) (λ _. undone_none kind k flows ascends there waits)

-- ---- what is given up

-- the others have their flows still
still-have : (flows : List (ℕ × Flow)) (kind : Kind) (k : ℕ) (given_up : List GivenUp) → AllByRecursion (λ (h : GivenUp). k ≢ h.sfid) given_up → HaveFlows flows given_up → HaveFlows (undone kind k flows) given_up
still-have flows kind k [] apart have = tt
still-have flows kind k (g ∷ given_up) apart have =
    (subst (λ (o : Option Flow). IsSome o × IfSome o (IsWaitingOf g.kind)) (sym (at-undone_other g.sfid k (λ same. apart.0 (sym same)) flows kind)) have.0, have.1, still-have flows kind k given_up apart.1 have.2)

-- what is pending still is none of what was given up, and was pending before
pub still_pending : {row : RowFields} {frame : ℕ} (units : UnitSizes) (given_up : List GivenUp) (flows : List (ℕ × Flow)) (q : ℕ) → AreFlows row frame flows → HaveFlows flows given_up
    → IsPending (all_undone given_up flows) q → AllByRecursion (λ (h : GivenUp). q ≢ h.sfid) given_up × IsPending flows q
still_pending units [] flows q are have pending = (tt, pending)
still_pending {row} {frame} units (g ∷ given_up) flows q are have pending =
    let step : MayStep row units frame flows (undone g.kind g.sfid flows) = undone-MayStep are g.kind g.sfid in
    let rest = still_pending units given_up (undone g.kind g.sfid flows) q step.are (still-have flows g.kind g.sfid given_up have.1 have.2) pending in
    let apart : q ≢ g.sfid = λ same. undone_none g.kind g.sfid flows are.ascending have.0.0 have.0.1 (subst (IsPending (undone g.kind g.sfid flows)) same rest.1) in
    ((apart, rest.0), (rest.1.0, sym (at-undone_other q g.sfid apart flows g.kind) ∙ rest.1.1, rest.1.2))

-- ---- what is granted

granted_pending : (q k frame minislots : ℕ) (flows : List (ℕ × Flow)) → IsPending (change_at k (flow_after_grant minislots frame) flows) q → IsPending flows q
granted_pending q k frame minislots flows pending = by (cases_eq q k)
  where
    here : (o : Option Flow) → flow_at k flows ≡ o → IsPending (change_if k (flow_after_grant minislots frame) flows o) k → IsPending flows k
    here None is was = was
    here (Some old) is was =
        let same : flow_after_grant minislots frame old ≡ was.0 = same_Some (flow_after_grant minislots frame old) was.0 (sym (at-insert_same flows k (flow_after_grant minislots frame old)) ∙ was.1) in
        (old, is, ap (λ (f : Flow). is_some f.pending) same ∙ was.2)

    by : (q ≡ k) ⊎ (q ≡ k → ⊥) → IsPending flows q
    by (inl same) = subst (IsPending flows) (sym same) (here (flow_at k flows) refl (subst (IsPending (change_at k (flow_after_grant minislots frame) flows)) same pending))
    by (inr apart) = (pending.0, sym (at-change_other q k apart flows (flow_after_grant minislots frame)) ∙ pending.1, pending.2)

pub all_granted_pending : (q frame : ℕ) (grants : List (ℕ × ℕ)) (flows : List (ℕ × Flow)) → IsPending (all_granted frame grants flows) q → IsPending flows q
all_granted_pending q frame [] flows pending = pending
all_granted_pending q frame (grant ∷ grants) flows pending =
    granted_pending q grant.0 frame grant.1 flows (all_granted_pending q frame grants (change_at grant.0 (flow_after_grant grant.1 frame) flows) pending)
