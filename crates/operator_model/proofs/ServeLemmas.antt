-- The flows that are scheduled, of flows that are sound.
use Rattle.std.proofs.Common.{◌≡◌, ℕ, ◌+◌, ◌<◌, ◌≤◌, List, [], ◌∷◌, Option, Some, None, unwrap_or, All, sum_by, sym, arith}
use Rattle.operator_model.proofs.Common.{AllByRecursion, cons_option, Less, nat_cmp, keys_of, values_of, ranked, All-nil, All-cons, All-head, All-tail, sum_by-cons, Budget, UnitSizes, need_of, need_if, ParamFields, Flowing, SfidsAscend, IsPast, total_need, elements_needed, Flow, committed_of, flowing_of_set, flowing_in, committed_minislots, committed_elements, Operator, at_frame, IsSoundFlow, IsSound}
use Rattle.std.specs.List.Sorted.{IsStrictlySortedBy}
use Rattle.slice_scheduler.specs.declared.flowing.AtFields.{AtFields}
use Rattle.operator_model.proofs.MapLemmas.{Ascends}
use Rattle.operator_model.proofs.NeedLemmas.{AtMost, need_if-le}

-- a flow as it is scheduled with this set
abbrev pub served : ℕ × Flow → ParamFields → Flowing
served e set = record { sfid = e.0; sid = unwrap_or e.1.sid 0; set = set; start = e.1.start; backlog = e.1.backlog; since = e.1.since }

-- ---- by SFID

-- flows above an SFID are scheduled above it
above : (n : ℕ) (flows : List (ℕ × Flow)) → AllByRecursion (λ y. nat_cmp n y ≡ Less) (keys_of flows) → AllByRecursion (λ (f : Flowing). n < f.sfid) (flowing_in flows)
above n [] a = tt
above n (e ∷ flows) a = by e.1.sets.active (ranked n e.0 Less (sym a.0)) (above n flows a.1)
  where
    by : (active : Option ParamFields) → n < e.0 → AllByRecursion (λ (f : Flowing). n < f.sfid) (flowing_in flows) → AllByRecursion (λ (f : Flowing). n < f.sfid) (cons_option (flowing_of_set e.0 e.1 active) (flowing_in flows))
    by None lt rest = rest
    by (Some set) lt rest = (lt, rest)

ascend : (flows : List (ℕ × Flow)) → Ascends flows → SfidsAscend (flowing_in flows)
unfolding IsStrictlySortedBy
ascend [] s = tt
ascend (e ∷ flows) s = by e.1.sets.active (above e.0 flows s.0) (ascend flows s.1)
  where
    by : (active : Option ParamFields) → AllByRecursion (λ (f : Flowing). e.0 < f.sfid) (flowing_in flows) → SfidsAscend (flowing_in flows) → SfidsAscend (cons_option (flowing_of_set e.0 e.1 active) (flowing_in flows))
    by None higher rest = rest
    by (Some set) higher rest = (higher, rest)

-- ---- not of a later frame

past : (frame : ℕ) (flows : List (ℕ × Flow)) → All (IsSoundFlow frame) (values_of flows) → All (IsPast frame) (flowing_in flows)
past frame [] a = All-nil (IsPast frame)
past frame (e ∷ flows) a = by e.1.sets.active (All-head (IsSoundFlow frame) e.1 (values_of flows) a) (past frame flows (All-tail (IsSoundFlow frame) e.1 (values_of flows) a))
  where
    by : (active : Option ParamFields) → IsSoundFlow frame e.1 → All (IsPast frame) (flowing_in flows) → All (IsPast frame) (cons_option (flowing_of_set e.0 e.1 active) (flowing_in flows))
    by None sound rest = rest
    by (Some set) sound rest = All-cons (IsPast frame) _ _ (record { start = sound.start; since = sound.since }) rest

-- ---- within what is committed

-- the active set needs no more than is committed
needs_less : (units : UnitSizes) (frame : ℕ) (flow : Flow) → IsSoundFlow frame flow → AtMost (need_if units flow.sets.active) (committed_of units flow)
needs_less units frame flow sound =
    let less = need_if-le units flow.sets.active flow.sets.admitted sound.nested.active in
    record { minislots = omega (arith, less.minislots); elements = omega (arith, less.elements) }

-- of a part of what is needed and committed
module _ (part : Budget → ℕ) (rises : (a b : Budget) → AtMost a b → part a ≤ part b) (at : AtFields) where
  part_within : (flows : List (ℕ × Flow)) → All (IsSoundFlow at.frame) (values_of flows) → sum_by (λ (f : Flowing). part (need_of f.set at.units)) (flowing_in flows) ≤ sum_by (λ entry. part (committed_of at.units entry.1)) flows
  part_within [] a = omega arith
  part_within (e ∷ flows) a =
      let sound = All-head (IsSoundFlow at.frame) e.1 (values_of flows) a in
      let rest = part_within flows (All-tail (IsSoundFlow at.frame) e.1 (values_of flows) a) in
      let sum = sum_by-cons (λ (entry : ℕ × Flow). part (committed_of at.units entry.1)) e flows in
      let first = rises (need_if at.units e.1.sets.active) (committed_of at.units e.1) (needs_less at.units at.frame e.1 sound) in
      let more = by e.1.sets.active in
      omega (arith, sum, first, more, rest)
    where
      by : (active : Option ParamFields) → sum_by (λ (f : Flowing). part (need_of f.set at.units)) (cons_option (flowing_of_set e.0 e.1 active) (flowing_in flows)) ≤ part (need_if at.units active) + sum_by (λ (f : Flowing). part (need_of f.set at.units)) (flowing_in flows)
      by None = omega arith
      by (Some set) = omega (arith, sum_by-cons (λ (f : Flowing). part (need_of f.set at.units)) (served e set) (flowing_in flows))

within : (at : AtFields) (flows : List (ℕ × Flow)) → All (IsSoundFlow at.frame) (values_of flows) → total_need at (flowing_in flows) ≤ committed_minislots at.units flows
within at flows each = part_within (λ b. b.minislots) (λ a b h. h.minislots) at flows each

pub elements_within : (at : AtFields) (flows : List (ℕ × Flow)) → All (IsSoundFlow at.frame) (values_of flows) → elements_needed at (flowing_in flows) ≤ committed_elements at.units flows
elements_within at flows each = part_within (λ b. b.elements) (λ a b h. h.elements) at flows each

-- ---- what a schedule asks for

module _ (op : Operator) (sound : IsSound op) where
  pub can_ascend : SfidsAscend (flowing_in op.state.flows)
  can_ascend = ascend op.state.flows sound.ascending

  pub can_pass : All (IsPast op.state.frame) (flowing_in op.state.flows)
  can_pass = past op.state.frame op.state.flows sound.flows

  pub can_fit : total_need (at_frame op) (flowing_in op.state.flows) ≤ op.state.share.slice.length
  can_fit = omega (arith, within (at_frame op) op.state.flows sound.flows, sound.minislots, sound.share.budget)
