-- What a tick leaves of the flows and of the kept entries.
use Rattle.std.proofs.Common.{◌≡◌, ◌≢◌, ℕ, ◌+◌, ◌&&◌, ◌≤◌, not, Bool, true, false, cond, List, [], ◌∷◌, length, get_or, IfSome, IsSome, All, map, filter, refl, sym, ◌∙◌, subst, arith}
use Rattle.operator_model.proofs.Common.{AllByRecursion, values_of, cond_both, not-true, or_parts, length-map, All-cons, All-weaker, All-nil, AllPairs-filter, length-filter, count_by-le-length, Kind, KeptEntry, GivenUp, Waits, is_waiting, is_response_due, is_resent, is_given_up, is_forgotten, given_up_of, given_up_in, kept_after, UnitSizes, RowFields, Flow, flow_after_grant, flow_at, undone, change_at, all_undone, all_granted, IsSoundFlow, IsWaitingOf, HasItsFlow, HaveOwnFlows}
use Rattle.transactions.specs.Timers as timers
use Rattle.operator_model.proofs.FlowsLemmas.{AreFlows, then-CommitLess, same-CommitLess}
use Rattle.operator_model.proofs.ChangeLemmas.{MayStep, undone-MayStep, change-MayStep, kept-change, at-undone_other}
use Rattle.operator_model.proofs.FollowLemmas.{follow-granted}
use Rattle.operator_model.proofs.KeptLemmas.{AreApart, pairs-head, pairs-tail, pairs-map, given_up_waits, none_given_up}
use Rattle.operator_model.proofs.HandleLemmas.{waits_still}

-- ---- what is given up

pub all_undone-MayStep : {row : RowFields} {frame : ℕ} (units : UnitSizes) (given_up : List GivenUp) (flows : List (ℕ × Flow)) → AreFlows row frame flows → MayStep row units frame flows (all_undone given_up flows)
all_undone-MayStep units [] flows are = record { are = are; less = same-CommitLess units flows }
all_undone-MayStep {row} {frame} units (g ∷ given_up) flows are =
    let one : MayStep row units frame flows (undone g.kind g.sfid flows) = undone-MayStep are g.kind g.sfid in
    let rest = all_undone-MayStep units given_up (undone g.kind g.sfid flows) one.are in
    record { are = rest.are; less = then-CommitLess rest.less one.less }

pub at-all_undone : (q : ℕ) (given_up : List GivenUp) (flows : List (ℕ × Flow)) → AllByRecursion (λ (h : GivenUp). q ≢ h.sfid) given_up → flow_at q (all_undone given_up flows) ≡ flow_at q flows
at-all_undone q [] flows apart = refl
at-all_undone q (g ∷ given_up) flows apart = at-all_undone q given_up (undone g.kind g.sfid flows) apart.1 ∙ at-undone_other q g.sfid apart.0 flows g.kind

-- what stays and waits has another flow than each that is given up
abbrev pub IsOther : List KeptEntry → KeptEntry → Type 0
IsOther kept e = is_given_up e ≡ false → is_waiting e ≡ true → AllByRecursion (λ (h : GivenUp). e.sfid ≢ h.sfid) (given_up_in kept)

pub others-IsOther : (kept : List KeptEntry) → HaveOwnFlows kept → All (IsOther kept) kept
others-IsOther [] own = All-nil (IsOther [])
others-IsOther (x ∷ kept) own = All-cons (IsOther (x ∷ kept)) x kept first (λ k d lt. later (get_or kept k d) (pairs-head AreApart x kept own k d lt) (others-IsOther kept (pairs-tail AreApart x kept own) k d lt))
  where
    first : IsOther (x ∷ kept) x
    first stays waits = subst (λ (b : Bool). AllByRecursion (λ (h : GivenUp). x.sfid ≢ h.sfid) (map given_up_of (cond b (x ∷ filter is_given_up kept) (filter is_given_up kept)))) (sym stays)
        (none_given_up x.sfid kept (λ k d lt. pairs-head AreApart x kept own k d lt waits))

    onto : (e : KeptEntry) → AreApart x e → is_waiting e ≡ true → (b : Bool) → is_given_up x ≡ b → AllByRecursion (λ (h : GivenUp). e.sfid ≢ h.sfid) (given_up_in kept)
        → AllByRecursion (λ (h : GivenUp). e.sfid ≢ h.sfid) (map given_up_of (cond b (x ∷ filter is_given_up kept) (filter is_given_up kept)))
    onto e apart waits true is more = (λ equal. apart (given_up_waits x is) waits (sym equal), more)
    onto e apart waits false is more = more

    later : (e : KeptEntry) → AreApart x e → IsOther kept e → IsOther (x ∷ kept) e
    later e apart other stays waits = onto e apart waits (is_given_up x) refl (other stays waits)

-- ---- what is granted

-- the flows of a frame are flows of the next one
pub later-AreFlows : (row : RowFields) (frame : ℕ) (flows : List (ℕ × Flow)) → AreFlows row frame flows → AreFlows row (frame + 1) flows
later-AreFlows row frame flows are = record {
  ascending = are.ascending;
  sfids = are.sfids;
  sids = are.sids;
  own_sids = are.own_sids;
  each = All-weaker (IsSoundFlow frame) (IsSoundFlow (frame + 1)) (λ flow h. record { nested = h.nested; kinds = h.kinds; has_sid = h.has_sid; no_backlog = h.no_backlog; start = omega (arith, h.start); since = omega (arith, h.since); pending = h.pending }) (values_of flows) are.each;
  few = are.few;
}

pub all_granted-MayStep : (row : RowFields) (units : UnitSizes) (frame : ℕ) (grants : List (ℕ × ℕ)) (flows : List (ℕ × Flow)) → AreFlows row (frame + 1) flows → MayStep row units (frame + 1) flows (all_granted frame grants flows)
all_granted-MayStep row units frame [] flows are = record { are = are; less = same-CommitLess units flows }
all_granted-MayStep row units frame (grant ∷ grants) flows are =
    let one : MayStep row units (frame + 1) flows (change_at grant.0 (flow_after_grant grant.1 frame) flows) = change-MayStep are grant.0 (flow_after_grant grant.1 frame) (λ old h. follow-granted units (frame + 1) old h grant.1 frame (omega arith)) in
    let rest = all_granted-MayStep row units frame grants (change_at grant.0 (flow_after_grant grant.1 frame) flows) one.are in
    record { are = rest.are; less = then-CommitLess rest.less one.less }

pub kept-all_granted : (kind : Kind) (q frame : ℕ) (grants : List (ℕ × ℕ)) (flows : List (ℕ × Flow)) → IsSome (flow_at q flows) × IfSome (flow_at q flows) (IsWaitingOf kind)
    → IsSome (flow_at q (all_granted frame grants flows)) × IfSome (flow_at q (all_granted frame grants flows)) (IsWaitingOf kind)
kept-all_granted kind q frame [] flows has = has
kept-all_granted kind q frame (grant ∷ grants) flows has =
    kept-all_granted kind q frame grants (change_at grant.0 (flow_after_grant grant.1 frame) flows)
    (kept-change (IsWaitingOf kind) q grant.0 (flow_after_grant grant.1 frame) flows (λ old h. waits_still kind old (flow_after_grant grant.1 frame old) refl refl h) has)

-- ---- the entries that stay

-- an entry that stays is not given up
pub not_given_up : (e : KeptEntry) → not (is_forgotten e) ≡ true → is_given_up e ≡ false
not_given_up e stays = (or_parts (is_given_up e) (is_response_due e && not (is_waiting e)) (not-true (is_forgotten e) stays)).0

module _ (waits : Waits) where
  -- a tick changes neither whose flow an entry has nor that it waits
  pub ticked_has : (flows : List (ℕ × Flow)) (e : KeptEntry) → HasItsFlow flows e → HasItsFlow flows (timers.entry_after_tick waits e)
  ticked_has flows e has = cond_both (is_resent e) _ _ (HasItsFlow flows) (λ _. has) (λ _. has)

  ticked_apart : (a b : KeptEntry) → AreApart a b → AreApart (timers.entry_after_tick waits a) (timers.entry_after_tick waits b)
  ticked_apart a b apart = cond_both (is_resent a) _ _ (λ (x : KeptEntry). AreApart x (timers.entry_after_tick waits b)) (λ _. second a apart) (λ _. second a apart)
    where
      second : (x : KeptEntry) → AreApart x b → AreApart x (timers.entry_after_tick waits b)
      second x apart = cond_both (is_resent b) _ _ (AreApart x) (λ _. apart) (λ _. apart)

  pub kept-apart : (kept : List KeptEntry) → HaveOwnFlows kept → HaveOwnFlows (kept_after waits kept)
  kept-apart kept own = pairs-map AreApart AreApart (timers.entry_after_tick waits) ticked_apart (filter (λ e. not (is_forgotten e)) kept) (AllPairs-filter AreApart (λ e. not (is_forgotten e)) kept own)

  pub kept-few : (kept : List KeptEntry) → length (kept_after waits kept) ≤ length kept
  kept-few kept = omega (arith, length-map (filter (λ (e : KeptEntry). not (is_forgotten e)) kept) (timers.entry_after_tick waits), length-filter (λ (e : KeptEntry). not (is_forgotten e)) kept, count_by-le-length (λ (e : KeptEntry). not (is_forgotten e)) kept)
