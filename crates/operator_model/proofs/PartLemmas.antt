-- What a tick puts out is a part of its frame's MAP.
use Rattle.std.proofs.Common.{◌≡◌, ◌≢◌, ℕ, ◌+◌, ◌==◌, ◌&&◌, ◌≤◌, Bool, true, false, cond, List, [], ◌∷◌, length, Option, Some, None, IfSome, IsSome, unwrap_or, All, count_by, refl, sym, ap, ◌∙◌, subst, arith}
use Rattle.operator_model.proofs.Common.{AllByRecursion, cons_option, list_all, values_of, false≢true, All-head, All-tail, All-from_recursion, Numbers, IsIn, IsWithinOrNull, Scheduling, ParamFields, Flowing, elements_of, IsOfItsKind, AsksWhereItMay, IsRow, Flow, is_unsolicited, asks_for_grants, flowing_of_set, flowing_in, Operator, at_frame, frame_elements, KeepsItsKind, IsSoundFlow, IsSound}
use Rattle.std.proofs.lemmas.Bool.Decides.{nat_tests}
use Rattle.slice_scheduler.specs.declared.span.Span.{Span}
use Rattle.slice_scheduler.specs.declared.elements.ElementsFields.{ElementsFields}
use Rattle.slice_scheduler.specs.Tiles.{IsTiled}
use Rattle.slice_scheduler.proofs.TiledLemmas.{elements-tiled}
use Rattle.slice_scheduler.proofs.NamedLemmas.{spans-named, pending-named}
use Rattle.slice_scheduler.proofs.FewLemmas.{elements-few, one-nobody}
use Rattle.operator_model.specs.Part.{is_own_sid}
use Rattle.operator_model.proofs.FlowsLemmas.{sids-each}
use Rattle.operator_model.proofs.ServeLemmas.{served, can_ascend, can_fit, elements_within}
use Rattle.operator_model.proofs.UndoLemmas.{flows_left_same}

-- ---- the flows that are scheduled

-- what follows for a flow as it is scheduled
module _ (P : Flow → Type 0) (Q : Flowing → Type 0) (follows : (e : ℕ × Flow) (set : ParamFields) → e.1.sets.active ≡ Some set → P e.1 → Q (served e set)) where
  each-served : (flows : List (ℕ × Flow)) → All P (values_of flows) → AllByRecursion Q (flowing_in flows)
  each-served [] a = tt
  each-served (e ∷ flows) a = by e.1.sets.active refl (All-head P e.1 (values_of flows) a) (each-served flows (All-tail P e.1 (values_of flows) a))
    where
      by : (active : Option ParamFields) → e.1.sets.active ≡ active → P e.1 → AllByRecursion Q (flowing_in flows) → AllByRecursion Q (cons_option (flowing_of_set e.0 e.1 active) (flowing_in flows))
      by None is h rest = rest
      by (Some set) is h rest = (follows e set is h, rest)

served_kind : (frame : ℕ) (e : ℕ × Flow) (set : ParamFields) → e.1.sets.active ≡ Some set → IsSoundFlow frame e.1 → IsOfItsKind (served e set)
served_kind frame e set is sound = subst (λ (o : Option ParamFields). IfSome o KeepsItsKind) is sound.kinds.active

served_asks : (frame : ℕ) (e : ℕ × Flow) (set : ParamFields) → e.1.sets.active ≡ Some set → IsSoundFlow frame e.1 → AsksWhereItMay (served e set)
served_asks frame e set is sound same = sound.no_backlog (ap asks_for_grants is ∙ ap (λ (s : Scheduling). cond (is_unsolicited s) false true) same)

-- ---- their SIDs

-- a flow whose SID, where it has one, is of the range
abbrev HasSidOf : Numbers → Flow → Type 0
HasSidOf range flow = IfSome flow.sid (IsIn range)

in-is_own : (range : Numbers) (sid : ℕ) → IsIn range sid → is_own_sid range sid ≡ true
in-is_own range sid within = grind (arith, nat_tests, within.0, within.1)

served_own : (range : Numbers) (e : ℕ × Flow) (set : ParamFields) → e.1.sets.active ≡ Some set → HasSidOf range e.1 → is_own_sid range (served e set).sid ≡ true
served_own range e set is within = by e.1.sid within
  where
    by : (sid : Option ℕ) → IfSome sid (IsIn range) → is_own_sid range (unwrap_or sid 0) ≡ true
    by None within = refl
    by (Some n) within = in-is_own range n within

-- a sound flow with such a SID
abbrev HasSoundSid : Numbers → ℕ → Flow → Type 0
HasSoundSid range frame flow = IsSoundFlow frame flow × HasSidOf range flow

served_some : (range : Numbers) (frame : ℕ) → 1 ≤ range.first → (e : ℕ × Flow) (set : ParamFields) → e.1.sets.active ≡ Some set → HasSoundSid range frame e.1 → (served e set).sid ≢ 0
served_some range frame low e set is h = by e.1.sid (h.0.has_sid (admitted e.1.sets.admitted (subst (λ (o : Option ParamFields). IsWithinOrNull o e.1.sets.admitted) is h.0.nested.active))) h.1
  where
    admitted : (o : Option ParamFields) → IsWithinOrNull (Some set) o → IsSome o
    admitted None within = absurd within
    admitted (Some other) within = refl

    by : (sid : Option ℕ) → IsSome sid → IfSome sid (IsIn range) → unwrap_or sid 0 ≢ 0
    by None some within = absurd (false≢true some)
    by (Some n) some within = λ null. omega (arith, within.0)

all-list_all : {X : Type 0} (p : X → Bool) (xs : List X) → AllByRecursion (λ x. p x ≡ true) xs → list_all p xs ≡ true
all-list_all p [] a = refl
all-list_all p (x ∷ xs) a = ap (λ (b : Bool). b && list_all p xs) a.0 ∙ all-list_all p xs a.1

-- ---- the elements

module _ (op : Operator) (sound : IsSound op) where
  abbrev flows : List Flowing
  flows = flowing_in op.state.flows

  abbrev made_of : List Flowing → ElementsFields
  made_of fs = elements_of op.row.policy (at_frame op) fs

  same : made_of flows ≡ frame_elements op
  same = ap made_of (sym (flows_left_same op sound))

  kinds : AllByRecursion IsOfItsKind flows
  kinds = each-served (IsSoundFlow op.state.frame) IsOfItsKind (served_kind op.state.frame) op.state.flows sound.flows

  asks : AllByRecursion AsksWhereItMay flows
  asks = each-served (IsSoundFlow op.state.frame) AsksWhereItMay (served_asks op.state.frame) op.state.flows sound.flows

  own : AllByRecursion (λ (f : Flowing). is_own_sid op.row.sids f.sid ≡ true) flows
  own = each-served (HasSidOf op.row.sids) (λ f. is_own_sid op.row.sids f.sid ≡ true) (served_own op.row.sids) op.state.flows (sids-each (IsIn op.row.sids) op.state.flows sound.sids)

  some : IsRow op.row → AllByRecursion (λ (f : Flowing). f.sid ≢ 0) flows
  some keys = each-served (HasSoundSid op.row.sids op.state.frame) (λ f. f.sid ≢ 0) (served_some op.row.sids op.state.frame keys.sids_low) op.state.flows
      (λ k d lt. (sound.flows k d lt, sids-each (IsIn op.row.sids) op.state.flows sound.sids k d lt))

  pub part_tiled : IsTiled (frame_elements op)
  part_tiled = subst IsTiled same (elements-tiled op.row.policy (at_frame op) flows (can_ascend op sound) (can_fit op sound) kinds)

  pub part_spans : list_all (λ span. is_own_sid op.row.sids span.sid) (frame_elements op).spans ≡ true
  part_spans = subst (λ (e : ElementsFields). list_all (λ span. is_own_sid op.row.sids span.sid) e.spans ≡ true) same
      (all-list_all (λ (span : Span). is_own_sid op.row.sids span.sid) (made_of flows).spans (spans-named (λ sid. is_own_sid op.row.sids sid ≡ true) op.row.policy (at_frame op) flows own refl))

  pub part_pending : list_all (is_own_sid op.row.sids) (frame_elements op).pending ≡ true
  part_pending = subst (λ (e : ElementsFields). list_all (is_own_sid op.row.sids) e.pending ≡ true) same
      (all-list_all (is_own_sid op.row.sids) (made_of flows).pending (pending-named (λ sid. is_own_sid op.row.sids sid ≡ true) op.row.policy (at_frame op) flows own))

  pub part_some : IsRow op.row → All (λ sid. sid ≢ 0) (frame_elements op).pending
  part_some keys = subst (λ (e : ElementsFields). All (λ sid. sid ≢ 0) e.pending) same
      (All-from_recursion (λ sid. sid ≢ 0) (made_of flows).pending (pending-named (λ sid. sid ≢ 0) op.row.policy (at_frame op) flows (some keys)))

  pub part_nobody : IsRow op.row → count_by (λ (span : Span). span.sid == 0) (frame_elements op).spans ≤ 1
  part_nobody keys = subst (λ (e : ElementsFields). count_by (λ (span : Span). span.sid == 0) e.spans ≤ 1) same (one-nobody op.row.policy (at_frame op) flows (some keys))

  pub part_few : length (frame_elements op).spans + length (frame_elements op).pending ≤ op.row.elements + 1
  part_few = subst (λ (e : ElementsFields). length e.spans + length e.pending ≤ op.row.elements + 1) same
      (omega (arith, elements-few op.row.policy (at_frame op) flows asks, elements_within (at_frame op) op.state.flows sound.flows, sound.elements))
