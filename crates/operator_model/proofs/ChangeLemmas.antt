-- What flows of which one changes keep.
use Rattle.std.proofs.Common.{◌⊎◌, inl, inr, ◌≡◌, ℕ, List, Option, Some, None, IfSome, IsSome, refl, sym, subst}
use Rattle.operator_model.proofs.Common.{cases_eq, UnitSizes, Kind, Dsa, Dsc, Dsd, RowFields, Flow, taken_back, flow_at, with_flow, without_flow, undone, change_if, change_at, IsSoundFlow}
use Rattle.operator_model.proofs.MapLemmas.{at-insert_same, at-insert_other, at-remove_other}
use Rattle.operator_model.proofs.FlowsLemmas.{AreFlows, MayPut-again, put-AreFlows, sound-there, without-AreFlows, CommitLess, same-CommitLess, without-CommitLess, put-CommitLess}
use Rattle.operator_model.proofs.FollowLemmas.{MayFollow, follow-taken_back}

-- flows after a step: they are the row's, and have committed no more
pub record MayStep (row : RowFields) (units : UnitSizes) (frame : ℕ) (before after : List (ℕ × Flow)) : Type 0 where
  pub are : AreFlows row frame after
  pub less : CommitLess units after before

-- ---- flows of which one changes

module _ {row : RowFields} {units : UnitSizes} {frame : ℕ} {flows : List (ℕ × Flow)} (are : AreFlows row frame flows) where
  pub stay-MayStep : MayStep row units frame flows flows
  stay-MayStep = record { are = are; less = same-CommitLess units flows }

  pub without-MayStep : (k : ℕ) → MayStep row units frame flows (without_flow k flows)
  without-MayStep k = record { are = without-AreFlows are k; less = without-CommitLess units flows k }

  pub put-MayStep : (k : ℕ) (old v : Flow) → flow_at k flows ≡ Some old → MayFollow units frame old v → MayStep row units frame flows (with_flow k v flows)
  put-MayStep k old v there follow = record {
    are = put-AreFlows are (MayPut-again are k old there v follow.sid follow.sound);
    less = put-CommitLess units flows k v old are.ascending there follow.less;
  }

  pub change-MayStep : (k : ℕ) (change : Flow → Flow) → ((old : Flow) → IsSoundFlow frame old → MayFollow units frame old (change old)) → MayStep row units frame flows (change_at k change flows)
  change-MayStep k change follows = by (flow_at k flows) refl
    where
      by : (o : Option Flow) → flow_at k flows ≡ o → MayStep row units frame flows (change_if k change flows o)
      by None is = stay-MayStep
      by (Some old) is = put-MayStep k old (change old) is (follows old (sound-there are k old is))

  pub undone-MayStep : (kind : Kind) (k : ℕ) → MayStep row units frame flows (undone kind k flows)
  undone-MayStep Dsa k = without-MayStep k
  undone-MayStep Dsc k = change-MayStep k taken_back (follow-taken_back units frame)
  undone-MayStep Dsd k = stay-MayStep

-- ---- the others stay

module _ (q k : ℕ) (apart : q ≡ k → ⊥) (flows : List (ℕ × Flow)) where
  pub at-change_other : (change : Flow → Flow) → flow_at q (change_at k change flows) ≡ flow_at q flows
  at-change_other change = by (flow_at k flows)
    where
      by : (o : Option Flow) → flow_at q (change_if k change flows o) ≡ flow_at q flows
      by None = refl
      by (Some old) = at-insert_other q k apart flows (change old)

  pub at-undone_other : (kind : Kind) → flow_at q (undone kind k flows) ≡ flow_at q flows
  at-undone_other Dsa = at-remove_other q k apart flows
  at-undone_other Dsc = at-change_other taken_back
  at-undone_other Dsd = refl

-- what holds of the flow of an SFID, and is kept by the change, holds of it after the change
pub kept-change : (P : Flow → Type 0) (q k : ℕ) (change : Flow → Flow) (flows : List (ℕ × Flow)) → ((old : Flow) → P old → P (change old))
    → IsSome (flow_at q flows) × IfSome (flow_at q flows) P → IsSome (flow_at q (change_at k change flows)) × IfSome (flow_at q (change_at k change flows)) P
kept-change P q k change flows keeps has = by (cases_eq q k)
  where
    here : (o : Option Flow) → flow_at k flows ≡ o → IsSome o × IfSome o P → IsSome (flow_at k (change_if k change flows o)) × IfSome (flow_at k (change_if k change flows o)) P
    here None is h = subst (λ (o : Option Flow). IsSome o × IfSome o P) (sym is) h
    here (Some old) is h = subst (λ (o : Option Flow). IsSome o × IfSome o P) (sym (at-insert_same flows k (change old))) (refl, keeps old h.1)

    by : (q ≡ k) ⊎ (q ≡ k → ⊥) → IsSome (flow_at q (change_at k change flows)) × IfSome (flow_at q (change_at k change flows)) P
    by (inl same) = subst (λ (n : ℕ). IsSome (flow_at n (change_at k change flows)) × IfSome (flow_at n (change_at k change flows)) P) (sym same)
        (here (flow_at k flows) refl (subst (λ (n : ℕ). IsSome (flow_at n flows) × IfSome (flow_at n flows) P) same has))
    by (inr apart) = subst (λ (o : Option Flow). IsSome o × IfSome o P) (sym (at-change_other q k apart flows change)) has
