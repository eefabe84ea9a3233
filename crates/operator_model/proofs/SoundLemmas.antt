-- What a state may go on with, and stay sound.
use Rattle.std.proofs.Common.{ℕ, ◌≤◌, List, length, Option, Some, None, IfSome, All, arith}
use Rattle.operator_model.proofs.Common.{KeptEntry, ConstsFields, RowFields, Flow, committed_minislots, committed_elements, Arrival, NextShare, OperatorState, Operator, operator, minislots_allowed, HasItsFlow, HaveOwnFlows, IsNextShare, IsSound}
use Rattle.operator_model.proofs.FlowsLemmas.{AreFlows}
use Rattle.operator_model.proofs.ChangeLemmas.{MayStep}

-- what fits the budget in force and the one that waits is allowed, and the other way round
pub is_allowed : (consts : ConstsFields) (frame budget c : ℕ) (next : Option NextShare) → c ≤ budget → IfSome next (IsNextShare consts frame c) → c ≤ minislots_allowed budget next
is_allowed consts frame budget c None le h = le
is_allowed consts frame budget c (Some next) le h = omega (arith, h.fits)

allowed_now : (budget c : ℕ) (next : Option NextShare) → c ≤ minislots_allowed budget next → c ≤ budget
allowed_now budget c None le = le
allowed_now budget c (Some next) le = omega arith

allowed_then : (consts : ConstsFields) (frame budget before c : ℕ) (next : Option NextShare) → c ≤ minislots_allowed budget next → IfSome next (IsNextShare consts frame before) → IfSome next (IsNextShare consts frame c)
allowed_then consts frame budget before c None le h = tt
allowed_then consts frame budget before c (Some next) le h = record { share = h.share; to_come = h.to_come; fits = omega arith }

-- flows and kept entries that a state may go on with
pub record MayGoOn (op : Operator) (flows : List (ℕ × Flow)) (kept : List KeptEntry) : Type 0 where
  pub are : AreFlows op.row op.state.frame flows
  pub few : length kept ≤ op.row.transactions
  pub waiting : All (HasItsFlow flows) kept
  pub own : HaveOwnFlows kept
  pub minislots : committed_minislots op.consts.units flows ≤ minislots_allowed op.state.share.budget op.state.next
  pub elements : committed_elements op.consts.units flows ≤ op.row.elements

module _ {consts : ConstsFields} {row : RowFields} {state : OperatorState} (sound : IsSound (operator consts row state)) where
  pub sound-AreFlows : AreFlows row state.frame state.flows
  sound-AreFlows = record {
    ascending = sound.ascending;
    sfids = sound.sfids;
    sids = sound.sids;
    own_sids = sound.own_sids;
    each = sound.flows;
    few = sound.few_flows;
  }

  pub go_on : (flows : List (ℕ × Flow)) (kept : List KeptEntry) → MayGoOn (operator consts row state) flows kept → IsSound (operator consts row (record state { flows = flows; kept = kept }))
  go_on flows kept may = record {
    ascending = may.are.ascending;
    sfids = may.are.sfids;
    sids = may.are.sids;
    own_sids = may.are.own_sids;
    flows = may.are.each;
    few_flows = may.are.few;
    few_kept = may.few;
    few_heard = sound.few_heard;
    waiting = may.waiting;
    own_flows = may.own;
    elements = may.elements;
    minislots = allowed_now state.share.budget (committed_minislots consts.units flows) state.next may.minislots;
    share = sound.share;
    next = allowed_then consts state.frame state.share.budget (committed_minislots consts.units state.flows) (committed_minislots consts.units flows) state.next may.minislots sound.next;
  }

  -- where no more is committed
  pub step_on : (flows : List (ℕ × Flow)) (kept : List KeptEntry) → MayStep row consts.units state.frame state.flows flows → length kept ≤ row.transactions → All (HasItsFlow flows) kept → HaveOwnFlows kept
      → IsSound (operator consts row (record state { flows = flows; kept = kept }))
  step_on flows kept step few waiting own = go_on flows kept (record {
    are = step.are;
    few = few;
    waiting = waiting;
    own = own;
    minislots = omega (arith, step.less.minislots, is_allowed consts state.frame state.share.budget (committed_minislots consts.units state.flows) state.next sound.minislots sound.next);
    elements = omega (arith, step.less.elements, sound.elements);
  })

  -- with another inbox
  pub inbox_on : (inbox : List Arrival) → length inbox ≤ row.inbox → IsSound (operator consts row (record state { inbox = inbox }))
  inbox_on inbox few = record {
    ascending = sound.ascending;
    sfids = sound.sfids;
    sids = sound.sids;
    own_sids = sound.own_sids;
    flows = sound.flows;
    few_flows = sound.few_flows;
    few_kept = sound.few_kept;
    few_heard = few;
    waiting = sound.waiting;
    own_flows = sound.own_flows;
    elements = sound.elements;
    minislots = sound.minislots;
    share = sound.share;
    next = sound.next;
  }
