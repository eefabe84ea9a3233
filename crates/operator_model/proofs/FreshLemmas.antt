-- Identifiers that no flow has, and the room that a new flow takes.
use Rattle.std.proofs.Common.{◌≡◌, ℕ, suc, ◌+◌, ◌≤◌, Bool, true, false, cond, List, [], ◌∷◌, length, ◌⊎◌, Option, Some, None, IfSome, refl, sym, ap, ◌∙◌, arith, inl, inr}
use Rattle.operator_model.proofs.Common.{Contains, cons_option, Ordering, Less, Equal, Greater, nat_cmp, match_ordering, is_at, cases_eq, none-some, UnitSizes, Numbers, IsIn, IsFree, RowFields, Flow, committed_of, sfids_of, sids_of, flow_at, sid_if, with_flow, committed_minislots, committed_elements, IsSoundFlow}
use Rattle.operator_model.proofs.MapLemmas.{Ascends, is_at_other, found_as}
use Rattle.operator_model.proofs.EntryLemmas.{sum-insert}
use Rattle.operator_model.proofs.FlowsLemmas.{MayPut}

-- ---- what is used

Contains-onto : (n m : ℕ) (ns : List ℕ) → Contains ns n → Contains (m ∷ ns) n
Contains-onto n m ns has = (suc has.0, omega (arith, has.1), has.2)

Contains-option : (n : ℕ) (o : Option ℕ) (ns : List ℕ) → Contains ns n → Contains (cons_option o ns) n
Contains-option n None ns has = has
Contains-option n (Some m) ns has = Contains-onto n m ns has

Contains-first : (n : ℕ) (o : Option ℕ) (ns : List ℕ) → o ≡ Some n → Contains (cons_option o ns) n
Contains-first n None ns is = absurd (none-some n is)
Contains-first n (Some m) ns is = let same : m ≡ n = cc in (0, omega arith, same)

-- the SID of a flow is used
pub used_sid : (flows : List (ℕ × Flow)) (b sid : ℕ) → sid_if (flow_at b flows) ≡ Some sid → Contains (sids_of flows) sid
used_sid [] b sid is = absurd (none-some sid is)
used_sid (e ∷ flows) b sid is = by (used_sid flows b sid) (is_at (nat_cmp b) e.0) is
  where
    by : (sid_if (flow_at b flows) ≡ Some sid → Contains (sids_of flows) sid) → (t : Bool) → sid_if (cond t (Some e.1) (flow_at b flows)) ≡ Some sid → Contains (sids_of (e ∷ flows)) sid
    by more true here = Contains-first sid e.1.sid (sids_of flows) here
    by more false there = Contains-option sid e.1.sid (sids_of flows) (more there)

-- the SFID of a flow is used
pub used_sfid : (flows : List (ℕ × Flow)) (k : ℕ) (v : Flow) → flow_at k flows ≡ Some v → Contains (sfids_of flows) k
used_sfid [] k v is = absurd (none-some v is)
used_sfid (e ∷ flows) k v is = by (used_sfid flows k v) (cases_eq k e.0)
  where
    by : (flow_at k flows ≡ Some v → Contains (sfids_of flows) k) → (k ≡ e.0) ⊎ (k ≡ e.0 → ⊥) → Contains (sfids_of (e ∷ flows)) k
    by more (inl same) = (0, omega arith, sym same)
    by more (inr other) = Contains-onto k e.0 (sfids_of flows) (more (sym (found_as e flows k false (is_at_other k e.0 other)) ∙ is))

-- under an SFID that is free no flow stands
pub none-there : (range : Numbers) (flows : List (ℕ × Flow)) (k : ℕ) → IsFree range (sfids_of flows) k → flow_at k flows ≡ None
none-there range flows k free = by (flow_at k flows) refl
  where
    by : (o : Option Flow) → flow_at k flows ≡ o → o ≡ None
    by None is = refl
    by (Some v) is = absurd (free.unused (used_sfid flows k v is))

-- ---- a flow with a SID of its own

own_sid : (row : RowFields) (flows : List (ℕ × Flow)) (sid : Option ℕ) → IfSome sid (IsFree row.sids (sids_of flows)) → IfSome sid (IsIn row.sids) × ((n b : ℕ) → sid ≡ Some n → sid_if (flow_at b flows) ≡ Some n → ⊥)
own_sid row flows None free = (tt, λ n b is other. none-some n is)
own_sid row flows (Some m) free =
    ((free.first_at_most, free.at_most_last), λ n b is other. let same : m ≡ n = cc in free.unused (used_sid flows b m (other ∙ ap (λ (i : ℕ). Some i) (sym same))))

module _ (row : RowFields) (frame : ℕ) (flows : List (ℕ × Flow)) (k : ℕ) (v : Flow) where
  -- a flow whose SID is free, or which has none, under an SFID of the row's range
  pub MayPut-fresh : IsIn row.sfids k → IfSome v.sid (IsFree row.sids (sids_of flows)) → IsSoundFlow frame v → length (with_flow k v flows) ≤ row.flows → MayPut row frame flows k v
  MayPut-fresh within free sound few =
      let own = own_sid row flows v.sid free in
      record { sfid = within; sid = own.0; own = λ n b is other. absurd (own.1 n b is other); sound = sound; few = few }

-- ---- the room that it takes

-- no more SIDs than before and its own
abbrev pub sid_count : Option ℕ → ℕ
sid_count None = 0
sid_count (Some n) = 1

length-option : (o : Option ℕ) (ns : List ℕ) → length (cons_option o ns) ≡ sid_count o + length ns
length-option None ns = omega arith
length-option (Some n) ns = omega arith

pub length-sids : (flows : List (ℕ × Flow)) (k : ℕ) (v : Flow) → length (sids_of (with_flow k v flows)) ≤ sid_count v.sid + length (sids_of flows)
length-sids [] k v = omega (arith, length-option v.sid [])
length-sids (e ∷ flows) k v = by (length-sids flows k v) (nat_cmp k e.0)
  where
    by : length (sids_of (with_flow k v flows)) ≤ sid_count v.sid + length (sids_of flows) → (o : Ordering) → length (sids_of (match_ordering o ((k, v) ∷ e ∷ flows) ((e.0, v) ∷ flows) (e ∷ with_flow k v flows))) ≤ sid_count v.sid + length (sids_of (e ∷ flows))
    by more Less = omega (arith, length-option v.sid (sids_of (e ∷ flows)))
    by more Equal = omega (arith, length-option v.sid (sids_of flows), length-option e.1.sid (sids_of flows))
    by more Greater = omega (arith, more, length-option e.1.sid (sids_of flows), length-option e.1.sid (sids_of (with_flow k v flows)))

module _ (units : UnitSizes) (flows : List (ℕ × Flow)) (k : ℕ) (v : Flow) (s : Ascends flows) where
  pub minislots-put : committed_minislots units (with_flow k v flows) ≤ committed_minislots units flows + (committed_of units v).minislots
  minislots-put = omega (arith, sum-insert (λ flow. (committed_of units flow).minislots) flows k v s)

  pub elements-put : committed_elements units (with_flow k v flows) ≤ committed_elements units flows + (committed_of units v).elements
  elements-put = omega (arith, sum-insert (λ flow. (committed_of units flow).elements) flows k v s)
