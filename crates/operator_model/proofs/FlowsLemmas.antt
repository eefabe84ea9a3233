-- The flows of a row: what a flow that is put, replaced or taken out leaves.
use Rattle.std.proofs.Common.{◌≡◌, ℕ, ◌≤◌, List, [], ◌∷◌, length, ◌⊎◌, Option, Some, None, IfSome, All, unwrap_or, option_map, refl, sym, ap, ◌∙◌, subst, arith, inl, inr}
use Rattle.operator_model.proofs.Common.{cons_option, nat_cmp, values_of, is_at, cases_eq, All-nil, All-cons, All-head, All-tail, none-some, All-values-insert_entry, All-keys-insert_entry, All-map-remove_entry, IfSome-lookup_from_All, UnitSizes, IsIn, RowFields, Flow, committed_of, sfids_of, sids_of, flow_at, sid_if, with_flow, committed_minislots, committed_elements, HaveOwnSids, without_flow, IsSoundFlow}
use Rattle.operator_model.proofs.MapLemmas.{Ascends, at-insert_same, at-insert_other, at-remove_same, at-remove_other}
use Rattle.operator_model.proofs.OrderLemmas.{ascending-insert, ascending-remove, length-insert_there, length-remove}
use Rattle.operator_model.proofs.EntryLemmas.{sum-insert, sum-remove, All-at}

-- the flows that a row may have at a frame
pub record AreFlows (row : RowFields) (frame : ℕ) (flows : List (ℕ × Flow)) : Type 0 where
  pub ascending : Ascends flows
  pub sfids : All (IsIn row.sfids) (sfids_of flows)
  pub sids : All (IsIn row.sids) (sids_of flows)
  pub own_sids : HaveOwnSids flows
  pub each : All (IsSoundFlow frame) (values_of flows)
  pub few : length flows ≤ row.flows

-- ---- SIDs, flow by flow

abbrev HasSidIn : (ℕ → Type 0) → Flow → Type 0
HasSidIn P flow = IfSome flow.sid P

first-and_rest : (P : ℕ → Type 0) (sid : Option ℕ) (sids : List ℕ) → All P (cons_option sid sids) → IfSome sid P × All P sids
first-and_rest P None sids a = (tt, a)
first-and_rest P (Some sid) sids a = (All-head P sid sids a, All-tail P sid sids a)

first-onto_rest : (P : ℕ → Type 0) (sid : Option ℕ) (sids : List ℕ) → IfSome sid P → All P sids → All P (cons_option sid sids)
first-onto_rest P None sids h a = a
first-onto_rest P (Some sid) sids h a = All-cons P sid sids h a

pub sids-each : (P : ℕ → Type 0) (flows : List (ℕ × Flow)) → All P (sids_of flows) → All (HasSidIn P) (values_of flows)
sids-each P [] a = All-nil (HasSidIn P)
sids-each P (e ∷ flows) a =
    let parts = first-and_rest P e.1.sid (sids_of flows) a in
    All-cons (HasSidIn P) e.1 (values_of flows) parts.0 (sids-each P flows parts.1)

pub each-sids : (P : ℕ → Type 0) (flows : List (ℕ × Flow)) → All (HasSidIn P) (values_of flows) → All P (sids_of flows)
each-sids P [] a = All-nil P
each-sids P (e ∷ flows) a = first-onto_rest P e.1.sid (sids_of flows) (All-head (HasSidIn P) e.1 (values_of flows) a) (each-sids P flows (All-tail (HasSidIn P) e.1 (values_of flows) a))

-- ---- a flow that is put

-- a flow may be put under an SFID: it is sound, its identifiers lie in the row's ranges, and its SID is no other flow's
pub record MayPut (row : RowFields) (frame : ℕ) (flows : List (ℕ × Flow)) (k : ℕ) (v : Flow) : Type 0 where
  pub sfid : IsIn row.sfids k
  pub sid : IfSome v.sid (IsIn row.sids)
  pub own : (sid b : ℕ) → v.sid ≡ Some sid → sid_if (flow_at b flows) ≡ Some sid → b ≡ k
  pub sound : IsSoundFlow frame v
  pub few : length (with_flow k v flows) ≤ row.flows

module _ {row : RowFields} {frame : ℕ} {flows : List (ℕ × Flow)} (are : AreFlows row frame flows) where
  module _ {k : ℕ} {v : Flow} (may : MayPut row frame flows k v) where
    same_flow : (a b sid : ℕ) → sid_if (flow_at a (with_flow k v flows)) ≡ Some sid → sid_if (flow_at b (with_flow k v flows)) ≡ Some sid → a ≡ b
    same_flow a b sid at_a at_b = by (cases_eq a k) (cases_eq b k)
      where
        here : (c : ℕ) → c ≡ k → sid_if (flow_at c (with_flow k v flows)) ≡ Some sid → v.sid ≡ Some sid
        here c same is = sym (ap (λ (n : ℕ). sid_if (flow_at n (with_flow k v flows))) same ∙ ap sid_if (at-insert_same flows k v)) ∙ is

        there : (c : ℕ) → (c ≡ k → ⊥) → sid_if (flow_at c (with_flow k v flows)) ≡ Some sid → sid_if (flow_at c flows) ≡ Some sid
        there c apart is = ap sid_if (sym (at-insert_other c k apart flows v)) ∙ is

        by : (a ≡ k) ⊎ (a ≡ k → ⊥) → (b ≡ k) ⊎ (b ≡ k → ⊥) → a ≡ b
        by (inl x) (inl y) = x ∙ sym y
        by (inl x) (inr y) = x ∙ sym (may.own sid b (here a x at_a) (there b y at_b))
        by (inr x) (inl y) = may.own sid a (here b y at_b) (there a x at_a) ∙ sym y
        by (inr x) (inr y) = are.own_sids sid a b (there a x at_a) (there b y at_b)

    pub put-AreFlows : AreFlows row frame (with_flow k v flows)
    put-AreFlows = record {
      ascending = ascending-insert flows k v are.ascending;
      sfids = All-keys-insert_entry nat_cmp k v (IsIn row.sfids) flows are.sfids may.sfid;
      sids = each-sids (IsIn row.sids) (with_flow k v flows) (All-values-insert_entry nat_cmp k v (HasSidIn (IsIn row.sids)) flows (sids-each (IsIn row.sids) flows are.sids) may.sid);
      own_sids = λ sid a b. same_flow a b sid;
      each = All-values-insert_entry nat_cmp k v (IsSoundFlow frame) flows are.each may.sound;
      few = may.few;
    }

  -- ---- a flow that takes another's place

  module _ (k : ℕ) (old : Flow) (there : flow_at k flows ≡ Some old) where
    pub sound-there : IsSoundFlow frame old
    sound-there = subst (λ (o : Option Flow). IfSome o (IsSoundFlow frame)) there (IfSome-lookup_from_All (IsSoundFlow frame) (is_at (nat_cmp k)) flows are.each)

    sid-there : IfSome old.sid (IsIn row.sids)
    sid-there = subst (λ (o : Option Flow). IfSome o (HasSidIn (IsIn row.sids))) there (IfSome-lookup_from_All (HasSidIn (IsIn row.sids)) (is_at (nat_cmp k)) flows (sids-each (IsIn row.sids) flows are.sids))

    kept_sid : (sid : Option ℕ) → ((n : ℕ) → sid ≡ Some n → old.sid ≡ Some n) → IfSome sid (IsIn row.sids)
    kept_sid None keeps = tt
    kept_sid (Some n) keeps = subst (λ (o : Option ℕ). IfSome o (IsIn row.sids)) (keeps n refl) sid-there

    -- where its SID is the other's, or it has none
    pub MayPut-again : (v : Flow) → ((n : ℕ) → v.sid ≡ Some n → old.sid ≡ Some n) → IsSoundFlow frame v → MayPut row frame flows k v
    MayPut-again v keeps sound = record {
      sfid = All-at (IsIn row.sfids) flows k old are.sfids there;
      sid = kept_sid v.sid keeps;
      own = λ sid b is other. are.own_sids sid b k other (ap sid_if there ∙ keeps sid is);
      sound = sound;
      few = omega (arith, length-insert_there flows k v old are.ascending there, are.few);
    }

  -- ---- a flow that is taken out

  module _ (k : ℕ) where
    left : (c sid : ℕ) → sid_if (flow_at c (without_flow k flows)) ≡ Some sid → sid_if (flow_at c flows) ≡ Some sid
    left c sid is = by (cases_eq c k)
      where
        by : (c ≡ k) ⊎ (c ≡ k → ⊥) → sid_if (flow_at c flows) ≡ Some sid
        by (inl same) = absurd (none-some sid (sym (ap (λ (n : ℕ). sid_if (flow_at n (without_flow k flows))) same ∙ ap sid_if (at-remove_same flows k are.ascending)) ∙ is))
        by (inr apart) = ap sid_if (sym (at-remove_other c k apart flows)) ∙ is

    pub without-AreFlows : AreFlows row frame (without_flow k flows)
    without-AreFlows = record {
      ascending = ascending-remove flows k are.ascending;
      sfids = All-map-remove_entry (is_at (nat_cmp k)) (λ e. e.0) (IsIn row.sfids) flows are.sfids;
      sids = each-sids (IsIn row.sids) (without_flow k flows) (All-map-remove_entry (is_at (nat_cmp k)) (λ e. e.1) (HasSidIn (IsIn row.sids)) flows (sids-each (IsIn row.sids) flows are.sids));
      own_sids = λ sid a b at_a at_b. are.own_sids sid a b (left a sid at_a) (left b sid at_b);
      each = All-map-remove_entry (is_at (nat_cmp k)) (λ e. e.1) (IsSoundFlow frame) flows are.each;
      few = omega (arith, length-remove flows k, are.few);
    }

-- ---- what is committed

-- no more than these flows have committed
pub record CommitLess (units : UnitSizes) (after before : List (ℕ × Flow)) : Type 0 where
  pub minislots : committed_minislots units after ≤ committed_minislots units before
  pub elements : committed_elements units after ≤ committed_elements units before

pub same-CommitLess : (units : UnitSizes) (flows : List (ℕ × Flow)) → CommitLess units flows flows
same-CommitLess units flows = record { minislots = omega arith; elements = omega arith }

pub then-CommitLess : {units : UnitSizes} {a b c : List (ℕ × Flow)} → CommitLess units a b → CommitLess units b c → CommitLess units a c
then-CommitLess ab bc = record { minislots = omega (arith, ab.minislots, bc.minislots); elements = omega (arith, ab.elements, bc.elements) }

-- a flow that has committed no more than another
pub record CommitsLess (units : UnitSizes) (v old : Flow) : Type 0 where
  pub minislots : (committed_of units v).minislots ≤ (committed_of units old).minislots
  pub elements : (committed_of units v).elements ≤ (committed_of units old).elements

module _ (units : UnitSizes) (flows : List (ℕ × Flow)) (k : ℕ) where
  pub without-CommitLess : CommitLess units (without_flow k flows) flows
  without-CommitLess = record {
    minislots = omega (arith, sum-remove (λ flow. (committed_of units flow).minislots) flows k);
    elements = omega (arith, sum-remove (λ flow. (committed_of units flow).elements) flows k);
  }

  pub put-CommitLess : (v old : Flow) → Ascends flows → flow_at k flows ≡ Some old → CommitsLess units v old → CommitLess units (with_flow k v flows) flows
  put-CommitLess v old s there less = record {
    minislots = omega (arith, sum-insert (λ flow. (committed_of units flow).minislots) flows k v s, weight (λ flow. (committed_of units flow).minislots), less.minislots);
    elements = omega (arith, sum-insert (λ flow. (committed_of units flow).elements) flows k v s, weight (λ flow. (committed_of units flow).elements), less.elements);
  }
    where
      weight : (f : Flow → ℕ) → unwrap_or (option_map f (flow_at k flows)) 0 ≡ f old
      weight f = ap (λ (o : Option Flow). unwrap_or (option_map f o) 0) there
