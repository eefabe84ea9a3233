-- That a table stays one where a flow's backlog changes.
use Rattle.std.proofs.Common.{◌≡◌, ◌≤◌, ℕ, cond, List, length, Option, Some, None, IsSome, IfSome, refl, sym, ap, ◌∙◌, subst, arith}
use Rattle.flow_table.proofs.Common.{nat_cmp, remove_entry, insert_entry, is_at, none-some, same_Some, LedgerView, UnitSizes, Flow, Moved, activity_of, committed_of, flow_at, sid_if, with_flow, IsIndex, IsFlowTable, without_sid_of, budgets_of, change_if, change_at, told_of}
use Rattle.flow_table.proofs.EntryLemmas.{put_same, length_put_there}
use Rattle.flow_table.proofs.RowLemmas.{rows_put}
use Rattle.flow_table.proofs.IndexLemmas.{index_changed, is_sid_yes, changed_room, row_room, table_put}

-- the index without a SID that the flow has still
same_index : (o : Option ℕ) (index : List (ℕ × ℕ)) → without_sid_of o o index ≡ index
same_index None index = refl
same_index (Some sid) index = ap (λ b. cond b index (remove_entry (is_at (nat_cmp sid)) index)) (is_sid_yes sid (Some sid) refl)

still : (o : Option ℕ) (p : Option ℕ) → p ≡ o → IfSome o (λ sid. p ≡ Some sid)
still None p e = tt
still (Some sid) p e = e

module _ {capacity : ℕ} {units : UnitSizes} {flows : List (ℕ × Flow)} {index : List (ℕ × ℕ)} {ledger : LedgerView} (kept : IsFlowTable capacity units flows index ledger) (sfid : ℕ) (change : Flow → Flow) where
  some_moved : (old : Flow) → flow_at sfid flows ≡ Some old → (change old).sid ≡ old.sid → committed_of units (change old) ≡ committed_of units old
      → IsFlowTable capacity units (with_flow sfid (change old) flows) index ledger
  some_moved old at sid committed =
      let had : sid_if (flow_at sfid flows) ≡ (change old).sid = ap sid_if at ∙ sym sid in
      let there : IsSome (flow_at sfid flows) = subst IsSome (sym at) refl in
      let rows : budgets_of units (with_flow sfid (change old) flows) ≡ budgets_of units flows =
      sym (rows_put units flows sfid (change old)) ∙ (ap (λ b. insert_entry nat_cmp (budgets_of units flows) sfid b) committed
      ∙ (rows_put units flows sfid old ∙ ap (budgets_of units) (put_same flows sfid old kept.indexed.ascending at))) in
      record {
        within = omega (arith, kept.within, length_put_there flows sfid (change old) kept.indexed.ascending there);
        indexed = subst (λ (l : List (ℕ × ℕ)). IsIndex (with_flow sfid (change old) flows) l)
            (ap (λ (o : Option ℕ). without_sid_of o (change old).sid index) had ∙ same_index (change old).sid index)
            (index_changed kept.indexed sfid (change old) (still (change old).sid (sid_if (flow_at sfid flows)) had));
        room = kept.room;
        rows = kept.rows ∙ sym rows;
      }

  pub table_moved : ((f : Flow) → (change f).sid ≡ f.sid) → ((f : Flow) → committed_of units (change f) ≡ committed_of units f)
      → IsFlowTable capacity units (change_at sfid change flows) index ledger
  table_moved sid committed = by (flow_at sfid flows) refl
    where
      by : (o : Option Flow) → flow_at sfid flows ≡ o → IsFlowTable capacity units (change_if sfid change flows o) index ledger
      by None at = kept
      by (Some old) at = some_moved old at (sid old) (committed old)

  -- ---- a flow that is changed so that its SID stays or is free, with what is told of that

  pub told_room : (moved : Moved) → Some moved ≡ told_of units change (flow_at sfid flows)
      → length (insert_entry nat_cmp ledger.rows sfid moved.committed) ≤ ledger.room
  told_room moved = by (flow_at sfid flows) refl
    where
      by : (o : Option Flow) → flow_at sfid flows ≡ o → Some moved ≡ told_of units change o
          → length (insert_entry nat_cmp ledger.rows sfid moved.committed) ≤ ledger.room
      by None at told = absurd (none-some moved (sym told))
      by (Some old) at told =
          subst (λ (m : Moved). length (insert_entry nat_cmp ledger.rows sfid m.committed) ≤ ledger.room)
          (sym (same_Some moved (record { had = old.sid; has = (change old).sid; activity = activity_of (change old); committed = committed_of units (change old) }) told))
          (row_room kept sfid (change old) (changed_room kept sfid (change old) (subst IsSome (sym at) refl)))

  pub told_table : ((old : Flow) → flow_at sfid flows ≡ Some old → IfSome (change old).sid (λ sid. sid_if (flow_at sfid flows) ≡ Some sid))
      → (moved : Moved) → Some moved ≡ told_of units change (flow_at sfid flows)
      → IsFlowTable capacity units (change_at sfid change flows) (without_sid_of moved.had moved.has index)
      (record { room = ledger.room; rows = insert_entry nat_cmp ledger.rows sfid moved.committed })
  told_table keeps moved = by (flow_at sfid flows) refl
    where
      by : (o : Option Flow) → flow_at sfid flows ≡ o → Some moved ≡ told_of units change o
          → IsFlowTable capacity units (change_if sfid change flows o) (without_sid_of moved.had moved.has index)
          (record { room = ledger.room; rows = insert_entry nat_cmp ledger.rows sfid moved.committed })
      by None at told = absurd (none-some moved (sym told))
      by (Some old) at told =
          let there : IsSome (flow_at sfid flows) = subst IsSome (sym at) refl in
          let indexed : IsIndex (with_flow sfid (change old) flows) (without_sid_of old.sid (change old).sid index) =
          subst (λ (o : Option ℕ). IsIndex (with_flow sfid (change old) flows) (without_sid_of o (change old).sid index)) (ap sid_if at)
          (index_changed kept.indexed sfid (change old) (keeps old at)) in
          subst (λ (m : Moved). IsFlowTable capacity units (with_flow sfid (change old) flows) (without_sid_of m.had m.has index)
          (record { room = ledger.room; rows = insert_entry nat_cmp ledger.rows sfid m.committed }))
          (sym (same_Some moved (record { had = old.sid; has = (change old).sid; activity = activity_of (change old); committed = committed_of units (change old) }) told))
          (table_put kept sfid (change old) _ (changed_room kept sfid (change old) there) indexed)
