-- That the index by SID stays equal to the flows.
use Rattle.std.proofs.Common.{◌≡◌, ◌≢◌, ℕ, ◌≤◌, true, false, cond, List, [], ◌∷◌, length, ◌⊎◌, Option, Some, None, IsSome, IfSome, refl, sym, ap, ◌∙◌, subst, arith, inl, inr}
use Rattle.flow_table.proofs.Common.{Contains, cons_option, IsStrictlySortedBy, nat_cmp, remove_entry, keys_of, insert_entry, is_at, cases_eq, eq-eqb, ne_eqb, Contains-append_right, sorted_tail, none-some, same_Some, LedgerView, total_minislots, total_elements, UnitSizes, Flow, committed_of, HaveOwnSids, flow_at, flow_with, sid_if, is_sid, sids_of, with_flow, committed_minislots, committed_elements, IsIndex, IsFlowTable, sfid_at, with_sid_of, without_sid_of, budgets_of}
use Rattle.flow_table.proofs.EntryLemmas.{looked_first, looked_past, none_later, put_here, put_elsewhere, taken_here, taken_elsewhere, ascending_put, ascending_taken, length_put_there, length_taken}
use Rattle.flow_table.proofs.RowLemmas.{rows_put, rows_taken, length_rows, minislots_rows, elements_rows}

-- ---- a SID

pub cases_sid : (sid : ℕ) (o : Option ℕ) → (o ≡ Some sid) ⊎ (o ≢ Some sid)
cases_sid sid None = inr (λ e. none-some sid e)
cases_sid sid (Some n) = elim (cases_eq n sid) [ inl e ↦ inl (ap (λ (m : ℕ). Some m) e) | inr d ↦ inr (λ e. d (same_Some n sid e)) ]

pub is_sid_yes : (sid : ℕ) (o : Option ℕ) → o ≡ Some sid → is_sid sid o ≡ true
is_sid_yes sid o e = ap (is_sid sid) e ∙ eq-eqb sid sid refl

pub is_sid_no : (sid : ℕ) (o : Option ℕ) → o ≢ Some sid → is_sid sid o ≡ false
is_sid_no sid None d = refl
is_sid_no sid (Some n) d = ne_eqb n sid (λ e. d (ap (λ (m : ℕ). Some m) e))

if_some : (P : ℕ → Type 0) (o : Option ℕ) (n : ℕ) → o ≡ Some n → IfSome o P → P n
if_some P o n e h = subst (λ (p : Option ℕ). IfSome p P) e h

-- a SID that a flow has is used
contains_more : (o : Option ℕ) (xs : List ℕ) (x : ℕ) → Contains xs x → Contains (cons_option o xs) x
contains_more None xs x h = h
contains_more (Some n) xs x h = Contains-append_right (n ∷ []) xs x h

contains_first : (o : Option ℕ) (xs : List ℕ) (x : ℕ) → o ≡ Some x → Contains (cons_option o xs) x
contains_first o xs x e = subst (λ (p : Option ℕ). Contains (cons_option p xs) x) (sym e) (0, omega arith, refl)

pub sid_used : (flows : List (ℕ × Flow)) (sfid sid : ℕ) → sid_if (flow_at sfid flows) ≡ Some sid → Contains (sids_of flows) sid
sid_used [] sfid sid h = absurd (none-some sid h)
sid_used (e ∷ es) sfid sid h = elim (cases_eq sfid e.0) [
  | inl same ↦ contains_first e.1.sid (sids_of es) sid (sym (ap sid_if (looked_first e es sfid same)) ∙ h)
  | inr apart ↦ contains_more e.1.sid (sids_of es) sid (sid_used es sfid sid (sym (ap sid_if (looked_past e es sfid apart)) ∙ h))
]

-- ---- the flow that has a SID

pub none_of : (e : ℕ × Flow) (es : List (ℕ × Flow)) (sid b : ℕ) → IsStrictlySortedBy nat_cmp (keys_of (e ∷ es)) → b ≡ e.0 → sid_if (flow_at b es) ≢ Some sid
none_of e es sid b s same h = none-some sid (sym (ap sid_if (ap (λ (n : ℕ). flow_at n es) same ∙ none_later e es s)) ∙ h)

pub found : (sid : ℕ) (flows : List (ℕ × Flow)) (sfid : ℕ) (flow : Flow) → IsStrictlySortedBy nat_cmp (keys_of flows) → flow_at sfid flows ≡ Some flow → flow.sid ≡ Some sid
    → ((b : ℕ) → sid_if (flow_at b flows) ≡ Some sid → b ≡ sfid) → flow_with sid flows ≡ Some (sfid, flow)
found sid [] sfid flow s at has own = absurd (none-some flow at)
found sid (e ∷ es) sfid flow s at has own = elim (cases_eq e.0 sfid) [
  | inl same ↦
      let here : Some e.1 ≡ Some flow = sym (looked_first e es sfid (sym same)) ∙ at in
      let is : e.1 ≡ flow = same_Some e.1 flow here in
      ap (λ b. cond b (Some e) (flow_with sid es)) (is_sid_yes sid e.1.sid (ap (λ (f : Flow). f.sid) is ∙ has))
      ∙ (ap (λ (n : ℕ). Some (n, e.1)) same ∙ ap (λ (f : Flow). Some (sfid, f)) is)
  | inr apart ↦
      ap (λ b. cond b (Some e) (flow_with sid es)) (is_sid_no sid e.1.sid (λ h. apart (own e.0 (ap sid_if (looked_first e es e.0 refl) ∙ h))))
      ∙ found sid es sfid flow (sorted_tail nat_cmp e.0 (keys_of es) s) (sym (looked_past e es sfid (λ h. apart (sym h))) ∙ at) has
      (λ b h. elim (cases_eq b e.0) [
        | inl same ↦ absurd (none_of e es sid b s same h)
        | inr other ↦ own b (ap sid_if (looked_past e es b other) ∙ h)
      ])
]

not_found : (sid : ℕ) (flows : List (ℕ × Flow)) → IsStrictlySortedBy nat_cmp (keys_of flows) → ((b : ℕ) → sid_if (flow_at b flows) ≢ Some sid) → flow_with sid flows ≡ None
not_found sid [] s none = refl
not_found sid (e ∷ es) s none =
    ap (λ b. cond b (Some e) (flow_with sid es)) (is_sid_no sid e.1.sid (λ h. none e.0 (ap sid_if (looked_first e es e.0 refl) ∙ h)))
    ∙ not_found sid es (sorted_tail nat_cmp e.0 (keys_of es) s)
    (λ b h. elim (cases_eq b e.0) [
      | inl same ↦ none_of e es sid b s same h
      | inr other ↦ none b (ap sid_if (looked_past e es b other) ∙ h)
    ])

module _ {flows : List (ℕ × Flow)} {index : List (ℕ × ℕ)} (kept : IsIndex flows index) where
  pub own_sids : HaveOwnSids flows
  own_sids sid a b p q = same_Some a b (sym ((kept.finds sid a).1 p) ∙ (kept.finds sid b).1 q)

  pub with_sid_none : (sid : ℕ) → sfid_at sid index ≡ None → flow_with sid flows ≡ None
  with_sid_none sid none = not_found sid flows kept.ascending (λ b h. none-some b (sym none ∙ (kept.finds sid b).1 h))

  pub with_sid_some : (sid sfid : ℕ) (flow : Flow) → sfid_at sid index ≡ Some sfid → flow_at sfid flows ≡ Some flow → flow_with sid flows ≡ Some (sfid, flow)
  with_sid_some sid sfid flow at is =
      found sid flows sfid flow kept.ascending is (sym (ap sid_if is) ∙ (kept.finds sid sfid).0 at) (λ b h. own_sids sid b sfid h ((kept.finds sid sfid).0 at))

  pub with_sid_there : (sid sfid : ℕ) → sfid_at sid index ≡ Some sfid → flow_at sfid flows ≢ None
  with_sid_there sid sfid at none = none-some sid (sym (ap sid_if none) ∙ (kept.finds sid sfid).0 at)

-- ---- the index after an edit

given_sid : (has : Option ℕ) (index : List (ℕ × ℕ)) (sid sfid : ℕ) → has ≡ Some sid → sfid_at sid (with_sid_of has sfid index) ≡ Some sfid
given_sid has index sid sfid e = ap (λ (o : Option ℕ). sfid_at sid (with_sid_of o sfid index)) e ∙ put_here index sid sfid

other_sid : (has : Option ℕ) (index : List (ℕ × ℕ)) (sid sfid : ℕ) → has ≢ Some sid → sfid_at sid (with_sid_of has sfid index) ≡ sfid_at sid index
other_sid None index sid sfid d = refl
other_sid (Some n) index sid sfid d = put_elsewhere index n sfid sid (λ e. d (ap (λ (m : ℕ). Some m) (sym e)))

ascending_with : (has : Option ℕ) (index : List (ℕ × ℕ)) (sfid : ℕ) → IsStrictlySortedBy nat_cmp (keys_of index) → IsStrictlySortedBy nat_cmp (keys_of (with_sid_of has sfid index))
ascending_with None index sfid s = s
ascending_with (Some n) index sfid s = ascending_put index n sfid s

left_sid : (had has : Option ℕ) (index : List (ℕ × ℕ)) (sid : ℕ) → (has ≡ Some sid) ⊎ (had ≢ Some sid) → sfid_at sid (without_sid_of had has index) ≡ sfid_at sid index
left_sid None has index sid h = refl
left_sid (Some n) has index sid h = elim (cases_sid n has) [
  | inl still ↦ ap (λ b. sfid_at sid (cond b index (remove_entry (is_at (nat_cmp n)) index))) (is_sid_yes n has still)
  | inr gone ↦ ap (λ b. sfid_at sid (cond b index (remove_entry (is_at (nat_cmp n)) index))) (is_sid_no n has gone)
      ∙ taken_elsewhere index n sid (λ e. elim h [ inl now ↦ gone (now ∙ ap (λ (m : ℕ). Some m) e) | inr never ↦ never (ap (λ (m : ℕ). Some m) (sym e)) ])
]

gone_sid : (had has : Option ℕ) (index : List (ℕ × ℕ)) (sid : ℕ) → IsStrictlySortedBy nat_cmp (keys_of index) → had ≡ Some sid → has ≢ Some sid → sfid_at sid (without_sid_of had has index) ≡ None
gone_sid had has index sid s e d =
    ap (λ (o : Option ℕ). sfid_at sid (without_sid_of o has index)) e
    ∙ (ap (λ b. sfid_at sid (cond b index (remove_entry (is_at (nat_cmp sid)) index))) (is_sid_no sid has d) ∙ taken_here index sid s)

ascending_without : (had has : Option ℕ) (index : List (ℕ × ℕ)) → IsStrictlySortedBy nat_cmp (keys_of index) → IsStrictlySortedBy nat_cmp (keys_of (without_sid_of had has index))
ascending_without None has index s = s
ascending_without (Some n) has index s = elim (cases_sid n has) [
  | inl still ↦ subst (λ b. IsStrictlySortedBy nat_cmp (keys_of (cond b index (remove_entry (is_at (nat_cmp n)) index)))) (sym (is_sid_yes n has still)) s
  | inr gone ↦ subst (λ b. IsStrictlySortedBy nat_cmp (keys_of (cond b index (remove_entry (is_at (nat_cmp n)) index)))) (sym (is_sid_no n has gone)) (ascending_taken index n s)
]

-- what an edit at one SFID makes of the flows and of the index, where the flow there has this SID from now on
record Edited (flows after : List (ℕ × Flow)) (index index_after : List (ℕ × ℕ)) (sfid : ℕ) (has : Option ℕ) : Type 0 where
  free : (sid b : ℕ) → has ≡ Some sid → sid_if (flow_at b flows) ≡ Some sid → b ≡ sfid
  here : sid_if (flow_at sfid after) ≡ has
  others : (q : ℕ) → q ≢ sfid → flow_at q after ≡ flow_at q flows
  given : (sid : ℕ) → has ≡ Some sid → sfid_at sid index_after ≡ Some sfid
  gone : (sid : ℕ) → has ≢ Some sid → sid_if (flow_at sfid flows) ≡ Some sid → sfid_at sid index_after ≡ None
  left : (sid : ℕ) → has ≢ Some sid → sid_if (flow_at sfid flows) ≢ Some sid → sfid_at sid index_after ≡ sfid_at sid index
  ascending : IsStrictlySortedBy nat_cmp (keys_of after)
  sids_ascend : IsStrictlySortedBy nat_cmp (keys_of index_after)

module _ {flows after : List (ℕ × Flow)} {index index_after : List (ℕ × ℕ)} {sfid : ℕ} {has : Option ℕ} (kept : IsIndex flows index) (edit : Edited flows after index index_after sfid has) where
  finds_flow : (sid b : ℕ) → sfid_at sid index_after ≡ Some b → sid_if (flow_at b after) ≡ Some sid
  finds_flow sid b h = elim (cases_sid sid has) [
    | inl now ↦ ap (λ (n : ℕ). sid_if (flow_at n after)) (same_Some b sfid (sym h ∙ edit.given sid now)) ∙ (edit.here ∙ now)
    | inr apart ↦ elim (cases_sid sid (sid_if (flow_at sfid flows))) [
      | inl had ↦ absurd (none-some b (sym (edit.gone sid apart had) ∙ h))
      | inr never ↦
          let was : sid_if (flow_at b flows) ≡ Some sid = (kept.finds sid b).0 (sym (edit.left sid apart never) ∙ h) in
          ap sid_if (edit.others b (λ same. never (sym (ap (λ (n : ℕ). sid_if (flow_at n flows)) same) ∙ was))) ∙ was
    ]
  ]

  finds_sid : (sid b : ℕ) → sid_if (flow_at b after) ≡ Some sid → sfid_at sid index_after ≡ Some b
  finds_sid sid b h = elim (cases_eq b sfid) [
    | inl same ↦ edit.given sid (sym edit.here ∙ (sym (ap (λ (n : ℕ). sid_if (flow_at n after)) same) ∙ h)) ∙ ap (λ (n : ℕ). Some n) (sym same)
    | inr apart ↦
        let was : sid_if (flow_at b flows) ≡ Some sid = sym (ap sid_if (edit.others b apart)) ∙ h in
        edit.left sid (λ now. apart (edit.free sid b now was)) (λ had. apart (own_sids kept sid b sfid was had)) ∙ (kept.finds sid b).1 was
  ]

  edited : IsIndex after index_after
  edited = record { ascending = edit.ascending; sids_ascend = edit.sids_ascend; finds = λ sid b. (finds_flow sid b, finds_sid sid b) }

module _ {flows : List (ℕ × Flow)} {index : List (ℕ × ℕ)} (kept : IsIndex flows index) (sfid : ℕ) where
  pub index_put : (flow : Flow) → IfSome flow.sid (λ sid. (¬ Contains (sids_of flows) sid) ⊎ (sid_if (flow_at sfid flows) ≡ Some sid))
      → IsIndex (with_flow sfid flow flows) (without_sid_of (sid_if (flow_at sfid flows)) flow.sid (with_sid_of flow.sid sfid index))
  index_put flow may = edited {has = flow.sid} kept (record {
    free = λ sid b now was. elim (if_some (λ n. (¬ Contains (sids_of flows) n) ⊎ (sid_if (flow_at sfid flows) ≡ Some n)) flow.sid sid now may) [
      | inl unused ↦ absurd (unused (sid_used flows b sid was))
      | inr own ↦ own_sids kept sid b sfid was own
    ];
    here = ap sid_if (put_here flows sfid flow);
    others = put_elsewhere flows sfid flow;
    given = λ sid now. left_sid (sid_if (flow_at sfid flows)) flow.sid (with_sid_of flow.sid sfid index) sid (inl now) ∙ given_sid flow.sid index sid sfid now;
    gone = λ sid apart was. gone_sid (sid_if (flow_at sfid flows)) flow.sid (with_sid_of flow.sid sfid index) sid (ascending_with flow.sid index sfid kept.sids_ascend) was apart;
    left = λ sid apart never. left_sid (sid_if (flow_at sfid flows)) flow.sid (with_sid_of flow.sid sfid index) sid (inr never) ∙ other_sid flow.sid index sid sfid apart;
    ascending = ascending_put flows sfid flow kept.ascending;
    sids_ascend = ascending_without (sid_if (flow_at sfid flows)) flow.sid (with_sid_of flow.sid sfid index) (ascending_with flow.sid index sfid kept.sids_ascend);
  })

  pub index_changed : (flow : Flow) → IfSome flow.sid (λ sid. sid_if (flow_at sfid flows) ≡ Some sid)
      → IsIndex (with_flow sfid flow flows) (without_sid_of (sid_if (flow_at sfid flows)) flow.sid index)
  index_changed flow own = edited {has = flow.sid} kept (record {
    free = λ sid b now was. own_sids kept sid b sfid was (if_some (λ n. sid_if (flow_at sfid flows) ≡ Some n) flow.sid sid now own);
    here = ap sid_if (put_here flows sfid flow);
    others = put_elsewhere flows sfid flow;
    given = λ sid now. left_sid (sid_if (flow_at sfid flows)) flow.sid index sid (inl now) ∙ (kept.finds sid sfid).1 (if_some (λ n. sid_if (flow_at sfid flows) ≡ Some n) flow.sid sid now own);
    gone = λ sid apart was. gone_sid (sid_if (flow_at sfid flows)) flow.sid index sid kept.sids_ascend was apart;
    left = λ sid apart never. left_sid (sid_if (flow_at sfid flows)) flow.sid index sid (inr never);
    ascending = ascending_put flows sfid flow kept.ascending;
    sids_ascend = ascending_without (sid_if (flow_at sfid flows)) flow.sid index kept.sids_ascend;
  })

  pub index_taken : IsIndex (remove_entry (is_at (nat_cmp sfid)) flows) (without_sid_of (sid_if (flow_at sfid flows)) None index)
  index_taken = edited {has = None} kept (record {
    free = λ sid b now was. absurd (none-some sid now);
    here = ap sid_if (taken_here flows sfid kept.ascending);
    others = taken_elsewhere flows sfid;
    given = λ sid now. absurd (none-some sid now);
    gone = λ sid apart was. gone_sid (sid_if (flow_at sfid flows)) None index sid kept.sids_ascend was apart;
    left = λ sid apart never. left_sid (sid_if (flow_at sfid flows)) None index sid (inr never);
    ascending = ascending_taken flows sfid kept.ascending;
    sids_ascend = ascending_without (sid_if (flow_at sfid flows)) None index kept.sids_ascend;
  })

-- ---- the table after an edit

module _ {capacity : ℕ} {units : UnitSizes} {flows : List (ℕ × Flow)} {index : List (ℕ × ℕ)} {ledger : LedgerView} (kept : IsFlowTable capacity units flows index ledger) (sfid : ℕ) where
  rows_after : (flow : Flow) → insert_entry nat_cmp ledger.rows sfid (committed_of units flow) ≡ budgets_of units (with_flow sfid flow flows)
  rows_after flow = ap (λ (l : List _). insert_entry nat_cmp l sfid (committed_of units flow)) kept.rows ∙ rows_put units flows sfid flow

  -- there is room for the row
  pub row_room : (flow : Flow) → length (with_flow sfid flow flows) ≤ capacity → length (insert_entry nat_cmp ledger.rows sfid (committed_of units flow)) ≤ ledger.room
  row_room flow room = omega (arith, ap length (rows_after flow), length_rows units (with_flow sfid flow flows), kept.room)

  pub minislots_after : (flow : Flow) → total_minislots (insert_entry nat_cmp ledger.rows sfid (committed_of units flow)) ≡ committed_minislots units (with_flow sfid flow flows)
  minislots_after flow = ap total_minislots (rows_after flow) ∙ minislots_rows units (with_flow sfid flow flows)

  pub elements_after : (flow : Flow) → total_elements (insert_entry nat_cmp ledger.rows sfid (committed_of units flow)) ≡ committed_elements units (with_flow sfid flow flows)
  elements_after flow = ap total_elements (rows_after flow) ∙ elements_rows units (with_flow sfid flow flows)

  pub changed_room : (flow : Flow) → IsSome (flow_at sfid flows) → length (with_flow sfid flow flows) ≤ capacity
  changed_room flow there = omega (arith, kept.within, length_put_there flows sfid flow kept.indexed.ascending there)

  pub table_put : (flow : Flow) (index_after : List (ℕ × ℕ)) → length (with_flow sfid flow flows) ≤ capacity → IsIndex (with_flow sfid flow flows) index_after
      → IsFlowTable capacity units (with_flow sfid flow flows) index_after (record { room = ledger.room; rows = insert_entry nat_cmp ledger.rows sfid (committed_of units flow) })
  table_put flow index_after room indexed = record { within = room; indexed = indexed; room = kept.room; rows = rows_after flow }

  pub table_taken : (index_after : List (ℕ × ℕ)) → IsIndex (remove_entry (is_at (nat_cmp sfid)) flows) index_after
      → IsFlowTable capacity units (remove_entry (is_at (nat_cmp sfid)) flows) index_after (record { room = ledger.room; rows = remove_entry (is_at (nat_cmp sfid)) ledger.rows })
  table_taken index_after indexed = record {
    within = omega (arith, kept.within, length_taken flows sfid);
    indexed = indexed;
    room = kept.room;
    rows = ap (λ (l : List _). remove_entry (is_at (nat_cmp sfid)) l) kept.rows ∙ rows_taken units flows sfid;
  }
