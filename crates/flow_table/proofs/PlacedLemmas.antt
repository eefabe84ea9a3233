-- What the flows at their places are, where a place is looked at or edited, and that the places of the active flows stay theirs.
use Rattle.std.proofs.Common.{◌≡◌, ◌≢◌, ℕ, ◌+◌, ◌<◌, ◌≤◌, true, false, cond, List, [], ◌∷◌, ◌++◌, length, drop, get_or, map, filter, filter_map, Option, Some, None, is_some, IsSome, option_map, refl, sym, ap, ◌∙◌, subst, arith, inl, inr, ◌⊎◌}
use Rattle.std.proofs.lemmas.List.{append_assoc, drop_more}
use Rattle.std.proofs.lemmas.Map.Entries.{lookup-filter-values, option_filter}
use Rattle.std.specs.List.Sorted.{IsStrictlySortedBy}
use Rattle.admission.specs.Place.{StandsAt, IsGap}
use Rattle.slice_scheduler.specs.declared.flowing.Flowing.{Flowing}
use Rattle.flow_table.proofs.Common.{AllByRecursion, Less, nat_cmp, remove_entry, keys_of, lookup, insert_entry, is_at, cases_eq, cases_order, cons_option, nat_cmp_total, eq_by_cmp_equiv, none-some, same_Some, IsDistinct-from_sorted, sorted_tail, length-map, UnitSizes, Flow, Activity, Idle, Active, Moved, activity_of, committed_of, taken_back, without_pending, flows_by, active_by, is_active, place_at, with_activity, ArePlaced, IsFlowRows, IsChangedAt, flow_at, with_flow, flowing_in, flowing_of_set, change_if, change_at, told_of, scheduled_if}
use Rattle.flow_table.proofs.EntryLemmas.{looked_first, looked_past, none_later, none_before, put_here, put_elsewhere, taken_here, taken_elsewhere, taken_none, put_same, ascending_put, ascending_taken, length_put, length_put_there, length_taken}

-- ---- lists of entries by ascending numbers

-- entries that are found the same are the same
same_entries : {X : Type 0} (xs ys : List (ℕ × X)) → IsStrictlySortedBy nat_cmp (keys_of xs) → IsStrictlySortedBy nat_cmp (keys_of ys)
    → ((q : ℕ) → lookup (is_at (nat_cmp q)) xs ≡ lookup (is_at (nat_cmp q)) ys) → xs ≡ ys
same_entries [] [] s t h = refl
same_entries [] (y ∷ ys) s t h = absurd (none-some y.1 (h y.0 ∙ looked_first y ys y.0 refl))
same_entries (x ∷ xs) [] s t h = absurd (none-some x.1 (sym (h x.0) ∙ looked_first x xs x.0 refl))
same_entries {X} (x ∷ xs) (y ∷ ys) s t h = elim (cases_order x.0 y.0) [
  | inl same ↦
      let value : x.1 ≡ y.1 = same_Some x.1 y.1 (sym (looked_first x xs x.0 refl) ∙ (h x.0 ∙ looked_first y ys x.0 same)) in
      let tails : (q : ℕ) → lookup (is_at (nat_cmp q)) xs ≡ lookup (is_at (nat_cmp q)) ys = λ q. elim (cases_eq q x.0) [
        | inl here ↦ ap (λ (n : ℕ). lookup (is_at (nat_cmp n)) xs) here ∙ (none_later x xs s ∙ sym (ap (λ (n : ℕ). lookup (is_at (nat_cmp n)) ys) (here ∙ same) ∙ none_later y ys t))
        | inr apart ↦ sym (looked_past x xs q apart) ∙ (h q ∙ looked_past y ys q (λ e. apart (e ∙ sym same)))
      ] in
      ap (λ (n : ℕ). (n, x.1) ∷ xs) same ∙ (ap (λ (v : X). (y.0, v) ∷ xs) value
      ∙ ap (λ (l : List (ℕ × X)). y ∷ l) (same_entries xs ys (sorted_tail nat_cmp x.0 (keys_of xs) s) (sorted_tail nat_cmp y.0 (keys_of ys) t) tails))
  | inr (inl below) ↦ absurd (none-some x.1 (sym (h x.0 ∙ none_before y ys x.0 t below) ∙ looked_first x xs x.0 refl))
  | inr (inr above) ↦ absurd (none-some y.1 (sym (none_before x xs y.0 s above) ∙ (h y.0 ∙ looked_first y ys y.0 refl)))
]

-- ---- what is found

-- the flow at the place, where there is one
abbrev found : (ℕ → Option Flow) → Option ℕ → Option Flow
found at None = None
found at (Some place) = at place

module _ (at : ℕ → Option Flow) where
  flows_kept : (P : ℕ → Type 0) (es : List (ℕ × ℕ)) → AllByRecursion P (keys_of es) → AllByRecursion P (keys_of (flows_by at es))
  flows_kept P [] a = tt
  flows_kept P (e ∷ es) a =
      elim (at e.1) as (λ (o : Option Flow). AllByRecursion P (keys_of (cons_option (option_map (λ flow. (e.0, flow)) o) (flows_by at es)))) [
        | None ↦ flows_kept P es a.1
        | Some flow ↦ (a.0, flows_kept P es a.1)
      ]

  pub flows_ascend : (es : List (ℕ × ℕ)) → IsStrictlySortedBy nat_cmp (keys_of es) → IsStrictlySortedBy nat_cmp (keys_of (flows_by at es))
  unfolding IsStrictlySortedBy
  flows_ascend [] s = tt
  flows_ascend (e ∷ es) s =
      elim (at e.1) as (λ (o : Option Flow). IsStrictlySortedBy nat_cmp (keys_of (cons_option (option_map (λ flow. (e.0, flow)) o) (flows_by at es)))) [
        | None ↦ flows_ascend es s.1
        | Some flow ↦ (flows_kept (λ y. nat_cmp e.0 y ≡ Less) es s.0, flows_ascend es s.1)
      ]

  pub flow_by : (es : List (ℕ × ℕ)) (q : ℕ) → IsStrictlySortedBy nat_cmp (keys_of es) → flow_at q (flows_by at es) ≡ found at (place_at q es)
  flow_by [] q s = refl
  flow_by (e ∷ es) q s =
      let rest : flow_at q (flows_by at es) ≡ found at (place_at q es) = flow_by es q (sorted_tail nat_cmp e.0 (keys_of es) s) in
      elim (cases_eq q e.0) [
        | inl same ↦
            let none : flow_at q (flows_by at es) ≡ None = rest ∙ ap (found at) (ap (λ (n : ℕ). place_at n es) same ∙ none_later e es s) in
            first same none (at e.1) refl ∙ sym (ap (found at) (looked_first e es q same))
        | inr apart ↦ past apart (at e.1) ∙ (rest ∙ sym (ap (found at) (looked_past e es q apart)))
      ]
    where
      first : q ≡ e.0 → flow_at q (flows_by at es) ≡ None → (o : Option Flow) → at e.1 ≡ o → flow_at q (cons_option (option_map (λ flow. (e.0, flow)) o) (flows_by at es)) ≡ at e.1
      first same none None is = none ∙ sym is
      first same none (Some flow) is = looked_first (e.0, flow) (flows_by at es) q same ∙ sym is

      past : q ≢ e.0 → (o : Option Flow) → flow_at q (cons_option (option_map (λ flow. (e.0, flow)) o) (flows_by at es)) ≡ flow_at q (flows_by at es)
      past apart None = refl
      past apart (Some flow) = looked_past (e.0, flow) (flows_by at es) q apart

  keys_by : (es : List (ℕ × ℕ)) → IsStrictlySortedBy nat_cmp (keys_of es) → ((q p : ℕ) → place_at q es ≡ Some p → IsSome (at p))
      → keys_of (flows_by at es) ≡ keys_of es
  keys_by [] s there = refl
  keys_by (e ∷ es) s there =
      let rest : keys_of (flows_by at es) ≡ keys_of es = keys_by es (sorted_tail nat_cmp e.0 (keys_of es) s)
      (λ q p is. there q p (looked_past e es q (λ same. none-some p (sym (ap (λ (n : ℕ). place_at n es) same ∙ none_later e es s) ∙ is)) ∙ is)) in
      first (at e.1) (there e.0 e.1 (looked_first e es e.0 refl)) rest
    where
      first : (o : Option Flow) → IsSome o → keys_of (flows_by at es) ≡ keys_of es → keys_of (cons_option (option_map (λ flow. (e.0, flow)) o) (flows_by at es)) ≡ e.0 ∷ keys_of es
      first None some rest = absurd (cc)
      first (Some flow) some rest = ap (λ (ks : List ℕ). e.0 ∷ ks) rest

  active_kept : (P : ℕ → Type 0) (es : List (ℕ × ℕ)) → AllByRecursion P (keys_of es) → AllByRecursion P (keys_of (active_by at es))
  active_kept P [] a = tt
  active_kept P (e ∷ es) a =
      elim (is_active (at e.1)) as (λ b. AllByRecursion P (keys_of (cond b (e ∷ active_by at es) (active_by at es)))) [
        | true ↦ (a.0, active_kept P es a.1)
        | false ↦ active_kept P es a.1
      ]

  active_sorted : (es : List (ℕ × ℕ)) → IsStrictlySortedBy nat_cmp (keys_of es) → IsStrictlySortedBy nat_cmp (keys_of (active_by at es))
  unfolding IsStrictlySortedBy
  active_sorted [] s = tt
  active_sorted (e ∷ es) s =
      elim (is_active (at e.1)) as (λ b. IsStrictlySortedBy nat_cmp (keys_of (cond b (e ∷ active_by at es) (active_by at es)))) [
        | true ↦ (active_kept (λ y. nat_cmp e.0 y ≡ Less) es s.0, active_sorted es s.1)
        | false ↦ active_sorted es s.1
      ]

  active_few : (es : List (ℕ × ℕ)) → length (active_by at es) ≤ length es
  active_few [] = omega arith
  active_few (e ∷ es) =
      elim (is_active (at e.1)) as (λ b. length (cond b (e ∷ active_by at es) (active_by at es)) ≤ length (e ∷ es)) [
        | true ↦ omega (arith, active_few es)
        | false ↦ omega (arith, active_few es)
      ]

  active_at : (es : List (ℕ × ℕ)) (q : ℕ) → IsStrictlySortedBy nat_cmp (keys_of es) → lookup (is_at (nat_cmp q)) (active_by at es) ≡ option_filter (λ p. is_active (at p)) (place_at q es)
  active_at es q s = lookup-filter-values (eq_by_cmp_equiv nat_cmp_total) (λ (p : ℕ). is_active (at p)) q es (IsDistinct-from_sorted nat_cmp _ s)

-- ---- what placed flows are

module _ {at : ℕ → Option Flow} {places : List (ℕ × ℕ)} (placed : ArePlaced at places) where
  pub placed_keys : keys_of (flows_by at places) ≡ keys_of places
  placed_keys = keys_by at places placed.ascending placed.there

  pub placed_length : length (flows_by at places) ≡ length places
  placed_length = sym (length-map (flows_by at places) (λ (e : ℕ × Flow). e.0)) ∙ (ap length placed_keys ∙ length-map places (λ (e : ℕ × ℕ). e.0))

  pub placed_at : (sfid place : ℕ) → place_at sfid places ≡ Some place → flow_at sfid (flows_by at places) ≡ at place
  placed_at sfid place is = flow_by at places sfid placed.ascending ∙ ap (found at) is

  pub placed_none : (sfid : ℕ) → place_at sfid places ≡ None → flow_at sfid (flows_by at places) ≡ None
  placed_none sfid is = flow_by at places sfid placed.ascending ∙ ap (found at) is

-- ---- after an edit of the place of one SFID, or of the flow there

abbrev row_of : ℕ → Activity → Option ℕ
row_of place Idle = None
row_of place Active = Some place

row_is : (place : ℕ) (flow : Flow) → row_of place (activity_of flow) ≡ cond (is_active (Some flow)) (Some place) None
row_is place flow = elim flow.sets.active as (λ o. row_of place (cond (is_some o) Active Idle) ≡ cond (is_some o) (Some place) None) [ None ↦ refl | Some set ↦ refl ]

module _ (sfid place : ℕ) (rows : List (ℕ × ℕ)) (s : IsStrictlySortedBy nat_cmp (keys_of rows)) where
  marked_here : (activity : Activity) → lookup (is_at (nat_cmp sfid)) (with_activity sfid place activity rows) ≡ row_of place activity
  marked_here Idle = taken_here rows sfid s
  marked_here Active = put_here rows sfid place

  marked_elsewhere : (activity : Activity) (q : ℕ) → q ≢ sfid → lookup (is_at (nat_cmp q)) (with_activity sfid place activity rows) ≡ lookup (is_at (nat_cmp q)) rows
  marked_elsewhere Idle q apart = taken_elsewhere rows sfid q apart
  marked_elsewhere Active q apart = put_elsewhere rows sfid place q apart

  marked_ascend : (activity : Activity) → IsStrictlySortedBy nat_cmp (keys_of (with_activity sfid place activity rows))
  marked_ascend Idle = ascending_taken rows sfid s
  marked_ascend Active = ascending_put rows sfid place s

  pub marked_length : (activity : Activity) → length (with_activity sfid place activity rows) ≤ length rows + 1
  marked_length Idle = omega (arith, length_taken rows sfid)
  marked_length Active = length_put rows sfid place

-- a row that stands already, and one that does not
pub row_stands : (rows : List (ℕ × ℕ)) (sfid place row : ℕ) → IsStrictlySortedBy nat_cmp (keys_of rows) → StandsAt rows sfid row
    → ((p : ℕ) → lookup (is_at (nat_cmp sfid)) rows ≡ Some p → p ≡ place) → rows ≡ insert_entry nat_cmp rows sfid place
row_stands rows sfid place row s stands same =
    sym (put_same rows sfid place s (stands.there (sfid, place) ∙ ap (λ (p : ℕ). Some p) (same _ (stands.there (sfid, place)))))

pub row_gap : (rows : List (ℕ × ℕ)) (sfid row : ℕ) → IsGap rows sfid row → rows ≡ remove_entry (is_at (nat_cmp sfid)) rows
row_gap rows sfid row gap = sym (taken_none rows sfid gap.absent)

module _ {at after : ℕ → Option Flow} (places left : List (ℕ × ℕ)) (sfid : ℕ) (s : IsStrictlySortedBy nat_cmp (keys_of places)) (t : IsStrictlySortedBy nat_cmp (keys_of left))
    (stay : (q : ℕ) → q ≢ sfid → place_at q left ≡ place_at q places) (keep : (q p : ℕ) → q ≢ sfid → place_at q places ≡ Some p → after p ≡ at p) where
  found_elsewhere : (q : ℕ) → q ≢ sfid → found after (place_at q left) ≡ found at (place_at q places)
  found_elsewhere q apart = ap (found after) (stay q apart) ∙ by (place_at q places) refl
    where
      by : (o : Option ℕ) → place_at q places ≡ o → found after o ≡ found at o
      by None is = refl
      by (Some p) is = keep q p apart is

  flow_elsewhere : (q : ℕ) → q ≢ sfid → flow_at q (flows_by after left) ≡ flow_at q (flows_by at places)
  flow_elsewhere q apart = flow_by after left q t ∙ (found_elsewhere q apart ∙ sym (flow_by at places q s))

  active_elsewhere : (q : ℕ) → q ≢ sfid → lookup (is_at (nat_cmp q)) (active_by after left) ≡ lookup (is_at (nat_cmp q)) (active_by at places)
  active_elsewhere q apart =
      active_at after left q t ∙ (ap (option_filter (λ p. is_active (after p))) (stay q apart) ∙ (by (place_at q places) refl ∙ sym (active_at at places q s)))
    where
      by : (o : Option ℕ) → place_at q places ≡ o → option_filter (λ p. is_active (after p)) o ≡ option_filter (λ p. is_active (at p)) o
      by None is = refl
      by (Some p) is = ap (λ (o : Option Flow). cond (is_active o) (Some p) None) (keep q p apart is)

  pub flows_put : (flow : Flow) → found after (place_at sfid left) ≡ Some flow → flows_by after left ≡ with_flow sfid flow (flows_by at places)
  flows_put flow here =
      let flows = flows_by at places in
      same_entries (flows_by after left) (with_flow sfid flow flows) (flows_ascend after left t) (ascending_put flows sfid flow (flows_ascend at places s))
      (λ q. elim (cases_eq q sfid) [
        | inl same ↦ subst (λ (n : ℕ). flow_at n (flows_by after left) ≡ flow_at n (with_flow sfid flow flows)) (sym same)
            (flow_by after left sfid t ∙ (here ∙ sym (put_here flows sfid flow)))
        | inr apart ↦ flow_elsewhere q apart ∙ sym (put_elsewhere flows sfid flow q apart)
      ])

  pub flows_taken : found after (place_at sfid left) ≡ None → flows_by after left ≡ remove_entry (is_at (nat_cmp sfid)) (flows_by at places)
  flows_taken here =
      let flows = flows_by at places in
      let sorted = flows_ascend at places s in
      same_entries (flows_by after left) (remove_entry (is_at (nat_cmp sfid)) flows) (flows_ascend after left t) (ascending_taken flows sfid sorted)
      (λ q. elim (cases_eq q sfid) [
        | inl same ↦ subst (λ (n : ℕ). flow_at n (flows_by after left) ≡ flow_at n (remove_entry (is_at (nat_cmp sfid)) flows)) (sym same)
            (flow_by after left sfid t ∙ (here ∙ sym (taken_here flows sfid sorted)))
        | inr apart ↦ flow_elsewhere q apart ∙ sym (taken_elsewhere flows sfid q apart)
      ])

  pub active_put : (place : ℕ) (activity : Activity) → row_of place activity ≡ option_filter (λ p. is_active (after p)) (place_at sfid left)
      → with_activity sfid place activity (active_by at places) ≡ active_by after left
  active_put place activity here =
      let rows = active_by at places in
      let sorted = active_sorted at places s in
      same_entries (with_activity sfid place activity rows) (active_by after left) (marked_ascend sfid place rows sorted activity) (active_sorted after left t)
      (λ q. elim (cases_eq q sfid) [
        | inl same ↦ subst (λ (n : ℕ). lookup (is_at (nat_cmp n)) (with_activity sfid place activity rows) ≡ lookup (is_at (nat_cmp n)) (active_by after left)) (sym same)
            (marked_here sfid place rows sorted activity ∙ (here ∙ sym (active_at after left sfid t)))
        | inr apart ↦ marked_elsewhere sfid place rows sorted activity q apart ∙ sym (active_elsewhere q apart)
      ])

  pub active_same : option_filter (λ p. is_active (after p)) (place_at sfid left) ≡ option_filter (λ p. is_active (at p)) (place_at sfid places)
      → active_by at places ≡ active_by after left
  active_same here =
      same_entries (active_by at places) (active_by after left) (active_sorted at places s) (active_sorted after left t)
      (λ q. elim (cases_eq q sfid) [
        | inl same ↦ subst (λ (n : ℕ). lookup (is_at (nat_cmp n)) (active_by at places) ≡ lookup (is_at (nat_cmp n)) (active_by after left)) (sym same)
            (active_at at places sfid s ∙ (sym here ∙ sym (active_at after left sfid t)))
        | inr apart ↦ sym (active_elsewhere q apart)
      ])

-- ---- the rows of the active flows

module _ {at : ℕ → Option Flow} {places active : List (ℕ × ℕ)} {room : ℕ} (kept : IsFlowRows at places active room) where
  pub active_ascends : IsStrictlySortedBy nat_cmp (keys_of active)
  active_ascends = subst (λ (l : List (ℕ × ℕ)). IsStrictlySortedBy nat_cmp (keys_of l)) (sym kept.rows) (active_sorted at places kept.placed.ascending)

  -- the row of an SFID has its place
  pub active_place : (sfid place p : ℕ) → place_at sfid places ≡ Some place → lookup (is_at (nat_cmp sfid)) active ≡ Some p → p ≡ place
  active_place sfid place p is row =
      by (is_active (at place)) (sym (ap (option_filter (λ p. is_active (at p))) is) ∙ (sym (active_at at places sfid kept.placed.ascending) ∙ (sym (ap (lookup (is_at (nat_cmp sfid))) kept.rows) ∙ row)))
    where
      by : (b : _) → cond b (Some place) None ≡ Some p → p ≡ place
      by true e = sym (same_Some place p e)
      by false e = absurd (none-some p e)

  -- an SFID without a place has no row
  pub active_absent : (sfid p : ℕ) → place_at sfid places ≡ None → lookup (is_at (nat_cmp sfid)) active ≢ Some p
  active_absent sfid p is row =
      none-some p (sym (ap (option_filter (λ p. is_active (at p))) is) ∙ (sym (active_at at places sfid kept.placed.ascending) ∙ (sym (ap (lookup (is_at (nat_cmp sfid))) kept.rows) ∙ row)))

  pub active_short : length active ≤ length places
  active_short = omega (arith, ap length kept.rows, active_few at places)

  pub kept_more : {more : ℕ} → room ≤ more → IsFlowRows at places active more
  kept_more le = record { placed = kept.placed; rows = kept.rows; room_for_each = omega (arith, kept.room_for_each, le) }

  pub new_room : (sfid place : ℕ) (activity : Activity) (more : ℕ) → length places + 1 ≤ more → length (with_activity sfid place activity active) ≤ more
  new_room sfid place activity more le = omega (arith, le, active_short, marked_length sfid place active active_ascends activity)

  pub gone_room : (sfid : ℕ) → length (remove_entry (is_at (nat_cmp sfid)) active) ≤ room
  gone_room sfid = omega (arith, kept.room_for_each, active_short, length_taken active sfid)

-- ---- the flow at the place of an SFID is changed

module _ {at after : ℕ → Option Flow} {places active : List (ℕ × ℕ)} {room : ℕ} (kept : IsFlowRows at places active room) where
  module _ (sfid place : ℕ) (is : place_at sfid places ≡ Some place) (change : Flow → Flow) (changed : IsChangedAt place change at after) where
    stays : (q : ℕ) → q ≢ sfid → place_at q places ≡ place_at q places
    stays q apart = refl

    keeps : (q p : ℕ) → q ≢ sfid → place_at q places ≡ Some p → after p ≡ at p
    keeps q p apart there = changed.others p (λ (same : p ≡ place). apart (kept.placed.own q sfid place (there ∙ ap (λ (n : ℕ). Some n) same) is))

    old_is : IsSome (at place)
    old_is = kept.placed.there sfid place is

    pub changed_placed : ArePlaced after places
    changed_placed = record {
      ascending = kept.placed.ascending;
      there = λ q p found_there. elim (cases_eq p place) [
        | inl same ↦ subst (λ (n : ℕ). IsSome (after n)) (sym same) (subst IsSome (sym changed.here) (mapped (at place) old_is))
        | inr apart ↦ subst IsSome (sym (changed.others p apart)) (kept.placed.there q p found_there)
      ];
      own = kept.placed.own;
    }
      where
        mapped : (o : Option Flow) → IsSome o → IsSome (option_map change o)
        mapped None some = absurd (cc)
        mapped (Some flow) some = refl

    pub changed_flows : flows_by after places ≡ change_at sfid change (flows_by at places)
    changed_flows = by (at place) refl old_is
      where
        by : (o : Option Flow) → at place ≡ o → IsSome o → flows_by after places ≡ change_at sfid change (flows_by at places)
        by None old some = absurd (cc)
        by (Some flow) old some =
            flows_put places places sfid kept.placed.ascending kept.placed.ascending stays keeps (change flow) (ap (found after) is ∙ (changed.here ∙ ap (option_map change) old))
            ∙ sym (ap (change_if sfid change (flows_by at places)) (placed_at kept.placed sfid place is ∙ old))

    -- whatever flow stood there, the new one is this
    pub written_flows : (flow : Flow) → ((old : Flow) → change old ≡ flow) → flows_by after places ≡ with_flow sfid flow (flows_by at places)
    written_flows flow same = by (at place) refl old_is
      where
        by : (o : Option Flow) → at place ≡ o → IsSome o → flows_by after places ≡ with_flow sfid flow (flows_by at places)
        by None old some = absurd (cc)
        by (Some was) old some =
            flows_put places places sfid kept.placed.ascending kept.placed.ascending stays keeps flow
            (ap (found after) is ∙ (changed.here ∙ (ap (option_map change) old ∙ ap (λ (f : Flow). Some f) (same was))))

    -- the flow is active as before
    pub changed_same : ((f : Flow) → activity_of (change f) ≡ activity_of f) → IsFlowRows after places active room
    changed_same same = record {
      placed = changed_placed;
      rows = kept.rows ∙ active_same places places sfid kept.placed.ascending kept.placed.ascending stays keeps
          (ap (option_filter (λ p. is_active (after p))) is ∙ (ap (λ (o : Option Flow). cond (is_active o) (Some place) None) changed.here
          ∙ (by (at place) ∙ sym (ap (option_filter (λ p. is_active (at p))) is))));
      room_for_each = kept.room_for_each;
    }
      where
        by : (o : Option Flow) → cond (is_active (option_map change o)) (Some place) None ≡ cond (is_active o) (Some place) None
        by None = refl
        by (Some flow) = sym (row_is place (change flow)) ∙ (ap (row_of place) (same flow) ∙ row_is place flow)

    -- what the index of the active flows has to hold once the flow is changed
    pub changed_active : (activity : Activity) → ((flow : Flow) → at place ≡ Some flow → activity ≡ activity_of (change flow))
        → IsFlowRows after places (with_activity sfid place activity active) room
    changed_active activity told = record {
      placed = changed_placed;
      rows = ap (with_activity sfid place activity) kept.rows ∙ active_put places places sfid kept.placed.ascending kept.placed.ascending stays keeps place activity
          (by (at place) refl old_is);
      room_for_each = kept.room_for_each;
    }
      where
        by : (o : Option Flow) → at place ≡ o → IsSome o → row_of place activity ≡ option_filter (λ p. is_active (after p)) (place_at sfid places)
        by None old some = absurd (cc)
        by (Some flow) old some =
            ap (row_of place) (told flow old) ∙ (row_is place (change flow)
            ∙ sym (ap (option_filter (λ p. is_active (after p))) is ∙ ap (λ (o : Option Flow). cond (is_active o) (Some place) None) (changed.here ∙ ap (option_map change) old)))

    pub changed_room : (activity : Activity) → ((flow : Flow) → at place ≡ Some flow → activity ≡ activity_of (change flow))
        → length (with_activity sfid place activity active) ≤ room
    changed_room activity told =
        let after_rows = changed_active activity told in
        omega (arith, ap length after_rows.rows, active_few after places, kept.room_for_each)

    pub changed_told : (units : UnitSizes) (moved : Moved) → Some moved ≡ told_of units change (at place) → (flow : Flow) → at place ≡ Some flow → moved.activity ≡ activity_of (change flow)
    changed_told units moved told flow old =
        ap (λ (m : Moved). m.activity) (same_Some moved (record { had = flow.sid; has = (change flow).sid; activity = activity_of (change flow); committed = committed_of units (change flow) }) (told ∙ ap (told_of units change) old))

    -- what returns nothing has found no flow at the place
    pub told_as_before : (units : UnitSizes) → None ≡ told_of units change (at place) → IsFlowRows after places active room
    told_as_before units told = by (at place) refl old_is
      where
        by : (o : Option Flow) → at place ≡ o → IsSome o → IsFlowRows after places active room
        by None old some = absurd (cc)
        by (Some flow) old some = absurd (none-some (record { had = flow.sid; has = (change flow).sid; activity = activity_of (change flow); committed = committed_of units (change flow) }) (told ∙ ap (told_of units change) old))

-- a flow that is not there: what changes it changes nothing
pub absent_changed : {at : ℕ → Option Flow} {places : List (ℕ × ℕ)} (placed : ArePlaced at places) (sfid : ℕ) (change : Flow → Flow) → place_at sfid places ≡ None
    → flows_by at places ≡ change_at sfid change (flows_by at places)
absent_changed {at} {places} placed sfid change is = sym (ap (change_if sfid change (flows_by at places)) (placed_none placed sfid is))

pub absent_gone : {at : ℕ → Option Flow} {places : List (ℕ × ℕ)} (placed : ArePlaced at places) (sfid : ℕ) → place_at sfid places ≡ None
    → flows_by at (remove_entry (is_at (nat_cmp sfid)) places) ≡ remove_entry (is_at (nat_cmp sfid)) (flows_by at places)
absent_gone {at} {places} placed sfid is = ap (flows_by at) (taken_none places sfid is) ∙ sym (taken_none (flows_by at places) sfid (placed_none placed sfid is))

-- what is taken back leaves the sets
pub back_active : (f : Flow) → activity_of (taken_back f) ≡ activity_of f
back_active f = elim f.pending as (λ p. activity_of (without_pending f p) ≡ activity_of f) [ None ↦ refl | Some pending ↦ refl ]

-- ---- a flow is put at a place that was free

module _ {at after : ℕ → Option Flow} {places active : List (ℕ × ℕ)} {room : ℕ} (kept : IsFlowRows at places active room) (sfid place : ℕ) (flow : Flow)
    (absent : place_at sfid places ≡ None) (free : at place ≡ None) (here : after place ≡ Some flow) (others : (other : ℕ) → other ≢ place → after other ≡ at other) where
  not_free : (q p : ℕ) → place_at q places ≡ Some p → p ≢ place
  not_free q p there same = no_flow (at place) free (subst (λ (n : ℕ). IsSome (at n)) same (kept.placed.there q p there))
    where
      no_flow : (o : Option Flow) → o ≡ None → IsSome o → ⊥
      no_flow o e some = absurd (cc)

  new_keeps : (q p : ℕ) → q ≢ sfid → place_at q places ≡ Some p → after p ≡ at p
  new_keeps q p apart there = others p (not_free q p there)

  new_stays : (q : ℕ) → q ≢ sfid → place_at q (insert_entry nat_cmp places sfid place) ≡ place_at q places
  new_stays q apart = put_elsewhere places sfid place q apart

  new_ascends : IsStrictlySortedBy nat_cmp (keys_of (insert_entry nat_cmp places sfid place))
  new_ascends = ascending_put places sfid place kept.placed.ascending

  new_here : place_at sfid (insert_entry nat_cmp places sfid place) ≡ Some place
  new_here = put_here places sfid place

  pub new_flows : flows_by after (insert_entry nat_cmp places sfid place) ≡ with_flow sfid flow (flows_by at places)
  new_flows = flows_put places (insert_entry nat_cmp places sfid place) sfid kept.placed.ascending new_ascends new_stays new_keeps flow (ap (found after) new_here ∙ here)

  -- whose a place is, among the old ones and the new one
  whose : (q p : ℕ) → place_at q (insert_entry nat_cmp places sfid place) ≡ Some p → (q ≡ sfid × (p ≡ place)) ⊎ ((q ≢ sfid) × (place_at q places ≡ Some p))
  whose q p there = elim (cases_eq q sfid) [
    | inl same ↦ inl (same, same_Some p place (sym there ∙ (ap (λ (n : ℕ). place_at n (insert_entry nat_cmp places sfid place)) same ∙ new_here)))
    | inr apart ↦ inr (apart, sym (new_stays q apart) ∙ there)
  ]

  pub new_placed : ArePlaced after (insert_entry nat_cmp places sfid place)
  new_placed = record {
    ascending = new_ascends;
    there = λ q p there. elim (whose q p there) [
      | inl new ↦ subst (λ (n : ℕ). IsSome (after n)) (sym new.1) (subst IsSome (sym here) refl)
      | inr old ↦ subst IsSome (sym (new_keeps q p old.0 old.1)) (kept.placed.there q p old.1)
    ];
    own = λ a b p one two. elim (whose a p one) [
      | inl new ↦ elim (whose b p two) [
        | inl also ↦ new.0 ∙ sym also.0
        | inr old ↦ absurd (not_free b p old.1 new.1)
      ]
      | inr old ↦ elim (whose b p two) [
        | inl new ↦ absurd (not_free a p old.1 new.1)
        | inr also ↦ kept.placed.own a b p old.1 also.1
      ]
    ];
  }

  pub new_rows : (more : ℕ) → length places + 1 ≤ more → IsFlowRows after (insert_entry nat_cmp places sfid place) (with_activity sfid place (activity_of flow) active) more
  new_rows more le = record {
    placed = new_placed;
    rows = ap (with_activity sfid place (activity_of flow)) kept.rows ∙ active_put places (insert_entry nat_cmp places sfid place) sfid kept.placed.ascending new_ascends new_stays new_keeps place (activity_of flow)
        (row_is place flow ∙ sym (ap (option_filter (λ p. is_active (after p))) new_here ∙ ap (λ (o : Option Flow). cond (is_active o) (Some place) None) here));
    room_for_each = omega (arith, length_put places sfid place, le);
  }

-- ---- the flow of an SFID is taken out

module _ {at after : ℕ → Option Flow} {places active : List (ℕ × ℕ)} {room : ℕ} (kept : IsFlowRows at places active room) (sfid place : ℕ)
    (is : place_at sfid places ≡ Some place) (others : (other : ℕ) → other ≢ place → after other ≡ at other) where
  gone_keeps : (q p : ℕ) → q ≢ sfid → place_at q places ≡ Some p → after p ≡ at p
  gone_keeps q p apart there = others p (λ (same : p ≡ place). apart (kept.placed.own q sfid place (there ∙ ap (λ (n : ℕ). Some n) same) is))

  gone_stays : (q : ℕ) → q ≢ sfid → place_at q (remove_entry (is_at (nat_cmp sfid)) places) ≡ place_at q places
  gone_stays q apart = taken_elsewhere places sfid q apart

  gone_here : place_at sfid (remove_entry (is_at (nat_cmp sfid)) places) ≡ None
  gone_here = taken_here places sfid kept.placed.ascending

  gone_ascends : IsStrictlySortedBy nat_cmp (keys_of (remove_entry (is_at (nat_cmp sfid)) places))
  gone_ascends = ascending_taken places sfid kept.placed.ascending

  not_its : (q p : ℕ) → place_at q (remove_entry (is_at (nat_cmp sfid)) places) ≡ Some p → q ≢ sfid
  not_its q p there same = none-some p (sym (ap (λ (n : ℕ). place_at n (remove_entry (is_at (nat_cmp sfid)) places)) same ∙ gone_here) ∙ there)

  were : (q p : ℕ) → place_at q (remove_entry (is_at (nat_cmp sfid)) places) ≡ Some p → place_at q places ≡ Some p
  were q p there = sym (gone_stays q (not_its q p there)) ∙ there

  pub gone_flows : flows_by after (remove_entry (is_at (nat_cmp sfid)) places) ≡ remove_entry (is_at (nat_cmp sfid)) (flows_by at places)
  gone_flows = flows_taken places (remove_entry (is_at (nat_cmp sfid)) places) sfid kept.placed.ascending gone_ascends gone_stays gone_keeps (ap (found after) gone_here)

  pub gone_rows : IsFlowRows after (remove_entry (is_at (nat_cmp sfid)) places) (with_activity sfid place Idle active) room
  gone_rows = record {
    placed = record {
      ascending = gone_ascends;
      there = λ q p there. subst IsSome (sym (gone_keeps q p (not_its q p there) (were q p there))) (kept.placed.there q p (were q p there));
      own = λ a b p one two. kept.placed.own a b p (were a p one) (were b p two);
    };
    rows = ap (with_activity sfid place Idle) kept.rows ∙ active_put places (remove_entry (is_at (nat_cmp sfid)) places) sfid kept.placed.ascending gone_ascends gone_stays gone_keeps place Idle
        (sym (ap (option_filter (λ p. is_active (after p))) gone_here));
    room_for_each = omega (arith, kept.room_for_each, length_taken places sfid);
  }

-- ---- what is scheduled

module _ (at : ℕ → Option Flow) where
  -- what is scheduled of rows
  abbrev pub scheduled_of : List (ℕ × ℕ) → List Flowing
  scheduled_of rows = filter_map (λ row. scheduled_if row.0 (at row.1)) rows

  pub scheduled_all : (es : List (ℕ × ℕ)) → scheduled_of (active_by at es) ≡ flowing_in (flows_by at es)
  scheduled_all [] = refl
  scheduled_all (e ∷ es) = first (at e.1) refl (scheduled_all es)
    where
      active : (flow : Flow) (o : Option _) → flow.sets.active ≡ o → at e.1 ≡ Some flow → scheduled_of (active_by at es) ≡ flowing_in (flows_by at es)
          → scheduled_of (cond (is_some o) (e ∷ active_by at es) (active_by at es)) ≡ cons_option (flowing_of_set e.0 flow o) (flowing_in (flows_by at es))
      active flow None set there rest = rest
      active flow (Some set) is there rest =
          ap (λ (o : Option Flow). cons_option (scheduled_if e.0 o) (scheduled_of (active_by at es))) there
          ∙ (ap (λ (o : Option _). cons_option (flowing_of_set e.0 flow o) (scheduled_of (active_by at es))) is ∙ ap (cons_option (flowing_of_set e.0 flow (Some set))) rest)

      first : (o : Option Flow) → at e.1 ≡ o → scheduled_of (active_by at es) ≡ flowing_in (flows_by at es)
          → scheduled_of (cond (is_active o) (e ∷ active_by at es) (active_by at es)) ≡ flowing_in (cons_option (option_map (λ flow. (e.0, flow)) o) (flows_by at es))
      first None there rest = rest
      first (Some flow) there rest = active flow flow.sets.active refl there rest

  -- one row is looked at: the flow at its place is pushed, or passed
  next : (rows : List (ℕ × ℕ)) (i : ℕ) → i < length rows
      → scheduled_of (drop i rows) ≡ cons_option (scheduled_if (get_or rows i (0, 0)).0 (at (get_or rows i (0, 0)).1)) (scheduled_of (drop (i + 1) rows))
  next rows i lt = ap scheduled_of (drop_more rows i (0, 0) lt)

  pub pushed : (rows : List (ℕ × ℕ)) (i : ℕ) (out total : List Flowing) (flow : Flowing) → i < length rows
      → Some flow ≡ scheduled_if (get_or rows i (0, 0)).0 (at (get_or rows i (0, 0)).1)
      → out ++ scheduled_of (drop i rows) ≡ total → (out ++ flow ∷ []) ++ scheduled_of (drop (i + 1) rows) ≡ total
  pushed rows i out total flow lt is so_far =
      append_assoc out (flow ∷ []) (scheduled_of (drop (i + 1) rows))
      ∙ (ap (λ (o : Option Flowing). out ++ cons_option o (scheduled_of (drop (i + 1) rows))) is
      ∙ (ap (λ (l : List Flowing). out ++ l) (sym (next rows i lt)) ∙ so_far))

  pub passed : (rows : List (ℕ × ℕ)) (i : ℕ) (out total : List Flowing) → i < length rows
      → None ≡ scheduled_if (get_or rows i (0, 0)).0 (at (get_or rows i (0, 0)).1)
      → out ++ scheduled_of (drop i rows) ≡ total → out ++ scheduled_of (drop (i + 1) rows) ≡ total
  passed rows i out total lt is so_far =
      ap (λ (o : Option Flowing). out ++ cons_option o (scheduled_of (drop (i + 1) rows))) is
      ∙ (ap (λ (l : List Flowing). out ++ l) (sym (next rows i lt)) ∙ so_far)
