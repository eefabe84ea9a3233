-- That the SIDs of the index are those that flows have, so that the same number is the least free one.
use Rattle.std.proofs.Common.{◌≡◌, ◌≢◌, ℕ, List, [], ◌∷◌, Option, Some, None, refl, sym, ap, ◌∙◌, arith, inl, inr}
use Rattle.flow_table.proofs.Common.{Contains, cons_option, IsStrictlySortedBy, nat_cmp, keys_of, cases_eq, Contains-append_right, sorted_tail, none-some, Numbers, IsLeastFree, least_free_of, least_free_cases, least_free_iff, Flow, flow_at, sid_if, sids_of, IsIndex, sfid_at}
use Rattle.std.proofs.lemmas.Map.Made.{Contains-tail}
use Rattle.flow_table.proofs.EntryLemmas.{looked_first, looked_past}
use Rattle.flow_table.proofs.IndexLemmas.{cases_sid, none_of, sid_used}

-- ---- the least free number, where the same numbers are used

moved : (range : Numbers) (a b : List ℕ) → ((n : ℕ) → Contains a n → Contains b n) → ((n : ℕ) → Contains b n → Contains a n) → (n : ℕ) → IsLeastFree range a n → IsLeastFree range b n
moved range a b to from n h = record {
  free = record { first_at_most = h.free.first_at_most; at_most_last = h.free.at_most_last; unused = λ used. h.free.unused (from n used) };
  least = λ m other. h.least m (record { first_at_most = other.first_at_most; at_most_last = other.at_most_last; unused = λ used. other.unused (to m used) });
}

pub same_least : (range : Numbers) (a b : List ℕ) → ((n : ℕ) → Contains a n → Contains b n) → ((n : ℕ) → Contains b n → Contains a n) → least_free_of range a ≡ least_free_of range b
same_least range a b to from = elim (least_free_cases range a) [
  | inl (k, is, h) ↦ is ∙ sym ((least_free_iff range b k).1 (moved range a b to from k h))
  | inr (is, none_free) ↦ elim (least_free_cases range b) [
    | inl (k, is_b, h) ↦ absurd (none_free k (moved range b a from to k h).free)
    | inr (is_b, none_b) ↦ is ∙ sym is_b
  ]
]

-- ---- the keys of the index

key_used : (index : List (ℕ × ℕ)) (sid sfid : ℕ) → sfid_at sid index ≡ Some sfid → Contains (keys_of index) sid
key_used [] sid sfid h = absurd (none-some sfid h)
key_used (e ∷ es) sid sfid h = elim (cases_eq sid e.0) [
  | inl same ↦ (0, omega arith, sym same)
  | inr apart ↦ Contains-append_right (e.0 ∷ []) (keys_of es) sid (key_used es sid sfid (sym (looked_past e es sid apart) ∙ h))
]

key_had : (index : List (ℕ × ℕ)) (sid : ℕ) → Contains (keys_of index) sid → (sfid : ℕ) × (sfid_at sid index ≡ Some sfid)
key_had [] sid h = absurd (omega (arith, h.1))
key_had (e ∷ es) sid h = elim (cases_eq sid e.0) [
  | inl same ↦ (e.1, looked_first e es sid same)
  | inr apart ↦
      let rest = key_had es sid (Contains-tail e.0 (keys_of es) sid (λ same. apart (sym same)) h) in
      (rest.0, looked_past e es sid apart ∙ rest.1)
]

-- ---- the SIDs of the flows

past_first : (o : Option ℕ) (xs : List ℕ) (x : ℕ) → o ≢ Some x → Contains (cons_option o xs) x → Contains xs x
past_first None xs x d h = h
past_first (Some n) xs x d h = Contains-tail n xs x (λ e. d (ap (λ (m : ℕ). Some m) e)) h

sid_had : (flows : List (ℕ × Flow)) (sid : ℕ) → IsStrictlySortedBy nat_cmp (keys_of flows) → Contains (sids_of flows) sid → (sfid : ℕ) × (sid_if (flow_at sfid flows) ≡ Some sid)
sid_had [] sid s h = absurd (omega (arith, h.1))
sid_had (e ∷ es) sid s h = elim (cases_sid sid e.1.sid) [
  | inl this_one ↦ (e.0, ap sid_if (looked_first e es e.0 refl) ∙ this_one)
  | inr another ↦
      let rest = sid_had es sid (sorted_tail nat_cmp e.0 (keys_of es) s) (past_first e.1.sid (sids_of es) sid another h) in
      (rest.0, ap sid_if (looked_past e es rest.0 (λ same. none_of e es sid rest.0 s same rest.1)) ∙ rest.1)
]

-- the least number that is no SID of the index is no flow's
pub least_in_index : (range : Numbers) (flows : List (ℕ × Flow)) (index : List (ℕ × ℕ)) → IsIndex flows index → least_free_of range (keys_of index) ≡ least_free_of range (sids_of flows)
least_in_index range flows index kept = same_least range (keys_of index) (sids_of flows)
    (λ sid h. let at = key_had index sid h in sid_used flows at.0 sid ((kept.finds sid at.0).0 at.1))
    (λ sid h. let at = sid_had flows sid kept.ascending h in key_used index sid at.0 ((kept.finds sid at.0).1 at.1))
