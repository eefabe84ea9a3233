-- The kept responses: who waits for a flow, and whose they are.
use Rattle.std.proofs.Common.{◌≡◌, ◌≢◌, ◌==◌, ◌&&◌, ◌||◌, ◌-◌, not, ℕ, zero, suc, ◌<◌, Bool, true, false, cond, List, [], ◌∷◌, ◌++◌, length, get_or, ◌⊎◌, inl, inr, Some, None, All, AllPairs, find, map, filter, refl, sym, ap, ◌∙◌, subst, arith}
use Rattle.std.specs.Str.{bytes_eq}
use Rattle.trace_report.proofs.TableLemmas.Common.{AllByRecursion, slice_index_or, cond_both, and_parts, eqb-true, true≢false, All-head, All-tail, All-cons, none-some, same_Some, bytes_eq-Decides, Modem, Kind, KeptEntry, GivenUp, is_waiting, is_of, same_kind, waits_for, held_entry, entry_after_ack, is_response_due, is_resent, is_given_up, is_forgotten, given_up_of, given_up_in, kept_after, pairs-head, pairs-tail, pairs-map, IsAwaited, AreOfTwo}
use Rattle.std.proofs.lemmas.List.Kept.{AllPairs-filter}
use Rattle.std.proofs.lemmas.List.Quantifiers.{all_pairs_push}
use Rattle.transactions.specs.Waits.{Waits}
use Rattle.transactions.specs.Timers as timers

-- ---- who waits

-- one of the entries waits for the flow
abbrev pub Awaits : List KeptEntry → ℕ → Type 0
Awaits [] q = ⊥
Awaits (e ∷ kept) q = ((is_waiting e ≡ true) × (e.sfid ≡ q)) ⊎ Awaits kept q

pub awaits-any : (kept : List KeptEntry) (q : ℕ) → Awaits kept q → IsAwaited kept q
awaits-any [] q w = absurd w
awaits-any (e ∷ kept) q (inl here) = (0, e, omega arith, refl, here)
awaits-any (e ∷ kept) q (inr w) = let r = awaits-any kept q w in (suc r.0, r.1, (let lt : suc r.0 < suc (length kept) = omega (arith, r.2) in lt), r.3, r.4)

pub any-awaits : (kept : List KeptEntry) (q : ℕ) → IsAwaited kept q → Awaits kept q
any-awaits kept q any = go kept any.0 any.2 any.3
  where
    go : (es : List KeptEntry) (k : ℕ) → k < length es → slice_index_or es k any.1 ≡ any.1 → Awaits es q
    go [] k lt same = absurd (omega (arith, lt))
    go (e ∷ es) zero lt same = inl (subst (λ (x : KeptEntry). (is_waiting x ≡ true) × (x.sfid ≡ q)) (sym same) any.4)
    go (e ∷ es) (suc k) lt same = inr (go es k (omega (arith, lt)) same)

pub awaits-push : (kept : List KeptEntry) (e : KeptEntry) (q : ℕ) → Awaits kept q → Awaits (kept ++ e ∷ []) q
awaits-push [] e q w = absurd w
awaits-push (x ∷ kept) e q (inl here) = inl here
awaits-push (x ∷ kept) e q (inr w) = inr (awaits-push kept e q w)

pub awaits-last : (kept : List KeptEntry) (e : KeptEntry) (q : ℕ) → is_waiting e ≡ true → e.sfid ≡ q → Awaits (kept ++ e ∷ []) q
awaits-last [] e q waits is = inl (waits, is)
awaits-last (x ∷ kept) e q waits is = inr (awaits-last kept e q waits is)

-- ---- an acknowledgement

module _ (times : Waits) (modem : Modem) (tid : ℕ) (kind : Kind) where
  is_its : (e : KeptEntry) → waits_for modem tid kind e ≡ true → is_of modem tid e ≡ true
  is_its e is = (and_parts (is_of modem tid e) (is_waiting e) (and_parts (is_of modem tid e && is_waiting e) (same_kind e.kind kind) is).0).0

  -- none of these is acknowledged
  all_stay : (kept : List KeptEntry) (q : ℕ) → All (λ e. is_of modem tid e ≡ true → ⊥) kept → Awaits kept q → Awaits (map (entry_after_ack times modem tid kind) kept) q
  all_stay [] q none w = absurd w
  all_stay (e ∷ kept) q none w =
      by (all_stay kept q (All-tail (λ (x : KeptEntry). is_of modem tid x ≡ true → ⊥) e kept none)) (waits_for modem tid kind e) refl w
    where
      by : (Awaits kept q → Awaits (map (entry_after_ack times modem tid kind) kept) q) → (b : Bool) → waits_for modem tid kind e ≡ b → Awaits (e ∷ kept) q → Awaits (cond b (held_entry times e) e ∷ map (entry_after_ack times modem tid kind) kept) q
      by more true is w = absurd (All-head (λ (x : KeptEntry). is_of modem tid x ≡ true → ⊥) e kept none (is_its e is))
      by more false is (inl here) = inl here
      by more false is (inr w) = inr (more w)

  -- who waits for another flow than the one that is acknowledged waits still
  pub awaits-acked : (kept : List KeptEntry) (x : KeptEntry) (q : ℕ) → AllPairs AreOfTwo kept → find (waits_for modem tid kind) kept ≡ Some x → q ≢ x.sfid → Awaits kept q
      → Awaits (map (entry_after_ack times modem tid kind) kept) q
  awaits-acked [] x q own found apart w = absurd w
  awaits-acked (e ∷ kept) x q own found apart w =
      by (λ there later. awaits-acked kept x q (pairs-tail AreOfTwo e kept own) there apart later) (waits_for modem tid kind e) refl found w
    where
      by : (find (waits_for modem tid kind) kept ≡ Some x → Awaits kept q → Awaits (map (entry_after_ack times modem tid kind) kept) q) → (b : Bool) → waits_for modem tid kind e ≡ b → cond b (Some e) (find (waits_for modem tid kind) kept) ≡ Some x → Awaits (e ∷ kept) q
          → Awaits (cond b (held_entry times e) e ∷ map (entry_after_ack times modem tid kind) kept) q
      by more true is here (inl first) = absurd (apart (sym first.1 ∙ ap (λ (y : KeptEntry). y.sfid) (same_Some e x here)))
      by more true is here (inr later) = inr (all_stay kept q (λ k d lt its. pairs-head AreOfTwo e kept own k d lt modem tid (is_its e is) its) later)
      by more false is there (inl first) = inl first
      by more false is there (inr later) = inr (more there later)

  two-held : (a b : KeptEntry) (s t : Bool) → AreOfTwo a b → AreOfTwo (cond s (held_entry times a) a) (cond t (held_entry times b) b)
  two-held a b true true two = two
  two-held a b true false two = two
  two-held a b false true two = two
  two-held a b false false two = two

  pub own-acked : (kept : List KeptEntry) → AllPairs AreOfTwo kept → AllPairs AreOfTwo (map (entry_after_ack times modem tid kind) kept)
  own-acked kept own = pairs-map AreOfTwo AreOfTwo (entry_after_ack times modem tid kind) (λ a b two. two-held a b (waits_for modem tid kind a) (waits_for modem tid kind b) two) kept own

-- ---- a tick

module _ (times : Waits) where
  two-ticked : (a b : KeptEntry) (s t : Bool) → AreOfTwo a b
      → AreOfTwo (cond s (record a { ticks_left = times.ack_wait; resends_left = a.resends_left - 1 }) (record a { ticks_left = a.ticks_left - 1 }))
      (cond t (record b { ticks_left = times.ack_wait; resends_left = b.resends_left - 1 }) (record b { ticks_left = b.ticks_left - 1 }))
  two-ticked a b true true two = two
  two-ticked a b true false two = two
  two-ticked a b false true two = two
  two-ticked a b false false two = two

  pub own-ticked : (kept : List KeptEntry) → AllPairs AreOfTwo kept → AllPairs AreOfTwo (kept_after times kept)
  own-ticked kept own =
      pairs-map AreOfTwo AreOfTwo (timers.entry_after_tick times) (λ a b two. two-ticked a b (is_resent a) (is_resent b) two) (filter (λ e. not (is_forgotten e)) kept)
      (AllPairs-filter AreOfTwo (λ e. not (is_forgotten e)) kept own)

  ticked_waits : (e : KeptEntry) (q : ℕ) → is_waiting e ≡ true → e.sfid ≡ q → (is_waiting (timers.entry_after_tick times e) ≡ true) × ((timers.entry_after_tick times e).sfid ≡ q)
  ticked_waits e q waits is = cond_both (is_resent e) _ _ (λ (x : KeptEntry). (is_waiting x ≡ true) × (x.sfid ≡ q)) (λ _. (waits, is)) (λ _. (waits, is))

  -- what waits and is not given up is not forgotten
  not_forgotten : (e : KeptEntry) → is_waiting e ≡ true → is_given_up e ≡ false → not (is_forgotten e) ≡ true
  not_forgotten e waits stays = rw (stays, waits) (by (is_response_due e))
    where
      by : (b : Bool) → not (false || b && not true) ≡ true
      by true = refl
      by false = refl

  -- who waits for a flow that is not given up waits still
  pub awaits-ticked : (kept : List KeptEntry) (q : ℕ) → AllByRecursion (λ (h : GivenUp). q ≢ h.sfid) (given_up_in kept) → Awaits kept q → Awaits (kept_after times kept) q
  awaits-ticked [] q apart w = absurd w
  awaits-ticked (e ∷ kept) q apart w = by (λ others later. awaits-ticked kept q others later) (is_given_up e) refl apart w
    where
      onto : (b : Bool) → Awaits (kept_after times kept) q → Awaits (map (timers.entry_after_tick times) (cond b (e ∷ filter (λ e. not (is_forgotten e)) kept) (filter (λ e. not (is_forgotten e)) kept))) q
      onto true w = inr w
      onto false w = w

      here : (b : Bool) → not (is_forgotten e) ≡ b → is_waiting e ≡ true → e.sfid ≡ q → is_given_up e ≡ false
          → Awaits (map (timers.entry_after_tick times) (cond b (e ∷ filter (λ e. not (is_forgotten e)) kept) (filter (λ e. not (is_forgotten e)) kept))) q
      here true is waits same stays = inl (ticked_waits e q waits same)
      here false is waits same stays = absurd (true≢false (sym (not_forgotten e waits stays) ∙ is))

      by : (AllByRecursion (λ (h : GivenUp). q ≢ h.sfid) (given_up_in kept) → Awaits kept q → Awaits (kept_after times kept) q) → (b : Bool) → is_given_up e ≡ b → AllByRecursion (λ (h : GivenUp). q ≢ h.sfid) (map given_up_of (cond b (e ∷ filter is_given_up kept) (filter is_given_up kept)))
          → Awaits (e ∷ kept) q → Awaits (kept_after times (e ∷ kept)) q
      by more true is others (inl first) = absurd (others.0 (sym first.1))
      by more true is others (inr later) = onto (not (is_forgotten e)) (more others.1 later)
      by more false is others (inl first) = here (not (is_forgotten e)) refl first.0 first.1 is
      by more false is others (inr later) = onto (not (is_forgotten e)) (more others later)

-- ---- one entry more

same_modem : (m n : Modem) (e : KeptEntry) (tid t : ℕ) → m.0 ≡ n.0 → tid ≡ t → is_of n t e ≡ true → is_of m tid e ≡ true
same_modem m n e tid t modems tids is = ap (λ (bytes : List ℕ). bytes_eq e.modem.0 bytes && e.tid == tid) modems ∙ ap (λ (k : ℕ). bytes_eq e.modem.0 n.0 && e.tid == k) tids ∙ is

none_found : (p : KeptEntry → Bool) (kept : List KeptEntry) → find p kept ≡ None → All (λ e. p e ≡ true → ⊥) kept
none_found p [] none = λ k d lt. absurd (omega (arith, lt))
none_found p (e ∷ kept) none = by (none_found p kept) (p e) refl none
  where
    by : (find p kept ≡ None → All (λ x. p x ≡ true → ⊥) kept) → (b : Bool) → p e ≡ b → cond b (Some e) (find p kept) ≡ None → All (λ x. p x ≡ true → ⊥) (e ∷ kept)
    by more true is found = absurd (none-some e (sym found))
    by more false is rest = All-cons (λ x. p x ≡ true → ⊥) e kept (λ passes. true≢false (sym passes ∙ is)) (more rest)

pub own-push : (kept : List KeptEntry) (e : KeptEntry) → AllPairs AreOfTwo kept → find (is_of e.modem e.tid) kept ≡ None → AllPairs AreOfTwo (kept ++ e ∷ [])
own-push kept e own none =
    all_pairs_push AreOfTwo kept e own (λ k d lt m t is_old is_e.
    let parts = and_parts (bytes_eq e.modem.0 m.0) (e.tid == t) is_e in
    none_found (is_of e.modem e.tid) kept none k d lt
    (same_modem e.modem m (get_or kept k d) e.tid t ((bytes_eq-Decides e.modem.0 m.0).0 parts.0) (eqb-true e.tid t parts.1) is_old))
