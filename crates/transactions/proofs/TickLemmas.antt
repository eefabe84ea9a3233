-- What a tick keeps of the entries.
use Rattle.std.proofs.Common.{◌≡◌, ℕ, ◌≤◌, Bool, true, false, not, ◌&&◌, List, filter, refl, arith, inl, inr}
use Rattle.transactions.proofs.Common.{cases_Bool, cases_eq, cases_lt, cond_both, not-true, not_from_false, or_parts, and_from, eq-eqb, lt-ltb, both_ways, length-map, length-filter, count_by-le-length, Modem, KeptEntry, Waits, is_of, is_waiting, is_response_due, is_resent, is_given_up, is_forgotten, entry_after_tick, kept_after, HasTicks, IsHeldUnsent, IsKept}
use Rattle.transactions.proofs.ListLemmas.{All-kept, count_by-kept}

module _ (waits : Waits) where
  -- a tick changes neither whose an entry is nor whether it waits
  is_of-ticked : (modem : Modem) (tid : ℕ) (e : KeptEntry) → is_of modem tid (entry_after_tick waits e) ≡ is_of modem tid e
  is_of-ticked modem tid e =
      cond_both (is_resent e) _ _ (λ (after : KeptEntry). is_of modem tid after ≡ is_of modem tid e) (λ _. refl) (λ _. refl)

  -- an entry that is neither resent nor forgotten is not due
  not_due : (e : KeptEntry) → not (is_forgotten e) ≡ true → is_resent e ≡ false → e.ticks_left ≡ 1 → ⊥
  not_due e stays once last =
      let due : is_response_due e ≡ true = eq-eqb e.ticks_left 1 last in
      let kept = or_parts (is_given_up e) (is_response_due e && not (is_waiting e)) (not-true (is_forgotten e) stays) in
      elim (cases_Bool (is_waiting e)) [
        | inl waiting ↦ elim (cases_lt 0 e.resends_left) [
          | inl left ↦
              both_ways (is_resent e) once (and_from _ _ (and_from _ _ due waiting) (lt-ltb 0 e.resends_left left))
          | inr none ↦
              both_ways (is_given_up e) kept.0 (and_from _ _ (and_from _ _ due waiting) (eq-eqb e.resends_left 0 (omega arith)))
        ]
        | inr held ↦ both_ways (is_response_due e && not (is_waiting e)) kept.1 (and_from _ _ due (not_from_false (is_waiting e) held))
      ]

  -- an entry that is not forgotten has ticks left afterwards
  HasTicks-ticked : 1 ≤ waits.ack_wait → (e : KeptEntry) → HasTicks e → not (is_forgotten e) ≡ true → HasTicks (entry_after_tick waits e)
  HasTicks-ticked wait e ticks stays =
      cond_both (is_resent e) _ _ HasTicks (λ again. wait)
      (λ once. elim (cases_eq e.ticks_left 1) [
        | inl last ↦ absurd (not_due e stays once last)
        | inr more ↦ omega arith
      ])

  IsHeldUnsent-ticked : (e : KeptEntry) → IsHeldUnsent e → not (is_forgotten e) ≡ true → IsHeldUnsent (entry_after_tick waits e)
  IsHeldUnsent-ticked e held stays =
      cond_both (is_resent e) _ _ IsHeldUnsent (λ again idle. omega (arith, held idle)) (λ _. held)

  pub IsKept-tick : {capacity : ℕ} {entries : List KeptEntry} {reserved : ℕ} → IsKept capacity waits entries reserved → IsKept capacity waits (kept_after waits entries) reserved
  IsKept-tick {capacity} {entries} kept =
      let stays : KeptEntry → Bool = λ e. not (is_forgotten e) in
      record {
        lasting = kept.lasting;
        within = omega (arith, length-map (filter stays entries) (entry_after_tick waits), length-filter stays entries, count_by-le-length stays entries, kept.within);
        room = kept.room;
        ticking = All-kept HasTicks stays (entry_after_tick waits) (HasTicks-ticked kept.lasting.ack_wait) entries kept.ticking;
        held = All-kept IsHeldUnsent stays (entry_after_tick waits) IsHeldUnsent-ticked entries kept.held;
        one_each = λ modem tid. omega (arith, count_by-kept (is_of modem tid) stays (entry_after_tick waits) (is_of-ticked modem tid) entries, kept.one_each modem tid);
      }
