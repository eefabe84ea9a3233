-- The life of an entry, tick by tick and wait by wait.
use Rattle.std.proofs.Common.{◌≡◌, ℕ, zero, suc, ◌+◌, ◌-◌, ◌*◌, ◌<◌, ◌≤◌, true, List, refl, ap, ◌∙◌, arith}
use Rattle.std.specs.Fn.{iterate}
use Rattle.transactions.proofs.Common.{cond-true, cond-false, and_left, and_from, ne_eqb, eq-eqb, lt-ltb, Kind, Modem, KeptEntry, Waits, IsLasting, is_waiting, is_response_due, is_resent, is_given_up, is_forgotten, entry_after_tick, begun_entry, held_entry}
use Rattle.transactions.specs.Life.{after_ticks, WaitsInVain, IsOnlyHeld}

-- m ticks, and then n
iterate-add : {A : Type 0} (f : A → A) (m n : ℕ) (x : A) → iterate f (m + n) x ≡ iterate f n (iterate f m x)
iterate-add f zero n x =
    let none : 0 + n ≡ n = omega arith in
    ap (λ (k : ℕ). iterate f k x) none
iterate-add f (suc m) n x =
    let more : suc m + n ≡ suc (m + n) = omega arith in
    ap (λ (k : ℕ). iterate f k x) more ∙ iterate-add f m n (f x)

-- an entry with other numbers
abbrev counted : KeptEntry → ℕ → ℕ → KeptEntry
counted e ticks resends = record e { ticks_left = ticks; resends_left = resends }

module _ (waits : Waits) where
  -- a tick within a wait
  tick_within : (e : KeptEntry) (t r : ℕ) → 1 < t → entry_after_tick waits (counted e t r) ≡ counted e (t - 1) r
  tick_within e t r more = cond-false (is_resent (counted e t r)) _ _ (and_left _ _ (and_left _ _ (ne_eqb t 1 (omega arith))))

  -- the ticks within a wait
  ticks_within : (e : KeptEntry) (r j t : ℕ) → j < t → after_ticks waits j (counted e t r) ≡ counted e (t - j) r
  ticks_within e r zero t lt = let all : t ≡ t - 0 = omega arith in ap (λ (n : ℕ). counted e n r) all
  ticks_within e r (suc j) t lt =
      let less : (t - 1) - j ≡ t - suc j = omega arith in
      ap (iterate (entry_after_tick waits) j) (tick_within e t r (omega arith))
      ∙ (ticks_within e r j (t - 1) (omega arith) ∙ ap (λ (n : ℕ). counted e n r) less)

  module _ (lasting : IsLasting waits) (e : KeptEntry) (waiting : is_waiting e ≡ true) where
    -- the last tick of a wait that a resend follows
    tick_last : (r : ℕ) → 0 < r → entry_after_tick waits (counted e 1 r) ≡ counted e waits.ack_wait (r - 1)
    tick_last r some = cond-true (is_resent (counted e 1 r)) _ _ (and_from _ _ (and_from _ _ refl waiting) (lt-ltb 0 r some))

    -- a whole wait
    one_wait : (r : ℕ) → 0 < r → after_ticks waits waits.ack_wait (counted e waits.ack_wait r) ≡ counted e waits.ack_wait (r - 1)
    one_wait r some =
        let wait = lasting.ack_wait in
        let parts : waits.ack_wait ≡ (waits.ack_wait - 1) + 1 = omega arith in
        let last : waits.ack_wait - (waits.ack_wait - 1) ≡ 1 = omega arith in
        let start = counted e waits.ack_wait r in
        ap (λ (n : ℕ). iterate (entry_after_tick waits) n start) parts
        ∙ (iterate-add (entry_after_tick waits) (waits.ack_wait - 1) 1 start
        ∙ (ap (entry_after_tick waits) (ticks_within e r (waits.ack_wait - 1) waits.ack_wait (omega arith) ∙ ap (λ (n : ℕ). counted e n r) last)
        ∙ tick_last r some))

    -- several waits
    more_waits : (k r : ℕ) → k ≤ r → after_ticks waits (k * waits.ack_wait) (counted e waits.ack_wait r) ≡ counted e waits.ack_wait (r - k)
    more_waits zero r le =
        let none : 0 * waits.ack_wait ≡ 0 = omega arith in
        let all : r ≡ r - 0 = omega arith in
        ap (λ (n : ℕ). iterate (entry_after_tick waits) n (counted e waits.ack_wait r)) none ∙ ap (λ (n : ℕ). counted e waits.ack_wait n) all
    more_waits (suc k) r le =
        let parts : suc k * waits.ack_wait ≡ waits.ack_wait + k * waits.ack_wait = omega arith in
        let less : (r - 1) - k ≡ r - suc k = omega arith in
        let start = counted e waits.ack_wait r in
        ap (λ (n : ℕ). iterate (entry_after_tick waits) n start) parts
        ∙ (iterate-add (entry_after_tick waits) waits.ack_wait (k * waits.ack_wait) start
        ∙ (ap (iterate (entry_after_tick waits) (k * waits.ack_wait)) (one_wait r (omega arith))
        ∙ (more_waits k (r - 1) (omega arith)
        ∙ ap (λ (n : ℕ). counted e waits.ack_wait n) less)))

    -- several waits, and ticks within the next
    at_tick : (k j r : ℕ) → k ≤ r → j < waits.ack_wait → after_ticks waits (k * waits.ack_wait + j) (counted e waits.ack_wait r) ≡ counted e (waits.ack_wait - j) (r - k)
    at_tick k j r le lt =
        iterate-add (entry_after_tick waits) (k * waits.ack_wait) j (counted e waits.ack_wait r)
        ∙ (ap (iterate (entry_after_tick waits) j) (more_waits k r le) ∙ ticks_within e (r - k) j waits.ack_wait lt)

    WaitsInVain-counted : WaitsInVain waits (counted e waits.ack_wait waits.resends)
    WaitsInVain-counted =
        let wait = lasting.ack_wait in
        let last : waits.ack_wait - (waits.ack_wait - 1) ≡ 1 = omega arith in
        record {
          between = λ k j le lt. ap is_response_due (at_tick k j waits.resends le (omega arith)) ∙ ne_eqb (waits.ack_wait - j) 1 (omega arith);
          resent = λ k lt.
              ap is_resent (at_tick k (waits.ack_wait - 1) waits.resends (omega arith) (omega arith))
              ∙ and_from _ _ (and_from _ _ (eq-eqb _ 1 last) waiting) (lt-ltb 0 (waits.resends - k) (omega arith));
          given_up = ap is_given_up (at_tick waits.resends (waits.ack_wait - 1) waits.resends (omega arith) (omega arith))
              ∙ and_from _ _ (and_from _ _ (eq-eqb _ 1 last) waiting) (eq-eqb (waits.resends - waits.resends) 0 (omega arith));
        }

-- an entry that begins to wait
pub WaitsInVain-begun : (waits : Waits) (modem : Modem) (tid : ℕ) (kind : Kind) (reply : List ℕ) (sfid : ℕ) → IsLasting waits → WaitsInVain waits (begun_entry waits modem tid kind reply sfid true)
WaitsInVain-begun waits modem tid kind reply sfid lasting =
    WaitsInVain-counted waits lasting (begun_entry waits modem tid kind reply sfid true) refl

-- an entry that is held
pub IsOnlyHeld-held_entry : (waits : Waits) (e : KeptEntry) → IsLasting waits → IsOnlyHeld waits (held_entry waits e)
IsOnlyHeld-held_entry waits e lasting =
    let hold = lasting.hold in
    let last : waits.hold - (waits.hold - 1) ≡ 1 = omega arith in
    let held = held_entry waits e in
    record {
      before = λ j lt. ap is_response_due (ticks_within waits held 0 j waits.hold (omega arith)) ∙ ne_eqb (waits.hold - j) 1 (omega arith);
      forgotten = ap is_forgotten (ticks_within waits held 0 (waits.hold - 1) waits.hold (omega arith) ∙ ap (λ (n : ℕ). counted held n 0) last);
      silent = λ j lt. ap is_waiting (ticks_within waits held 0 j waits.hold lt);
    }
