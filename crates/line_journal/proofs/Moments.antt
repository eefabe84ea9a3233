-- How a run of device calls goes on.
use Rattle.std.proofs.Common.{inl, inr, ⊎_elim, ℕ, List, arith}
use Rattle.line_journal.specs.Device.{Elapses, LeavesOnly}

-- so far a crash leaves what has P, and so does one now
pub record SoFar {D : Type 0} (moment : D → ℕ) (left_since : D → ℕ → List ℕ → Type 0) (may_leave : D → List ℕ → Type 0) (old new : D) (P : List ℕ → Type 0) : Type 0 where
  pub since : LeavesOnly moment left_since old new P
  pub now : (c : List ℕ) → may_leave new c → P c

module _ {D : Type 0} (moment : D → ℕ) (left_since : D → ℕ → List ℕ → Type 0) (may_leave : D → List ℕ → Type 0) (old : D) (P : List ℕ → Type 0) where
  -- before the first call
  pub at_start : ((c : List ℕ) → left_since old (moment old) c → may_leave old c) → ((c : List ℕ) → may_leave old c → P c) → SoFar moment left_since may_leave old old P
  at_start only_now here = record {
    since = record { later = omega arith; each = λ c left. here c (only_now c left); before = λ t c le left. inl left };
    now = here;
  }

  -- one call more, after which a crash leaves what has P
  pub step : (mid new : D) → SoFar moment left_since may_leave old mid P → Elapses (moment mid) (moment new) (left_since mid) (left_since new) (may_leave new)
      → ((c : List ℕ) → may_leave new c → P c) → SoFar moment left_since may_leave old new P
  step mid new so_far time here = record {
    since = record {
      later = omega (arith, so_far.since.later, time.later);
      each = λ c left. ⊎_elim (so_far.since.each c) (here c) (time.nothing_else (moment old) c so_far.since.later left);
      before = λ t c le left. ⊎_elim (so_far.since.before t c le) (λ now. inr (here c now)) (time.nothing_else t c (omega (arith, le, so_far.since.later)) left);
    };
    now = here;
  }

  -- a call that adds no outcome
  pub kept : (mid new : D) → SoFar moment left_since may_leave old mid P → Elapses (moment mid) (moment new) (left_since mid) (left_since new) (may_leave new)
      → ((c : List ℕ) → may_leave new c → may_leave mid c) → SoFar moment left_since may_leave old new P
  kept mid new so_far time same = step mid new so_far time (λ c now. so_far.now c (same c now))
