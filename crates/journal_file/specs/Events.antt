-- One call more in a record of calls.
use Rattle.std.specs.Prelude.{◌≤◌, ℕ, List, length}
use Rattle.std.proofs.Common.{sym, subst, arith}
use Rattle.std.proofs.lemmas.List.{take_all}
use Rattle.journal_file.specs.Disk.{FileEvent, MayLeave, MightLeave}

-- this moment is one of those since an earlier one
pub counts_now : (events : List FileEvent) (t : ℕ) (c : List ℕ) → t ≤ length events → MayLeave events c → MightLeave events t c
counts_now events t c le left = record {
  made = length events;
  later = le;
  no_more = omega arith;
  left = subst (λ (es : List FileEvent). MayLeave es c) (sym (take_all (length events) events (omega arith))) left;
}

-- and since this moment there is no other
pub only_now : (events : List FileEvent) (c : List ℕ) → MightLeave events (length events) c → MayLeave events c
only_now events c might = subst (λ (es : List FileEvent). MayLeave es c) (take_all might.made events (omega (arith, might.later))) might.left
