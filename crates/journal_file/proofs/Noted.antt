-- A record with one call more.
use Rattle.std.proofs.Common.{◌≡◌, ◌⊎◌, inl, inr, ℕ, suc, ◌+◌, ◌<◌, ◌≤◌, List, [], ◌∷◌, ◌++◌, length, take, refl, sym, ◌∙◌, ap, subst, arith, length-append, if◌then◌else◌}
use Rattle.std.proofs.lemmas.Bool.{cases_lt}
use Rattle.std.proofs.lemmas.List.{take_all, take-append-le}
use Rattle.line_journal.specs.Device.{Elapses}
use Rattle.journal_file.specs.Disk.{FileEvent, bytes_after, content_from, file_content, LeavesAfter, LeavesFrom, MayLeave, MightLeave, is_failure, failures}

content_last : (events : List FileEvent) (event : FileEvent) (file : List ℕ)
    → content_from file (events ++ event ∷ []) ≡ bytes_after event.0 event.1.items (content_from file events)
content_last [] event file = refl
content_last (e ∷ events) event file = content_last events event (bytes_after e.0 e.1.items file)

leaves_last : (events : List FileEvent) (event : FileEvent) (file : List ℕ) (before : List ℕ → Type 0) (c : List ℕ)
    → LeavesFrom file before (events ++ event ∷ []) c
    → LeavesAfter event.0 event.1.items (content_from file events) (LeavesFrom file before events) c
leaves_last [] event file before c left = left
leaves_last (e ∷ events) event file before c left =
    leaves_last events event (bytes_after e.0 e.1.items file) (LeavesAfter e.0 e.1.items file before) c left

longer : (events : List FileEvent) (event : FileEvent) → length (events ++ event ∷ []) ≡ suc (length events)
longer events event = omega (arith, length-append events (event ∷ []))

-- ---- for whoever has a record of one call more

module _ (events later : List FileEvent) (event : FileEvent) (is : later ≡ events ++ event ∷ []) where
  pub content_is : file_content later ≡ bytes_after event.0 event.1.items (file_content events)
  content_is = ap (λ (es : List FileEvent). file_content es) is ∙ content_last events event []

  pub leaves_now : (c : List ℕ) → MayLeave later c → LeavesAfter event.0 event.1.items (file_content events) (MayLeave events) c
  leaves_now c left = leaves_last events event [] (λ d. Unit {0}) c (subst (λ (es : List FileEvent). MayLeave es c) is left)

  size : length later ≡ suc (length events)
  size = ap length is ∙ longer events event

  front : (k : ℕ) → k ≤ length events → take k later ≡ take k events
  front k le = ap (λ (es : List FileEvent). take k es) is ∙ take-append-le k events (event ∷ []) le

  pub time : Elapses (length events) (length later) (MightLeave events) (MightLeave later) (MayLeave later)
  time = record {
    later = omega (arith, size);
    nothing_else = λ t c le might. earlier t c might (cases_lt (length events) might.made);
    keeps = λ t c le might. record {
      made = might.made;
      later = might.later;
      no_more = omega (arith, might.no_more, size);
      left = subst (λ (es : List FileEvent). MayLeave es c) (sym (front might.made might.no_more)) might.left;
    };
  }
    where
      earlier : (t : ℕ) (c : List ℕ) (might : MightLeave later t c) → (length events < might.made) ⊎ (might.made ≤ length events) → MightLeave events t c ⊎ MayLeave later c
      earlier t c might (inr le) = inl (record {
        made = might.made;
        later = might.later;
        no_more = le;
        left = subst (λ (es : List FileEvent). MayLeave es c) (front might.made le) might.left;
      })
      earlier t c might (inl more) = inr (subst (λ (es : List FileEvent). MayLeave es c) (take_all might.made later (omega (arith, more, size))) might.left)

-- ---- failures

failures_last : (events : List FileEvent) (event : FileEvent) → failures (events ++ event ∷ []) ≡ failures events + (if is_failure event.0 then 1 else 0)
failures_last [] event = omega arith
failures_last (e ∷ events) event = omega (arith, failures_last events event)

pub failures_now : (events later : List FileEvent) (event : FileEvent) → later ≡ events ++ event ∷ [] → failures later ≡ failures events + (if is_failure event.0 then 1 else 0)
failures_now events later event is = ap (λ (es : List FileEvent). failures es) is ∙ failures_last events event
