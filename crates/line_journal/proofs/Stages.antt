-- What a crash leaves so far, from one device call of `append` to the next.
use Rattle.std.proofs.Common.{◌≡◌, inl, ℕ, ◌+◌, ◌-◌, ◌≤◌, List, [], ◌∷◌, ◌++◌, length, take, drop, sym, ◌∙◌, ap, subst, arith, length-append}
use Rattle.line_journal.proofs.Common.{Option, IsOverwritten, Torn, Follows, Only, Elapses, marked_lines, JournalContent, snapshot_lines, shut_text, journal_text, journal_content, with_lines, fresh, IsJournalSettled, IsBeforeOrAfter}
use Rattle.line_journal.proofs.LineLaws.{parts}
use Rattle.line_journal.proofs.Moments.{SoFar, at_start, step}
use Rattle.line_journal.proofs.StoredLaws.{AreLines, plus, equals, parts_of, lines_of, longer, of_text}
use Rattle.line_journal.proofs.Append.{Left, staged, staged_size, behind_crash, is_staged, gate_crash, is_opened, longer_size}

-- the lines of a batch are lines
pub batch_lines : (text : List ℕ) (new : List (List ℕ)) → marked_lines 43 text ≡ new → AreLines new
batch_lines text new is = subst AreLines is (parts 43 plus text).each

-- a file at rest, all of it on the disk
pub settled_as : {D : Type 0} (seen : D → List ℕ) (may_leave : D → List ℕ → Type 0) (device : D) (gate : ℕ) (stored : JournalContent)
    → AreLines stored.snapshot → AreLines stored.lines → seen device ≡ journal_text stored → gate + 1 ≡ length (journal_text stored) → Only (seen device) (may_leave device)
    → IsJournalSettled seen may_leave device gate
settled_as seen may_leave device gate stored each each_line is size only = record {
  stored = stored;
  stands_for = ap journal_content is ∙ of_text stored each each_line;
  file = is;
  gate_is_last = omega (arith, size, ap length is);
  durable = only;
}

module _ {D : Type 0} (seen : D → List ℕ) (may_leave : D → List ℕ → Type 0) (moment : D → ℕ) (left_since : D → ℕ → List ℕ → Type 0)
    (old : D) (gate : ℕ) (new : List (List ℕ)) (settled : IsJournalSettled seen may_leave old gate) (each_new : AreLines new) where
  stored : JournalContent
  stored = settled.stored

  each : AreLines settled.stored.snapshot
  each = (parts_of (seen old) settled.stored settled.stands_for).each

  each_line : AreLines settled.stored.lines
  each_line = lines_of (seen old) settled.stored settled.stands_for

  size : gate + 1 ≡ length (journal_text settled.stored)
  size = settled.gate_is_last ∙ ap length settled.file

  abbrev pub Outcome : List ℕ → Type 0
  Outcome c = IsBeforeOrAfter (journal_content (seen old)) (with_lines new (journal_content (seen old))) c

  outcome : (c : List ℕ) → Left settled.stored new c → Outcome c
  outcome c left = subst (λ (o : Option JournalContent). IsBeforeOrAfter o (with_lines new o) c) (sym settled.stands_for) left

  pub begun : ((c : List ℕ) → left_since old (moment old) c → may_leave old c) → SoFar moment left_since may_leave old old Outcome
  begun only_now = at_start moment left_since may_leave old Outcome only_now (λ c now. inl (ap journal_content (settled.durable c now)))

  pub wrote : (n : ℕ) (d : D) → SoFar moment left_since may_leave old old Outcome → Follows (Torn (gate + 1) n) (may_leave old) (may_leave d)
      → Elapses (moment old) (moment d) (left_since old) (left_since d) (may_leave d) → SoFar moment left_since may_leave old d Outcome
  wrote n d so_far follows time =
      step moment left_since may_leave old Outcome old d so_far time (λ c now.
      outcome c (behind_crash settled.stored new gate each each_line each_new size n (seen old) (may_leave old) (may_leave d) settled.file settled.durable follows c now))

  pub behind_gate : (d : D) (bytes : List ℕ) → bytes ≡ drop 1 (shut_text new) → IsOverwritten (seen old) (gate + 1) bytes (seen d) → seen d ≡ staged settled.stored new
  behind_gate d bytes are holds = is_staged settled.stored new gate each each_line each_new size (seen old) (seen d) bytes settled.file are holds

  pub gate_inside : (d : D) → seen d ≡ staged settled.stored new → gate ≤ length (seen d)
  gate_inside d is = omega (arith, ap length is, staged_size settled.stored new gate each each_line each_new size)

  pub opened : (n : ℕ) (file : List ℕ) (mid d : D) → SoFar moment left_since may_leave old mid Outcome → n ≡ 1 → file ≡ staged settled.stored new
      → Only file (may_leave mid) → Follows (Torn gate n) (may_leave mid) (may_leave d)
      → Elapses (moment mid) (moment d) (left_since mid) (left_since d) (may_leave d) → SoFar moment left_since may_leave old d Outcome
  opened n file mid d so_far one is only follows time =
      step moment left_since may_leave old Outcome mid d so_far time (λ c now.
      outcome c (gate_crash settled.stored new gate each each_line each_new size n file (may_leave mid) (may_leave d) one is only follows c now))

  pub acknowledged : (n : ℕ) (file bytes : List ℕ) (d : D) → file ≡ staged settled.stored new → bytes ≡ take 1 (shut_text new) → n ≡ length (drop 1 (shut_text new))
      → (file' : List ℕ) → IsOverwritten file gate bytes file' → seen d ≡ file' → Only file' (may_leave d)
      → IsJournalSettled seen may_leave d (gate + n) × (journal_content (seen d) ≡ with_lines new (journal_content (seen old)))
  acknowledged n file bytes d is are long file' holds same only =
      let now : seen d ≡ journal_text (longer settled.stored new) = same ∙ is_opened settled.stored new gate each each_line each_new size file file' bytes is are holds in
      let result = settled_as seen may_leave d (gate + n) (longer settled.stored new) each (both settled.stored.lines new each_line each_new) now
      (longer_size settled.stored new gate each each_line each_new size n long) (subst (λ (f : List ℕ). Only f (may_leave d)) (sym same) only) in
      (result, ap journal_content now ∙ of_text (longer settled.stored new) each (both settled.stored.lines new each_line each_new) ∙ ap (λ (o : Option JournalContent). with_lines new o) (sym settled.stands_for))
    where
      both : (lines more : List (List ℕ)) → AreLines lines → AreLines more → AreLines (lines ++ more)
      both [] more first second = second
      both (line ∷ lines) more first second = (first.0, both lines more first.1 second)

-- a snapshot with no line, all of it on the disk
pub settled_fresh : {D : Type 0} (seen : D → List ℕ) (may_leave : D → List ℕ → Type 0) (device : D) (len : ℕ) (text : List ℕ) (snapshot : List (List ℕ))
    → text ≡ journal_text (record { snapshot = snapshot; lines = [] }) → marked_lines 61 text ≡ snapshot → seen device ≡ text → len ≡ length text → Only (seen device) (may_leave device)
    → IsJournalSettled seen may_leave device (len - 1) × (journal_content (seen device) ≡ fresh snapshot)
settled_fresh seen may_leave device len text snapshot is are same long only =
    let stored : JournalContent = record { snapshot = snapshot; lines = [] } in
    let each : AreLines snapshot = subst AreLines are (parts 61 equals text).each in
    let size : len - 1 + 1 ≡ length (journal_text stored) = omega (arith, long, ap length is, length-append (snapshot_lines snapshot) (45 ∷ [])) in (
      settled_as seen may_leave device (len - 1) stored each tt (same ∙ is) size only,
      ap journal_content (same ∙ is) ∙ of_text stored each tt,
    )
