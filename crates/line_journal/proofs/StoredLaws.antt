-- What files stand for.
use Rattle.std.proofs.Common.{◌≡◌, ◌≢◌, ◌⊎◌, inl, inr, ℕ, ◌==◌, List, [], ◌∷◌, ◌++◌, length, take, drop, refl, sym, ◌∙◌, ap, subst, arith, append_assoc}
use Rattle.line_journal.proofs.Common.{Option, Some, None, IfSome, AllByRecursion, cases_eq, ne_eqb, cond-true, cond-false, eq-eqb, append-nil, drop_at, IsLine, marked_lines, records, JournalContent, snapshot_lines, shut_text, journal_text, stored_behind, journal_content}
use Rattle.line_journal.proofs.LineLaws.{marked_records, closed, open_end, parts, records_append}

abbrev pub AreLines : List (List ℕ) → Type 0
AreLines lines = AllByRecursion IsLine lines

abbrev Apart : ℕ → Type 0
Apart mark = mark ≢ 10

pub plus : Apart 43
plus = omega arith

pub equals : Apart 61
equals = omega arith

-- lines that count, and then whatever the rest has
pub after_records : (lines : List (List ℕ)) (rest : List ℕ) → AreLines lines → marked_lines 43 (records 43 lines ++ rest) ≡ lines ++ marked_lines 43 rest
after_records lines rest each = marked_records 43 plus lines rest each

-- another byte in place of the mark ends the lines
pub shut : (lines : List (List ℕ)) (byte : ℕ) (rest : List ℕ) → AreLines lines → byte ≢ 43 → marked_lines 43 (records 43 lines ++ byte ∷ rest) ≡ lines
shut lines byte rest each other =
    after_records lines (byte ∷ rest) each
    ∙ ap (λ (ls : List (List ℕ)). lines ++ ls) (closed 43 plus byte rest other)
    ∙ append-nil lines

pub shut_gate : (lines : List (List ℕ)) (rest : List ℕ) → AreLines lines → marked_lines 43 (records 43 lines ++ 45 ∷ rest) ≡ lines
shut_gate lines rest each = shut lines 45 rest each (omega arith)

-- the byte that a batch puts in place of the closed gate
abbrev pub gate_byte : List (List ℕ) → ℕ
gate_byte [] = 45
gate_byte (line ∷ lines) = 43

pub gate_first : (lines : List (List ℕ)) → take 1 (shut_text lines) ≡ gate_byte lines ∷ []
gate_first [] = refl
gate_first (line ∷ lines) = refl

pub gate_and_behind : (lines : List (List ℕ)) → gate_byte lines ∷ drop 1 (shut_text lines) ≡ shut_text lines
gate_and_behind [] = refl
gate_and_behind (line ∷ lines) = refl

-- with any byte in place of the gate the lines of a batch all count, or none does
pub any_gate : (lines new : List (List ℕ)) (byte : ℕ) → AreLines lines → AreLines new
    → (marked_lines 43 (records 43 lines ++ byte ∷ drop 1 (shut_text new)) ≡ lines) ⊎ (marked_lines 43 (records 43 lines ++ byte ∷ drop 1 (shut_text new)) ≡ lines ++ new)
any_gate lines [] byte each each_new = elim (cases_eq byte 43) [
  | inl is ↦ inl (after_records lines (byte ∷ []) each ∙ ap (λ (ls : List (List ℕ)). lines ++ ls) (ap (λ (b : ℕ). marked_lines 43 (b ∷ [])) is ∙ open_end 43 plus [] refl) ∙ append-nil lines)
  | inr other ↦ inl (shut lines byte [] each other)
]
any_gate lines (line ∷ new) byte each each_new = elim (cases_eq byte 43) [
  | inl is ↦ inr (
      after_records lines (byte ∷ drop 1 (shut_text (line ∷ new))) each
      ∙ ap (λ (ls : List (List ℕ)). lines ++ ls) (ap (λ (b : ℕ). marked_lines 43 (b ∷ drop 1 (shut_text (line ∷ new)))) is ∙ shut_gate (line ∷ new) [] each_new))
  | inr other ↦ inl (shut lines byte (drop 1 (shut_text (line ∷ new))) each other)
]

-- a snapshot, and whatever stands behind it
pub after_snapshot : (snapshot : List (List ℕ)) (rest : List ℕ) → AreLines snapshot → journal_content (snapshot_lines snapshot ++ rest) ≡ Some (record { snapshot = snapshot; lines = marked_lines 43 rest })
after_snapshot snapshot rest each =
    let file = records 61 snapshot ++ 10 ∷ rest in
    let lines : marked_lines 61 file ≡ snapshot =
    marked_records 61 equals snapshot (10 ∷ rest) each
    ∙ ap (λ (ls : List (List ℕ)). snapshot ++ ls) (closed 61 equals 10 rest (omega arith))
    ∙ append-nil snapshot in
    ap journal_content (append_assoc (records 61 snapshot) (10 ∷ []) rest)
    ∙ ap (λ (ls : List (List ℕ)). stored_behind ls (drop (length (records 61 ls)) file)) lines
    ∙ ap (λ (t : List ℕ). stored_behind snapshot t) (drop_at (records 61 snapshot) (10 ∷ rest) (length (records 61 snapshot)) refl)

-- a file that has a snapshot
pub record JournalParts (file : List ℕ) (stored : JournalContent) : Type 0 where
  pub rest : List ℕ
  pub split : file ≡ snapshot_lines stored.snapshot ++ rest
  pub lines : stored.lines ≡ marked_lines 43 rest
  pub each : AreLines stored.snapshot

behind_parts : (file : List ℕ) (snapshot : List (List ℕ)) (behind : List ℕ) → AreLines snapshot → file ≡ records 61 snapshot ++ behind → IfSome (stored_behind snapshot behind) (JournalParts file)
behind_parts file snapshot [] each split = tt
behind_parts file snapshot (b ∷ rest) each split = elim (cases_eq b 10) [
  | inl is ↦
      let some : JournalContent = record { snapshot = snapshot; lines = marked_lines 43 rest } in
      subst (λ (o : Option JournalContent). IfSome o (JournalParts file)) (sym (cond-true (b == 10) (Some some) None (eq-eqb b 10 is))) (record {
        rest = rest;
        split = split ∙ ap (λ (m : ℕ). records 61 snapshot ++ m ∷ rest) is ∙ sym (append_assoc (records 61 snapshot) (10 ∷ []) rest);
        lines = refl;
        each = each;
      })
  | inr other ↦
      let some : JournalContent = record { snapshot = snapshot; lines = marked_lines 43 rest } in
      subst (λ (o : Option JournalContent). IfSome o (JournalParts file)) (sym (cond-false (b == 10) (Some some) None (ne_eqb b 10 other))) tt
]

pub journal_parts : (file : List ℕ) → IfSome (journal_content file) (JournalParts file)
journal_parts file =
    let p = parts 61 equals file in
    let end : drop (length (records 61 (marked_lines 61 file))) file ≡ p.end =
    ap (λ (t : List ℕ). drop (length (records 61 (marked_lines 61 file))) t) p.split ∙ drop_at (records 61 (marked_lines 61 file)) p.end (length (records 61 (marked_lines 61 file))) refl in
    behind_parts file (marked_lines 61 file) (drop (length (records 61 (marked_lines 61 file))) file) p.each (p.split ∙ ap (λ (t : List ℕ). records 61 (marked_lines 61 file) ++ t) (sym end))

pub parts_of : (file : List ℕ) (stored : JournalContent) → journal_content file ≡ Some stored → JournalParts file stored
parts_of file stored is = subst (λ (o : Option JournalContent). IfSome o (JournalParts file)) is (journal_parts file)

pub lines_of : (file : List ℕ) (stored : JournalContent) → journal_content file ≡ Some stored → AreLines stored.lines
lines_of file stored is = let p = parts_of file stored is in subst AreLines (sym p.lines) (parts 43 plus p.rest).each

-- all that stands in front of the gate
abbrev pub front : JournalContent → List ℕ
front stored = snapshot_lines stored.snapshot ++ records 43 stored.lines

pub front_and_gate : (stored : JournalContent) → journal_text stored ≡ front stored ++ 45 ∷ []
front_and_gate stored = sym (append_assoc (snapshot_lines stored.snapshot) (records 43 stored.lines) (45 ∷ []))

pub after_front : (stored : JournalContent) (rest : List ℕ) → AreLines stored.snapshot → journal_content (front stored ++ rest) ≡ Some (record { snapshot = stored.snapshot; lines = marked_lines 43 (records 43 stored.lines ++ rest) })
after_front stored rest each =
    ap journal_content (append_assoc (snapshot_lines stored.snapshot) (records 43 stored.lines) rest)
    ∙ after_snapshot stored.snapshot (records 43 stored.lines ++ rest) each

-- such a file with lines at its end
abbrev pub longer : JournalContent → List (List ℕ) → JournalContent
longer stored new = record { snapshot = stored.snapshot; lines = stored.lines ++ new }

pub of_text : (stored : JournalContent) → AreLines stored.snapshot → AreLines stored.lines → journal_content (journal_text stored) ≡ Some stored
of_text stored each each_line =
    ap journal_content (front_and_gate stored) ∙ after_front stored (45 ∷ []) each
    ∙ ap (λ (ls : List (List ℕ)). Some (record { snapshot = stored.snapshot; lines = ls })) (shut_gate stored.lines [] each_line)

pub text_longer : (stored : JournalContent) (new : List (List ℕ)) → front stored ++ shut_text new ≡ journal_text (longer stored new)
text_longer stored new =
    append_assoc (snapshot_lines stored.snapshot) (records 43 stored.lines) (shut_text new)
    ∙ ap (λ (t : List ℕ). snapshot_lines stored.snapshot ++ t) (
    sym (append_assoc (records 43 stored.lines) (records 43 new) (45 ∷ []))
    ∙ ap (λ (t : List ℕ). t ++ 45 ∷ []) (sym (records_append 43 plus stored.lines new)))

-- marked_lines lines, and then another byte
pub shut_marked : (mark : ℕ) → Apart mark → (byte : ℕ) → byte ≢ mark → (old text rest : List ℕ) → old ≡ records mark (marked_lines mark old) → text ≡ old ++ byte ∷ rest → marked_lines mark text ≡ marked_lines mark old
shut_marked mark apart byte other old text rest is_old is =
    ap (λ (t : List ℕ). marked_lines mark t) (is ∙ ap (λ (t : List ℕ). t ++ byte ∷ rest) is_old)
    ∙ marked_records mark apart (marked_lines mark old) (byte ∷ rest) (parts mark apart old).each
    ∙ ap (λ (ls : List (List ℕ)). marked_lines mark old ++ ls) (closed mark apart byte rest other)
    ∙ append-nil (marked_lines mark old)
