-- What a crash leaves in each step of adding a batch.
use Rattle.std.proofs.Common.{◌≡◌, inl, inr, ⊎_elim, ℕ, ◌+◌, ◌≤◌, List, [], ◌∷◌, ◌++◌, length, get_or, take, drop, ◌∙◌, ap, subst, arith, length-append}
use Rattle.line_journal.proofs.Common.{Some, IsOverwritten, Torn, Follows, Only, marked_lines, records, JournalContent, shut_text, journal_text, journal_content, IsBeforeOrAfter}
use Rattle.line_journal.proofs.Files.{torn_behind, written_behind, torn_gate, written_gate}
use Rattle.line_journal.proofs.StoredLaws.{AreLines, shut_gate, front, front_and_gate, after_front, longer, text_longer, gate_byte, gate_first, gate_and_behind, any_gate}

-- what a crash may leave
abbrev pub Left : JournalContent → List (List ℕ) → List ℕ → Type 0
Left stored new c = IsBeforeOrAfter (Some stored) (Some (longer stored new)) c

-- the file with the batch behind the closed gate
abbrev pub staged : JournalContent → List (List ℕ) → List ℕ
staged stored new = front stored ++ 45 ∷ drop 1 (shut_text new)

module _ (stored : JournalContent) (new : List (List ℕ)) (gate : ℕ) (each : AreLines stored.snapshot) (each_line : AreLines stored.lines) (each_new : AreLines new) (size : gate + 1 ≡ length (journal_text stored)) where
  front_size : gate ≡ length (front stored)
  front_size = omega (arith, size, ap length (front_and_gate stored), length-append (front stored) (45 ∷ []))

  pub staged_size : gate + 1 ≤ length (staged stored new)
  staged_size = omega (arith, front_size, length-append (front stored) (45 ∷ drop 1 (shut_text new)))

  with_these : (lines : List (List ℕ)) (rest c : List ℕ) → c ≡ front stored ++ rest → marked_lines 43 (records 43 stored.lines ++ rest) ≡ lines → journal_content c ≡ Some (record { snapshot = stored.snapshot; lines = lines })
  with_these lines rest c is are =
      ap journal_content is ∙ after_front stored rest each ∙ ap (λ (ls : List (List ℕ)). Some (record { snapshot = stored.snapshot; lines = ls })) are

  pub behind_crash : (n : ℕ) (file : List ℕ) (old later : List ℕ → Type 0) → file ≡ journal_text stored → Only file old → Follows (Torn (gate + 1) n) old later
      → (c : List ℕ) → later c → Left stored new c
  behind_crash n file old later is only follows c left =
      let from = follows c left in
      let torn = subst (λ (f : List ℕ). Torn (gate + 1) n f c) (only from.0 from.1 ∙ is ∙ front_and_gate stored) from.2 in
      inl (with_these stored.lines (45 ∷ drop (gate + 1) c) c (torn_behind (front stored) gate front_size n c torn) (shut_gate stored.lines (drop (gate + 1) c) each_line))

  pub is_staged : (file c bytes : List ℕ) → file ≡ journal_text stored → bytes ≡ drop 1 (shut_text new) → IsOverwritten file (gate + 1) bytes c → c ≡ staged stored new
  is_staged file c bytes is are holds =
      written_behind (front stored) gate front_size bytes c (subst (λ (f : List ℕ). IsOverwritten f (gate + 1) bytes c) (is ∙ front_and_gate stored) holds)
      ∙ ap (λ (t : List ℕ). front stored ++ 45 ∷ t) are

  pub gate_crash : (n : ℕ) (file : List ℕ) (old later : List ℕ → Type 0) → n ≡ 1 → file ≡ staged stored new → Only file old → Follows (Torn gate n) old later
      → (c : List ℕ) → later c → Left stored new c
  gate_crash n file old later one is only follows c left =
      let from = follows c left in
      let torn = subst (λ (f : List ℕ). Torn gate n f c) (only from.0 from.1 ∙ is) from.2 in
      let torn_one = subst (λ (m : ℕ). Torn gate m (staged stored new) c) one torn in
      let file_is = torn_gate (front stored) gate front_size (drop 1 (shut_text new)) c torn_one in
      let rest = get_or c gate 0 ∷ drop 1 (shut_text new) in
      ⊎_elim (λ none. inl (with_these stored.lines rest c file_is none)) (λ all. inr (with_these (stored.lines ++ new) rest c file_is all)) (any_gate stored.lines new (get_or c gate 0) each_line each_new)

  pub is_opened : (file c bytes : List ℕ) → file ≡ staged stored new → bytes ≡ take 1 (shut_text new) → IsOverwritten file gate bytes c → c ≡ journal_text (longer stored new)
  is_opened file c bytes is are holds =
      let here = subst (λ (f : List ℕ). IsOverwritten f gate bytes c) is holds in
      let byte = subst (λ (bs : List ℕ). IsOverwritten (staged stored new) gate bs c) (are ∙ gate_first new) here in
      written_gate (front stored) gate front_size (gate_byte new) (drop 1 (shut_text new)) c byte
      ∙ ap (λ (t : List ℕ). front stored ++ t) (gate_and_behind new)
      ∙ text_longer stored new

  pub longer_size : (n : ℕ) → n ≡ length (drop 1 (shut_text new)) → gate + n + 1 ≡ length (journal_text (longer stored new))
  longer_size n is =
      omega (arith, is, front_size, ap length (text_longer stored new), length-append (front stored) (shut_text new), ap length (gate_and_behind new))
