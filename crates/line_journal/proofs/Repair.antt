-- What a crash leaves while the end of a file is repaired.
use Rattle.std.proofs.Common.{◌≡◌, inl, inr, ℕ, ◌-◌, ◌≤◌, List, [], ◌∷◌, ◌++◌, length, take, drop, refl, sym, ◌∙◌, ap, subst, arith, append_assoc, length-append}
use Rattle.line_journal.proofs.Common.{Some, append-nil, cases_eq, IsOverwritten, Torn, Cut, Follows, Only, marked_lines, records, JournalContent, snapshot_lines, journal_text, journal_content}
use Rattle.line_journal.proofs.LineLaws.{parts, front_nothing, closed, open_end}
use Rattle.line_journal.proofs.Files.{any_cut, cut_done, torn_end, written_end}
use Rattle.line_journal.proofs.StoredLaws.{plus, parts_of, lines_of, after_records, front, front_and_gate, after_front}

short_nothing : (bytes : List ℕ) → length bytes ≤ 1 → marked_lines 43 bytes ≡ []
short_nothing [] short = refl
short_nothing (a ∷ []) short = elim (cases_eq a 43) [
  | inl is ↦ ap (λ (b : ℕ). marked_lines 43 (b ∷ [])) is ∙ open_end 43 plus [] refl
  | inr other ↦ closed 43 plus a [] other
]
short_nothing (a ∷ b ∷ bytes) short = absurd (omega arith)

module _ (file : List ℕ) (stored : JournalContent) (is : journal_content file ≡ Some stored) (gate : ℕ) (size : gate ≡ length (front stored)) where
  record Ending : Type 0 where
    pub end : List ℕ
    pub split : file ≡ front stored ++ end
    pub nothing : marked_lines 43 end ≡ []

  ending : Ending
  ending =
      let journal = parts_of file stored is in
      let p = parts 43 plus journal.rest in
      record {
        end = p.end;
        split = journal.split
            ∙ ap (λ (t : List ℕ). snapshot_lines stored.snapshot ++ t) (p.split ∙ ap (λ (ls : List (List ℕ)). records 43 ls ++ p.end) (sym journal.lines))
            ∙ sym (append_assoc (snapshot_lines stored.snapshot) (records 43 stored.lines) p.end);
        nothing = p.nothing;
      }

  nothing_after : (end : List ℕ) → marked_lines 43 end ≡ [] → journal_content (front stored ++ end) ≡ Some stored
  nothing_after end none =
      after_front stored end (parts_of file stored is).each
      ∙ ap (λ (ls : List (List ℕ)). Some (record { snapshot = stored.snapshot; lines = ls })) (
      after_records stored.lines end (lines_of file stored is) ∙ ap (λ (ls : List (List ℕ)). stored.lines ++ ls) none ∙ append-nil stored.lines)

  pub gate_inside : gate ≤ length file
  gate_inside = omega (arith, size, ap length ending.split, length-append (front stored) ending.end)

  pub cut_crash : (old later : List ℕ → Type 0) → Only file old → Follows (Cut gate) old later → (c : List ℕ) → later c → journal_content c ≡ Some stored
  cut_crash old later only follows c left =
      let from = follows c left in
      let cut = subst (λ (f : List ℕ). Cut gate f c) (only from.0 from.1 ∙ ending.split) from.2 in
      ap journal_content (any_cut (front stored) gate size ending.end c cut)
      ∙ nothing_after (take (length c - gate) ending.end) (front_nothing 43 plus (length c - gate) ending.end ending.nothing)

  pub is_cut : take gate file ≡ front stored
  is_cut = ap (λ (f : List ℕ). take gate f) ending.split ∙ cut_done (front stored) gate size ending.end

  pub gate_crash : (now : List ℕ) (old later : List ℕ → Type 0) → now ≡ front stored → Only now old → Follows (Torn gate 1) old later → (c : List ℕ) → later c → journal_content c ≡ Some stored
  gate_crash now old later at only follows c left =
      let from = follows c left in
      let end = torn_end (front stored) gate size c (subst (λ (f : List ℕ). Torn gate 1 f c) (only from.0 from.1 ∙ at) from.2) in
      ap journal_content end.0 ∙ nothing_after (drop gate c) (short_nothing (drop gate c) end.1)

  pub is_shut : (now c : List ℕ) → now ≡ front stored → IsOverwritten now gate (45 ∷ []) c → c ≡ journal_text stored
  is_shut now c at holds =
      written_end (front stored) gate size c (subst (λ (f : List ℕ). IsOverwritten f gate (45 ∷ []) c) at holds) ∙ sym (front_and_gate stored)
