-- One line more at the end of marked_lines lines.
use Rattle.std.proofs.Common.{◌≡◌, ◌≢◌, ℕ, List, [], ◌∷◌, ◌++◌, sym, ◌∙◌, ap}
use Rattle.line_journal.specs.Lines.{IsLine, marked_lines, records}
use Rattle.line_journal.proofs.LineLaws.{marked_line, marked_records, parts, records_append}

module _ (mark : ℕ) (apart : mark ≢ 10) (old line text : List ℕ) (is_text : old ≡ records mark (marked_lines mark old)) (ok : IsLine line) (is : text ≡ old ++ records mark (line ∷ [])) where
  pub pushed : marked_lines mark text ≡ marked_lines mark old ++ line ∷ []
  pushed =
      ap (λ (t : List ℕ). marked_lines mark t) (is ∙ ap (λ (t : List ℕ). t ++ records mark (line ∷ [])) is_text)
      ∙ marked_records mark apart (marked_lines mark old) (records mark (line ∷ [])) (parts mark apart old).each
      ∙ ap (λ (ls : List (List ℕ)). marked_lines mark old ++ ls) (marked_line mark apart line [] ok)

  pub pushed_text : text ≡ records mark (marked_lines mark text)
  pushed_text =
      is ∙ ap (λ (t : List ℕ). t ++ records mark (line ∷ [])) is_text
      ∙ sym (records_append mark apart (marked_lines mark old) (line ∷ []))
      ∙ ap (λ (ls : List (List ℕ)). records mark ls) (sym pushed)
