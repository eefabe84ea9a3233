-- Reading a plant file among the lines.
use Rattle.std.proofs.Common.{◌≡◌, ℕ, suc, ◌+◌, Bool, true, false, List, [], ◌∷◌, ◌++◌, refl, sym, ap, subst, ◌∙◌, arith, codes, append_assoc, append-nil, Ok, Err}
use Rattle.state_service.proofs.ResumedLemmas.Common.{drop, IsUtf8, is_utf8, is_utf8-from_IsUtf8, bytes_eq-Decides, parse_document, PlantFields, text_plant, IsHeld, Keeping, Another, is_dashes, is_ended, lines_taken, file_text, most_bytes, most_kept, IsKeptUpTo, IsReadingFile, IsFileRead, IsWhole, IsPlantFileText, IsFileOf}
use Rattle.slice_table.specs.declared.plant_fault.PlantFault.{PlantFault}
use Rattle.line_service.specs.script.Lines.{lines_of, parts_of, parts_from}
use Rattle.state_service.specs.declared.resumed.plant_file.PlantFileEnd.TheVariants.{Ended}

-- ---- the first of some lines

module _ (part : List ℕ) (lines : List (List ℕ)) where
  ended_here : is_dashes part ≡ true → is_ended (part ∷ lines) ≡ true
  ended_here is = rw is refl

  no_text_here : is_dashes part ≡ true → file_text (part ∷ lines) ≡ []
  no_text_here is = rw is refl

  one_taken : is_dashes part ≡ true → lines_taken (part ∷ lines) ≡ 1
  one_taken is = rw is refl

  one_left : is_dashes part ≡ true → drop (lines_taken (part ∷ lines)) (part ∷ lines) ≡ lines
  one_left is = rw is refl

  ended_later : is_dashes part ≡ false → is_ended (part ∷ lines) ≡ is_ended lines
  ended_later is = rw is refl

  text_here : is_dashes part ≡ false → file_text (part ∷ lines) ≡ (part ++ 10 ∷ []) ++ file_text lines
  text_here is = rw is refl

  more_taken : is_dashes part ≡ false → lines_taken (part ∷ lines) ≡ 1 + lines_taken lines
  more_taken is = rw is refl

  left_later : is_dashes part ≡ false → drop (lines_taken (part ∷ lines)) (part ∷ lines) ≡ drop (lines_taken lines) lines
  left_later is = rw is (let next : 1 + lines_taken lines ≡ suc (lines_taken lines) = omega arith in ap (λ (n : ℕ). drop n (part ∷ lines)) next)

-- ---- a line feed

module _ (input rest : List ℕ) (first number next : ℕ) (held : List ℕ) (is_long : Bool) (keeping new_keeping : Keeping) (bytes new_bytes : List ℕ) (counted : next ≡ number + 1) where
  -- it ends the line of three dashes
  pub file_ended : (is : IsReadingFile input (10 ∷ rest) first number held is_long keeping bytes) → is_dashes is.part ≡ true
      → ((text : List ℕ) → IsKeptUpTo most_kept keeping bytes (text ++ codes "---") → IsKeptUpTo most_bytes new_keeping new_bytes text)
      → IsFileRead (lines_of input) rest first next new_keeping new_bytes (Ended Another)
  unfolding parts_of
  file_ended is dashes removed =
      let more = parts_from 10 [] rest in
      let kept = removed is.before (subst (λ (p : List ℕ). IsKeptUpTo most_kept keeping bytes (is.before ++ p)) ((bytes_eq-Decides is.part (codes "---")).0 dashes) is.is_kept) in
      let text : file_text (lines_of input) ≡ is.before = is.text_is ∙ ap (λ (t : List ℕ). is.before ++ t) (no_text_here is.part more dashes) ∙ append-nil is.before in
      record {
        is_kept = (is.ended ∙ ended_here is.part more dashes, subst (λ (t : List ℕ). IsKeptUpTo most_bytes new_keeping new_bytes t) (sym text) kept);
        left = is.left ∙ one_left is.part more dashes;
        counted = omega (arith, counted, is.counted, one_taken is.part more dashes);
      }

  -- it ends another line
  pub line_ended : (new_held : List ℕ) (new_long : Bool) → IsHeld new_held new_long [] → (is : IsReadingFile input (10 ∷ rest) first number held is_long keeping bytes) → is_dashes is.part ≡ false
      → ((text : List ℕ) → IsKeptUpTo most_kept keeping bytes text → IsKeptUpTo most_kept new_keeping new_bytes (text ++ 10 ∷ []))
      → IsReadingFile input rest first next new_held new_long new_keeping new_bytes
  unfolding parts_of
  line_ended new_held new_long empty is other kept =
      let more = parts_from 10 [] rest in
      let line = is.part ++ 10 ∷ [] in
      let whole : (is.before ++ is.part) ++ 10 ∷ [] ≡ (is.before ++ line) ++ [] = append_assoc is.before is.part (10 ∷ []) ∙ sym (append-nil (is.before ++ line)) in
      record {
        before = is.before ++ line;
        part = [];
        is_held = empty;
        is_kept = subst (λ (t : List ℕ). IsKeptUpTo most_kept new_keeping new_bytes t) whole (kept (is.before ++ is.part) is.is_kept);
        text_is = is.text_is ∙ ap (λ (t : List ℕ). is.before ++ t) (text_here is.part more other) ∙ sym (append_assoc is.before line (file_text more));
        ended = is.ended ∙ ended_later is.part more other;
        counted = omega (arith, counted, is.counted, more_taken is.part more other);
        left = is.left ∙ left_later is.part more other;
      }

-- ---- the first line of the file

pub file_begun : (input : List ℕ) (number : ℕ) (held : List ℕ) (is_long : Bool) (keeping : Keeping) (bytes : List ℕ) → IsHeld held is_long [] → IsKeptUpTo most_kept keeping bytes []
    → IsReadingFile input input number number held is_long keeping bytes
unfolding parts_of
file_begun input number held is_long keeping bytes empty kept = record {
  before = [];
  part = [];
  is_held = empty;
  is_kept = kept;
  text_is = refl;
  ended = refl;
  counted = refl;
  left = refl;
}

-- ---- what a whole file says

pub valid_file : (lines : List (List ℕ)) (text : List ℕ) (plant : PlantFields) → IsWhole lines → text ≡ file_text lines → IsUtf8 text → text_plant (parse_document text) ≡ Ok plant → IsFileOf lines plant
valid_file lines text plant whole is utf8 says = record {
  is_text = (whole, subst (λ (t : List ℕ). is_utf8 t ≡ true) is (is_utf8-from_IsUtf8 text utf8));
  says = subst (λ (t : List ℕ). text_plant (parse_document t) ≡ Ok plant) is says;
}

pub invalid_file : (lines : List (List ℕ)) (text : List ℕ) (fault : PlantFault) → IsWhole lines → text ≡ file_text lines → IsUtf8 text → text_plant (parse_document text) ≡ Err fault
    → IsPlantFileText lines × (text_plant (parse_document (file_text lines)) ≡ Err fault)
invalid_file lines text fault whole is utf8 says = (
  (whole, subst (λ (t : List ℕ). is_utf8 t ≡ true) is (is_utf8-from_IsUtf8 text utf8)),
  subst (λ (t : List ℕ). text_plant (parse_document t) ≡ Err fault) is says,
)
