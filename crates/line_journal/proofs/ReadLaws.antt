-- One line more in memory.
use Rattle.std.proofs.Common.{◌≡◌, ℕ, ◌+◌, List, [], ◌∷◌, ◌++◌, length, Vec, refl, ◌∙◌, ap, arith, length-append}
use Rattle.line_journal.proofs.Common.{Global, texts, records}

texts_append : (lines : List (Vec ℕ Global)) (line : Vec ℕ Global) → texts (lines ++ line ∷ []) ≡ texts lines ++ line.items ∷ []
texts_append [] line = refl
texts_append (first ∷ lines) line = ap (λ (ls : List (List ℕ)). first.items ∷ ls) (texts_append lines line)

pub texts_push : (lines : List (Vec ℕ Global)) (line : Vec ℕ Global) (new : List (Vec ℕ Global)) → new ≡ lines ++ line ∷ [] → texts new ≡ texts lines ++ line.items ∷ []
texts_push lines line new is = ap texts is ∙ texts_append lines line

pub records_push : (mark : ℕ) (lines : List (List ℕ)) (line : List ℕ) → length (records mark (lines ++ line ∷ [])) ≡ length (records mark lines) + length line + 2
records_push mark [] line = omega (arith, length-append line (10 ∷ []))
records_push mark (first ∷ lines) line =
    omega (arith, records_push mark lines line, length-append first (10 ∷ records mark lines), length-append first (10 ∷ records mark (lines ++ line ∷ [])))
