-- Lines and the messages in them, one after the other.
use Rattle.std.proofs.Common.{◌≡◌, ℕ, zero, suc, ◌+◌, ◌<◌, ◌==◌, Bool, true, false, List, [], ◌∷◌, ◌++◌, length, map, take, drop, get_or, Option, Some, None, Err, refl, sym, ap, ◌∙◌, append_assoc, append-nil, add-one, drop-cons, eq-eqb, arith, slice_index}
use Rattle.line_service.proofs.ScriptLemmas.Common.{eqb-true, false_from_ne_true, take_all, drop-map, Bor, message_in, messages_after, Nowhere, NoneBefore, Passes, is_byte}
use Rattle.line_service.specs.script.Lines.{parts_from, parts_of}
use Rattle.line_service.proofs.ScriptLemmas.SaidSoFar.{IsSaidSoFar}

-- ---- lines

from_byte : (mark : ℕ) (line : List ℕ) (b : ℕ) (bytes : List ℕ) (t : Bool) → (b == mark) ≡ t → parts_from mark line (b ∷ bytes) ≡ elim t [ true ↦ line ∷ parts_from mark [] bytes | false ↦ parts_from mark (line ++ b ∷ []) bytes ]
from_byte mark line b bytes t e = ap (λ (v : Bool). elim v [ true ↦ line ∷ parts_from mark [] bytes | false ↦ parts_from mark (line ++ b ∷ []) bytes ]) e

-- the bytes up to the first mark are a part
pub split_first : (mark : ℕ) (before rest : List ℕ) (place : ℕ) → place < length rest → Nowhere (Passes (is_byte mark) rest) 0 place → Passes (is_byte mark) rest place
    → parts_from mark before rest ≡ (before ++ take place rest) ∷ parts_from mark [] (drop (suc place) rest)
split_first mark before [] place lt none is = absurd (omega arith)
split_first mark before (b ∷ bytes) zero lt none is =
    from_byte mark before b bytes true is ∙ ap (λ (x : List ℕ). x ∷ parts_from mark [] bytes) (sym (append-nil before))
split_first mark before (b ∷ bytes) (suc place) lt none is =
    from_byte mark before b bytes false (false_from_ne_true (b == mark) (λ hit. none 0 (omega arith) (omega arith) hit))
    ∙ split_first mark (before ++ b ∷ []) bytes place (omega (arith, lt)) (λ k low high hit. none (suc k) (omega arith) (omega (arith, high)) hit) is
    ∙ ap (λ (x : List ℕ). x ∷ parts_from mark [] (drop (suc place) bytes)) (append_assoc before (b ∷ []) (take place bytes))

-- bytes with no mark are one part
pub split_none : (mark : ℕ) (before rest : List ℕ) → Nowhere (Passes (is_byte mark) rest) 0 (length rest) → parts_from mark before rest ≡ (before ++ rest) ∷ []
split_none mark before [] none = ap (λ (x : List ℕ). x ∷ []) (sym (append-nil before))
split_none mark before (b ∷ bytes) none =
    from_byte mark before b bytes false (false_from_ne_true (b == mark) (λ hit. none 0 (omega arith) (omega arith) hit))
    ∙ split_none mark (before ++ b ∷ []) bytes (λ k low high hit. none (suc k) (omega arith) (omega (arith, high)) hit)
    ∙ ap (λ (x : List ℕ). x ∷ []) (append_assoc before (b ∷ []) bytes)

-- one part more, up to the first mark of what is left
pub split_more : (mark : ℕ) (input rest part behind : List ℕ) (parts : List (List ℕ)) (place : ℕ) → NoneBefore (Passes (is_byte mark) rest) 0 (length rest) place × Passes (is_byte mark) rest place
    → part ≡ drop 0 (take place rest) → behind ≡ drop (place + 1) (take (length rest) rest)
    → parts ++ parts_from mark [] rest ≡ parts_from mark [] input → (parts ++ part ∷ []) ++ parts_from mark [] behind ≡ parts_from mark [] input
split_more mark input rest part behind parts place found part_is behind_is so_far =
    let left : behind ≡ drop (suc place) rest =
    behind_is ∙ (ap (λ (n : ℕ). drop n (take (length rest) rest)) (add-one place) ∙ ap (drop (suc place)) (take_all (length rest) rest (omega arith))) in
    append_assoc parts (part ∷ []) (parts_from mark [] behind)
    ∙ (ap (λ (x : List ℕ). parts ++ (x ∷ parts_from mark [] behind)) part_is
    ∙ (ap (λ (x : List ℕ). parts ++ (take place rest ∷ parts_from mark [] x)) left
    ∙ (ap (λ (xs : List (List ℕ)). parts ++ xs) (sym (split_first mark [] rest place found.0.high found.0.before found.1)) ∙ so_far)))

-- what is left has no mark: it is the last part
pub split_last : (mark : ℕ) (input rest : List ℕ) (parts : List (List ℕ)) → Nowhere (Passes (is_byte mark) rest) 0 (length rest)
    → parts ++ parts_from mark [] rest ≡ parts_from mark [] input → parts ++ rest ∷ [] ≡ parts_of mark input
unfolding parts_of
split_last mark input rest parts none so_far = ap (λ (xs : List (List ℕ)). parts ++ xs) (sym (split_none mark [] rest none)) ∙ so_far

-- a line in two at its first space, and a line that has none
pub halves_of : (line first behind : List ℕ) (place : ℕ) → NoneBefore (Passes (is_byte 32) line) 0 (length line) place × Passes (is_byte 32) line place
    → first ≡ drop 0 (take place line) → behind ≡ drop (place + 1) (take (length line) line) → parts_of 32 line ≡ first ∷ parts_of 32 behind
unfolding parts_of
halves_of line first behind place found first_is behind_is = sym (split_more 32 line line first behind [] place found first_is behind_is refl)

-- a line whose first field is of one byte
pub word_of : (line first behind : List ℕ) → 1 < length line → (slice_index line 0 ≡ 32 → ⊥) → slice_index line 1 ≡ 32
    → first ≡ drop 0 (take 1 line) → behind ≡ drop 2 (take (length line) line) → parts_of 32 line ≡ first ∷ parts_of 32 behind
word_of line first behind long word space first_is behind_is =
    halves_of line first behind 1 (record { low = omega arith; high = long; before = before }, eq-eqb (slice_index line 1) 32 space) first_is behind_is where
      before : Nowhere (Passes (is_byte 32) line) 0 1
      before zero low high hit = word (eqb-true (slice_index line 0) 32 hit)
      before (suc k) low high hit = absurd (omega (arith, high))

pub whole_of : (line : List ℕ) → Nowhere (Passes (is_byte 32) line) 0 (length line) → parts_of 32 line ≡ line ∷ []
whole_of line none = sym (split_last 32 line line [] none refl)

-- there is always a part
part_first : (mark : ℕ) (part bytes : List ℕ) → (first : List ℕ) × (others : List (List ℕ)) × (parts_from mark part bytes ≡ first ∷ others)
part_first mark part [] = (part, [], refl)
part_first mark part (b ∷ bytes) = cases (part_first mark (part ++ b ∷ []) bytes) (b == mark) refl where
  cases : ((first : List ℕ) × (others : List (List ℕ)) × (parts_from mark (part ++ b ∷ []) bytes ≡ first ∷ others)) → (t : Bool) → (b == mark) ≡ t
      → (first : List ℕ) × (others : List (List ℕ)) × (parts_from mark part (b ∷ bytes) ≡ first ∷ others)
  cases more true e = (part, parts_from mark [] bytes, from_byte mark part b bytes true e)
  cases more false e = (more.0, more.1, from_byte mark part b bytes false e ∙ more.2)

pub field_first : (line : List ℕ) → (first : List ℕ) × (others : List (List ℕ)) × (parts_of 32 line ≡ first ∷ others)
unfolding parts_of
field_first line = part_first 32 [] line

-- ---- messages

said_by : (number : ℕ) (messages : List (List ℕ)) (line : List ℕ) (lines : List (List ℕ)) (t : Bool) → (length line == 0) ≡ t
    → messages_after number messages (line ∷ lines) ≡ elim t [ true ↦ messages_after (number + 1) messages lines | false ↦ elim (message_in line) [ None ↦ Err number | Some message ↦ messages_after (number + 1) (messages ++ message ∷ []) lines ] ]
said_by number messages line lines t e = ap (λ (v : Bool). elim v [ true ↦ messages_after (number + 1) messages lines | false ↦ elim (message_in line) [ None ↦ Err number | Some message ↦ messages_after (number + 1) (messages ++ message ∷ []) lines ] ]) e

said_in : (number : ℕ) (messages : List (List ℕ)) (line : List ℕ) (lines : List (List ℕ)) (o : Option (List ℕ)) → (length line == 0) ≡ false → message_in line ≡ o
    → messages_after number messages (line ∷ lines) ≡ elim o [ None ↦ Err number | Some message ↦ messages_after (number + 1) (messages ++ message ∷ []) lines ]
said_in number messages line lines o some e =
    said_by number messages line lines false some
    ∙ ap (λ (v : Option (List ℕ)). elim v [ None ↦ Err number | Some message ↦ messages_after (number + 1) (messages ++ message ∷ []) lines ]) e

module _ (lines messages : List (List ℕ)) (number place : ℕ) (line : List ℕ) (s : IsSaidSoFar lines messages number place) (here : drop place lines ≡ line ∷ drop (place + 1) lines) where
  said_first : messages_after number messages (line ∷ drop (place + 1) lines) ≡ messages_after 1 [] lines
  said_first = ap (messages_after number messages) (sym here) ∙ s.goes_on

  pub said_empty : (length line == 0) ≡ true → IsSaidSoFar lines messages (number + 1) (place + 1)
  said_empty none = record { number_is = let n : number ≡ place + 1 = s.number_is in omega arith; goes_on = sym (said_by number messages line (drop (place + 1) lines) true none) ∙ said_first }

  pub said_message : (message : List ℕ) → (length line == 0) ≡ false → message_in line ≡ Some message → IsSaidSoFar lines (messages ++ message ∷ []) (number + 1) (place + 1)
  said_message message some e = record { number_is = let n : number ≡ place + 1 = s.number_is in omega arith; goes_on = sym (said_in number messages line (drop (place + 1) lines) (Some message) some e) ∙ said_first }

  pub said_fault : (length line == 0) ≡ false → message_in line ≡ None → messages_after 1 [] lines ≡ Err number
  said_fault some e = sym said_first ∙ said_in number messages line (drop (place + 1) lines) None some e

-- a line of a list of references, at its place
pub line_at : (lines : List (Bor (List ℕ))) (place : ℕ) (d : Bor (List ℕ)) → place < length lines
    → drop place (map (λ (l : Bor (List ℕ)). l.now) lines) ≡ (get_or lines place d).now ∷ drop (place + 1) (map (λ (l : Bor (List ℕ)). l.now) lines)
line_at lines place d lt =
    drop-map (λ (l : Bor (List ℕ)). l.now) place lines
    ∙ ap (map (λ (l : Bor (List ℕ)). l.now)) (drop-cons lines place d lt)
    ∙ ap (λ (x : List (List ℕ)). (get_or lines place d).now ∷ x) (sym (drop-map (λ (l : Bor (List ℕ)). l.now) (suc place) lines))
    ∙ ap (λ (n : ℕ). (get_or lines place d).now ∷ drop n (map (λ (l : Bor (List ℕ)). l.now) lines)) (sym (add-one place))
