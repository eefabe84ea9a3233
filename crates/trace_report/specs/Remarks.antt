-- What is in a trace besides the lines of checks, and how a reader finds those (implementation-specific).
use Rattle.std.specs.Prelude.{◌≡◌, ◌==◌, ◌≢◌, ℕ, Bool, false, List, [], ◌∷◌, ◌++◌, codes, filter, map}
use Rattle.std.specs.List.{flat_map, starts_with, AllByRecursion}
use Rattle.line_service.specs.script.Lines.{lines_of}
use Rattle.line_service.specs.Front.{HasNoBreak}

-- a line that begins as that of a check does
abbrev pub is_check_line : List ℕ → Bool
is_check_line line = starts_with (λ a b. a == b) line (codes "  check ")

-- one line, which is not that of a check
pub record IsOtherLine (line : List ℕ) : Type 0 where
  pub one : HasNoBreak line
  pub no_check : is_check_line line ≡ false

-- lines, each with its end
abbrev pub with_ends : List (List ℕ) → List ℕ
with_ends lines = flat_map (λ line. line ++ 10 ∷ []) lines

-- whole lines, none of which is that of a check; maybe none at all
pub record HasNoCheckLine (remark : List ℕ) : Type 0 where
  pub lines : List (List ℕ)
  pub remark_is : remark ≡ with_ends lines
  pub others : AllByRecursion IsOtherLine lines

-- words are lines, each indented by four spaces; maybe none at all
abbrev pub indented_line : List ℕ → List ℕ
indented_line line = codes "    " ++ line

-- words are lines, each indented by four spaces; maybe none at all
pub record AreWords (words : List ℕ) : Type 0 where
  pub lines : List (List ℕ)
  pub words_are : words ≡ with_ends (map indented_line lines)
  pub each_one : AllByRecursion HasNoBreak lines

-- what a reader takes out of a trace who looks at no other line
abbrev pub check_lines : List ℕ → List (List ℕ)
check_lines text = filter is_check_line (lines_of text)

-- the line in place of the words of a step for which an allocation failed
abbrev pub no_words_line : List ℕ
no_words_line = codes "    out of memory: what this step did is not described" ++ 10 ∷ []
