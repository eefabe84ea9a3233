-- What the reading of a MAP's elements computes (implementation-specific).
use Rattle.std.specs.Prelude.{ℕ, ◌+◌, ◌-◌, nat_lt, if◌then◌else◌, List, [], ◌∷◌, map, Result, Ok, Err}
use Rattle.map_assembly.specs.declared.element.MapElement.{MapElement}
use Rattle.map_assembly.specs.declared.view.MapSpan.{MapSpan}
use Rattle.map_assembly.specs.declared.view.MapFault.{MapFault}
use Rattle.map_assembly.specs.declared.view.MapFault.TheVariants.{Backward, NoNull, AfterNull}
use Rattle.map_assembly.specs.Element.{is_null}
use Rattle.map_assembly.specs.Reading.{is_pending}

-- the elements after the Null, the first of which is at the place `at`: how many there are, where each is a grant pending
abbrev pub judged_behind : ℕ → ℕ → ℕ → List MapElement → Result ℕ MapFault
judged_behind spans end at [] = Ok spans
judged_behind spans end at (e ∷ elements) = if is_pending end e then judged_behind spans end (at + 1) elements else Err (AfterNull at)

-- the elements from the place `at` on, the first of which is not to be before `least`: how many are before the Null
abbrev pub count_before_null : ℕ → ℕ → List MapElement → Result ℕ MapFault
count_before_null at least [] = Err NoNull
count_before_null at least (e ∷ elements) =
    if nat_lt e.offset least then Err (Backward at) else
    if is_null e then judged_behind at e.offset (at + 1) elements else
    count_before_null (at + 1) (e.offset + 1) elements

-- where the first of these elements begins
abbrev pub next_offset : List MapElement → ℕ
next_offset [] = 0
next_offset (e ∷ elements) = e.offset

-- an element as a span up to this minislot
abbrev pub span_to : ℕ → MapElement → MapSpan
span_to end e = record { sid = e.sid; iuc = e.iuc; start = e.offset; len = end - e.offset }

-- the spans before the Null
abbrev pub spans_in : List MapElement → List MapSpan
spans_in [] = []
spans_in (e ∷ elements) = if is_null e then [] else span_to (next_offset elements) e ∷ spans_in elements

-- the elements after the Null
abbrev pub behind_null : List MapElement → List MapElement
behind_null [] = []
behind_null (e ∷ elements) = if is_null e then elements else behind_null elements

-- their SIDs
abbrev pub pending_in : List MapElement → List ℕ
pending_in elements = map (λ e. e.sid) (behind_null elements)
