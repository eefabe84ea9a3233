-- Which members an object has of what is known of an output besides its own line (implementation-specific).
use Rattle.std.specs.Prelude.{ℕ, List, Option, Some, None, codes}
use Rattle.std.specs.String.{string_bytes}
use Rattle.serde_json.specs.Data.{Members, number, put, string, unsigned}
use Rattle.json_lines.specs.declared.context.Comparison.{Comparison}
use Rattle.json_lines.specs.declared.context.DecidingCheck.{DecidingCheck}
use Rattle.json_lines.specs.declared.context.OutputNote.{OutputNote}

-- a number, where there is one
abbrev pub put_if : List ℕ → Option ℕ → Members → Members
put_if key None members = members
put_if key (Some value) members = put key (number (unsigned value)) members

-- the numbers that a check compared
abbrev pub with_comparison : Comparison → Members → Members
with_comparison comparison members =
    put_if (codes "from_frame") comparison.from_frame
    (put_if (codes "needed") comparison.needed
    (put (codes "limit") (number (unsigned comparison.limit))
    (put (codes "held") (number (unsigned comparison.held)) members)))

-- the numbers that a check compared, if it compared any
abbrev pub with_comparison_if : Option Comparison → Members → Members
with_comparison_if None members = members
with_comparison_if (Some comparison) members = with_comparison comparison members

-- the check by its number and its name, and what it compared
abbrev pub with_check : Option DecidingCheck → Members → Members
with_check None members = members
with_check (Some check) members =
    with_comparison_if check.comparison
    (put (codes "check_name") (string (string_bytes check.name))
    (put (codes "check") (number (unsigned check.number)) members))

-- the members that an object has of the line of the script, of the check that decided it, and of the numbers that the check compared
abbrev pub with_note : OutputNote → Members → Members
with_note note members = with_check note.check (put_if (codes "line") note.line members)
