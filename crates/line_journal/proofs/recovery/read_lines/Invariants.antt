use Rattle.std.proofs.Common.{◌≡◌, ◌+◌, ◌++◌, length}
use Rattle.line_journal.proofs.Common.{texts, marked_lines, records}
use Rattle.line_journal.proofs.recovery.read_lines.Given as goal

abbrev pub invariant-loop-line : goal.invariant-loop-line
invariant-loop-line l = record {
  read : texts l.lines.items ++ marked_lines l.mark l.rest ≡ marked_lines l.mark l.text;
  size : length (records l.mark (texts l.lines.items)) + length l.rest ≡ length l.text;
}

abbrev pub decreases-loop-line : goal.decreases-loop-line
decreases-loop-line l = length l.rest
