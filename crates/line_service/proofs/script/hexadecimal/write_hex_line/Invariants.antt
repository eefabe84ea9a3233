use Rattle.std.proofs.Common.{◌≤◌, ◌-◌, length, take}
use Rattle.line_service.proofs.ScriptLemmas.Common.{Appends, encode_upper}
use Rattle.line_service.proofs.script.hexadecimal.write_hex_line.Given as goal

abbrev pub invariant-loop-place : goal.invariant-loop-place
invariant-loop-place g l = record {
  inside : l.place ≤ length l.bytes;
  written : Appends (g.W.Write.contents l.fn.writer) (g.W.Write.contents l.writer) (encode_upper (take l.place l.bytes));
}

abbrev pub decreases-loop-place : goal.decreases-loop-place
decreases-loop-place g l = length l.bytes - l.place
