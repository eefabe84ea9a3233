use Rattle.std.proofs.Common.{◌≡◌, drop}
use Rattle.operator_book.specs.Resuming.{pairs_fault}
use Rattle.operator_book.proofs.response_fault.pairs_fault.Given as goal

abbrev pub invariant-loop-place : goal.invariant-loop-place
invariant-loop-place l = pairs_fault (drop l.place l.entries) ≡ pairs_fault l.entries
