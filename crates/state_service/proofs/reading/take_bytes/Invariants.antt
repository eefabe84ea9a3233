use Rattle.std.proofs.Common.{ℕ, List, ◌++◌, drop}
use Rattle.state_service.proofs.Common.{texts, AreNoCommands, AreTaken}
use Rattle.state_service.proofs.reading.take_bytes.Given as goal

abbrev pub invariant-loop-place : goal.invariant-loop-place
invariant-loop-place l = record {
  so_far : (input rest : List ℕ) (before : List (List ℕ)) → AreTaken input (l.fn.bytes ++ rest) (before ++ texts l.fn.lines.items) l.fn.part.items
      → AreTaken input (drop l.place l.bytes ++ rest) (before ++ texts l.lines.items) l.part.items;
  plain : AreNoCommands (texts l.fn.lines.items) → AreNoCommands (texts l.lines.items);
}
