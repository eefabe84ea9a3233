use Rattle.std.proofs.Common.{◌≡◌, ◌+◌, ◌≤◌, ◌++◌, length, vec_len, vec_capacity}
use Rattle.plant_core.proofs.LiveLemmas.Common.{into_iter_items, into_iter_len, outputs_under}
use Rattle.plant_core.proofs.live.acting.append_all.Given as goal

abbrev pub invariant-loop-output : goal.invariant-loop-output
invariant-loop-output l = record {
  next : (goal.iterator-loop-output).can_next l.output-iterator;
  finite : (goal.iterator-loop-output).is_finite l.output-iterator;
  all : l.outs.items ++ outputs_under l.op (into_iter_items l.output-iterator) ≡ l.fn.outs.items ++ outputs_under l.op l.fn.told.items;
  room : vec_len l.outs + length (into_iter_items l.output-iterator) ≤ vec_capacity l.outs;
  left : into_iter_len l.output-iterator ≡ length (into_iter_items l.output-iterator);
}
