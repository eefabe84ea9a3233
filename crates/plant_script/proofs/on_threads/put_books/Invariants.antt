use Rattle.std.proofs.Common.{◌≡◌, ◌++◌, drop, map}
use Rattle.plant_script.proofs.Common.{view_of, outs_from, outs_text}
use Rattle.plant_script.proofs.on_threads.put_books.Given as goal

abbrev pub invariant-loop-op : goal.invariant-loop-op
invariant-loop-op g l =
    l.text.items ++ outs_text l.plant (outs_from l.op (map view_of (drop l.op l.books)))
    ≡ l.fn.text.items ++ outs_text l.plant (outs_from 0 (map view_of l.books))
