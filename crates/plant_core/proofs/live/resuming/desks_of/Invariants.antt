use Rattle.std.proofs.Common.{◌≡◌, ◌+◌, ◌++◌, [], length, map, vec_len}
use Rattle.plant_core.proofs.LiveLemmas.Common.{replicate, into_iter_items, into_iter_len, slot_book, slot_waiting, book_by}
use Rattle.plant_core.proofs.live.resuming.desks_of.Given as goal

abbrev pub invariant-loop-live : goal.invariant-loop-live
invariant-loop-live l = record {
  next : goal.iterator-loop-live.can_next l.live-iterator;
  finite : goal.iterator-loop-live.is_finite l.live-iterator;
  books : map slot_book l.desks.items ++ map book_by (into_iter_items l.live-iterator) ≡ map book_by l.fn.lives.items;
  queues : map slot_waiting l.desks.items ≡ replicate (vec_len l.desks) [];
  count : vec_len l.desks + length (into_iter_items l.live-iterator) ≡ length l.fn.lives.items;
  left : into_iter_len l.live-iterator ≡ length (into_iter_items l.live-iterator);
}
