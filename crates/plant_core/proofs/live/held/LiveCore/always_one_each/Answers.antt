use Rattle.std.proofs.Common.{arith}
use Rattle.plant_core.proofs.LiveLemmas.RestFaultLemmas.{one_book_each, one_queue_each}
use Rattle.plant_core.proofs.live.held.LiveCore.always_one_each.Goals as goal

pub returns : goal.returns
returns c =
    let core = c.args.self.now in
    let books = one_book_each core.routes core.gather _ _ core.reached in
    record {
      books = books;
      queues = one_queue_each core.routes core.gather _ _ core.reached;
      some = omega (arith, books, c.always.ensures.plant.some);
    }
