use Rattle.std.proofs.Common.{length, map, ap, arith}
use Rattle.plant_workers.proofs.Common.{length-map, cell_book}
use Rattle.plant_workers.proofs.following.fault_of_reslice.Goals as goal

pub returns-in-None-clause-of_run : goal.returns-in-None-clause-of_run
returns-in-None-clause-of_run g c =
    let long = length-map c.args.helds.now cell_book in
    let rows = ap length c.rows.ensures.value in
    record {
      books = map cell_book c.args.helds.now;
      one_each = omega (arith, long, rows, c.if-helds-rows.false);
      own = c.in-None.ensures;
      refused = record { from = c.requires.from; rows = c.requires.rows; step_is = c.requires.step_is; fault_is = rw c.in-Reslice.is at c.requires.told };
    }
