use Rattle.std.proofs.Common.{sym}
use Rattle.plant_workers.proofs.AuditLemmas.Whose.{held_by, held_by_none}
use Rattle.plant_workers.proofs.audit.following.is_of.Goals as goal

pub returns-in-Some : goal.returns-in-Some
returns-in-Some c row here = held_by c.args.plant.now c.args.modem c.args.op row c.rows-rows.ensures.valid here c.in-Some.other (sym c.in-Some.ensures)

pub returns-in-None : goal.returns-in-None
returns-in-None c row here = held_by_none c.args.plant.now c.args.modem c.args.op row c.rows-rows.ensures.valid here (sym c.in-None.ensures)
