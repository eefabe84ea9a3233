use Rattle.plant_workers.proofs.AuditLemmas.Placed.{put_or_refused}
use Rattle.plant_workers.proofs.audit.assembly.Assembly.put_part.Goals as goal

pub invariant_of-self-2 : goal.invariant_of-self-2
invariant_of-self-2 c =
    put_or_refused c.put_kept.result c.self.inside.plant c.args.op c.args.frame c.args.elements c.self.inside.gather c.put_kept.new.gather
    c.make_room.new.placings.items c.put_kept.new.placings.items c.make_room.new.maps.items c.put_kept.new.maps.items
    (rw (c.make_room.ensures.placings, c.make_room.ensures.maps) c.self.invariant) c.always.ensures
    (c.put_kept.ensures.ok c.self.inside.plant) c.put_kept.ensures.gather c.put_kept.ensures.placings c.put_kept.ensures.maps

pub returns-clause-fault : goal.returns-clause-fault
returns-clause-fault c fault ne e = rw (← c.self.view_is) ((c.put_kept.ensures.fault fault ne).0 e)
