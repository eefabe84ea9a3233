use Rattle.std.proofs.Common.{refl}
use Rattle.map_assembly.specs.Gathering.{gathering_of}
use Rattle.plant_workers.proofs.AuditLemmas.Placed.{reslice_more, are_slices}
use Rattle.plant_workers.proofs.audit.assembly.Assembly.reslice.Goals as goal

pub slices_of-requires : goal.slices_of-requires
slices_of-requires c k d lt = are_slices c.self.inside.gather c.args.from c.args.rows.now c.always.ensures (c.if-not-may_reslice.ensures.0 refl) k d lt

pub invariant_of-self-2 : goal.invariant_of-self-2
invariant_of-self-2 c =
    rw (c.note.ensures, c.reserve.ensures.items, c.in_ok-reslice.ensures.state, c.in_ok-slices.ensures, c.from_vec-kept.ensures, c.in_ok-from_slice.ensures.items)
    (reslice_more (gathering_of c.self.inside.plant) c.self.inside.gather c.self.inside.placings.items c.self.inside.maps.items c.args.from c.args.rows.now
    c.self.invariant c.always.ensures (c.if-not-may_reslice.ensures.0 refl))
