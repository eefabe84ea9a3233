use Rattle.std.proofs.Common.{rules}
use Rattle.std.proofs.lemmas.Result.{on_ok_weaker}
use Rattle.map_assembly.specs.Gathering.{frame_slices, frame_parts}
use Rattle.map_assembly.proofs.StateLemmas.{frame_of, ordered_is, few_ordered, fit_ordered, is_map_of, layout_seen, next_of_last, out_valid, out_after}
use Rattle.map_assembly.proofs.gather.Gather.map_of.Goals as goal

pub map_bytes-requires-clause-few : goal.map_bytes-requires-clause-few
map_bytes-requires-clause-few c =
    few_ordered c.args.self.now.channel c.args.self.now.quotas (frame_slices c.args.self.now c.args.frame) (frame_parts c.args.self.now c.args.op c.args.part.now) _
    (frame_of _ c.args.self.now c.args.op c.args.frame c.args.part.now c.self.view_is c.self.invariant c.requires.put c.always.ensures c.requires.last)
    (ordered_is _ c.args.self.now c.args.op c.args.frame c.args.part.now c.order.result.now c.as_slice-queues.result.now c.slices_at-slicing.result.now c.self.view_is c.self.invariant c.requires.put c.always.ensures c.requires.last
    c.order.ensures (search rules) c.as_slice-queues.ensures.value)

pub map_bytes-requires-clause-fit : goal.map_bytes-requires-clause-fit
map_bytes-requires-clause-fit c =
    fit_ordered c.args.self.now.channel c.args.self.now.quotas (frame_slices c.args.self.now c.args.frame) (frame_parts c.args.self.now c.args.op c.args.part.now) _
    (frame_of _ c.args.self.now c.args.op c.args.frame c.args.part.now c.self.view_is c.self.invariant c.requires.put c.always.ensures c.requires.last)
    (ordered_is _ c.args.self.now c.args.op c.args.frame c.args.part.now c.order.result.now c.as_slice-queues.result.now c.slices_at-slicing.result.now c.self.view_is c.self.invariant c.requires.put c.always.ensures c.requires.last
    c.order.ensures (search rules) c.as_slice-queues.ensures.value)

pub returns-clause-next : goal.returns-clause-next
returns-clause-next c = next_of_last _ c.args.self.now c.args.op c.args.frame c.args.part.now c.self.view_is c.self.invariant c.requires.put c.requires.last

pub returns-clause-valid : goal.returns-clause-valid
returns-clause-valid c = out_valid _ c.args.self.now c.args.op c.args.frame c.args.part.now c.self.view_is c.self.invariant c.requires.put c.requires.last

pub returns-clause-after : goal.returns-clause-after
returns-clause-after c = out_after _ c.args.self.now c.args.op c.args.frame c.args.part.now c.self.view_is c.self.invariant c.requires.put c.requires.last

pub returns-clause-bytes : goal.returns-clause-bytes
returns-clause-bytes c =
    on_ok_weaker c.map_bytes.result
    (λ made. is_map_of c.args.self.now.channel c.self.inside.channel c.args.frame c.args.self.now.quotas (frame_slices c.args.self.now c.args.frame) (frame_parts c.args.self.now c.args.op c.args.part.now) _ _
    (frame_of _ c.args.self.now c.args.op c.args.frame c.args.part.now c.self.view_is c.self.invariant c.requires.put c.always.ensures c.requires.last)
    (layout_seen _ c.args.self.now c.self.view_is)
    (ordered_is _ c.args.self.now c.args.op c.args.frame c.args.part.now c.order.result.now c.as_slice-queues.result.now c.slices_at-slicing.result.now c.self.view_is c.self.invariant c.requires.put c.always.ensures c.requires.last
    c.order.ensures (search rules) c.as_slice-queues.ensures.value) made)
    c.map_bytes.ensures
