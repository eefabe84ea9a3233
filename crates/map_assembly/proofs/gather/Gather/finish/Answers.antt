use Rattle.std.proofs.Common.{ap, ◌∙◌, map, drop, List}
use Rattle.slice_scheduler.specs.declared.elements.ElementsFields.{ElementsFields}
use Rattle.map_assembly.proofs.StateLemmas.{dropped_items, out_is, out_view}
use Rattle.map_assembly.proofs.gather.Gather.finish.Goals as goal

pub invariant_of-self : goal.invariant_of-self
invariant_of-self c =
    out_is _ c.args.self.now c.args.frame _ c.self.view_is c.requires
    (dropped_items c.self.inside.queues.items c.drop_fronts.new.queues c.self.inside.queues.len c.self.inside.queues.ok.0
    (c.drop_fronts.ensures ∙ ap (map (λ (queue : List ElementsFields). drop 1 queue)) c.as_mut_slice.ensures.value))

pub returns : goal.returns
returns c =
    out_view _ c.args.self.now c.args.frame _ c.self.view_is
    (dropped_items c.self.inside.queues.items c.drop_fronts.new.queues c.self.inside.queues.len c.self.inside.queues.ok.0
    (c.drop_fronts.ensures ∙ ap (map (λ (queue : List ElementsFields). drop 1 queue)) c.as_mut_slice.ensures.value))
