use Rattle.std.proofs.Common.{◌≡◌, arith, Bool, false, true}
use Rattle.fair_queue.proofs.ItemLemmas.{owner_there, owner_cut}
use Rattle.fair_queue.proofs.operator_queue.remove_mark.Goals as goal

pub unreachable-requires : goal.unreachable-requires
unreachable-requires c =
    let l = owner_there c.args.items.now.items c.args.is_tick c.requires in
    let wrong : false ≡ true = c.in-None.ensures.variant.1 (rw c.mark_place-place.ensures (omega (arith, l, c.args.items.now.ok))) in
    cc

pub returns : goal.returns
returns c = rw (c.in-Some.ensures.items, c.mark_place-place.ensures) (owner_cut c.args.items.now.items c.args.is_tick c.requires)
