use Rattle.std.proofs.Common.{◌+◌, ◌∙◌, sym, refl, subst, map, take, drop}
use Rattle.plant_workers.proofs.ReceiptsLemmas.Common.{false≢true, AllZip, view_of, HasOwnParts, AreFramesOf}
use Rattle.plant_workers.proofs.ReceiptsLemmas.Lists.{all_past, all_next, split_here}
use Rattle.plant_workers.proofs.receipts.mapping.first_map_strayed.Goals as goal

pub returns-then-not-branch : goal.returns-then-not-branch
returns-then-not-branch g c = record {
  before = take c.loop-made.made-index c.args.maps.now;
  made = c.made-item.result;
  after = drop (c.loop-made.made-index + 1) c.args.maps.now;
  split = split_here c.args.maps.now c.loop-made.made-index c.made-item.result c.loop-made-test.true c.made-item.is;
  frame_is = refl;
  strays = λ has. false≢true (sym c.if-not-branch.true ∙ (c.in_ok-has_own_parts.ensures (map view_of c.args.books.now)
      (subst (λ all. AllZip AreFramesOf all (map view_of c.args.books.now)) (sym c.deref.ensures.value) c.in_ok-all.ensures)).1 has);
  first = c.loop-made.invariant;
}

pub loop-made-preserved : goal.loop-made-preserved
loop-made-preserved g c =
    all_next (HasOwnParts (map view_of c.args.books.now)) c.args.maps.now c.loop-made.made-index c.made-item.result c.loop-made-test.true c.made-item.is c.loop-made.invariant
    ((c.in_ok-has_own_parts.ensures (map view_of c.args.books.now)
    (subst (λ all. AllZip AreFramesOf all (map view_of c.args.books.now)) (sym c.deref.ensures.value) c.in_ok-all.ensures)).0 c.if-not-branch.false)

pub returns : goal.returns
returns g c = all_past (HasOwnParts (map view_of c.args.books.now)) c.args.maps.now c.loop-made.made-index c.loop-made-test.false c.loop-made.invariant
