use Rattle.std.proofs.Common.{sym, subst, map}
use Rattle.plant_core.specs.live.Following.{FollowRows}
use Rattle.line_service.specs.script.Script.{ArePlaced}
use Rattle.line_service.proofs.Common.{CoreView, IsAfterFrom, IsReachableFromStart, HasDone}
use Rattle.line_service.proofs.answering.run_steps_by.Goals as goal

pub run_steps_in-requires : goal.run_steps_in-requires
run_steps_in-requires g c = record {
  reached = subst (λ (v : CoreView). IsReachableFromStart v) (sym c.take_list-outs.ensures.core) c.requires.reached;
  placed = subst (λ (v : CoreView). ArePlaced v.plant c.args.steps.items) (sym c.take_list-outs.ensures.core) c.requires.placed;
  policies = subst (λ (v : CoreView). FollowRows (map g.R.Ranks.policy c.args.rankings.now) v.plant.rows) (sym c.take_list-outs.ensures.core) c.requires.policies;
}

pub returns : goal.returns
returns g c plant start before told after =
    let here = subst (λ (v : CoreView). IsAfterFrom plant start before told v) (sym c.take_list-outs.ensures.core) after in
    subst (λ (v : CoreView). HasDone plant start before told c.args.steps.items v c.in_ok-end.end (g.W.Write.contents c.args.writer.now) (g.W.Write.contents c.run_steps_in.new.writer))
    (sym c.keep_list.ensures) (c.in_ok-end.ensures plant start before told here)
