use Rattle.std.proofs.Common.{List, map, sym, subst}
use Rattle.plant_core.specs.live.Following.{FollowRows}
use Rattle.plant_core.proofs.LiveLemmas.FollowingLemmas.{follow_rows}
use Rattle.operator_book.specs.ViewOf.{policy_of}
use Rattle.plant.specs.declared.plant.PlantFields.{PlantFields}
use Rattle.plant_script.proofs.Common.{if_ok, outs_text, IsScriptRun, status_code}
use Rattle.plant_script.proofs.LiveRuns.{run_written}
use Rattle.plant_script.proofs.Reached.{memory_written}
use Rattle.line_service.specs.script.Script.{ArePlaced}
use Rattle.plant_script.proofs.running.write_outputs_run.Goals as goal

pub write_run-requires-clause-policies : goal.write_run-requires-clause-policies
write_run-requires-clause-policies g c =
    let follow = follow_rows (map policy_of c.args.rankings.items) c.args.plant.rows c.requires.policies in
    subst (λ (p : PlantFields). FollowRows (map policy_of c.as_slice.result.now) p.rows) (sym c.in-Ok.ensures.opened.plant_is)
    (subst (λ (rankings : List _). FollowRows (map policy_of rankings) c.args.plant.rows) (sym c.as_slice.ensures.value) follow)

pub write_run-requires-clause-placed : goal.write_run-requires-clause-placed
write_run-requires-clause-placed g c =
    subst (λ (p : PlantFields). ArePlaced p c.args.lines.items) (sym c.in-Ok.ensures.opened.plant_is) c.requires.placed

pub returns : goal.returns
returns g c =
    run_written c.args.plant c.args.lines.items (status_code c.in_ok-status.status) (g.W.Write.contents c.args.writer.now) (g.W.Write.contents c.write_run.new.writer)
    (c.in_ok-status.ensures c.args.plant c.in-Ok.ensures.opened)

pub returns-in_default : goal.returns-in_default
returns-in_default g c =
    if_ok c.write_fault.result _ _ (λ status told. memory_written (IsScriptRun c.args.plant c.args.lines.items (λ done told. outs_text c.args.plant told)) (status_code status) _ told.0 told.1) c.write_fault.ensures
