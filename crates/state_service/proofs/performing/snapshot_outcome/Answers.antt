use Rattle.std.proofs.Common.{inl}
use Rattle.plant_core.specs.live.LiveView.{live_view}
use Rattle.state_service.proofs.CommandLemmas.{core_snapshot_is, snapshot_given}
use Rattle.state_service.proofs.performing.snapshot_outcome.Goals as goal

pub returns-clause-outcome : goal.returns-clause-outcome
returns-clause-outcome c =
    let file = c.args.service.now.file in
    let live = live_view c.args.service.now.core in
    let saved = c.in-Ok.saved in
    inl (record {
      requests = c.requires;
      given = snapshot_given file live saved c.in-Ok.ensures.ok _ c.in_ok-answer.ensures.text;
      kept = record { saved = saved; of_core = core_snapshot_is file live saved c.in-Ok.ensures.ok; kept = c.in_ok-kept.ensures };
    })
