use Rattle.std.proofs.Common.{map, refl, ◌∙◌}
use Rattle.plant_core.proofs.Common.{HeldHistory, live_view}
use Rattle.plant_core.proofs.RecordLemmas.{is_of, still_belongs, same_view, has_history, alike_at, act_recorded}
use Rattle.plant_core.proofs.StepLemmas.{plan_at_live}
use Rattle.plant_core.proofs.WaitingLemmas.{on_err}
use Rattle.plant_core.proofs.recorded.RecordedCore.carry_out.Goals as goal

pub index_mut-history-requires : goal.index_mut-history-requires
index_mut-history-requires c =
    let core = c.args.self.now in
    has_history _ core.histories.items _ c.args.op _ core.belongs.one_each core.histories.ok.0 c.requires.book_is

pub invariant_of-self-in-Break-branch-2 : goal.invariant_of-self-in-Break-branch-2
invariant_of-self-in-Break-branch-2 c =
    let core = c.args.self.now in
    let within = has_history _ core.histories.items _ c.args.op _ core.belongs.one_each core.histories.ok.0 c.requires.book_is in
    record { belongs = still_belongs _ _ _ _ _ refl (alike_at core.histories.items _ c.args.op _ _ core.histories.ok.0 within c.index_mut-history.ensures.value c.make_room.ensures.entries) core.belongs }

pub returns-in_err-make_room-clause-err : goal.returns-in_err-make_room-clause-err
returns-in_err-make_room-clause-err c =
    let core = c.args.self.now in
    let within = has_history _ core.histories.items _ c.args.op _ core.belongs.one_each core.histories.ok.0 c.requires.book_is in
    on_err _ (same_view (live_view core.live) _ (map (λ (history : HeldHistory). history.entries) core.histories.items) _ core.changes.items refl (alike_at core.histories.items _ c.args.op _ _ core.histories.ok.0 within c.index_mut-history.ensures.value c.make_room.ensures.entries))

pub commit_act-requires : goal.commit_act-requires
commit_act-requires c =
    let core = c.args.self.now in
    (c.args.op, c.args.action, plan_at_live _ _ (is_of _ _ _ c.always.ensures.gathering core.belongs) c.args.op c.args.action c.args.act c.requires)

pub invariant_of-self-in-Break-branch-3 : goal.invariant_of-self-in-Break-branch-3
invariant_of-self-in-Break-branch-3 c =
    let core = c.args.self.now in
    let within = has_history _ core.histories.items _ c.args.op _ core.belongs.one_each core.histories.ok.0 c.requires.book_is in
    record { belongs = still_belongs _ _ _ _ _ c.in_err-commit_act.ensures.err (alike_at core.histories.items _ c.args.op _ _ core.histories.ok.0 within c.index_mut-history.ensures.value c.make_room.ensures.entries) core.belongs }

pub returns-in_err-commit_act-clause-err : goal.returns-in_err-commit_act-clause-err
returns-in_err-commit_act-clause-err c =
    let core = c.args.self.now in
    let within = has_history _ core.histories.items _ c.args.op _ core.belongs.one_each core.histories.ok.0 c.requires.book_is in
    on_err _ (same_view (live_view core.live) _ (map (λ (history : HeldHistory). history.entries) core.histories.items) _ core.changes.items c.in_err-commit_act.ensures.err (alike_at core.histories.items _ c.args.op _ _ core.histories.ok.0 within c.index_mut-history.ensures.value c.make_room.ensures.entries))

pub invariant_of-self-2 : goal.invariant_of-self-2
invariant_of-self-2 c =
    let core = c.args.self.now in
    let within = has_history _ core.histories.items _ c.args.op _ core.belongs.one_each core.histories.ok.0 c.requires.book_is in
    let plan = plan_at_live _ _ (is_of _ _ _ c.always.ensures.gathering core.belongs) c.args.op c.args.action c.args.act c.requires in
    let done = c.in_ok-commit_act.ensures.ok c.args.op c.args.action plan in
    record {
      belongs = (act_recorded _ _ core.histories.items core.changes.items done.0 c.always.ensures.gathering core.belongs c.args.op c.args.action c.args.act c.requires _ c.index_mut-history.result.now c.make_room.new.self c.push.new.self _
          core.histories.ok.0 within c.index_mut-history.ensures.value c.make_room.ensures.entries c.push.ensures (c.from_vec.ensures ∙ (c.in_ok-copies.ensures ∙ c.outputs.ensures)) done.2).belongs;
    }

pub returns-clause-ok : goal.returns-clause-ok
returns-clause-ok c =
    let core = c.args.self.now in
    let within = has_history _ core.histories.items _ c.args.op _ core.belongs.one_each core.histories.ok.0 c.requires.book_is in
    let plan = plan_at_live _ _ (is_of _ _ _ c.always.ensures.gathering core.belongs) c.args.op c.args.action c.args.act c.requires in
    let done = c.in_ok-commit_act.ensures.ok c.args.op c.args.action plan in (
      done.0,
      done.1,
      (act_recorded _ _ core.histories.items core.changes.items done.0 c.always.ensures.gathering core.belongs c.args.op c.args.action c.args.act c.requires _ c.index_mut-history.result.now c.make_room.new.self c.push.new.self _
          core.histories.ok.0 within c.index_mut-history.ensures.value c.make_room.ensures.entries c.push.ensures (c.from_vec.ensures ∙ (c.in_ok-copies.ensures ∙ c.outputs.ensures)) done.2).done,
    )
