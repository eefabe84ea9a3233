use Rattle.std.proofs.Common.{map, refl, sym, ap, ◌∙◌, subst}
use Rattle.plant_core.proofs.LiveLemmas.Common.{sound_of, first_from, IsResumeFault}
use Rattle.plant_core.proofs.LiveLemmas.ResumeLemmas.{seen_may_same, alike_same, gathers_same, resumed_view, resumed_after, resumed_reaches, resumed_fresh}
use Rattle.plant_core.proofs.LiveLemmas.ResumeFaultLemmas.{handed_on, together, odd_fault, memory_fault}
use Rattle.plant_core.proofs.live.held.LiveCore.resume.Goals as goal

pub gather_of-requires-clause-may : goal.gather_of-requires-clause-may
gather_of-requires-clause-may c =
    let all = c.in_ok-go_together.ensures in
    seen_may_same sound_of c.args.plant c.args.frame c.first_from-from.result c.args.lives.items _ _ c.as_slice-2.ensures.value c.as_slice-3.ensures.value c.requires.rows c.requires.consts all.sound all.frames all.alike

pub gather_of-requires-clause-alike : goal.gather_of-requires-clause-alike
gather_of-requires-clause-alike c =
    alike_same sound_of c.first_from-from.result c.args.lives.items _ _ c.as_slice-2.ensures.value c.as_slice-3.ensures.value c.in_ok-go_together.ensures.alike

pub invariant_of-result : goal.invariant_of-result
invariant_of-result c =
    let all = c.in_ok-go_together.ensures in
    let may = seen_may_same sound_of c.args.plant c.args.frame c.first_from-from.result c.args.lives.items _ c.args.lives.items c.as_slice-2.ensures.value refl c.requires.rows c.requires.consts all.sound all.frames all.alike in
    let gathers = gathers_same sound_of c.args.plant c.args.frame c.args.lives.items _ c.in_ok-gather.gather c.as_slice-3.ensures.value c.in_ok-gather.ensures.value in
    record {
      let_go = resumed_fresh sound_of c.args.plant c.in_ok-routes.routes c.args.frame c.args.lives.items c.rows-rows.ensures.valid may _ _ c.in_ok-gather.gather c.in_ok-routes.ensures c.in_ok-desks.ensures.books c.in_ok-desks.ensures.queues gathers c.in_ok-gather.ensures.kept;
      reached = resumed_reaches sound_of c.args.plant c.in_ok-routes.routes c.args.frame c.args.lives.items c.rows-rows.ensures.valid may _ _ c.in_ok-gather.gather c.in_ok-routes.ensures c.in_ok-desks.ensures.books c.in_ok-desks.ensures.queues gathers c.in_ok-gather.ensures.kept;
    }

pub returns-clause-ok : goal.returns-clause-ok
returns-clause-ok c =
    let all = c.in_ok-go_together.ensures in
    let may = seen_may_same sound_of c.args.plant c.args.frame c.first_from-from.result c.args.lives.items _ c.args.lives.items c.as_slice-2.ensures.value refl c.requires.rows c.requires.consts all.sound all.frames all.alike in
    let gathers = gathers_same sound_of c.args.plant c.args.frame c.args.lives.items _ c.in_ok-gather.gather c.as_slice-3.ensures.value c.in_ok-gather.ensures.value in
    resumed_view sound_of c.args.plant c.in_ok-routes.routes c.args.frame c.args.lives.items c.rows-rows.ensures.valid may _ _ c.in_ok-gather.gather c.in_ok-routes.ensures c.in_ok-desks.ensures.books c.in_ok-desks.ensures.queues gathers c.in_ok-gather.ensures.kept

pub returns-clause-reached : goal.returns-clause-reached
returns-clause-reached c =
    let all = c.in_ok-go_together.ensures in
    let may = seen_may_same sound_of c.args.plant c.args.frame c.first_from-from.result c.args.lives.items _ c.args.lives.items c.as_slice-2.ensures.value refl c.requires.rows c.requires.consts all.sound all.frames all.alike in
    let gathers = gathers_same sound_of c.args.plant c.args.frame c.args.lives.items _ c.in_ok-gather.gather c.as_slice-3.ensures.value c.in_ok-gather.ensures.value in
    resumed_after sound_of c.args.plant c.in_ok-routes.routes c.args.frame c.args.lives.items c.rows-rows.ensures.valid may _ _ c.in_ok-gather.gather c.in_ok-routes.ensures c.in_ok-desks.ensures.books c.in_ok-desks.ensures.queues gathers c.in_ok-gather.ensures.kept

pub returns-in_err-go_together-clause-fault : goal.returns-in_err-go_together-clause-fault
returns-in_err-go_together-clause-fault c =
    let fault = c.in_err-go_together.field-0.0 in
    let Fits = IsResumeFault c.args.plant c.args.frame (map sound_of c.args.lives.items) in
    handed_on c.from_residual.result _ Fits c.from_residual.ensures.1
    (λ e is. subst Fits (sym is)
    (odd_fault c.args.plant c.args.frame c.first_from-from.result (map sound_of c.args.lives.items) _ fault (ap (λ xs. map sound_of xs) c.as_slice-2.ensures.value)
    (c.first_from-from.ensures ∙ ap (λ xs. first_from (map sound_of xs)) c.as_slice.ensures.value) c.in_err-go_together.ensures.fault))

pub returns-in_err-desks-clause-fault : goal.returns-in_err-desks-clause-fault
returns-in_err-desks-clause-fault c =
    let all = c.in_ok-go_together.ensures in
    let may = seen_may_same sound_of c.args.plant c.args.frame c.first_from-from.result c.args.lives.items _ c.args.lives.items c.as_slice-2.ensures.value refl c.requires.rows c.requires.consts all.sound all.frames all.alike in
    let Fits = IsResumeFault c.args.plant c.args.frame (map sound_of c.args.lives.items) in
    handed_on c.from_residual-in_err-desks.result _ Fits c.from_residual-in_err-desks.ensures.1
    (λ e is. memory_fault c.args.plant c.args.frame (map sound_of c.args.lives.items) e
    (together c.args.frame may.from (map sound_of c.args.lives.items) may.at_one_frame may.wait_alike) c.in_ok-gather.ensures.started is)

pub returns-in_err-routes-clause-fault : goal.returns-in_err-routes-clause-fault
returns-in_err-routes-clause-fault c =
    let all = c.in_ok-go_together.ensures in
    let may = seen_may_same sound_of c.args.plant c.args.frame c.first_from-from.result c.args.lives.items _ c.args.lives.items c.as_slice-2.ensures.value refl c.requires.rows c.requires.consts all.sound all.frames all.alike in
    let Fits = IsResumeFault c.args.plant c.args.frame (map sound_of c.args.lives.items) in
    handed_on c.from_residual-in_err-routes.result _ Fits c.from_residual-in_err-routes.ensures.1
    (λ e is. memory_fault c.args.plant c.args.frame (map sound_of c.args.lives.items) e
    (together c.args.frame may.from (map sound_of c.args.lives.items) may.at_one_frame may.wait_alike) c.in_ok-gather.ensures.started is)
