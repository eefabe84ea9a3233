use Rattle.std.proofs.Common.{map, sym, subst, ◌∙◌, ap, arith}
use Rattle.plant_core.proofs.LiveLemmas.Common.{ConstsFields, Operator, sound_of, IsResumeFault}
use Rattle.plant_core.proofs.LiveLemmas.ResumeLemmas.{seen_none, seen_may_wait, seen_some}
use Rattle.plant_core.proofs.LiveLemmas.ResumeFaultLemmas.{handed_on, together_seen, early_fault, slice_fault, memory_fault, all_seen, of_rows}
use Rattle.plant_core.proofs.live.resuming.gather_of.Goals as goal

pub reslice-requires : goal.reslice-requires
reslice-requires c =
    seen_may_wait sound_of c.args.plant.now c.args.frame c.args.lives.now c.rows-rows.ensures.valid c.requires.may _ c.in_ok-slices.ensures.value c.args.from c.in-Some.from _ _ c.requires.alike c.in-Some.is c.in_ok-gather.ensures
    (of_rows sound_of c.args.plant.now c.args.lives.now _ c.requires.may.rows_are c.in_ok-later-in-Some.ensures.valid)

pub returns-in-None-clause-value : goal.returns-in-None-clause-value
returns-in-None-clause-value c =
    seen_none sound_of c.args.plant.now c.args.frame c.args.lives.now c.rows-rows.ensures.valid c.requires.may _ c.in_ok-slices.ensures.value c.args.from _ c.requires.alike c.in-None.is c.in_ok-gather.ensures

pub returns-in_ok-reslice-in-Some-clause-value : goal.returns-in_ok-reslice-in-Some-clause-value
returns-in_ok-reslice-in-Some-clause-value c =
    seen_some sound_of c.args.plant.now c.args.frame c.args.lives.now c.rows-rows.ensures.valid c.requires.may _ c.in_ok-slices.ensures.value c.args.from c.in-Some.from _ _ _ c.requires.alike c.in-Some.is c.in_ok-gather.ensures c.in_ok-later-in-Some.ensures.value c.in_ok-reslice-in-Some.ensures.state

pub valid_later-requires : goal.valid_later-requires
valid_later-requires c = all_seen (λ (o : Operator). o.state.share.slice) sound_of c.args.plant.now.consts.channel c.args.lives.now _ c.in_ok-slices.ensures.value c.in_ok-slices.ensures.valid

pub returns-then-frame-get_fields-clause-fault : goal.returns-then-frame-get_fields-clause-fault
returns-then-frame-get_fields-clause-fault c =
    let first = ap (λ (f : ConstsFields). f.channel.first_frame) (c.get_fields.ensures.value ∙ c.consts.ensures.value) in
    early_fault c.args.plant.now c.args.frame (map sound_of c.args.lives.now)
    (together_seen sound_of c.args.frame c.args.from c.args.lives.now c.requires.may.at_one_frame c.requires.alike)
    (omega (arith, c.if-frame-get_fields.true, first))

pub returns-in_err-slices-clause-fault : goal.returns-in_err-slices-clause-fault
returns-in_err-slices-clause-fault c =
    let first = ap (λ (f : ConstsFields). f.channel.first_frame) (c.get_fields.ensures.value ∙ c.consts.ensures.value) in
    let Fits = IsResumeFault c.args.plant.now c.args.frame (map sound_of c.args.lives.now) in
    handed_on c.from_residual.result _ Fits c.from_residual.ensures.1
    (λ e is. subst Fits (sym is) (slice_fault c.args.plant.now c.args.frame (map sound_of c.args.lives.now) _ (together_seen sound_of c.args.frame c.args.from c.args.lives.now c.requires.may.at_one_frame c.requires.alike)
    (omega (arith, c.if-frame-get_fields.false, first)) c.in_err-slices.ensures.fault))

pub returns-in_err-gather-clause-fault : goal.returns-in_err-gather-clause-fault
returns-in_err-gather-clause-fault c =
    let first = ap (λ (f : ConstsFields). f.channel.first_frame) (c.get_fields.ensures.value ∙ c.consts.ensures.value) in
    let Fits = IsResumeFault c.args.plant.now c.args.frame (map sound_of c.args.lives.now) in
    handed_on c.from_residual-in_err-gather.result _ Fits c.from_residual-in_err-gather.ensures.1
    (λ e is. memory_fault c.args.plant.now c.args.frame (map sound_of c.args.lives.now) e (together_seen sound_of c.args.frame c.args.from c.args.lives.now c.requires.may.at_one_frame c.requires.alike)
    (omega (arith, c.if-frame-get_fields.false, first)) is)

pub returns-in_err-later-in-Some-clause-fault : goal.returns-in_err-later-in-Some-clause-fault
returns-in_err-later-in-Some-clause-fault c =
    let first = ap (λ (f : ConstsFields). f.channel.first_frame) (c.get_fields.ensures.value ∙ c.consts.ensures.value) in
    let Fits = IsResumeFault c.args.plant.now c.args.frame (map sound_of c.args.lives.now) in
    handed_on c.from_residual-in_err-later-in-Some.result _ Fits c.from_residual-in_err-later-in-Some.ensures.1
    (λ e is. subst Fits (sym is) (slice_fault c.args.plant.now c.args.frame (map sound_of c.args.lives.now) _ (together_seen sound_of c.args.frame c.args.from c.args.lives.now c.requires.may.at_one_frame c.requires.alike)
    (omega (arith, c.if-frame-get_fields.false, first)) c.in_err-later-in-Some.ensures.fault))

pub returns-in_err-reslice-in-Some-clause-fault : goal.returns-in_err-reslice-in-Some-clause-fault
returns-in_err-reslice-in-Some-clause-fault c =
    let first = ap (λ (f : ConstsFields). f.channel.first_frame) (c.get_fields.ensures.value ∙ c.consts.ensures.value) in
    let Fits = IsResumeFault c.args.plant.now c.args.frame (map sound_of c.args.lives.now) in
    handed_on c.from_residual-in_err-reslice-in-Some.result _ Fits c.from_residual-in_err-reslice-in-Some.ensures.1
    (λ e is. memory_fault c.args.plant.now c.args.frame (map sound_of c.args.lives.now) e (together_seen sound_of c.args.frame c.args.from c.args.lives.now c.requires.may.at_one_frame c.requires.alike)
    (omega (arith, c.if-frame-get_fields.false, first)) is)
