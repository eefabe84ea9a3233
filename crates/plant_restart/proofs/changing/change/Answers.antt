use Rattle.std.proofs.Common.{◌≡◌, ap, subst, ◌∙◌}
use Rattle.plant_restart.proofs.Common.{ConstsFields, PlantFields, KeepsConsts, live_view}
use Rattle.plant_restart.proofs.ChangeLemmas.{saved_change, change_refused, change_memory}
use Rattle.plant_restart.proofs.changing.change.Goals as goal

kept : (old new read_old read_new : ConstsFields) → read_old ≡ old → read_new ≡ new → KeepsConsts read_old read_new → KeepsConsts old new
kept old new read_old read_new is_old is_new h = subst (λ (k : ConstsFields). KeepsConsts old k) is_new (subst (λ (k : ConstsFields). KeepsConsts k read_new) is_old h)

pub returns-in-Ok-restart-clause-ok : goal.returns-in-Ok-restart-clause-ok
returns-in-Ok-restart-clause-ok c =
    let old = live_view c.args.core.now in
    let shared = kept _ _ _ _ (c.consts.ensures.value ∙ ap (λ (p : PlantFields). p.consts) c.plant.ensures) c.consts-2.ensures.value (c.keeps_consts.ensures.0 c.if-not-keeps_consts.false) in
    saved_change old c.args.plant c.in-Ok.frame shared c.in-Ok.ensures.ok c.as_slice.result.now (c.as_slice.ensures.value ∙ c.in-Ok-states_to_save.ensures)
    (live_view c.in-Ok-restart.new) c.always.ensures.plant c.rows-rows.ensures.valid c.in-Ok-restart.ensures.ok c.always-in-Ok-restart.ensures.gathering

pub returns-clause-fault : goal.returns-clause-fault
returns-clause-fault c =
    let old = live_view c.args.core.now in
    let shared = kept _ _ _ _ (c.consts.ensures.value ∙ ap (λ (p : PlantFields). p.consts) c.plant.ensures) c.consts-2.ensures.value (c.keeps_consts.ensures.0 c.if-not-keeps_consts.false) in
    change_refused old c.args.plant c.in-Ok.frame shared c.in-Ok.ensures.ok c.as_slice.result.now (c.as_slice.ensures.value ∙ c.in-Ok-states_to_save.ensures)
    c.in-Err-restart.why c.in-Err-restart.ensures.fault

pub returns-clause-only : goal.returns-clause-only
returns-clause-only c = λ can.
    let old = live_view c.args.core.now in
    let shared = kept _ _ _ _ (c.consts.ensures.value ∙ ap (λ (p : PlantFields). p.consts) c.plant.ensures) c.consts-2.ensures.value (c.keeps_consts.ensures.0 c.if-not-keeps_consts.false) in
    let at = c.in-Ok.ensures.only can.frame can.rests in
    let is = c.in-Ok.is in
    change_memory old c.args.plant c.in-Ok.frame shared c.in-Ok.ensures.ok c.as_slice.result.now (c.as_slice.ensures.value ∙ c.in-Ok-states_to_save.ensures)
    c.in-Err-restart.why c.in-Err-restart.ensures.fault can cc
