use Rattle.std.proofs.Common.{List, option_map, sym, ap, ◌∙◌}
use Rattle.plant_core.proofs.Common.{SliceRow, ResliceFault, live_view, reslice_fault, record_view}
use Rattle.plant_core.specs.declared.live.core_fault.CoreFault.TheVariants as faults
use Rattle.plant_core.proofs.RecordLemmas.{is_of}
use Rattle.plant_core.proofs.StepLemmas.{same_reslice_fault}
use Rattle.plant_core.proofs.recorded.RecordedCore.reslice.Goals as goal

pub returns-in-Some-clause-fault : goal.returns-in-Some-clause-fault
returns-in-Some-clause-fault c =
    let core = c.args.self.now in
    ap (option_map (λ (fault : ResliceFault). faults.Reslice fault))
    (same_reslice_fault (live_view core.live) (record_view core) (is_of _ _ _ c.always.ensures.gathering core.belongs) c.args.from c.args.rows.now
    ∙ (ap (λ (rows : List SliceRow). reslice_fault c.args.from (live_view core.live).books rows) (sym c.as_slice.ensures) ∙ sym c.in-Some.ensures))

pub give-requires : goal.give-requires
give-requires c =
    let core = c.args.self.now in
    same_reslice_fault (live_view core.live) (record_view core) (is_of _ _ _ c.always.ensures.gathering core.belongs) c.args.from c.args.rows.now
    ∙ (ap (λ (rows : List SliceRow). reslice_fault c.args.from (live_view core.live).books rows) (sym c.as_slice.ensures) ∙ (sym c.reslice_fault.ensures ∙ c.in_default.is))

pub returns-in-Ok-clause-fault : goal.returns-in-Ok-clause-fault
returns-in-Ok-clause-fault c =
    let core = c.args.self.now in
    ap (option_map (λ (fault : ResliceFault). faults.Reslice fault))
    (same_reslice_fault (live_view core.live) (record_view core) (is_of _ _ _ c.always.ensures.gathering core.belongs) c.args.from c.args.rows.now
    ∙ (ap (λ (rows : List SliceRow). reslice_fault c.args.from (live_view core.live).books rows) (sym c.as_slice.ensures) ∙ (sym c.reslice_fault.ensures ∙ c.in_default.is)))

pub returns-in-Err-clause-fault : goal.returns-in-Err-clause-fault
returns-in-Err-clause-fault c =
    let core = c.args.self.now in
    ap (option_map (λ (fault : ResliceFault). faults.Reslice fault))
    (same_reslice_fault (live_view core.live) (record_view core) (is_of _ _ _ c.always.ensures.gathering core.belongs) c.args.from c.args.rows.now
    ∙ (ap (λ (rows : List SliceRow). reslice_fault c.args.from (live_view core.live).books rows) (sym c.as_slice.ensures) ∙ (sym c.reslice_fault.ensures ∙ c.in_default.is)))
