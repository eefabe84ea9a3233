use Rattle.std.proofs.Common.{List, length, sym, ap, ◌∙◌, subst, map}
use Rattle.plant_workers.proofs.Common.{BookView, cell_book, IsResliceTold, IsOfReslice}
use Rattle.plant_core.specs.live.Reslicing.{reslice_fault}
use Rattle.plant_workers.proofs.FaultLemmas.{told_of, is_told}
use Rattle.plant_workers.proofs.run_state.reslice_helds.Goals as goal

pub fault_of_reslice-requires : goal.fault_of_reslice-requires
fault_of_reslice-requires g c = record {
  from = c.args.from;
  rows = c.args.rows.now;
  step_is = c.requires;
  told =
      subst (λ (books : List BookView). IsResliceTold c.in-Err.fault (reslice_fault c.args.from books c.args.rows.now))
      (sym (ap (λ helds. map cell_book helds) c.as_slice-helds.ensures.value ∙ c.in-Err.ensures.same))
      (told_of c.in-Err.fault _ c.in-Err.ensures.fault);
}

pub returns-in-Err-clause-refused : goal.returns-in-Err-clause-refused
returns-in-Err-clause-refused g c refusal has long =
    let same = ap (λ helds. map cell_book helds) c.as_slice-helds.ensures.value ∙ c.in-Err.ensures.same in
    subst (λ (books : List BookView). IsOfReslice c.args.plant.now c.args.steps.now c.args.at books refusal c.fault_of_reslice.result) same
    (c.fault_of_reslice.ensures.refused refusal (is_told c.in-Err.fault _ refusal has c.in-Err.ensures.fault) (ap length same ∙ long))
