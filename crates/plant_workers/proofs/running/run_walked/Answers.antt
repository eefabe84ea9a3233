use Rattle.std.proofs.Common.{List, length, Err, sym, ap, ◌∙◌, subst}
use Rattle.plant_workers.proofs.Common.{none-some, same_Some, slice_get_within, CoreFault}
use Rattle.run_model.specs.declared.step.Step.{Step}
use Rattle.run_model.specs.declared.step.Step.TheVariants as steps
use Rattle.plant_workers.specs.declared.receipts.run_fault.RunFault.TheVariants.{Core}
use Rattle.plant_workers.specs.plan.Spending.{NoneSpentBefore, before_reslice}
use Rattle.plant_workers.proofs.running.run_walked.Goals as goal

pub returns-in-Some-clause-walk : goal.returns-in-Some-clause-walk
returns-in-Some-clause-walk g c = λ fault first.
    ap (λ (f : CoreFault). Err (Core f)) (same_Some c.in-Some.fault fault ((c.in-Some.ensures.first fault).1 first))

pub returns-in-Some-first_spent-clause-walk : goal.returns-in-Some-first_spent-clause-walk
returns-in-Some-first_spent-clause-walk g c = λ fault first.
    absurd (none-some fault (sym c.in_default.is ∙ (c.first_unserved.ensures.first fault).1 first))

pub returns-in-None-clause-walk : goal.returns-in-None-clause-walk
returns-in-None-clause-walk g c = λ fault first.
    absurd (none-some fault (sym c.in_default.is ∙ (c.first_unserved.ensures.first fault).1 first))

pub returns-in-None-clause-spent : goal.returns-in-None-clause-spent
returns-in-None-clause-spent g c = λ place served spent.
    let none = subst (λ (all : List Step). NoneSpentBefore c.args.plant.now all (length all)) c.before_reslice.ensures c.in-None.ensures in
    absurd (none place spent.op (slice_get_within (before_reslice c.args.steps.now) place (steps.Tick spent.op) spent.spent.step_is) spent.known spent.spent)
