-- What is reported of a run on threads.
use Rattle.std.proofs.Common.{◌≡◌, inl, inr, ℕ, List, Result, Ok, Err, ap, subst, ◌∙◌}
use Rattle.plant_script.proofs.Common.{PlantFields, BookView, MapBytes, Step, CoreFault, IsOutcome, outs_of, IsFirstSpent, before_reslice, LineStep, steps_without_numbers, outs_text, Answer, ReportsCore, ReportsFault, IsThreadedRunOf, status_code}
use Rattle.operator_book.specs.declared.book.BookFault.TheVariants.{FramesSpent}
use Rattle.plant_core.specs.declared.live.core_fault.CoreFault.TheVariants.{Book}
use Rattle.plant_workers.specs.declared.receipts.receipt.Receipt.{Receipt}
use Rattle.plant_workers.specs.declared.receipts.run_fault.RunFault.{RunFault}
use Rattle.plant_workers.specs.declared.receipts.run_fault.RunFault.TheVariants.{Core}
use Rattle.plant_workers.specs.plan.Serving.{IsServable, IsFirstUnserved}
use Rattle.plant_workers.specs.Faulting.{IsFault}
use Rattle.plant_script.proofs.RefusedSteps.{first_of_all, core_spent}

-- what is refused before a thread starts
pub record IsRefusedFirst {S : Type 0} (plant : PlantFields) (all : List Step) (result : Result S RunFault) : Type 0 where
  pub walk : (fault : CoreFault) → IsFirstUnserved plant all fault → result ≡ Err (Core fault)
  pub spent : (place : ℕ) → IsServable plant all → IsFirstSpent plant (before_reslice all) place → result ≡ Err (Core (Book FramesSpent))

settled_or_not : {S E P : Type 0} (result : Result S E) (s : S) (e : E) → result ≡ Ok s → result ≡ Err e → P
settled_or_not result s e ok err = cc

same_fault : {S E : Type 0} (result : Result S E) (a b : E) → result ≡ Err a → result ≡ Err b → a ≡ b
same_fault result a b first second = cc

-- what is reported of a run that is settled, by a plant that is the same
pub settled_run : {S : Type 0} (plant shown : PlantFields) (lines : List LineStep) (steps : List Step) (result : Result S RunFault) (settled : S)
    (books : List BookView) (receipts : List (List (List Receipt))) (maps : List MapBytes) (answer : Answer) → shown ≡ plant → steps ≡ steps_without_numbers lines
    → IsRefusedFirst plant steps result → result ≡ Ok settled → IsOutcome plant steps books receipts maps
    → ((status_code answer.status) ≡ 0) × (answer.text.items ≡ outs_text shown (outs_of books maps)) → IsThreadedRunOf plant lines (status_code answer.status) answer.text.items
settled_run plant shown lines steps result settled books receipts maps answer same are refuses ok outcome told =
    let here = subst (λ (s : List Step). IsRefusedFirst plant s result) are refuses in
    record {
      comes = inl (record {
        status_is = told.0;
        books = books;
        receipts = receipts;
        maps = maps;
        outcome = subst (λ (s : List Step). IsOutcome plant s books receipts maps) are outcome;
        text_is = told.1 ∙ ap (λ (p : PlantFields). outs_text p (outs_of books maps)) same;
      });
      unserved = λ fault first. settled_or_not result settled (Core fault) ok (here.walk fault first);
      spent = λ place served first. settled_or_not result settled (Core (Book FramesSpent)) ok (here.spent place served first);
    }

-- what is reported of a run with a fault
fault_reported : {S : Type 0} (plant : PlantFields) (lines : List LineStep) (result : Result S RunFault) (fault : RunFault) (status : ℕ) (text : List ℕ)
    → IsRefusedFirst plant (steps_without_numbers lines) result → result ≡ Err fault → IsFault plant (steps_without_numbers lines) fault → ReportsFault plant lines fault status text
    → IsThreadedRunOf plant lines status text
fault_reported plant lines result fault status text refuses err comes reports =
    let core : (f : CoreFault) → result ≡ Err (Core f) → ReportsCore plant lines status text =
    λ f is. subst (λ (g : RunFault). ReportsFault plant lines g status text) (same_fault result fault (Core f) err is) reports in
    record {
      comes = inr (record { fault = fault; comes = comes; reports = reports });
      unserved = λ f first. core f (refuses.walk f first);
      spent = λ place served first. core_spent plant lines place status text (first_of_all plant (steps_without_numbers lines) place first)
          (core (Book FramesSpent) (refuses.spent place served first));
    }

pub fault_run : {S : Type 0} (plant shown : PlantFields) (lines these : List LineStep) (steps : List Step) (result : Result S RunFault) (fault : RunFault) (answer : Answer)
    → shown ≡ plant → these ≡ lines → steps ≡ steps_without_numbers lines → IsRefusedFirst plant steps result → result ≡ Err fault → IsFault plant steps fault
    → ReportsFault shown these fault (status_code answer.status) answer.text.items → IsThreadedRunOf plant lines (status_code answer.status) answer.text.items
fault_run plant shown lines these steps result fault answer same are are_steps refuses err comes told =
    fault_reported plant lines result fault (status_code answer.status) answer.text.items (subst (λ (s : List Step). IsRefusedFirst plant s result) are_steps refuses) err
    (subst (λ (s : List Step). IsFault plant s fault) are_steps comes)
    (subst (λ (l : List LineStep). ReportsFault plant l fault (status_code answer.status) answer.text.items) are
    (subst (λ (p : PlantFields). ReportsFault p these fault (status_code answer.status) answer.text.items) same told))
