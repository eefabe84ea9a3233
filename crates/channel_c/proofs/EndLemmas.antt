-- How calls end.
use Rattle.std.proofs.Common.{◌≡◌, ◌≢◌, ℕ, List, [], ◌∷◌, Option, Some, None, Result, Ok, Err, ◌⊎◌, inl, inr, ◌++◌, refl, sym, subst, ap, ◌∙◌}
use Rattle.std.proofs.lemmas.Bool.{eqb-false}
use Rattle.dsx_messages.specs.declared.modem.Modem.{Modem}
use Rattle.plant.specs.Roster.{holder}
use Rattle.operator_model.specs.declared.heard.Heard.{Heard}
use Rattle.run_model.specs.IsStateAfter.{CoreView}
use Rattle.run_model.specs.Steps.{Steps}
use Rattle.run_model.specs.declared.step.Step.{Step}
use Rattle.run_model.specs.declared.step.Step.TheVariants as steps
use Rattle.plant_core.specs.live.After.{LeadsOnFromStart}
use Rattle.plant_core.specs.live.Faults.{step_fault, arrive_fault, IsReported}
use Rattle.plant_core.specs.live.Performing.{Performs}
use Rattle.plant_core.specs.declared.live.core_fault.CoreFault.{CoreFault}
use Rattle.plant_core.specs.declared.live.core_fault.CoreFault.TheVariants as cores
use Rattle.channel_c.specs.declared.channel.OpenChannel.{OpenChannel}
use Rattle.channel_c.specs.Answers.{InHandle, StepEnds, ArrivalEnds, OrNoMemory}
use Rattle.channel_c.specs.Codes.{core_code, IsStepCode}
use Rattle.channel_c.specs.Waiting.{view_of, waiting_of, IsSame, GoesOn}
use Rattle.channel_c.proofs.CodeLemmas.{core_more, core_other, code_done, code_refused}

-- ---- a handle

pub in_open : (code : ℕ) (holds : OpenChannel → OpenChannel → Type 0) (old new : OpenChannel) (a b : Option OpenChannel) → a ≡ Some old → b ≡ Some new → holds old new → InHandle code holds a b
in_open code holds old new a b was is done =
    subst (λ (o : Option OpenChannel). InHandle code holds o b) (sym was) (subst (λ (o : Option OpenChannel). InHandle code holds (Some old) o) (sym is) done)

pub in_closed : (holds : OpenChannel → OpenChannel → Type 0) (a b : Option OpenChannel) → a ≡ None → b ≡ None → InHandle 2 holds a b
in_closed holds a b was is = subst (λ (o : Option OpenChannel). InHandle 2 holds o b) (sym was) (subst (λ (o : Option OpenChannel). InHandle 2 holds None o) (sym is) refl)

-- ---- a step

pub step_done : (step : Step) (old new : OpenChannel) → GoesOn step old new → step_fault (view_of old) step ≡ None → StepEnds 0 step old new
step_done step old new goes none = record {
  done = λ _. goes;
  same = λ other. absurd (other refl);
  fault = code_done (step_fault (view_of old) step) none;
}

pub step_refused : (A : Type 0) (told : CoreFault) (step : Step) (old new : OpenChannel) → IsSame old new → IsReported {A = A} (Err told) (step_fault (view_of old) step) → StepEnds (core_code told) step old new
step_refused A told step old new same why = record {
  done = λ zero. absurd (core_more told zero);
  same = λ _. same;
  fault = code_refused A told (step_fault (view_of old) step) why;
}

-- ---- what a modem sends

pub arrival_done : (modem : Modem) (heard : Heard) (op : ℕ) (old mid new : OpenChannel) → holder (view_of old).plant.rows modem ≡ Some op → GoesOn (steps.Arrive modem heard) old mid → GoesOn (steps.Work op) mid new
    → step_fault (view_of old) (steps.Arrive modem heard) ≡ None → ArrivalEnds 0 modem heard old new
arrival_done modem heard op old mid new has first second none = record {
  done = λ _. (op, has, (mid, first, second));
  received = λ five. absurd (eqb-false 0 5 refl five);
  same = λ other _. absurd (other refl);
  fault = inr (code_done (step_fault (view_of old) (steps.Arrive modem heard)) none);
}

-- nothing more is changed
kept_on : (step : Step) (old mid new : OpenChannel) → GoesOn step old mid → IsSame mid new → GoesOn step old new
kept_on step old mid new goes same = record {
  told = goes.told;
  waiting_is = same.waiting_is ∙ goes.waiting_is;
  does = subst (λ (v : CoreView). Performs (Steps step) (view_of old) v goes.told) (sym same.view_is) goes.does;
  leads = subst (λ (v : CoreView). LeadsOnFromStart (view_of old) (step ∷ []) goes.told v) (sym same.view_is) goes.leads;
  text_is = same.text_is ∙ goes.text_is;
}

pub arrival_kept : (modem : Modem) (heard : Heard) (old mid new : OpenChannel) → GoesOn (steps.Arrive modem heard) old mid → IsSame mid new → ArrivalEnds 5 modem heard old new
arrival_kept modem heard old mid new first same = record {
  done = λ zero. absurd (eqb-false 5 0 refl zero);
  received = λ _. kept_on (steps.Arrive modem heard) old mid new first same;
  same = λ _ other. absurd (other refl);
  fault = inl refl;
}

pub arrival_refused : (A : Type 0) (told : CoreFault) (modem : Modem) (heard : Heard) (old new : OpenChannel) → IsSame old new → IsReported {A = A} (Err told) (step_fault (view_of old) (steps.Arrive modem heard))
    → ArrivalEnds (core_code told) modem heard old new
arrival_refused A told modem heard old new same why = record {
  done = λ zero. absurd (core_more told zero);
  received = λ five. absurd (core_other told five);
  same = λ _ _. same;
  fault = inr (code_refused A told (step_fault (view_of old) (steps.Arrive modem heard)) why);
}

pub arrival_unknown : (modem : Modem) (heard : Heard) (channel : OpenChannel) → holder (view_of channel).plant.rows modem ≡ None → ArrivalEnds (core_code (cores.UnknownModem modem)) modem heard channel channel
arrival_unknown modem heard channel none = record {
  done = λ zero. absurd (eqb-false 20 0 refl zero);
  received = λ five. absurd (eqb-false 20 5 refl five);
  same = λ _ _. record { view_is = refl; waiting_is = refl; text_is = refl };
  fault = inr (subst (λ (f : Option CoreFault). IsStepCode 20 f) (sym (ap (λ (o : Option ℕ). arrive_fault (view_of channel) (steps.Arrive modem heard) o) none)) refl);
}

-- ---- memory for what C gives

pub or_this : (code : ℕ) (holds : OpenChannel → OpenChannel → Type 0) (old new : OpenChannel) → holds old new → OrNoMemory code holds old new
or_this code holds old new done = inr done

pub or_memory : (holds : OpenChannel → OpenChannel → Type 0) (channel : OpenChannel) → OrNoMemory 1 holds channel channel
or_memory holds channel = inl (refl, record { view_is = refl; waiting_is = refl; text_is = refl })
