-- What a service comes to.
use Rattle.std.proofs.Common.{◌≡◌, inl, inr, ℕ, Bool, List, [], Option, Some, None, IfSome, Result, Ok, refl, sym, subst, ◌∙◌}
use Rattle.plant_script.proofs.Common.{Appends, PlantFields, Out, Step, Start, first_start, CoreView, serve, AnswersFront, AnswersServe, EndsOrder}
use Rattle.toml.specs.Parse.{parse_document}
use Rattle.slice_table.specs.declared.plant_fault.PlantFault.{PlantFault}
use Rattle.slice_table.specs.ReadPlant.{text_plant}
use Rattle.plant_core.specs.live.After.{IsAfter, IsAfterFrom}
use Rattle.line_service.specs.script.Input.{plant_text, script_text}
use Rattle.line_service.specs.Service.{service_text, IsServiceOf}
use Rattle.plant_script.specs.Serving.{IsServed, EndsService}

-- a service of a core as it is opened
pub service_served : (known : Option (List ℕ)) (plant : PlantFields) (live new : CoreView) (w0 w1 : Option (List ℕ)) → IsAfter plant [] [] live
    → IfSome known (λ input. (p : PlantFields) (start : Start) (before : List Step) (shown : List Out) → IsAfterFrom p start before shown live → IsServiceOf p start before shown input new w0 w1)
    → IfSome known (λ script. (text : List ℕ) × IsServed plant script 0 text × Appends w0 w1 text)
service_served None plant live new w0 w1 after serves = tt
service_served (Some input) plant live new w0 w1 after serves =
    let service = serves plant (first_start plant) [] [] after in
    (service_text plant 1 service.answers, record { status_is = refl; answers = service.answers; live = new; answered = service.answered; after = service.after; text_is = refl }, service.written)

-- the plant file was read, and its plant is served
pub plant_answered : (known left : Option (List ℕ)) (file : List ℕ) (plant : PlantFields) (status : ℕ) (w0 w1 : Option (List ℕ))
    → IfSome known (λ input. file ≡ plant_text input) → IfSome known (λ input. left ≡ Some (script_text input)) → text_plant (parse_document file) ≡ Ok plant
    → IfSome left (λ script. (text : List ℕ) × IsServed plant script status text × Appends w0 w1 text)
    → IfSome known (λ input. (text : List ℕ) × AnswersServe input status text × Appends w0 w1 text)
plant_answered None left file plant status w0 w1 is behind read served = tt
plant_answered (Some input) left file plant status w0 w1 is behind read served =
    let at : (text : List ℕ) × IsServed plant (script_text input) status text × Appends w0 w1 text =
    subst (λ (l : Option (List ℕ)). IfSome l (λ script. (text : List ℕ) × IsServed plant script status text × Appends w0 w1 text)) behind served in
    let said : text_plant (parse_document (plant_text input)) ≡ Ok plant = subst (λ (f : List ℕ). text_plant (parse_document f) ≡ Ok plant) is read in
    (at.0, subst (λ (r : Result PlantFields PlantFault). AnswersFront r (script_text input) status at.0) (sym said) at.1, at.2)

-- ---- how `serve` ends

-- the plant is served
pub service_ends : (known left : Option (List ℕ)) (file : List ℕ) (plant : PlantFields) (failed : Bool) (status : ℕ) (w0 w1 : Option (List ℕ))
    → IfSome known (λ input. file ≡ plant_text input) → IfSome known (λ input. left ≡ Some (script_text input)) → text_plant (parse_document file) ≡ Ok plant
    → EndsService plant left status (λ text. Appends w0 w1 text) → EndsOrder serve known failed status (λ text. Appends w0 w1 text)
service_ends known left file plant failed status w0 w1 is behind read (inl (five, told)) = inr (inl (five, ([], told, inl refl)))
service_ends known left file plant failed status w0 w1 is behind read (inr (zero_is, served)) = inr (inr (
  (λ five. absurd (let bad : ◌≡◌ {A = ℕ} 0 5 = sym zero_is ∙ five in cc)),
  (λ six. absurd (let bad : ◌≡◌ {A = ℕ} 0 6 = sym zero_is ∙ six in cc)),
  plant_answered known left file plant status w0 w1 is behind read served,
))
