-- A step of an open channel, and the outputs that wait after it.
use Rattle.std.proofs.Common.{◌≡◌, ℕ, ◌≤◌, Bool, true, false, cond, List, [], ◌∷◌, ◌++◌, length, drop, refl, sym, ap, ap₂, subst, ◌∙◌, arith}
use Rattle.std.proofs.lemmas.List.{drop_all, drop-append-le}
use Rattle.plant.specs.declared.plant.PlantFields.{PlantFields}
use Rattle.plant.specs.Plant.{IsPlant}
use Rattle.run_model.specs.declared.step.Step.{Step}
use Rattle.run_model.specs.declared.step.Out.{Out}
use Rattle.run_model.specs.Opened.{opened_core}
use Rattle.run_model.specs.Steps.{Steps}
use Rattle.slice_table.specs.Tree.{PlantResult, plant_cause}
use Rattle.std.specs.Prelude.{Result, Ok, Err}
use Rattle.std.specs.Str.{IsUtf8, is_utf8}
use Rattle.std.proofs.lemmas.Str.{IsUtf8-from_is_utf8, is_utf8-from_IsUtf8}
use Rattle.toml.specs.Parse.{parse_document}
use Rattle.lists.specs.Results.{Gives}
use Rattle.slice_table.specs.declared.plant_fault.PlantFault.{PlantFault}
use Rattle.slice_table.specs.declared.plant_fault.PlantFault.TheVariants.{NotToml}
use Rattle.slice_table.specs.ReadPlant.{text_plant}
use Rattle.run_model.specs.IsStateAfter.{CoreView}
use Rattle.plant_core.specs.live.After.{IsAfter}
use Rattle.plant_core.specs.live.Performing.{Performs}
use Rattle.plant_core.proofs.LiveLemmas.GoLemmas.{after_more}
use Rattle.channel_c.specs.declared.channel.OpenChannel.{OpenChannel}
use Rattle.channel_c.specs.PlantText.{plant_said}
use Rattle.channel_c.specs.Waiting.{view_of, text_of, waiting_of, IsOpenedFrom, IsSame, GoesOn}

goes : (step : Step) (old new : OpenChannel) (told : List Out) → IsPlant (view_of old).plant → text_of new ≡ text_of old → waiting_of new ≡ waiting_of old ++ told → Performs (Steps step) (view_of old) (view_of new) told → GoesOn step old new
goes step old new told valid text waits does = record {
  told = told;
  waiting_is = waits;
  does = does;
  leads = λ start before shown after. after_more (view_of old).plant start before shown step (view_of old) (view_of new) told valid does after;
  text_is = text;
}

-- none waited, and the outputs of the step are all that wait
pub goes_over : (step : Step) (old new : OpenChannel) → IsPlant (view_of old).plant → text_of new ≡ text_of old → old.fetched ≡ length old.outs.items → new.fetched ≡ 0 → Performs (Steps step) (view_of old) (view_of new) new.outs.items → GoesOn step old new
goes_over step old new valid text all none does =
    goes step old new new.outs.items valid text
    (ap (λ (n : ℕ). drop n new.outs.items) none ∙ sym (ap (λ (ws : List Out). ws ++ new.outs.items) (drop_all old.fetched old.outs.items (omega (arith, all))))) does

-- some waited, and the outputs of the step are after them
pub goes_after : (step : Step) (old new : OpenChannel) (now : List Out) → IsPlant (view_of old).plant → text_of new ≡ text_of old → old.fetched ≤ length old.outs.items → new.fetched ≡ old.fetched → new.outs.items ≡ old.outs.items ++ now
    → Performs (Steps step) (view_of old) (view_of new) now → GoesOn step old new
goes_after step old new now valid text within same is does =
    goes step old new now valid text (ap₂ (λ (n : ℕ) (os : List Out). drop n os) same is ∙ drop-append-le old.fetched old.outs.items now within) does

-- none waited, and none waits
pub same_over : (old new : OpenChannel) → view_of new ≡ view_of old → text_of new ≡ text_of old → old.fetched ≡ length old.outs.items → new.fetched ≡ 0 → new.outs.items ≡ [] → IsSame old new
same_over old new view text all none is = record {
  view_is = view;
  waiting_is = ap₂ (λ (n : ℕ) (os : List Out). drop n os) none is ∙ sym (drop_all old.fetched old.outs.items (omega (arith, all)));
  text_is = text;
}

pub same_after : (old new : OpenChannel) → view_of new ≡ view_of old → text_of new ≡ text_of old → new.fetched ≡ old.fetched → new.outs.items ≡ old.outs.items → IsSame old new
same_after old new view text same is = record { view_is = view; waiting_is = ap₂ (λ (n : ℕ) (os : List Out). drop n os) same is; text_is = text }

pub opened_from : (text : List ℕ) (channel : OpenChannel) (plant : PlantFields) → plant_said text ≡ Ok plant → view_of channel ≡ opened_core plant → IsAfter plant [] [] (view_of channel) → waiting_of channel ≡ [] → text_of channel ≡ text → IsOpenedFrom text channel
opened_from text channel plant said view after waits is = record { plant = plant; plant_is = said; view_is = view; after = after; none_waits = waits; text_is = is }

abbrev plant_in : CoreView → PlantResult PlantFields
plant_in view = Ok view.plant

pub opened_said : (text : List ℕ) (channel : OpenChannel) (plant : PlantFields) → plant_said text ≡ Ok plant → view_of channel ≡ opened_core plant → plant_said text ≡ Ok (view_of channel).plant
opened_said text channel plant said view = said ∙ sym (ap plant_in view)

-- ---- the bytes of a plant file

text_said : (bytes : List ℕ) → IsUtf8 bytes → plant_said bytes ≡ text_plant (parse_document bytes)
text_said bytes is = ap (λ (b : Bool). cond b (text_plant (parse_document bytes)) (Err NotToml)) (is_utf8-from_IsUtf8 bytes is)

pub no_text : (bytes : List ℕ) → ¬ IsUtf8 bytes → plant_said bytes ≡ Err NotToml
no_text bytes other = by (is_utf8 bytes) refl where
  by : (t : Bool) → is_utf8 bytes ≡ t → plant_said bytes ≡ Err NotToml
  by true is = absurd (other (IsUtf8-from_is_utf8 bytes is))
  by false is = ap (λ (b : Bool). cond b (text_plant (parse_document bytes)) (Err NotToml)) is

pub text_gives : (bytes text : List ℕ) (r : Result PlantFields PlantFault) → text ≡ bytes → IsUtf8 bytes → Gives plant_cause (λ plant. plant) r (text_plant (parse_document text)) → Gives plant_cause (λ plant. plant) r (plant_said bytes)
text_gives bytes text r same is gives =
    subst (λ (read : PlantResult PlantFields). Gives plant_cause (λ plant. plant) r read) (ap (λ (b : List ℕ). text_plant (parse_document b)) same ∙ sym (text_said bytes is)) gives
