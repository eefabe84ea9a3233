-- What contracts see of an open channel: its core, and the outputs that wait to be fetched (implementation-specific).
use Rattle.std.specs.Prelude.{◌≡◌, ℕ, List, [], ◌∷◌, ◌++◌, drop, Ok}
use Rattle.plant.specs.declared.plant.PlantFields.{PlantFields}
use Rattle.run_model.specs.declared.step.Step.{Step}
use Rattle.run_model.specs.declared.step.Out.{Out}
use Rattle.run_model.specs.IsStateAfter.{CoreView}
use Rattle.run_model.specs.Opened.{opened_core}
use Rattle.run_model.specs.Steps.{Steps}
use Rattle.plant_core.specs.live.After.{IsAfter, LeadsOnFromStart}
use Rattle.plant_core.specs.live.LiveView.{live_view}
use Rattle.plant_core.specs.live.Performing.{Performs}
use Rattle.channel_c.specs.declared.channel.OpenChannel.{OpenChannel}
use Rattle.channel_c.specs.PlantText.{plant_said}

-- the text of the plant file in force
abbrev pub text_of : OpenChannel → List ℕ
text_of channel = channel.text

-- the core of an open channel
abbrev pub view_of : OpenChannel → CoreView
view_of channel = live_view channel.core

-- the outputs of an open channel that no call has fetched, in the order of their steps
abbrev pub waiting_of : OpenChannel → List Out
waiting_of channel = drop channel.fetched channel.outs.items

-- the core is that of the plant that the text says, with nothing done, and no output waits
pub record IsOpenedFrom (text : List ℕ) (channel : OpenChannel) : Type 0 where
  pub plant : PlantFields
  pub plant_is : plant_said text ≡ Ok plant
  pub view_is : view_of channel ≡ opened_core plant
  pub after : IsAfter plant [] [] (view_of channel)
  pub none_waits : waiting_of channel ≡ []
  pub text_is : text_of channel ≡ text

-- neither the core nor the outputs that wait nor the plant file are changed
pub record IsSame (old new : OpenChannel) : Type 0 where
  pub view_is : view_of new ≡ view_of old
  pub waiting_is : waiting_of new ≡ waiting_of old
  pub text_is : text_of new ≡ text_of old

-- the step is performed, and its outputs wait after those that waited before; after whatever run led to the old core, that step more
-- leads to the new one
pub record GoesOn (step : Step) (old new : OpenChannel) : Type 0 where
  pub told : List Out
  pub waiting_is : waiting_of new ≡ waiting_of old ++ told
  pub does : Performs (Steps step) (view_of old) (view_of new) told
  pub leads : LeadsOnFromStart (view_of old) (step ∷ []) told (view_of new)
  pub text_is : text_of new ≡ text_of old

-- the one step is performed, and then the other
abbrev pub GoesOnTwice : Step → Step → OpenChannel → OpenChannel → Type 0
GoesOnTwice first second old new = (mid : OpenChannel) × GoesOn first old mid × GoesOn second mid new
