-- A channel that is saved, that is opened again, and whose plant is changed (implementation-specific).
use Rattle.std.specs.Prelude.{◌≡◌, ◌≢◌, ◌⊎◌, ℕ, ◌<◌, List, [], length, take, Result, Ok, Err}
use Rattle.plant.specs.declared.plant.PlantFields.{PlantFields}
use Rattle.slice_table.specs.Tree.{PlantResult}
use Rattle.run_model.specs.IsStateAfter.{CoreView}
use Rattle.plant_core.specs.declared.live.rest_fault.RestFault.{RestFault}
use Rattle.plant_core.specs.live.Resting.{Rests, IsRestFault}
use Rattle.snapshot_format.specs.declared.saved.Snapshot.{Snapshot}
use Rattle.snapshot_format.specs.declared.fault.SnapshotFault.{SnapshotFault}
use Rattle.snapshot_format.specs.Snapshot.{snapshot_of}
use Rattle.snapshot_format.specs.Text.{text_of_snapshot}
use Rattle.snapshot_format.specs.States.{states_of}
use Rattle.plant_restart.specs.declared.fault.SaveFault.{SaveFault}
use Rattle.plant_restart.specs.declared.fault.SaveFault.TheVariants.{Unfinished, NoMemory}
use Rattle.plant_restart.specs.declared.fault.ChangeFault.{ChangeFault}
use Rattle.plant_restart.specs.declared.fault.RestoreFault.{RestoreFault}
use Rattle.plant_restart.specs.Saving.{IsCoreSnapshot}
use Rattle.plant_restart.specs.Changing.{IsChangeOf, IsChangeFault, CanChange}
use Rattle.plant_restart.specs.Restarted.{IsRestarted, IsRestoreFault, HaveRows, names_of}
use Rattle.channel_c.specs.declared.channel.OpenChannel.{OpenChannel}
use Rattle.channel_c.specs.Codes.{plant_code, rest_code, change_code, snapshot_code, restore_code}
use Rattle.channel_c.specs.PlantText.{plant_said}
use Rattle.channel_c.specs.Waiting.{view_of, text_of, waiting_of, IsSame}

-- ---- saving

-- the text of a snapshot of the channel, which rests before a frame
pub record IsSavedText (channel : OpenChannel) (text : List ℕ) : Type 0 where
  pub saved : Snapshot
  pub is_snapshot : IsCoreSnapshot (view_of channel) (text_of channel) saved
  pub text_is : text ≡ text_of_snapshot saved

-- what each refusal says: why the channel does not rest, or that memory ran out for a channel that rests
abbrev pub IsSaveRefusal : CoreView → SaveFault → Type 0
IsSaveRefusal live (Unfinished why) = IsRestFault live why
IsSaveRefusal live NoMemory = (frame : ℕ) × Rests live frame

-- the number of a call that saves: 0, 3 or, out of memory, 1 only where the channel rests, else why it does not
abbrev pub IsSaveCode : ℕ → CoreView → Type 0
IsSaveCode code live = ((frame : ℕ) × Rests live frame × ((code ≡ 0) ⊎ ((code ≡ 1) ⊎ (code ≡ 3))))
    ⊎ ((why : RestFault) × IsRestFault live why × (code ≡ rest_code why))

-- 0: the text is at the beginning of the buffer. 3: it is longer than the buffer. Of any number but 0 the buffer is as it was, and of any
-- but 0 and 3 the length, too
pub record SaveEnds (code old_size size : ℕ) (before after : List ℕ) (channel : OpenChannel) : Type 0 where
  pub written : code ≡ 0 → (text : List ℕ) × IsSavedText channel text × (size ≡ length text) × (take size after ≡ text)
  pub short : code ≡ 3 → (text : List ℕ) × IsSavedText channel text × (size ≡ length text) × (length before < size)
  pub same : code ≢ 0 → after ≡ before
  pub same_size : code ≢ 0 → code ≢ 3 → size ≡ old_size
  pub fault : IsSaveCode code (view_of channel)

-- ---- another plant

-- the plant that the text says is in force, and the outputs that wait go on waiting
pub record IsChanged (text : List ℕ) (old new : OpenChannel) : Type 0 where
  pub plant : PlantFields
  pub plant_is : plant_said text ≡ Ok plant
  pub changes : IsChangeOf (view_of old) plant (view_of new)
  pub waiting_is : waiting_of new ≡ waiting_of old
  pub text_is : text_of new ≡ text

-- the number of a change: 1, out of memory, says nothing else; otherwise that of the first fault of the text, or why its plant is not
-- taken
abbrev pub IsChangeCode : ℕ → PlantResult PlantFields → CoreView → Type 0
IsChangeCode code (Ok plant) live = (code ≡ 0) ⊎ ((code ≡ 1) ⊎ ((why : ChangeFault) × IsChangeFault live plant why × (code ≡ change_code why)))
IsChangeCode code (Err fault) live = (code ≡ plant_code fault) ⊎ (code ≡ 1)

-- 0: the plant is changed. Any other number: nothing is
pub record ChangeEnds (code : ℕ) (text : List ℕ) (old new : OpenChannel) : Type 0 where
  pub done : code ≡ 0 → IsChanged text old new
  pub same : code ≢ 0 → IsSame old new
  pub fault : IsChangeCode code (plant_said text) (view_of old)
  pub only : (plant : PlantFields) → plant_said text ≡ Ok plant → CanChange (view_of old) plant → (code ≡ 0) ⊎ (code ≡ 1)

-- ---- opening again

-- the channel goes on before the frame of a snapshot, each operator in the state that is saved under its name; no output waits
pub record IsRestoredFrom (saved : Snapshot) (channel : OpenChannel) : Type 0 where
  pub plant : PlantFields
  pub plant_is : plant_said saved.plant ≡ Ok plant
  pub restored : IsRestarted plant saved.frame (states_of saved) (view_of channel)
  pub names : HaveRows plant.rows (names_of (states_of saved))
  pub none_waits : waiting_of channel ≡ []
  pub text_is : text_of channel ≡ saved.plant

-- the text is a snapshot, and the channel goes on from it
abbrev pub IsReopenedFrom : List ℕ → OpenChannel → Type 0
IsReopenedFrom text channel = (saved : Snapshot) × (snapshot_of text ≡ Ok saved) × IsRestoredFrom saved channel

-- the number by which a snapshot is not restored: that of the first fault of its plant file, or why the plant does not start in the states
abbrev pub IsRefusedCode : ℕ → Snapshot → PlantResult PlantFields → Type 0
IsRefusedCode code saved (Ok plant) = (code ≡ 1)
    ⊎ ((why : RestoreFault) × IsRestoreFault plant saved.frame (states_of saved) why × (code ≡ restore_code why))
IsRefusedCode code saved (Err fault) = (code ≡ plant_code fault) ⊎ (code ≡ 1)

abbrev pub IsRestoreCode : ℕ → Snapshot → Type 0
IsRestoreCode code saved = IsRefusedCode code saved (plant_said saved.plant)

-- the number of an opening: 0, 1 for out of memory, or what is wrong with the text or with what it says
abbrev pub IsReopenCodeOf : ℕ → Result Snapshot SnapshotFault → Type 0
IsReopenCodeOf code (Ok saved) = (code ≡ 0) ⊎ ((code ≡ 1) ⊎ IsRestoreCode code saved)
IsReopenCodeOf code (Err fault) = (code ≡ snapshot_code fault) ⊎ (code ≡ 1)

abbrev pub IsReopenCode : ℕ → List ℕ → Type 0
IsReopenCode code text = IsReopenCodeOf code (snapshot_of text)
