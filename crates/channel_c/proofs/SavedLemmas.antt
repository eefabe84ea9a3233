-- How calls end that save a channel, change its plant, or open it again.
use Rattle.std.proofs.Common.{◌≡◌, ◌≢◌, ℕ, ◌<◌, List, [], length, take, Option, Some, None, Result, Ok, Err, ◌⊎◌, inl, inr, refl, sym, ap, ◌∙◌, subst}
use Rattle.std.proofs.lemmas.Bool.{eqb-false}
use Rattle.plant.specs.declared.plant.PlantFields.{PlantFields}
use Rattle.slice_table.specs.declared.plant_fault.PlantFault.{PlantFault}
use Rattle.slice_table.specs.Tree.{PlantResult, plant_cause}
use Rattle.lists.specs.Results.{Fails}
use Rattle.run_model.specs.IsStateAfter.{CoreView}
use Rattle.plant_core.specs.declared.live.rest_fault.RestFault.{RestFault}
use Rattle.plant_core.specs.declared.live.rest_fault.RestFault.TheVariants as rests
use Rattle.snapshot_format.specs.declared.saved.Snapshot.{Snapshot}
use Rattle.snapshot_format.specs.declared.fault.SnapshotFault.{SnapshotFault}
use Rattle.snapshot_format.specs.declared.fault.SnapshotFault.TheVariants as snapshots
use Rattle.snapshot_format.specs.Snapshot.{snapshot_of, snapshot_cause}
use Rattle.snapshot_format.specs.States.{states_of}
use Rattle.plant_restart.specs.declared.fault.SaveFault.{SaveFault}
use Rattle.plant_restart.specs.declared.fault.SaveFault.TheVariants as saves
use Rattle.plant_restart.specs.declared.fault.RestartFault.{RestartFault}
use Rattle.plant_restart.specs.declared.fault.RestartFault.TheVariants as restarts
use Rattle.plant_restart.specs.declared.fault.ChangeFault.{ChangeFault}
use Rattle.plant_restart.specs.declared.fault.ChangeFault.TheVariants as changes
use Rattle.plant_restart.specs.declared.fault.RestoreFault.{RestoreFault}
use Rattle.plant_restart.specs.declared.fault.RestoreFault.TheVariants as restores
use Rattle.plant_restart.specs.Saving.{IsSaveFault}
use Rattle.plant_restart.specs.Changing.{IsChangeOf, IsChangeFault, CanChange}
use Rattle.plant_restart.specs.Restarted.{IsRestoreFault}
use Rattle.channel_c.specs.declared.channel.OpenChannel.{OpenChannel}
use Rattle.channel_c.specs.Codes.{IsOpenCode, plant_code, rest_code, save_code, restart_code, change_code, snapshot_code, restore_code}
use Rattle.channel_c.specs.PlantText.{plant_said}
use Rattle.plant_core.specs.live.Resting.{Rests}
use Rattle.channel_c.specs.Saved.{IsSavedText, IsSaveRefusal, IsSaveCode, SaveEnds, IsChanged, IsChangeCode, ChangeEnds, IsRestoreCode, IsRefusedCode, IsReopenCode, IsReopenCodeOf}
use Rattle.channel_c.specs.Waiting.{view_of, text_of, waiting_of, IsSame}
use Rattle.channel_c.proofs.CodeLemmas.{open_refused, plant_more}

-- ---- saving

rest_more : (why : RestFault) → rest_code why ≢ 0
rest_more (rests.FrameWaits op) = eqb-false 40 0 refl
rest_more (rests.NotAtFrame op) = eqb-false 41 0 refl

rest_other : (why : RestFault) → rest_code why ≢ 3
rest_other (rests.FrameWaits op) = eqb-false 40 3 refl
rest_other (rests.NotAtFrame op) = eqb-false 41 3 refl

pub saved_done : (channel : OpenChannel) (text before after : List ℕ) (old_size size : ℕ) → IsSavedText channel text → size ≡ length text → take (length text) after ≡ text
    → SaveEnds 0 old_size size before after channel
saved_done channel text before after old_size size saved is written = record {
  written = λ _. (text, saved, is, ap (λ (n : ℕ). take n after) is ∙ written);
  short = λ three. absurd (eqb-false 0 3 refl three);
  same = λ other. absurd (other refl);
  same_size = λ other _. absurd (other refl);
  fault = inl (saved.saved.frame, saved.is_snapshot.rests, inl refl);
}

pub saved_short : (channel : OpenChannel) (text before after : List ℕ) (old_size size : ℕ) → IsSavedText channel text → size ≡ length text → length before < length text → after ≡ before
    → SaveEnds 3 old_size size before after channel
saved_short channel text before after old_size size saved is less same = record {
  written = λ zero. absurd (eqb-false 3 0 refl zero);
  short = λ _. (text, saved, is, subst (λ (n : ℕ). length before < n) (sym is) less);
  same = λ _. same;
  same_size = λ _ other. absurd (other refl);
  fault = inl (saved.saved.frame, saved.is_snapshot.rests, inr (inr refl));
}

pub saved_refused : (channel : OpenChannel) (buffer : List ℕ) (size : ℕ) (fault : SaveFault) → IsSaveRefusal (view_of channel) fault → SaveEnds (save_code fault) size size buffer buffer channel
saved_refused channel buffer size (saves.Unfinished why) is = record {
  written = λ zero. absurd (rest_more why zero);
  short = λ three. absurd (rest_other why three);
  same = λ _. refl;
  same_size = λ _ _. refl;
  fault = inr (why, is, refl);
}
saved_refused channel buffer size saves.NoMemory (frame, rests) = record {
  written = λ zero. absurd (eqb-false 1 0 refl zero);
  short = λ three. absurd (eqb-false 1 3 refl three);
  same = λ _. refl;
  same_size = λ _ _. refl;
  fault = inl (frame, rests, inr (inl refl));
}

-- a core that rests is not saved only if memory runs out
pub save_refusal : (live : CoreView) (frame : ℕ) (fault : SaveFault) → Rests live frame → IsSaveFault live fault → IsSaveRefusal live fault
save_refusal live frame (saves.Unfinished why) rests is = is
save_refusal live frame saves.NoMemory rests is = (frame, rests)

-- ---- another plant

pub same_channel : (channel : OpenChannel) → IsSame channel channel
same_channel channel = record { view_is = refl; waiting_is = refl; text_is = refl }

restart_more : (why : RestartFault) → restart_code why ≢ 0
restart_more (restarts.State op why) = eqb-false 43 0 refl
restart_more (restarts.Core why) = eqb-false 44 0 refl
restart_more restarts.NoMemory = eqb-false 1 0 refl

change_more : (why : ChangeFault) → change_code why ≢ 0
change_more changes.ConstantsDiffer = eqb-false 42 0 refl
change_more (changes.Unfinished why) = rest_more why
change_more (changes.Restart why) = restart_more why

-- the number of a text that says no plant
no_plant : (code : ℕ) (said : PlantResult PlantFields) (live : CoreView) → code ≢ 0 → IsOpenCode code said → IsChangeCode code said live
no_plant code (Ok plant) live more (inl zero) = absurd (more zero)
no_plant code (Ok plant) live more (inr one) = inr (inl one)
no_plant code (Err fault) live more is = is

done_or_full : (code : ℕ) (said : PlantResult PlantFields) (plant : PlantFields) → said ≡ Ok plant → IsOpenCode code said → (code ≡ 0) ⊎ (code ≡ 1)
done_or_full code said plant is coded = subst (λ (r : PlantResult PlantFields). IsOpenCode code r) is coded

pub change_unread : (channel : OpenChannel) (text : List ℕ) (fault : PlantFault) → Fails (plant_cause fault) (plant_said text) → ChangeEnds (plant_code fault) text channel channel
change_unread channel text fault fails =
    let coded = open_refused fault (plant_said text) fails in
    record {
      done = λ zero. absurd (plant_more fault zero);
      same = λ _. same_channel channel;
      fault = no_plant (plant_code fault) (plant_said text) (view_of channel) (plant_more fault) coded;
      only = λ plant is can. done_or_full (plant_code fault) (plant_said text) plant is coded;
    }

in_change : (code : ℕ) (said : PlantResult PlantFields) (plant : PlantFields) (live : CoreView) → said ≡ Ok plant → IsChangeCode code (Ok plant) live → IsChangeCode code said live
in_change code said plant live is coded = subst (λ (r : PlantResult PlantFields). IsChangeCode code r live) (sym is) coded

pub change_full : (channel : OpenChannel) (text : List ℕ) (plant : PlantFields) → plant_said text ≡ Ok plant → ChangeEnds 1 text channel channel
change_full channel text plant is = record {
  done = λ zero. absurd (eqb-false 1 0 refl zero);
  same = λ _. same_channel channel;
  fault = in_change 1 (plant_said text) plant (view_of channel) is (inr (inl refl));
  only = λ _ _ _. inr refl;
}

pub change_done : (old new : OpenChannel) (text : List ℕ) (plant : PlantFields) → plant_said text ≡ Ok plant → IsChangeOf (view_of old) plant (view_of new) → waiting_of new ≡ waiting_of old → text_of new ≡ text
    → ChangeEnds 0 text old new
change_done old new text plant is changes waits file = record {
  done = λ _. record { plant = plant; plant_is = is; changes = changes; waiting_is = waits; text_is = file };
  same = λ other. absurd (other refl);
  fault = in_change 0 (plant_said text) plant (view_of old) is (inl refl);
  only = λ _ _ _. inl refl;
}

-- the plant of a result, or another
plant_or : PlantFields → PlantResult PlantFields → PlantFields
plant_or other (Ok plant) = plant
plant_or other (Err fault) = other

same_plant : (other : PlantFields) (said : PlantResult PlantFields) (a b : PlantFields) → said ≡ Ok a → said ≡ Ok b → a ≡ b
unfolding plant_or
same_plant other said a b one two = ap (plant_or other) (sym one ∙ two)

memory_code : (fault : ChangeFault) → fault ≡ changes.Restart restarts.NoMemory → change_code fault ≡ 1
memory_code fault is = ap change_code is

pub change_refused : (channel : OpenChannel) (text : List ℕ) (plant : PlantFields) (fault : ChangeFault) → plant_said text ≡ Ok plant → IsChangeFault (view_of channel) plant fault
    → (CanChange (view_of channel) plant → fault ≡ changes.Restart restarts.NoMemory) → ChangeEnds (change_code fault) text channel channel
change_refused channel text plant fault is why only = record {
  done = λ zero. absurd (change_more fault zero);
  same = λ _. same_channel channel;
  fault = in_change (change_code fault) (plant_said text) plant (view_of channel) is (inr (inr (fault, why, refl)));
  only = λ other said can.
      inr (memory_code fault (only (subst (CanChange (view_of channel)) (same_plant other (plant_said text) other plant said is) can)));
}

-- ---- opening again

restore_more : (why : RestoreFault) → restore_code why ≢ 0
restore_more (restores.UnknownOperator name) = eqb-false 46 0 refl
restore_more (restores.Restart why) = restart_more why

no_file : (code : ℕ) (saved : Snapshot) (said : PlantResult PlantFields) → code ≢ 0 → IsOpenCode code said → IsRefusedCode code saved said
no_file code saved (Ok plant) more (inl zero) = absurd (more zero)
no_file code saved (Ok plant) more (inr one) = inl one
no_file code saved (Err fault) more is = is

pub restore_unread : (saved : Snapshot) (fault : PlantFault) → Fails (plant_cause fault) (plant_said saved.plant) → (plant_code fault ≢ 0) × IsRestoreCode (plant_code fault) saved
restore_unread saved fault fails =
    (plant_more fault, no_file (plant_code fault) saved (plant_said saved.plant) (plant_more fault) (open_refused fault (plant_said saved.plant) fails))

pub restore_refused : (saved : Snapshot) (plant : PlantFields) (fault : RestoreFault) → plant_said saved.plant ≡ Ok plant → IsRestoreFault plant saved.frame (states_of saved) fault
    → (restore_code fault ≢ 0) × IsRestoreCode (restore_code fault) saved
restore_refused saved plant fault is why =
    (restore_more fault, subst (λ (r : PlantResult PlantFields). IsRefusedCode (restore_code fault) saved r) (sym is) (inr (fault, why, refl)))

snapshot_more : (fault : SnapshotFault) → snapshot_code fault ≢ 0
snapshot_more snapshots.NoMemory = eqb-false 1 0 refl
snapshot_more (snapshots.Line number wrong) = eqb-false 45 0 refl

any_memory : (read : Result Snapshot SnapshotFault) → IsReopenCodeOf 1 read
any_memory (Ok saved) = inr (inl refl)
any_memory (Err fault) = inr refl

pub reopen_unread : (text : List ℕ) (fault : SnapshotFault) → Fails (snapshot_cause fault) (snapshot_of text) → (snapshot_code fault ≢ 0) × IsReopenCode (snapshot_code fault) text
reopen_unread text snapshots.NoMemory fails = (snapshot_more snapshots.NoMemory, any_memory (snapshot_of text))
reopen_unread text (snapshots.Line number wrong) fails =
    (snapshot_more (snapshots.Line number wrong), subst (λ (r : Result Snapshot SnapshotFault). IsReopenCodeOf 45 r) (sym fails) (inl refl))

pub reopen_refused : (text : List ℕ) (saved : Snapshot) (code : ℕ) → snapshot_of text ≡ Ok saved → (code ≢ 0) × IsRestoreCode code saved → (code ≢ 0) × IsReopenCode code text
reopen_refused text saved code is refused =
    (refused.0, subst (λ (r : Result Snapshot SnapshotFault). IsReopenCodeOf code r) (sym is) (inr (inr refused.1)))

pub reopen_memory : (text : List ℕ) → IsReopenCode 1 text
reopen_memory text = any_memory (snapshot_of text)

pub reopen_done : (text : List ℕ) (saved : Snapshot) → snapshot_of text ≡ Ok saved → IsReopenCode 0 text
reopen_done text saved is = subst (λ (r : Result Snapshot SnapshotFault). IsReopenCodeOf 0 r) (sym is) (inl refl)
