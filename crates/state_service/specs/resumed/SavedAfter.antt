-- A service whose lines are performed for the snapshot after them (implementation-specific).
use Rattle.std.specs.Prelude.{◌≡◌, ℕ, List, Option, IfSome}
use Rattle.std.specs.Io.KnownBytes.{Appends}
use Rattle.plant.specs.declared.plant.PlantFields.{PlantFields}
use Rattle.run_model.specs.IsStateAfter.{CoreView}
use Rattle.plant_core.specs.live.Resting.{Rests}
use Rattle.snapshot_format.specs.declared.saved.Snapshot.{Snapshot}
use Rattle.state_service.specs.declared.resumed.saving.SnapshotEnd.{SnapshotEnd}
use Rattle.state_service.specs.declared.resumed.saving.SnapshotEnd.TheVariants.{Saved, Unfinished, NoMemory, NotBegun}
use Rattle.state_service.specs.resumed.Beginning.{front_text, lines_after, IsBeginning, IsBeginFault}
use Rattle.state_service.specs.resumed.Items.{SnapshotIsGiven, after_items, texts_of}
use Rattle.state_service.specs.resumed.LastStates.{ArePerformed, IsRestless}
use Rattle.state_service.specs.resumed.Resumed.{resumed_service}

-- the snapshot of a core that rests before a frame is written, with this text of its plant file; or nothing is: the core rests before no
-- frame, or it rests and memory ran out
abbrev pub IsSnapshotWritten : List ℕ → CoreView → Option (List ℕ) → Option (List ℕ) → SnapshotEnd → Type 0
IsSnapshotWritten file live old new Saved = (text : List ℕ) × SnapshotIsGiven file live text × Appends old new text
IsSnapshotWritten file live old new (Unfinished why operator) = IsRestless live why operator × (new ≡ old)
IsSnapshotWritten file live old new NoMemory = ((frame : ℕ) × Rests live frame) × (new ≡ old)
IsSnapshotWritten file live old new (NotBegun fault) = ⊥

-- The lines are answered, one after the other, from where the plant begins, to the writer of `a0` and `a1`. The snapshot is of the core
-- after them, with the text of the plant file in force then.
pub record IsSnapshotAfter (text lines : List ℕ) (a0 a1 old new : Option (List ℕ)) (end : SnapshotEnd) : Type 0 where
  pub plant : PlantFields
  pub saved : Snapshot
  pub begins : IsBeginning text plant saved
  pub live : CoreView
  pub performed : ArePerformed (resumed_service plant saved) lines live
  pub answered : Appends a0 a1 (texts_of performed.answers)
  pub snapshot : IsSnapshotWritten (after_items (resumed_service plant saved) performed.answers).file live old new end

-- so it is; or the service does not begin, for this reason, and nothing is written
abbrev pub SnapshotServiceEnds : List ℕ → List ℕ → Option (List ℕ) → Option (List ℕ) → Option (List ℕ) → Option (List ℕ) → SnapshotEnd → Type 0
SnapshotServiceEnds text lines a0 a1 old new Saved = IsSnapshotAfter text lines a0 a1 old new Saved
SnapshotServiceEnds text lines a0 a1 old new (Unfinished why operator) = IsSnapshotAfter text lines a0 a1 old new (Unfinished why operator)
SnapshotServiceEnds text lines a0 a1 old new NoMemory = IsSnapshotAfter text lines a0 a1 old new NoMemory
SnapshotServiceEnds text lines a0 a1 old new (NotBegun fault) = IsBeginFault text fault × (a1 ≡ a0) × (new ≡ old)

-- if the input could be read, its lines are performed and the snapshot after them is written, or the service does not begin for a fault of
-- it
abbrev pub EndsWithSnapshot : Option (List ℕ) → Option (List ℕ) → Option (List ℕ) → Option (List ℕ) → Option (List ℕ) → SnapshotEnd → Type 0
EndsWithSnapshot read a0 a1 old new end = IfSome read (λ input. SnapshotServiceEnds (front_text input) (lines_after input) a0 a1 old new end)
