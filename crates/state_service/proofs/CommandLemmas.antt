-- A snapshot of a core, as it is saved and as it is the answer to a line.
use Rattle.std.proofs.Common.{◌≡◌, ℕ, List, map, refl, ap, ◌∙◌}
use Rattle.state_service.proofs.Common.{CoreView, Snapshot, states_of, IsSavedCore}
use Rattle.snapshot_format.specs.Text.{text_of_snapshot}
use Rattle.plant_restart.specs.Saving.{saved_book, IsCoreSnapshot}
use Rattle.plant_restart.proofs.SaveLemmas.{states_saved}
use Rattle.state_service.specs.resumed.Items.{SnapshotIsGiven}

module _ (file : List ℕ) (live : CoreView) (saved : Snapshot) (is : IsSavedCore file live saved) where
  pub core_snapshot_is : IsCoreSnapshot live file saved
  core_snapshot_is = record {
    plant_is = ap (λ (s : Snapshot). s.plant) is.saved_is;
    rests = is.rests;
    states_are = ap states_of is.saved_is ∙ states_saved live saved.frame (map saved_book live.books) refl is.rests;
  }

  pub snapshot_given : (text : List ℕ) → text ≡ text_of_snapshot saved → SnapshotIsGiven file live text
  snapshot_given text text_is = record { frame = saved.frame; rests = is.rests; text_is = text_is ∙ ap text_of_snapshot is.saved_is }
