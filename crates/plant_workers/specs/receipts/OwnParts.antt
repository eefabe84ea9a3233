-- That a MAP gives each operator its own frame (implementation-specific).
use Rattle.std.specs.Prelude.{◌≡◌, List, [], ◌∷◌, All}
use Rattle.std.specs.List.{flat_map}
use Rattle.slice_scheduler.specs.declared.elements.ElementsFields.{ElementsFields}
use Rattle.operator_model.specs.declared.action.Entry.{Entry}
use Rattle.operator_model.specs.declared.output.Output.{Output}
use Rattle.operator_model.specs.Replay.{BookView}
use Rattle.map_assembly.specs.declared.map_bytes.MapBytes.{MapBytes}
use Rattle.map_assembly.specs.declared.view.MapView.{MapView}
use Rattle.map_assembly.specs.Reading.{MapReads}
use Rattle.map_assembly.specs.Tiled.{part_of, own_part}
use Rattle.run_model.specs.IsTraceOf.{elements_at_frame}

-- all that a history output, in order
abbrev pub history_outputs : List Entry → List Output
history_outputs history = flat_map (λ entry. entry.outputs) history

-- what a MAP says to an operator is the one frame of the MAP's number in the operator's history
pub record IsFramePart (made : MapBytes) (view : MapView) (book : BookView) : Type 0 where
  pub part : ElementsFields
  pub put : elements_at_frame made.frame (history_outputs book.history) ≡ part ∷ []
  pub part_is : part_of book.row.sids view ≡ own_part part

-- the bytes of a MAP can be read, and what they say to each operator is its own frame
pub record HasOwnParts (books : List BookView) (made : MapBytes) : Type 0 where
  pub view : MapView
  pub reads : MapReads made.bytes view
  pub own : All (IsFramePart made view) books
