-- What books and MAPs output (implementation-specific).
use Rattle.std.specs.Prelude.{ℕ, ◌+◌, List, [], ◌∷◌, ◌++◌, map, take}
use Rattle.slice_scheduler.specs.declared.elements.ElementsFields.{ElementsFields}
use Rattle.operator_model.specs.Replay.{BookView}
use Rattle.map_assembly.specs.declared.map_bytes.MapBytes.{MapBytes}
use Rattle.run_model.specs.declared.step.Step.{Step}
use Rattle.run_model.specs.declared.step.Out.{Out}
use Rattle.run_model.specs.declared.step.Out.TheVariants as outs
use Rattle.run_model.specs.OwnSteps.{outputs_under, collects_of}
use Rattle.plant_core.specs.Waiting.{frames_in}
use Rattle.plant_workers.specs.receipts.OwnParts.{history_outputs}

-- what the books output, each under its operator, from this operator on
abbrev pub outs_from : ℕ → List BookView → List Out
outs_from i [] = []
outs_from i (book ∷ books) = outputs_under i (history_outputs book.history) ++ outs_from (i + 1) books

-- each operator's outputs, operator by operator, and then the MAPs in order
abbrev pub outs_of : List BookView → List MapBytes → List Out
outs_of books maps = outs_from 0 books ++ map (λ made. outs.Map made) maps

-- the frames of an operator's history that the Collects of the steps take, each with its number
abbrev pub due_of : List Step → ℕ → BookView → List (ℕ × ElementsFields)
due_of steps i book = take (collects_of i steps) (frames_in book.history)
