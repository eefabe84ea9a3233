-- The frame that waits longest, put into the assembly (implementation-specific).
use Rattle.std.specs.Prelude.{◌≡◌, ℕ, List, ◌∷◌, ◌++◌, Option, None}
use Rattle.slice_scheduler.specs.declared.elements.ElementsFields.{ElementsFields}
use Rattle.map_assembly.specs.declared.map_bytes.MapBytes.{MapBytes}
use Rattle.map_assembly.specs.Gathering.{Gathering, put_fault, after_put}
use Rattle.map_assembly.specs.Assembled.{IsPutResult}
use Rattle.run_model.specs.declared.step.Out.{Out}
use Rattle.run_model.specs.Steps.{told_map}

-- the assembly takes the operator's first of these frames, if there is one
abbrev pub FitsOldest : ℕ → List (ℕ × ElementsFields) → Gathering → Type 0
FitsOldest op waiting gathering =
    (frame : ℕ) (part : ElementsFields) (rest : List (ℕ × ElementsFields)) → waiting ≡ (frame, part) ∷ rest → put_fault gathering op frame part ≡ None

-- the assembly has taken the first of these frames, with this answer, and the others wait
pub record PutsOldest (op : ℕ) (waiting left : List (ℕ × ElementsFields)) (old new : Gathering) (made : Option MapBytes) : Type 0 where
  pub frame : ℕ
  pub part : ElementsFields
  pub waiting_is : waiting ≡ (frame, part) ∷ left
  pub made_is : IsPutResult old op frame part made
  pub new_is : new ≡ after_put old op part

-- the assembly has taken the first of these frames, the others wait, and the MAP that is made is among the outputs
abbrev pub CollectsOldest : ℕ → List (ℕ × ElementsFields) → List (ℕ × ElementsFields) → Gathering → Gathering → List Out → List Out → Type 0
CollectsOldest op waiting left old new outs outs' = (made : Option MapBytes) × PutsOldest op waiting left old new made × (outs' ≡ outs ++ told_map made)
