-- What stands under an operator, and the MAPs, of outputs of one step.
use Rattle.std.proofs.Common.{◌≡◌, ℕ, List, [], ◌∷◌, Option, Some, None, refl, sym, ap}
use Rattle.run_model.proofs.Common.{eq-eqb, ne_eqb, Output, MapBytes, answers_of, outputs_under, maps_in, told_map}

pub answers_here : (i k : ℕ) (outputs : List Output) → i ≡ k → answers_of i (outputs_under k outputs) ≡ outputs
answers_here i k [] e = refl
answers_here i k (x ∷ outputs) e = rw (eq-eqb k i (sym e)) (ap (λ (os : List Output). x ∷ os) (answers_here i k outputs e))

pub answers_else : (i k : ℕ) (outputs : List Output) → (i ≡ k → ⊥) → answers_of i (outputs_under k outputs) ≡ []
answers_else i k [] ne = refl
answers_else i k (x ∷ outputs) ne = rw (ne_eqb k i (λ e. ne (sym e))) (answers_else i k outputs ne)

pub no_maps : (k : ℕ) (outputs : List Output) → maps_in (outputs_under k outputs) ≡ []
no_maps k [] = refl
no_maps k (x ∷ outputs) = no_maps k outputs

pub no_answers : (i : ℕ) (made : Option MapBytes) → answers_of i (told_map made) ≡ []
no_answers i None = refl
no_answers i (Some made) = refl
