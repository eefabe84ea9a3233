-- What a book's offer says.
use Rattle.std.proofs.Common.{◌≡◌, ◌↔◌, false, Ok, Err, Option, Some, None, refl, sym}
use Rattle.plant_core.proofs.LiveLemmas.Common.{Unfit, is_unfit}
use Rattle.operator_model.specs.declared.action.Unfit.TheVariants.{NotPast, Unfinished, OffFrame, BudgetOverSlice, OverBudget}

no_unfit : (unfit : Unfit) → is_unfit unfit None ≡ false
no_unfit NotPast = refl
no_unfit Unfinished = refl
no_unfit OffFrame = refl
no_unfit BudgetOverSlice = refl
no_unfit OverBudget = refl

pub taken : {X : Type 0} (unfit : Unfit) (o : Option Unfit) (x : X) → ((u : Unfit) → (Ok x ≡ Err u) ↔ (o ≡ Some u)) → false ≡ is_unfit unfit o
taken unfit None x clause = sym (no_unfit unfit)
taken unfit (Some u) x clause = let apart : Ok x ≡ Err u = (clause u).1 refl in cc
