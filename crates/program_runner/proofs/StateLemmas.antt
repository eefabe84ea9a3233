-- A service with a journal that has ended well.
use Rattle.std.proofs.Common.{◌≡◌, ℕ, List, Option, Some, None, IfSome, subst}
use Rattle.line_service.specs.script.Input.{plant_text, script_text}
use Rattle.line_journal.specs.Journal.{JournalContent}
use Rattle.state_service.specs.Beginning.{IsStateService}

module _ (bytes : List ℕ) (content : Option JournalContent) (old new : Option (List ℕ)) where
  some_content : (read : Option (List ℕ)) → IfSome read (λ input. IsStateService bytes (plant_text input) (script_text input) content old new)
      → IfSome read (λ input. (later : Option JournalContent) × IsStateService bytes (plant_text input) (script_text input) later old new)
  some_content None served = tt
  some_content (Some input) served = (content, served)

  -- what is read of a reader in front of another one is read of that
  pub served_behind : (front read : Option (List ℕ)) → front ≡ read → IfSome front (λ input. IsStateService bytes (plant_text input) (script_text input) content old new)
      → IfSome read (λ input. (later : Option JournalContent) × IsStateService bytes (plant_text input) (script_text input) later old new)
  served_behind front read same served =
      some_content read (subst (λ (r : Option (List ℕ)). IfSome r (λ input. IsStateService bytes (plant_text input) (script_text input) content old new)) same served)
