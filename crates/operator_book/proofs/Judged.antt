-- A fault that is handed on.
use Rattle.std.proofs.Common.{◌≡◌, ◌↔◌, Result, Err, sym, ap, ◌∙◌}
use Rattle.operator_book.specs.declared.book.BookFault.{BookFault}

fault_same : {A : Type 0} (a b : BookFault) → ◌≡◌ {A = Result A BookFault} (Err a) (Err b) → a ≡ b
fault_same a b h = cc

-- it comes of the one exactly where it comes of the other
pub handed_on : {A B : Type 0} (said : Result A BookFault) (fault told : BookFault) (P : Type 0) → said ≡ Err fault → (said ≡ Err told) ↔ P → (◌≡◌ {A = Result B BookFault} (Err fault) (Err told)) ↔ P
handed_on {A} {B} said fault told P is clause = (
  λ same. clause.0 (is ∙ ap (λ (f : BookFault). let r : Result A BookFault = Err f in r) (fault_same {A = B} fault told same)),
  λ p. ap (λ (f : BookFault). let r : Result B BookFault = Err f in r) (fault_same {A = A} fault told (sym is ∙ clause.1 p)),
)
