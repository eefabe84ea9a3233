use Rattle.std.proofs.Common.{◌≡◌, ◌∷◌, List, ℕ, Bool, true, false, Option, Some, subst}
use Rattle.line_service.proofs.Common.{WhereKnown, Takes, IsReadSoFar, ReadsOn}
use Rattle.line_service.proofs.FrontLemmas.{known_on, text_known, script_known}
use Rattle.line_service.proofs.front.read_to_bar.Goals as goal

module _ (a b d : Option (List ℕ)) (byte : Option ℕ) (old_text old_line new_text new_line : List ℕ) (x : ℕ) (is_bar t : Bool)
    (h : WhereKnown a b (λ input rest. IsReadSoFar input rest old_text old_line)) (took : Takes b d byte) (some : byte ≡ Some x)
    (on : (input rest : List ℕ) → IsReadSoFar input (x ∷ rest) old_text old_line → ReadsOn is_bar input rest new_text new_line) where
  goes_on : is_bar ≡ t → WhereKnown a d (λ input rest. ReadsOn t input rest new_text new_line)
  goes_on is =
      known_on a b d x (λ input rest. IsReadSoFar input rest old_text old_line) (λ input rest. ReadsOn t input rest new_text new_line)
      (λ input rest so_far. subst (λ (y : Bool). ReadsOn y input rest new_text new_line) is (on input rest so_far)) h (subst (λ (o : Option ℕ). Takes b d o) some took)

pub returns-then-branch-clause-text : goal.returns-then-branch-clause-text
returns-then-branch-clause-text g c =
    text_known _ _ _ (goes_on _ _ _ _ _ _ _ _ _ _ true c.loop.invariant c.in_ok-next_byte.ensures c.in-Some.is c.in_ok-take_byte-in-Some.ensures c.if-branch.true)

pub returns-then-branch-clause-script : goal.returns-then-branch-clause-script
returns-then-branch-clause-script g c =
    script_known _ _ _ (goes_on _ _ _ _ _ _ _ _ _ _ true c.loop.invariant c.in_ok-next_byte.ensures c.in-Some.is c.in_ok-take_byte-in-Some.ensures c.if-branch.true)

pub loop-preserved : goal.loop-preserved
loop-preserved g c = goes_on _ _ _ _ _ _ _ _ _ _ false c.loop.invariant c.in_ok-next_byte.ensures c.in-Some.is c.in_ok-take_byte-in-Some.ensures c.if-branch.false
