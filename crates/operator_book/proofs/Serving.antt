-- One schedule of what is the same.
use Rattle.std.proofs.Common.{◌≡◌, List, ap, ◌∙◌}
use Rattle.grant_policy.specs.declared.policy.Policy.{Policy}
use Rattle.slice_scheduler.specs.declared.flowing.AtFields.{AtFields}
use Rattle.slice_scheduler.specs.declared.flowing.Flowing.{Flowing}
use Rattle.slice_scheduler.specs.Schedule.{elements_of, granted_of}

of_same : {X : Type 0} (f : Policy → AtFields → List Flowing → X) (p q : Policy) (a b : AtFields) (xs ys : List Flowing) → p ≡ q → a ≡ b → xs ≡ ys → f p a xs ≡ f q b ys
of_same f p q a b xs ys same_policy same_at same_flows =
    ap (λ (r : Policy). f r a xs) same_policy ∙ ap (λ (at : AtFields). f q at xs) same_at ∙ ap (λ (flows : List Flowing). f q b flows) same_flows

pub same_elements : (p q : Policy) (a b : AtFields) (xs ys : List Flowing) → p ≡ q → a ≡ b → xs ≡ ys → elements_of p a xs ≡ elements_of q b ys
same_elements p q a b xs ys same_policy same_at same_flows = of_same elements_of p q a b xs ys same_policy same_at same_flows

pub same_grants : (p q : Policy) (a b : AtFields) (xs ys : List Flowing) → p ≡ q → a ≡ b → xs ≡ ys → granted_of p a xs ≡ granted_of q b ys
same_grants p q a b xs ys same_policy same_at same_flows = of_same granted_of p q a b xs ys same_policy same_at same_flows
