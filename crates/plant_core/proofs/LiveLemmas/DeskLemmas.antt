-- An action outputs one frame at most.
use Rattle.std.proofs.Common.{◌≡◌, ℕ, Bool, true, false, List, [], ◌∷◌, length, Some, None, refl, sym, ap, ◌∙◌}
use Rattle.plant_core.proofs.LiveLemmas.Common.{slice_get, ◌==◌, IsSome, ElementsFields, collect_fault}

-- a frame waits where the queue is not empty
pub some_wait : {X : Type 0} (xs : List X) (n : ℕ) (empty : Bool) → n ≡ length xs → empty ≡ (n == 0) → empty ≡ false → IsSome (slice_get xs 0)
some_wait [] n empty long is some = absurd (let wrong : ◌≡◌ {A = Bool} true false = sym (is ∙ ap (λ (k : ℕ). k == 0) long) ∙ some in cc)
some_wait (x ∷ xs) n empty long is some = refl

-- so a frame can be collected
pub waits_at_all : (op : ℕ) (waiting : List (ℕ × ElementsFields)) → IsSome (slice_get waiting 0) → collect_fault op (Some waiting) ≡ None
waits_at_all op [] some = cc
waits_at_all op (frame ∷ waiting) some = refl
