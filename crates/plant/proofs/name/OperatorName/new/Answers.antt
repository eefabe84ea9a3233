use Rattle.std.proofs.Common.{ℕ, rules, length-append, ◌≡◌, ◌-◌, ◌≤◌, true, List, ◌++◌, length, take, drop, arith, ap, ◌∙◌}
use Rattle.plant.proofs.Common.{replicate, list_all, take_at, drop-replicate, length-replicate}
use Rattle.std.specs.Char.{is_ascii_alphanumeric}
use Rattle.lists.specs.Padding.{IsPaddedName}
use Rattle.plant.specs.Name.{IsOperatorName}
use Rattle.plant.proofs.name.OperatorName.new.Goals as goal

padded_name : (name copied : List ℕ) → copied ≡ name → 1 ≤ length name → length name ≤ 16 → list_all is_ascii_alphanumeric name ≡ true
    → IsPaddedName IsOperatorName 16 (copied ++ drop (length name) (replicate 16 0)) (length name)
padded_name name copied same some few letters =
    let front : take (length name) (copied ++ drop (length name) (replicate 16 0)) ≡ name = take_at copied (drop (length name) (replicate 16 0)) (length name) (ap length same) ∙ same in
    record {
      valid = rw front (record { some = some; few = few; letters = letters });
      fits = few;
      whole = omega (arith, ap length same, length-append copied (drop (length name) (replicate 16 0)), ap (length {A = ℕ}) (drop-replicate {X = ℕ} (length name) 16 0), length-replicate {A = ℕ} (16 - length name) 0);
      padded = rw front (ap (λ (x : List ℕ). x ++ drop (length name) (replicate 16 0)) same ∙ ap (λ (x : List ℕ). name ++ x) (drop-replicate (length name) 16 0));
    }

pub invariant_of-result : goal.invariant_of-result
invariant_of-result c = padded_name c.args.name.now c.copy_from_slice.new.self (search rules) (search rules) (search rules) (search rules)
