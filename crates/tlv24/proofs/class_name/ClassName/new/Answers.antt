use Rattle.std.proofs.Common.{ℕ, rules, length-append, ◌≡◌, ◌-◌, ◌≤◌, ◌==◌, true, not, List, ◌++◌, length, take, drop, arith, ap, ◌∙◌}
use Rattle.tlv24.proofs.Common.{replicate, list_all, take_at, drop-replicate, length-replicate, IsClassName}
use Rattle.lists.specs.Padding.{IsPaddedName}
use Rattle.tlv24.proofs.class_name.ClassName.new.Goals as goal

padded_name : (name copied : List ℕ) → copied ≡ name → 1 ≤ length name → length name ≤ 15 → list_all (λ b. not (b == 0)) name ≡ true
    → IsPaddedName IsClassName 15 (copied ++ drop (length name) (replicate 15 0)) (length name)
padded_name name copied same some few no_zero =
    let front : take (length name) (copied ++ drop (length name) (replicate 15 0)) ≡ name = take_at copied (drop (length name) (replicate 15 0)) (length name) (ap length same) ∙ same in
    record {
      valid = rw front (record { some = some; few = few; no_zero = no_zero });
      fits = few;
      whole = omega (arith, ap length same, length-append copied (drop (length name) (replicate 15 0)), ap (length {A = ℕ}) (drop-replicate {X = ℕ} (length name) 15 0), length-replicate {A = ℕ} (15 - length name) 0);
      padded = rw front (ap (λ (x : List ℕ). x ++ drop (length name) (replicate 15 0)) same ∙ ap (λ (x : List ℕ). name ++ x) (drop-replicate (length name) 15 0));
    }

pub invariant_of-result : goal.invariant_of-result
invariant_of-result c = padded_name c.args.name.now c.copy_from_slice.new.self (search rules) (search rules) (search rules) (search rules)
