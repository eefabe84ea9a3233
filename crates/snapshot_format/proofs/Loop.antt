-- Records that a loop reads one after the other.
use Rattle.std.proofs.Common.{◌≡◌, ℕ, suc, ◌-◌, ◌+◌, ◌≤◌, ◌<◌, Bool, true, false, List, [], ◌∷◌, ◌++◌, Ok, Err, refl, sym, ◌∙◌, arith}
use Rattle.snapshot_format.proofs.Common.{Repeated, Fails, Taken, read_cause, stop_at, take_items}
use Rattle.snapshot_format.specs.declared.fault.ReadFault.{ReadFault}
use Rattle.snapshot_format.specs.declared.fault.ReadFault.TheVariants.{NoMemory, Stopped}

module _ {A : Type 0} (item_at : List ℕ → Taken A) (may_follow : List A → A → Bool) (count i : ℕ) (before : List A) (bytes : List ℕ) (total : Taken (List A)) where
  pub goes_on : (item : A) (after : List ℕ) → i < count → item_at bytes ≡ Ok (item, after) → may_follow before item ≡ true
      → take_items item_at may_follow (count - i) before bytes ≡ total → take_items item_at may_follow (count - (i + 1)) (before ++ item ∷ []) after ≡ total
  goes_on item after lt read follows so_far =
      let k : count - i ≡ suc (count - (i + 1)) = omega arith in
      let one : take_items item_at may_follow (count - i) before bytes ≡ take_items item_at may_follow (count - (i + 1)) (before ++ item ∷ []) after = rw (k, read, follows) refl in
      sym one ∙ so_far

  pub repeats : (item : A) (after : List ℕ) → i < count → item_at bytes ≡ Ok (item, after) → may_follow before item ≡ false
      → take_items item_at may_follow (count - i) before bytes ≡ total → total ≡ stop_at Repeated bytes
  repeats item after lt read follows so_far =
      let k : count - i ≡ suc (count - (i + 1)) = omega arith in
      let one : take_items item_at may_follow (count - i) before bytes ≡ stop_at Repeated bytes = rw (k, read, follows) refl in
      sym so_far ∙ one

  pub ends : (fault : ReadFault) → i < count → Fails (read_cause fault) (item_at bytes) → take_items item_at may_follow (count - i) before bytes ≡ total → Fails (read_cause fault) total
  ends NoMemory lt fails so_far = tt
  ends (Stopped stop) lt fails so_far =
      let k : count - i ≡ suc (count - (i + 1)) = omega arith in
      let one : take_items item_at may_follow (count - i) before bytes ≡ Err stop = rw (k, fails) refl in
      sym so_far ∙ one

  pub is_done : count ≤ i → take_items item_at may_follow (count - i) before bytes ≡ total → total ≡ Ok (before, bytes)
  is_done le so_far =
      let k : count - i ≡ 0 = omega arith in
      let one : take_items item_at may_follow (count - i) before bytes ≡ Ok (before, bytes) = rw k refl in
      sym so_far ∙ one
