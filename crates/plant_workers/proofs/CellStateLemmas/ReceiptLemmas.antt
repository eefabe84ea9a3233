-- The owner's receipts, one after the other.
use Rattle.std.proofs.Common.{◌≡◌, ℕ, zero, suc, ◌+◌, ◌<◌, List, [], ◌∷◌, ◌++◌, length, length-append, Some, ◌⊎◌, inl, inr, refl, sym, ap, ◌∙◌, subst, arith}
use Rattle.plant_workers.proofs.CellStateLemmas.Common.{slice_get, same_Some, slice_get_within, SliceRow, BookView, Told}
use Rattle.std.proofs.lemmas.Bool.{cases_eq}
use Rattle.operator_model.specs.declared.action.Action.TheVariants as actions
use Rattle.plant_workers.specs.cell_state.Receiving.{IsReceiptOf, IsOwnersReceipt, AreOwnersReceipts}

-- the receipts of the operators before this place are there
pub record ReceiptsSoFar (from : ℕ) (rows : List SliceRow) (books : List BookView) (told : List Told) (op : ℕ) : Type 0 where
  pub many : length told ≡ op
  pub each : (i : ℕ) (row : SliceRow) (book : BookView) → i < op → slice_get rows i ≡ Some row → slice_get books i ≡ Some book
      → (one : Told) × (slice_get told i ≡ Some one) × IsOwnersReceipt from i row book one

module _ {X : Type 0} where
  get_front : (xs ys : List X) (i : ℕ) → i < length xs → slice_get (xs ++ ys) i ≡ slice_get xs i
  get_front [] ys i lt = absurd (omega arith)
  get_front (x ∷ xs) ys zero lt = refl
  get_front (x ∷ xs) ys (suc i) lt = get_front xs ys i (omega arith)

  get_last : (xs : List X) (x : X) (i : ℕ) → i ≡ length xs → slice_get (xs ++ x ∷ []) i ≡ Some x
  get_last [] x zero is = refl
  get_last [] x (suc i) is = absurd (omega arith)
  get_last (y ∷ xs) x zero is = absurd (omega arith)
  get_last (y ∷ xs) x (suc i) is = get_last xs x i (omega arith)

module _ (from : ℕ) (rows : List SliceRow) (books : List BookView) where
  pub one_more_receipt : (told : List Told) (op : ℕ) (row : SliceRow) (book : BookView) (one : Told) → slice_get rows op ≡ Some row → slice_get books op ≡ Some book
      → IsOwnersReceipt from op row book one → ReceiptsSoFar from rows books told op → ReceiptsSoFar from rows books (told ++ one ∷ []) (op + 1)
  one_more_receipt told op row book one row_is book_is owners so_far = record {
    many = length-append told (one ∷ []) ∙ ap (λ n. n + 1) so_far.many;
    each = λ i r b lt e f. by i r b (cases_eq i op) lt e f;
  }
    where
      by : (i : ℕ) (r : SliceRow) (b : BookView) → (i ≡ op) ⊎ (i ≡ op → ⊥) → i < op + 1 → slice_get rows i ≡ Some r → slice_get books i ≡ Some b
          → (some : Told) × (slice_get (told ++ one ∷ []) i ≡ Some some) × IsOwnersReceipt from i r b some
      by i r b (inl same) lt e f =
          let r_is : row ≡ r = same_Some row r (sym row_is ∙ (ap (slice_get rows) (sym same) ∙ e)) in
          let b_is : book ≡ b = same_Some book b (sym book_is ∙ (ap (slice_get books) (sym same) ∙ f)) in (
            one,
            get_last told one i (same ∙ sym so_far.many),
            record {
              op_is = owners.op_is ∙ sym same;
              caller_is = owners.caller_is;
              receipt_is = subst (λ (v : BookView). IsReceiptOf v (actions.Reslice from r) one.receipt) b_is
                  (subst (λ (v : SliceRow). IsReceiptOf book (actions.Reslice from v) one.receipt) r_is owners.receipt_is);
            },
          )
      by i r b (inr other) lt e f =
          let found = so_far.each i r b (omega (arith, lt, other)) e f in
          (found.0, get_front told (one ∷ []) i (omega (arith, lt, other, so_far.many)) ∙ found.1, found.2)

  pub all_receipts : (told : List Told) (op : ℕ) → op ≡ length rows → ReceiptsSoFar from rows books told op → AreOwnersReceipts from rows books told
  all_receipts told op all so_far = record {
    one_each = so_far.many ∙ all;
    each = λ i row book e f. so_far.each i row book (omega (arith, all, slice_get_within rows i row e)) e f;
  }
