-- The changes of a journal, one after the other.
use Rattle.std.proofs.Common.{◌≡◌, inr, ⊎_elim, ℕ, ◌+◌, ◌<◌, List, [], ◌∷◌, ◌++◌, length, take, refl, sym, ◌∙◌, ap, arith}
use Rattle.line_journal.proofs.Common.{Option, slice_index_or, take_more, LeavesOnly, JournalContent, IsBeforeOrAfter, JournalChange, content_after, after_all, IsAfterSome}

after_push : (changes : List JournalChange) (change : JournalChange) (stored : Option JournalContent) → after_all (changes ++ change ∷ []) stored ≡ content_after change (after_all changes stored)
after_push [] change stored = refl
after_push (first ∷ changes) change stored = after_push changes change (content_after first stored)

-- one change more
pub one_more : (changes : List JournalChange) (i : ℕ) (change : JournalChange) (stored : Option JournalContent) → i < length changes → slice_index_or changes i change ≡ change
    → after_all (take (i + 1) changes) stored ≡ content_after change (after_all (take i changes) stored)
one_more changes i change stored inside is =
    ap (λ (cs : List JournalChange). after_all cs stored) (take_more changes i change inside ∙ ap (λ (x : JournalChange). take i changes ++ x ∷ []) is)
    ∙ after_push (take i changes) change stored

-- a crash in one change leaves what the changes before it made, or it too
pub some_made : (changes : List JournalChange) (i : ℕ) (change : JournalChange) (first now : Option JournalContent) → i < length changes → slice_index_or changes i change ≡ change
    → now ≡ after_all (take i changes) first → (c : List ℕ) → IsBeforeOrAfter now (content_after change now) c → IsAfterSome changes first c
some_made changes i change first now inside is made c left = ⊎_elim (λ before. record { made = i; no_more = omega (arith, inside); stands_for = before ∙ made })
    (λ later. record {
      made = i + 1;
      no_more = omega (arith, inside);
      stands_for = later ∙ ap (λ (o : Option JournalContent). content_after change o) made ∙ sym (one_more changes i change first inside is);
    })
    left

pub joined : {D : Type 0} (moment : D → ℕ) (left_since : D → ℕ → List ℕ → Type 0) (old mid new : D) (P Q : List ℕ → Type 0)
    → LeavesOnly moment left_since old mid P → LeavesOnly moment left_since mid new Q → ((c : List ℕ) → Q c → P c) → LeavesOnly moment left_since old new P
joined moment left_since old mid new P Q so_far more to = record {
  later = omega (arith, so_far.later, more.later);
  each = λ c left. ⊎_elim (so_far.each c) (to c) (more.before (moment old) c so_far.later left);
  before = λ t c le left. ⊎_elim (so_far.before t c le) (λ q. inr (to c q)) (more.before t c (omega (arith, le, so_far.later)) left);
}
