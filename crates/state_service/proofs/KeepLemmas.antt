-- What a journal has at any moment.
use Rattle.std.proofs.Common.{◌≡◌, ◌≤◌, inl, inr, ⊎_elim, ℕ, ◌+◌, List, [], ◌++◌, length, Option, Vec, refl, sym, ap, subst, ◌∙◌, arith, length-append}
use Rattle.state_service.proofs.Common.{Global, length-map, texts, PlantFields, Snapshot, LeavesOnly, Only, Elapses, JournalContent, journal_content, with_lines, fresh, IsBeforeOrAfter, SaysState, StandsForState, IsBegunWith, HasLines, HasNoFewer, LosesNoLine}

-- more lines
pub lines_added : (least : ℕ) (content later : Option JournalContent) (lines : List (List ℕ)) → HasNoFewer least content → later ≡ with_lines lines content → HasNoFewer least later
lines_added least content later lines keeps is =
    let has = keeps.has in
    let stands = has.stands in
    record {
      count = keeps.count + length lines;
      has = record {
        before = has.before;
        plant = has.plant;
        saved = has.saved;
        lines = has.lines ++ lines;
        stands = record { snapshot = stands.snapshot; stands_for = is ∙ ap (λ (o : Option JournalContent). with_lines lines o) stands.stands_for; says = stands.says };
        count_is = omega (arith, has.count_is, length-append has.lines lines);
      };
      enough = omega (arith, keeps.enough);
    }

-- a state that takes the place of lines
pub state_put : (least count : ℕ) (plant : PlantFields) (saved : Snapshot) (snapshot : List (List ℕ)) (content : Option JournalContent) → least ≤ count → SaysState snapshot count plant saved
    → content ≡ fresh snapshot → HasNoFewer least content
state_put least count plant saved snapshot content le says is = record {
  count = count;
  has = record {
    before = count;
    plant = plant;
    saved = saved;
    lines = [];
    stands = record { snapshot = snapshot; stands_for = is; says = says };
    count_is = omega arith;
  };
  enough = le;
}

-- the one or the other
pub before_or_after : (P : Option JournalContent → Type 0) (before later : Option JournalContent) → P before → P later → (c : List ℕ) → IsBeforeOrAfter before later c → P (journal_content c)
before_or_after P before later one other c is = ⊎_elim (λ same. subst P (sym same) one) (λ same. subst P (sym same) other) is

-- the lines of a journal with those before its state
pub stands_has : (content : Option JournalContent) (count : ℕ) (plant : PlantFields) (saved : Snapshot) (lines : List (Vec ℕ Global)) → StandsForState content count plant saved (texts lines)
    → HasLines content (count + length lines)
stands_has content count plant saved lines stands = record {
  before = count;
  plant = plant;
  saved = saved;
  lines = texts lines;
  stands = stands;
  count_is = omega (arith, length-map lines (λ (v : Vec ℕ Global). v.items));
}

-- ---- moments

module _ {D : Type 0} (moment : D → ℕ) (left_since : D → ℕ → List ℕ → Type 0) where
  -- what a crash leaves has the one, and so the other
  pub weaker : (old new : D) (P Q : List ℕ → Type 0) → LeavesOnly moment left_since old new P → ((c : List ℕ) → P c → Q c) → LeavesOnly moment left_since old new Q
  weaker old new P Q only to = record {
    later = only.later;
    each = λ c left. to c (only.each c left);
    before = λ t c le left. ⊎_elim (λ was. inl was) (λ now. inr (to c now)) (only.before t c le left);
  }

  -- no call
  pub at_rest : (device : D) (P : List ℕ → Type 0) → ((c : List ℕ) → left_since device (moment device) c → P c) → LeavesOnly moment left_since device device P
  at_rest device P here = record {
    later = omega arith;
    each = here;
    before = λ t c le left. inl left;
  }

  -- no call on a file that is on the disk
  pub unchanged : (device : D) (seen : D → List ℕ) (may_leave : D → List ℕ → Type 0) (P : Option JournalContent → Type 0) → ((c : List ℕ) → left_since device (moment device) c → may_leave device c)
      → Only (seen device) (may_leave device) → P (journal_content (seen device)) → LeavesOnly moment left_since device device (λ c. P (journal_content c))
  unchanged device seen may_leave P now only has = at_rest device (λ c. P (journal_content c)) (λ c left. subst (λ (d : List ℕ). P (journal_content d)) (sym (only c (now c left))) has)

  -- a call that adds no outcome
  pub none_added : (may_leave : D → List ℕ → Type 0) (old new : D) (P : List ℕ → Type 0) → ((c : List ℕ) → left_since old (moment old) c → may_leave old c) → ((c : List ℕ) → may_leave old c → P c)
      → Elapses (moment old) (moment new) (left_since old) (left_since new) (may_leave new) → ((c : List ℕ) → may_leave new c → may_leave old c) → LeavesOnly moment left_since old new P
  none_added may_leave old new P now here time same = record {
    later = time.later;
    each = λ c left. ⊎_elim (λ past. here c (now c past)) (λ is. here c (same c is)) (time.nothing_else (moment old) c (omega arith) left);
    before = λ t c le left. ⊎_elim (λ past. inl past) (λ is. inr (here c (same c is))) (time.nothing_else t c le left);
  }

  -- lines that are put in a journal, or a state in their place
  pub put_moments : (old new : D) (P : Option JournalContent → Type 0) (before later : Option JournalContent) → P before → P later → LeavesOnly moment left_since old new (IsBeforeOrAfter before later)
      → LeavesOnly moment left_since old new (λ c. P (journal_content c))
  put_moments old new P before later one other only = weaker old new (IsBeforeOrAfter before later) (λ c. P (journal_content c)) only (before_or_after P before later one other)

  -- one call, and then more
  pub joined : (old mid new : D) (P : List ℕ → Type 0) → LeavesOnly moment left_since old mid P → LeavesOnly moment left_since mid new P → LeavesOnly moment left_since old new P
  joined old mid new P so_far more = record {
    later = omega (arith, so_far.later, more.later);
    each = λ c left. ⊎_elim (so_far.each c) (λ p. p) (more.before (moment old) c so_far.later left);
    before = λ t c le left. ⊎_elim (so_far.before t c le) (λ p. inr p) (more.before t c (omega (arith, le, so_far.later)) left);
  }

-- a journal is begun
pub begun_loses_none : (bytes file : List ℕ) (content : Option JournalContent) → bytes ≡ [] → IsBegunWith file content → LosesNoLine (journal_content bytes) content
begun_loses_none bytes file content none begun = record {
  least = 0;
  had = inr (ap (λ (b : List ℕ). journal_content b) none, refl);
  has = record {
    count = 0;
    has = record { before = 0; plant = begun.plant; saved = begun.saved; lines = []; stands = begun.stands; count_is = refl };
    enough = omega arith;
  };
}
