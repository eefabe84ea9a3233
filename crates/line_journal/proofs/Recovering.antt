-- What a crash leaves so far, from one device call of `recover` to the next.
use Rattle.std.proofs.Common.{◌≡◌, ℕ, List, [], ◌∷◌, ◌++◌, length, take, sym, ◌∙◌, ap, subst, arith, length-append}
use Rattle.line_journal.proofs.Common.{Option, Some, IfSome, IsOverwritten, Torn, Cut, Follows, Only, Elapses, records, JournalContent, snapshot_lines, journal_text, journal_content, IsJournalSettled, texts, found_of}
use Rattle.line_journal.specs.declared.recovery.Recovered.{Recovered}
use Rattle.line_journal.proofs.Moments.{SoFar, at_start, step}
use Rattle.line_journal.proofs.Repair.{cut_crash, is_cut, gate_crash, is_shut}
use Rattle.line_journal.proofs.StoredLaws.{parts_of, lines_of, front, front_and_gate, of_text}
use Rattle.line_journal.proofs.Stages.{settled_as}

-- what was found, without where it lies
abbrev pub stored_of : Recovered → JournalContent
stored_of found = record { snapshot = texts found.snapshot.items; lines = texts found.lines.items }

pub is_found : (file : List ℕ) (option : Option Recovered) (found : Recovered) → option ≡ Some found → found_of option ≡ journal_content file → journal_content file ≡ Some (stored_of found)
is_found file option found is found_is = sym found_is ∙ ap found_of is

pub gate_is : (option : Option Recovered) (found : Recovered) → option ≡ Some found → IfSome option (λ f. f.gate ≡ length (snapshot_lines (texts f.snapshot.items) ++ records 43 (texts f.lines.items))) → found.gate ≡ length (front (stored_of found))
gate_is option found is gate = subst (λ (o : Option Recovered). IfSome o (λ f. f.gate ≡ length (snapshot_lines (texts f.snapshot.items) ++ records 43 (texts f.lines.items)))) is gate

module _ {D : Type 0} (seen : D → List ℕ) (may_leave : D → List ℕ → Type 0) (moment : D → ℕ) (left_since : D → ℕ → List ℕ → Type 0)
    (old : D) (only : Only (seen old) (may_leave old)) where
  abbrev pub Same : List ℕ → Type 0
  Same c = journal_content c ≡ journal_content (seen old)

  pub begun : ((c : List ℕ) → left_since old (moment old) c → may_leave old c) → SoFar moment left_since may_leave old old Same
  begun only_now = at_start moment left_since may_leave old Same only_now (λ c now. ap journal_content (only c now))

  module _ (stored : JournalContent) (is : journal_content (seen old) ≡ Some stored) (gate : ℕ) (size : gate ≡ length (front stored)) where
    pub was_cut : (mid d : D) → SoFar moment left_since may_leave old mid Same → ((c : List ℕ) → may_leave mid c → may_leave old c) → Follows (Cut gate) (may_leave mid) (may_leave d)
        → Elapses (moment mid) (moment d) (left_since mid) (left_since d) (may_leave d) → SoFar moment left_since may_leave old d Same
    was_cut mid d so_far same follows time =
        step moment left_since may_leave old Same mid d so_far time (λ c now.
        cut_crash (seen old) stored is gate size (may_leave mid) (may_leave d) (λ f left. only f (same f left)) follows c now ∙ sym is)

    pub front_left : (d : D) (file : List ℕ) → file ≡ seen old → seen d ≡ take gate file → seen d ≡ front stored
    front_left d file same cut = cut ∙ ap (λ (f : List ℕ). take gate f) same ∙ is_cut (seen old) stored is gate size

    pub was_shut : (file : List ℕ) (mid d : D) → SoFar moment left_since may_leave old mid Same → file ≡ front stored → Only file (may_leave mid) → Follows (Torn gate 1) (may_leave mid) (may_leave d)
        → Elapses (moment mid) (moment d) (left_since mid) (left_since d) (may_leave d) → SoFar moment left_since may_leave old d Same
    was_shut file mid d so_far at durable follows time =
        step moment left_since may_leave old Same mid d so_far time (λ c now.
        gate_crash (seen old) stored is gate size file (may_leave mid) (may_leave d) at durable follows c now ∙ sym is)

    pub text_is : (file c : List ℕ) → file ≡ front stored → IsOverwritten file gate (45 ∷ []) c → c ≡ journal_text stored
    text_is file c at holds = is_shut (seen old) stored is gate size file c at holds

    pub same_again : (c : List ℕ) → c ≡ journal_text stored → journal_content c ≡ journal_content (seen old)
    same_again c at = ap journal_content at ∙ of_text stored (parts_of (seen old) stored is).each (lines_of (seen old) stored is) ∙ sym is

    pub settled_again : (d : D) → seen d ≡ journal_text stored → Only (seen d) (may_leave d) → IsJournalSettled seen may_leave d gate
    settled_again d at durable =
        settled_as seen may_leave d gate stored (parts_of (seen old) stored is).each (lines_of (seen old) stored is) at
        (omega (arith, size, ap length (front_and_gate stored), length-append (front stored) (45 ∷ []))) durable
