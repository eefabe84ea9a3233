-- What is saved of a core at rest keeps what a snapshot keeps that is read again.
use Rattle.std.proofs.Common.{◌≡◌, ◌≢◌, ℕ, ◌+◌, ◌-◌, ◌<◌, ◌≤◌, ◌^◌, ◌==◌, Bool, true, false, not, cond, List, [], ◌∷◌, ◌++◌, length, map, Option, Some, None, IfSome, count_by, refl, sym, ap, subst, ◌∙◌, arith, append_assoc, length-append}
use Rattle.restart_laws.proofs.Common.{slice_get, AllByRecursion, list_any, Ordering, Less, nat_cmp, MatchOrdering, keys_of, bytes_eq, and_from, eq-eqb, lt-ltb, length-map, All-from_recursion, bytes_eq-Decides, recursion-append, IsChannel, IsOperatorName, IsRowOf, ConstsFields, KeptEntry, is_of, OneEach, Flow, Share, NextShare, operator, BookView, IsShare, IsNextShare, IsSound, PairsByRecursion, SavedFlow, SavedOperator, Snapshot, saved_flow, IsSavedShare, IsSavedNext, IsSavedOperator, IsSnapshot, saved_book, FitsTypes}
use Rattle.std.specs.List.Sorted.{IsStrictlySortedBy}
use Rattle.std.proofs.lemmas.Cmp.{ranked}
use Rattle.std.proofs.lemmas.List.Folds.{list_any_none}
use Rattle.std.proofs.lemmas.List.Sums.{sum_by-cons, sum_by-append, count_by-le-length}
use Rattle.snapshot_format.specs.Reading.{AllFollow}
use Rattle.snapshot_format.specs.Records.{can_follow, flow_follows, entry_follows, operator_follows}
use Rattle.snapshot_format.specs.Checksum.{line_count}
use Rattle.snapshot_format.specs.Text.{body_text, closing_line, text_of_snapshot}
use Rattle.restart_laws.proofs.BarLemmas.{bar}
use Rattle.restart_laws.proofs.TextLemmas.{version_line, state_lines, text_parts}

-- ---- each is of its own

none_of : {A : Type 0} (p : A → Bool) (xs : List A) → AllByRecursion (λ x. p x ≡ false) xs → not (list_any p xs) ≡ true
none_of p xs none = ap not (list_any_none p xs (All-from_recursion (λ x. p x ≡ false) xs none))

-- operators by their names
other_name : (a b : List ℕ) → a ≢ b → bytes_eq a b ≡ false
other_name a b ne = by (bytes_eq a b) refl
  where
    by : (t : Bool) → bytes_eq a b ≡ t → t ≡ false
    by true e = absurd (ne ((bytes_eq-Decides a b).0 e))
    by false e = refl

abbrev HasOtherName : BookView → SavedOperator → Type 0
HasOtherName book saved = saved.name ≢ book.row.name

other_names : (book : BookView) (before : List SavedOperator) → AllByRecursion (HasOtherName book) before → AllByRecursion (λ (saved : SavedOperator). bytes_eq saved.name book.row.name ≡ false) before
other_names book [] h = tt
other_names book (saved ∷ before) h = (other_name saved.name book.row.name h.0, other_names book before h.1)

one_named : (before : List SavedOperator) (first : BookView) (books : List BookView) → AllByRecursion (λ (book : BookView). AllByRecursion (HasOtherName book) before) books
    → AllByRecursion (λ (book : BookView). first.row.name ≢ book.row.name) books → AllByRecursion (λ (book : BookView). AllByRecursion (HasOtherName book) (before ++ saved_book first ∷ [])) books
one_named before first [] h others = tt
one_named before first (book ∷ books) h others =
    (recursion-append (HasOtherName book) before (saved_book first ∷ []) h.0 (others.0, tt), one_named before first books h.1 others.1)

names_follow : (before : List SavedOperator) (books : List BookView) → AllByRecursion (λ (book : BookView). AllByRecursion (HasOtherName book) before) books
    → PairsByRecursion (λ (a b : BookView). a.row.name ≢ b.row.name) books → AllFollow operator_follows before (map saved_book books)
names_follow before [] h own = tt
names_follow before (book ∷ books) h own =
    (none_of (λ (other : SavedOperator). bytes_eq other.name book.row.name) before (other_names book before h.0), names_follow (before ++ saved_book book ∷ []) books (one_named before book books h.1 own.0) own.1)

none_before : (books : List BookView) → AllByRecursion (λ (book : BookView). AllByRecursion (HasOtherName book) []) books
none_before [] = tt
none_before (book ∷ books) = (tt, none_before books)

pub own_names_follow : (books : List BookView) → PairsByRecursion (λ (a b : BookView). a.row.name ≢ b.row.name) books → AllFollow operator_follows [] (map saved_book books)
own_names_follow books own = names_follow [] books (none_before books) own

-- responses by their transactions
counts_none : {A : Type 0} (p : A → Bool) (xs : List A) → count_by p xs ≡ 0 → AllByRecursion (λ x. p x ≡ false) xs
counts_none p [] e = tt
counts_none {A} p (x ∷ xs) e = by (p x) refl (sym (sum_by-cons (λ y. cond (p y) 1 0) x xs) ∙ e) (counts_none p xs)
  where
    by : (b : Bool) → p x ≡ b → cond {A = ℕ} (p x) 1 0 + count_by p xs ≡ 0 → (count_by p xs ≡ 0 → AllByRecursion (λ y. p y ≡ false) xs) → AllByRecursion (λ y. p y ≡ false) (x ∷ xs)
    by true is e rest = absurd (let one : cond {A = ℕ} (p x) 1 0 ≡ 1 = ap (λ (t : Bool). cond {A = ℕ} t 1 0) is in omega (arith, one, e))
    by false is e rest = (is, rest (omega (arith, e)))

pub responses_follow : (before entries : List KeptEntry) → OneEach (before ++ entries) → AllFollow entry_follows before entries
responses_follow before [] one = tt
responses_follow before (e ∷ es) one = (
  none_of test before (counts_none test before none),
  responses_follow (before ++ e ∷ []) es (subst OneEach (sym (append_assoc before (e ∷ []) es)) one),
)
  where
    test : KeptEntry → Bool
    test = is_of e.modem e.tid

    none : count_by (is_of e.modem e.tid) before ≡ 0
    none =
        let self : is_of e.modem e.tid e ≡ true = and_from _ _ ((bytes_eq-Decides e.modem.0 e.modem.0).1 refl) (eq-eqb e.tid e.tid refl) in
        let here : cond {A = ℕ} (is_of e.modem e.tid e) 1 0 ≡ 1 = ap (λ (b : Bool). cond {A = ℕ} b 1 0) self in
        let all = sum_by-append (λ x. cond {A = ℕ} (is_of e.modem e.tid x) 1 0) before (e ∷ es) in
        let first = sum_by-cons (λ x. cond {A = ℕ} (is_of e.modem e.tid x) 1 0) e es in
        let most : count_by (is_of e.modem e.tid) (before ++ e ∷ es) ≤ 1 = one e.modem e.tid in
        omega (arith, here, all, first, most)

-- flows by their SFIDs
less_is : (k n : ℕ) → nat_cmp k n ≡ Less → k < n
less_is k n e = subst (λ (o : Ordering). MatchOrdering o (k < n) (k ≡ n) (n < k)) e (ranked k n (nat_cmp k n) refl)

last_there : (before : List SavedFlow) (last : SavedFlow) → slice_get (before ++ last ∷ []) (length (before ++ last ∷ []) - 1) ≡ Some last
last_there before last =
    let long = length-append before (last ∷ []) in
    let at : length (before ++ last ∷ []) - 1 ≡ length before = omega (arith, long) in
    ap (slice_get (before ++ last ∷ [])) at ∙ there before
  where
    there : (xs : List SavedFlow) → slice_get (xs ++ last ∷ []) (length xs) ≡ Some last
    there [] = refl
    there (x ∷ xs) = there xs

flows_after : (before : List SavedFlow) (last : SavedFlow) (flows : List (ℕ × Flow)) → IsStrictlySortedBy nat_cmp (last.sfid ∷ keys_of flows) → AllFollow flow_follows (before ++ last ∷ []) (map saved_flow flows)
unfolding IsStrictlySortedBy
flows_after before last [] sorted = tt
flows_after before last (e ∷ es) sorted = (
  ap (λ (o : Option SavedFlow). can_follow o e.0) (last_there before last) ∙ lt-ltb last.sfid e.0 (less_is last.sfid e.0 sorted.0.0),
  flows_after (before ++ last ∷ []) (saved_flow e) es sorted.1,
)

pub flows_follow : (flows : List (ℕ × Flow)) → IsStrictlySortedBy nat_cmp (keys_of flows) → AllFollow flow_follows [] (map saved_flow flows)
flows_follow [] sorted = tt
flows_follow (e ∷ es) sorted = (refl, flows_after [] (saved_flow e) es sorted)

-- ---- an operator

share_saved : (consts : ConstsFields) (share : Share) → IsChannel consts.channel → IsShare consts share → IsSavedShare share
share_saved consts share channel is =
    let most = channel.frame in
    let within = is.within_frame in
    let some = is.some in
    let budget = is.budget in
    record { slice = record { some = is.some; in_range = omega (arith, most, within) }; budget = omega (arith, most, within, some, budget) }

next_saved : (consts : ConstsFields) (frame committed : ℕ) (next : Option NextShare) → IsChannel consts.channel → IfSome next (IsNextShare consts frame committed) → IfSome next (λ (n : NextShare). n.from < 2 ^ 32) → IfSome next IsSavedNext
next_saved consts frame committed None channel is small = tt
next_saved consts frame committed (Some next) channel is small = record { from = small; share = share_saved consts next.share channel is.share }

pub operator_saved : (consts : ConstsFields) (book : BookView) → IsChannel consts.channel → IsRowOf consts book.row → IsOperatorName book.row.name → IsSound (operator consts book.row book.state) → FitsTypes book.state → IsSavedOperator (saved_book book)
operator_saved consts book channel row name sound fits =
    record {
      name = name;
      share = share_saved consts book.state.share channel sound.share;
      next = next_saved consts book.state.frame _ book.state.next channel sound.next fits.next;
      few_flows = omega (arith, length-map book.state.flows saved_flow, sound.few_flows, row.keys.flows.high);
      few_kept = omega (arith, sound.few_kept, row.keys.transactions.high);
      few_heard = omega (arith, sound.few_heard, row.keys.inbox.high);
      flows = fits.flows;
      ascending = flows_follow book.state.flows sound.ascending;
      kept = fits.responses;
      one_each = responses_follow [] book.state.kept fits.one_each;
      inbox = fits.messages;
    }

-- ---- the whole

plant_within : (saved : Snapshot) → length saved.plant ≤ length (text_of_snapshot saved)
plant_within saved =
    let a = length-append (version_line saved ++ saved.plant) (bar (state_lines saved)) in
    omega (arith, ap length (text_parts saved), a, length-append (version_line saved) saved.plant)

lines_within : (saved : Snapshot) → line_count (body_text saved) ≤ length (text_of_snapshot saved)
lines_within saved =
    let a = count_by-le-length (λ (b : ℕ). b == 10) (body_text saved) in
    omega (arith, a, length-append (body_text saved) (closing_line (body_text saved)))

pub snapshot_saved : (saved : Snapshot) → length (text_of_snapshot saved) < 2 ^ 32 → saved.frame < 2 ^ 32 → length saved.operators ≤ 32 → AllByRecursion IsSavedOperator saved.operators → AllFollow operator_follows [] saved.operators → IsSnapshot saved
snapshot_saved saved short frame few operators own = record {
  plant = let le = plant_within saved in omega (arith, le, short);
  frame = frame;
  few = omega (arith, few);
  operators = operators;
  own_names = own;
  lines = let le = lines_within saved in omega (arith, le, short);
}
