-- Operator by operator, and what settles all.
use Rattle.std.proofs.Common.{◌≡◌, ℕ, ◌+◌, ◌<◌, ◌≤◌, List, ◌∷◌, ◌++◌, length, All, ◌⊎◌, inl, inr, Option, Some, None, sym, ap, ◌∙◌, subst, arith}
use Rattle.plant_workers.proofs.ReceiptsLemmas.Common.{slice_get, MatchOption, Result, Err, IsErrAnd, ◌↔◌, cases_eq, cases_lt, same_Some, slice_get_within, Entry, BookView, MapBytes, Receipt, times, IsMergeOf, IsLeastOr, Strays, AllStand, HasOwnParts, IsSettled, StraysAt, IsShort, EachStands, NoneStrays, NoneIsShort, IsFirstStrayed, IsFirstShort, IsFirstMapStrayed, IsFirstFault}
use Rattle.plant_workers.specs.declared.receipts.run_fault.RunFault.{RunFault}
use Rattle.plant_workers.specs.declared.receipts.run_fault.RunFault.TheVariants.{Strayed, Short, Core, NoMemory, MapStrayed, ResliceRefused}
use Rattle.plant_workers.proofs.ReceiptsLemmas.Lists.{each_or_some, middle, before_end}
use Rattle.plant_workers.proofs.ReceiptsLemmas.StrayLemmas.{none_strays, callers_stand, callers_ascend, stand_callers}

abbrev pub Callers : Type 0
Callers = List (List Receipt)

module _ (books : List BookView) (receipts : List Callers) where
  -- ---- receipts that stray

  strays_here : (op : ℕ) (book : BookView) (callers : Callers) → slice_get books op ≡ Some book → slice_get receipts op ≡ Some callers
      → (k : ℕ) → StraysAt books receipts op k → Strays book.history callers k
  strays_here op book callers at_book at_callers k s =
      subst (λ (b : BookView). Strays b.history callers k) (same_Some s.book book (sym s.book_is ∙ at_book))
      (subst (λ (cs : Callers). Strays s.book.history cs k) (same_Some s.callers callers (sym s.callers_are ∙ at_callers)) s.strays)

  abbrev pub StandBelow : ℕ → Type 0
  StandBelow n = (i : ℕ) (book : BookView) (callers : Callers) → i < n → slice_get books i ≡ Some book → slice_get receipts i ≡ Some callers → AllStand book.history callers

  pub first_strayed_is : (op index : ℕ) (book : BookView) (callers : Callers) (history : List Entry) (lists : Callers)
      → slice_get books op ≡ Some book → slice_get receipts op ≡ Some callers → history ≡ book.history → lists ≡ callers → StandBelow op
      → Strays history lists index × ((n : ℕ) → n < index → ¬ Strays history lists n) → IsFirstStrayed books receipts op index
  first_strayed_is op index book callers history lists at_book at_callers same_history same_lists below least =
      let told : Strays book.history callers index × ((n : ℕ) → n < index → ¬ Strays book.history callers n) =
      subst (λ (h : List Entry). Strays h callers index × ((n : ℕ) → n < index → ¬ Strays h callers n)) same_history
      (subst (λ (cs : Callers). Strays history cs index × ((n : ℕ) → n < index → ¬ Strays history cs n)) same_lists least) in
      record {
        strays = record { book = book; callers = callers; book_is = at_book; callers_are = at_callers; strays = told.0 };
        least_index = λ k lt s. told.1 k lt (strays_here op book callers at_book at_callers k s);
        least_operator = λ i k lt s. none_strays s.book.history s.callers (below i s.book s.callers lt s.book_is s.callers_are) k s.strays;
      }

  pub stand_below_more : (op : ℕ) (book : BookView) (callers : Callers) (history : List Entry) (lists : Callers) (o : Option ℕ)
      → slice_get books op ≡ Some book → slice_get receipts op ≡ Some callers → history ≡ book.history → lists ≡ callers → StandBelow op
      → o ≡ None → IsLeastOr (Strays history lists) (AllStand history lists) o → StandBelow (op + 1)
  stand_below_more op book callers history lists o at_book at_callers same_history same_lists below none least i b cs lt is_b is_cs = by (cases_eq i op)
    where
      by : (i ≡ op) ⊎ (i ≡ op → ⊥) → AllStand b.history cs
      by (inr ne) = below i b cs (omega (arith, lt, ne)) is_b is_cs
      by (inl e) =
          let same_b : book ≡ b = same_Some book b (sym at_book ∙ (ap (slice_get books) (sym e) ∙ is_b)) in
          let same_cs : callers ≡ cs = same_Some callers cs (sym at_callers ∙ (ap (slice_get receipts) (sym e) ∙ is_cs)) in
          let well : AllStand history lists × ((n : ℕ) → ¬ Strays history lists n) = subst (IsLeastOr (Strays history lists) (AllStand history lists)) none least in
          subst (λ (h : List Entry). AllStand h cs) (same_history ∙ ap (λ (x : BookView). x.history) same_b)
          (subst (AllStand history) (same_lists ∙ same_cs) well.0)

  pub each_stands : (n : ℕ) → length receipts ≤ n → StandBelow n → EachStands books receipts
  each_stands n past below = λ op book callers at_book at_callers.
      let lt : op < length receipts = slice_get_within receipts op callers at_callers in
      below op book callers (omega (arith, lt, past)) at_book at_callers

  pub none_strays_at : EachStands books receipts → NoneStrays books receipts
  none_strays_at each = λ op index s. none_strays s.book.history s.callers (each op s.book s.callers s.book_is s.callers_are) index s.strays

  -- the first that strays is one
  pub first_strayed_same : (op index other k : ℕ) → IsFirstStrayed books receipts op index → IsFirstStrayed books receipts other k → (op ≡ other) × (index ≡ k)
  first_strayed_same op index other k a b = by (cases_lt op other) (cases_lt other op)
    where
      inner : op ≡ other → (op ≡ other) × (index ≡ k)
      inner e = same (cases_lt index k) (cases_lt k index)
        where
          same : (index < k) ⊎ (k ≤ index) → (k < index) ⊎ (index ≤ k) → (op ≡ other) × (index ≡ k)
          same (inl lt) _ = absurd (b.least_index index lt (subst (λ (i : ℕ). StraysAt books receipts i index) e a.strays))
          same (inr _) (inl lt) = absurd (a.least_index k lt (subst (λ (i : ℕ). StraysAt books receipts i k) (sym e) b.strays))
          same (inr le) (inr ge) = (e, omega (arith, le, ge))

      by : (op < other) ⊎ (other ≤ op) → (other < op) ⊎ (op ≤ other) → (op ≡ other) × (index ≡ k)
      by (inl lt) _ = absurd (b.least_operator op index lt a.strays)
      by (inr _) (inl lt) = absurd (a.least_operator other k lt b.strays)
      by (inr le) (inr ge) = inner (omega (arith, le, ge))

  -- ---- entries with no receipt, or more than one

  abbrev pub Once : List Entry → Callers → Type 0
  Once history callers = (k : ℕ) → k < length history → times k callers ≡ 1

  short_here : (op : ℕ) (book : BookView) (callers : Callers) → slice_get books op ≡ Some book → slice_get receipts op ≡ Some callers → Once book.history callers → ¬ IsShort books receipts op
  short_here op book callers at_book at_callers once s =
      let same_b : book ≡ s.book = same_Some book s.book (sym at_book ∙ s.book_is) in
      let same_cs : callers ≡ s.callers = same_Some callers s.callers (sym at_callers ∙ s.callers_are) in
      let all : Once s.book.history s.callers = subst (λ (b : BookView). Once b.history s.callers) same_b (subst (Once book.history) same_cs once) in
      s.not_once (all s.place s.within)

  pub first_short_is : (op : ℕ) (book : BookView) (callers : Callers) (history : List Entry) (lists : Callers)
      → slice_get books op ≡ Some book → slice_get receipts op ≡ Some callers → history ≡ book.history → lists ≡ callers → ¬ Once history lists
      → ((i : ℕ) → i < op → ¬ IsShort books receipts i) → IsFirstShort books receipts op
  first_short_is op book callers history lists at_book at_callers same_history same_lists never below =
      by (each_or_some (λ (k : ℕ). times k callers) (length book.history))
    where
      by : Once book.history callers ⊎ ((k : ℕ) × (k < length book.history) × (times k callers ≡ 1 → ⊥)) → IsFirstShort books receipts op
      by (inl once) = absurd (never (subst (λ (h : List Entry). Once h lists) (sym same_history) (subst (Once book.history) (sym same_lists) once)))
      by (inr some) = record {
        short = record { book = book; callers = callers; book_is = at_book; callers_are = at_callers; place = some.0; within = some.1; not_once = some.2 };
        least = below;
      }

  pub short_more : (op : ℕ) (book : BookView) (callers : Callers) (history : List Entry) (lists : Callers)
      → slice_get books op ≡ Some book → slice_get receipts op ≡ Some callers → history ≡ book.history → lists ≡ callers → Once history lists
      → ((i : ℕ) → i < op → ¬ IsShort books receipts i) → (i : ℕ) → i < op + 1 → ¬ IsShort books receipts i
  short_more op book callers history lists at_book at_callers same_history same_lists once below i lt = by (cases_eq i op)
    where
      by : (i ≡ op) ⊎ (i ≡ op → ⊥) → ¬ IsShort books receipts i
      by (inr ne) = below i (omega (arith, lt, ne))
      by (inl e) = subst (λ (n : ℕ). ¬ IsShort books receipts n) (sym e)
          (short_here op book callers at_book at_callers (subst (λ (h : List Entry). Once h callers) same_history (subst (Once history) same_lists once)))

  pub none_short : (n : ℕ) → length receipts ≤ n → ((i : ℕ) → i < n → ¬ IsShort books receipts i) → NoneIsShort books receipts
  none_short n past below = λ op s.
      let lt : op < length receipts = slice_get_within receipts op s.callers s.callers_are in
      below op (omega (arith, lt, past)) s

  -- ---- all

  pub settled : (maps : List MapBytes) → EachStands books receipts → NoneIsShort books receipts → All (HasOwnParts books) maps → IsSettled books receipts maps
  settled maps each none own = record {
    merged = λ op book callers at_book at_callers. record {
      stand = callers_stand book.history callers (each op book callers at_book at_callers);
      ascend = callers_ascend book.history callers (each op book callers at_book at_callers);
      once = once op book callers at_book at_callers (each_or_some (λ (k : ℕ). times k callers) (length book.history));
    };
    own_parts = own;
  }
    where
      once : (op : ℕ) (book : BookView) (callers : Callers) → slice_get books op ≡ Some book → slice_get receipts op ≡ Some callers
          → Once book.history callers ⊎ ((k : ℕ) × (k < length book.history) × (times k callers ≡ 1 → ⊥)) → Once book.history callers
      once op book callers at_book at_callers (inl all) = all
      once op book callers at_book at_callers (inr some) =
          absurd (none op (record { book = book; callers = callers; book_is = at_book; callers_are = at_callers; place = some.0; within = some.1; not_once = some.2 }))

  settled_strays : (maps : List MapBytes) (op index : ℕ) → IsSettled books receipts maps → ¬ StraysAt books receipts op index
  settled_strays maps op index is s =
      let merge : IsMergeOf s.book.history s.callers = is.merged op s.book s.callers s.book_is s.callers_are in
      none_strays s.book.history s.callers (stand_callers s.book.history s.callers merge.stand merge.ascend) index s.strays

  settled_short : (maps : List MapBytes) (op : ℕ) → IsSettled books receipts maps → ¬ IsShort books receipts op
  settled_short maps op is s =
      let merge : IsMergeOf s.book.history s.callers = is.merged op s.book s.callers s.book_is s.callers_are in
      s.not_once (merge.once s.place s.within)

  settled_maps : (maps : List MapBytes) (frame : ℕ) → IsSettled books receipts maps → ¬ IsFirstMapStrayed books maps frame
  settled_maps maps frame is f =
      let all : All (HasOwnParts books) (f.before ++ f.made ∷ f.after) = subst (All (HasOwnParts books)) f.split is.own_parts in
      f.strays (subst (HasOwnParts books) (middle f.before f.after f.made f.made) (all (length f.before) f.made (before_end f.before f.after f.made)))

  -- a first fault tells that they are not settled
  pub not_settled : (maps : List MapBytes) (fault : RunFault) → IsFirstFault books receipts maps fault → ¬ IsSettled books receipts maps
  not_settled maps (Strayed op index) first is = settled_strays maps op index is first.strays
  not_settled maps (Short op) first is = settled_short maps op is first.1.short
  not_settled maps (Core fault) first is = first
  not_settled maps NoMemory first is = first
  not_settled maps (MapStrayed frame) first is = settled_maps maps frame is first.2
  not_settled maps (ResliceRefused at fault) first is = first

  -- ---- which first

  pub strayed_iff : {T : Type 0} (op index : ℕ) → IsFirstStrayed books receipts op index
      → (i k : ℕ) → (◌≡◌ {A = Result T RunFault} (Err (Strayed op index)) (Err (Strayed i k))) ↔ IsFirstStrayed books receipts i k
  strayed_iff {T} op index first = λ i k. (
    λ e. let same_op : op ≡ i = cc in let same_index : index ≡ k = cc in
        subst (λ (n : ℕ). IsFirstStrayed books receipts n k) same_op (subst (IsFirstStrayed books receipts op) same_index first),
    λ other. let same : (op ≡ i) × (index ≡ k) = first_strayed_same op index i k first other in
        ap (λ (n : ℕ). Err (Strayed n index)) same.0 ∙ ap (λ (n : ℕ). Err (Strayed i n)) same.1,
  )

  -- the first that is short is one
  first_short_same : (op other : ℕ) → IsFirstShort books receipts op → IsFirstShort books receipts other → op ≡ other
  first_short_same op other a b = by (cases_lt op other) (cases_lt other op)
    where
      by : (op < other) ⊎ (other ≤ op) → (other < op) ⊎ (op ≤ other) → op ≡ other
      by (inl lt) _ = absurd (b.least op lt a.short)
      by (inr _) (inl lt) = absurd (a.least other lt b.short)
      by (inr le) (inr ge) = omega (arith, le, ge)

  pub short_iff : {T : Type 0} (maps : List MapBytes) (op : ℕ) → NoneStrays books receipts → IsFirstShort books receipts op
      → (i : ℕ) → (◌≡◌ {A = Result T RunFault} (Err (Short op)) (Err (Short i))) ↔ IsFirstFault books receipts maps (Short i)
  short_iff {T} maps op none first = λ i. (
    λ e. let same : op ≡ i = cc in (none, subst (IsFirstShort books receipts) same first),
    λ other. ap (λ (n : ℕ). Err (Short n)) (first_short_same op i first other.1),
  )

  pub short_not : {T : Type 0} (maps : List MapBytes) (r : Result T RunFault) → ((i : ℕ) → r ≡ Err (Short i) → ⊥) → ((i : ℕ) → IsFirstFault books receipts maps (Short i) → ⊥)
      → (i : ℕ) → (r ≡ Err (Short i)) ↔ IsFirstFault books receipts maps (Short i)
  short_not maps r other never = λ i. (λ e. absurd (other i e), λ first. absurd (never i first))

  pub strayed_not : {T : Type 0} (r : Result T RunFault) → ((i k : ℕ) → r ≡ Err (Strayed i k) → ⊥) → NoneStrays books receipts
      → (i k : ℕ) → (r ≡ Err (Strayed i k)) ↔ IsFirstStrayed books receipts i k
  strayed_not r other none = λ i k. (λ e. absurd (other i k e), λ first. absurd (none i k first.strays))

pub moved : {X Y : Type 0} (a b : X) (c d : Y) → a ≡ b → c ≡ d → (P : X → Y → Type 0) → P a c → P b d
moved a b c d e f P h = subst (λ x. P x d) e (subst (P a) f h)

pub only_memory : {T : Type 0} (r : Result T RunFault) → IsErrAnd r (λ fault. fault ≡ NoMemory) → (i k : ℕ) → r ≡ Err (Strayed i k) → ⊥
only_memory r memory i k e =
    let told : Strayed i k ≡ NoMemory = subst (λ x. IsErrAnd x (λ fault. fault ≡ NoMemory)) e memory in cc

pub only_memory_short : {T : Type 0} (r : Result T RunFault) → IsErrAnd r (λ fault. fault ≡ NoMemory) → (i : ℕ) → r ≡ Err (Short i) → ⊥
only_memory_short r memory i e =
    let told : Short i ≡ NoMemory = subst (λ x. IsErrAnd x (λ fault. fault ≡ NoMemory)) e memory in cc

pub at_some : {X : Type 0} (P : Type 0) (Q : X → Type 0) (o : Option X) (x : X) → o ≡ Some x → MatchOption o P Q → Q x
at_some P Q o x e m = subst (λ r. MatchOption r P Q) e m

pub at_none : {X : Type 0} (P : Type 0) (Q : X → Type 0) (o : Option X) → o ≡ None → MatchOption o P Q → P
at_none P Q o e m = subst (λ r. MatchOption r P Q) e m
