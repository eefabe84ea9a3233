-- Operators that are at work already start a core.
use Rattle.std.proofs.Common.{◌≡◌, ℕ, zero, suc, ◌+◌, ◌<◌, ◌≤◌, List, [], ◌∷◌, length, map, replicate, take, get_or, Option, Some, None, option_map, Bool, true, false, All, IfSome, cond, refl, sym, ap, subst, ◌∙◌, arith}
use Rattle.plant_core.proofs.LiveLemmas.Common.{slice_get, ◌≢◌, AllByRecursion, lt-leb, bytes_eq-Decides, length-map, take_all, take_more, recursion_from_All, All-from_recursion, All-nil, All-push, All-map, none-some, same_Some, slice_get-map, slice_get_within, Minislots, ConstsFields, RowFields, PlantFields, IsPlant, OperatorState, Operator, operator, opened_state, BookView, SliceFrom, waiting_slice, Reslicing, quota_of, AreSlices, Gathering, gathering_at, IsGathering, HasPutNoneFrom, MayReslice, gathering_after_reslice, is_from, has_begun, PairsByRecursion, pairs_from_AllPairs, Start, own_of, IsStart, started_book, started_core, gathering_from, CoreView, core_of, ElementsFields, IsAfterFrom, IsReachableFromStart, some_at, at_place, book_of, state_among, slice_later, later_of, waiting_if, waiting_among, start_with, waits_from, MayResume}
use Rattle.std.specs.Str.{bytes_eq}
use Rattle.operator_model.specs.declared.share.Share.{Share}
use Rattle.operator_model.specs.declared.share.NextShare.{NextShare}
use Rattle.operator_model.specs.Sound.{IsNextShare, IsSound}
use Rattle.plant_core.proofs.LiveLemmas.GoLemmas.{started_after}

-- ---- over a list that is gone through

pub all_more : {X : Type 0} (P : X → Type 0) (xs : List X) (i : ℕ) (x : X) → i < length xs → x ≡ get_or xs i x → All P (take i xs) → P x → All P (take (i + 1) xs)
all_more P xs i x lt is h p = subst (λ ys. All P ys) (sym (take_more xs i x lt)) (All-push P (take i xs) (get_or xs i x) h (subst P is p))

pub all_gone : {X : Type 0} (P : X → Type 0) (xs : List X) (i : ℕ) → length xs ≤ i → All P (take i xs) → All P xs
all_gone P xs i le h = subst (λ ys. All P ys) (take_all i xs le) h

-- ---- each operator's own state

same_name : (a : List ℕ) → bytes_eq a a ≡ true
same_name a = (bytes_eq-Decides a a).1 refl

other_name : (a b : List ℕ) → a ≢ b → bytes_eq a b ≡ false
other_name a b ne = by (bytes_eq a b) refl
  where
    by : (c : Bool) → bytes_eq a b ≡ c → c ≡ false
    by true e = absurd (ne ((bytes_eq-Decides a b).0 e))
    by false e = refl

-- no two have a name in common
abbrev pub HaveOwnNames : List Operator → Type 0
HaveOwnNames ops = PairsByRecursion (λ (a b : RowFields). a.name ≢ b.name) (map (λ o. o.row) ops)

pub own_state : (ops : List Operator) (other : OperatorState) (i : ℕ) (o : Operator) → HaveOwnNames ops → slice_get ops i ≡ Some o → state_among ops other o.row ≡ o.state
own_state [] other i o own e = let f : ◌≡◌ {A = Option Operator} None (Some o) = e in absurd (none-some o f)
own_state (p ∷ ops) other zero o own e =
    let is : p ≡ o = same_Some p o e in
    subst (λ (q : Operator). state_among (p ∷ ops) other q.row ≡ q.state) is (ap (λ (b : Bool). cond b p.state (state_among ops other p.row)) (same_name p.row.name))
own_state (p ∷ ops) other (suc i) o own e =
    let there : slice_get (map (λ (x : Operator). x.row) ops) i ≡ Some o.row = slice_get-map (λ (x : Operator). x.row) ops i ∙ ap (option_map (λ (x : Operator). x.row)) e in
    ap (λ (b : Bool). cond b p.state (state_among ops other o.row))
    (other_name p.row.name o.row.name (at_place (λ (b : RowFields). p.row.name ≢ b.name) (map (λ (x : Operator). x.row) ops) i o.row own.0 there))
    ∙ own_state ops other i o own.1 e

-- ---- the slices that wait

slices_there : (ops : List Operator) (i : ℕ) (o : Operator) → slice_get ops i ≡ Some o → slice_get (map later_of ops) i ≡ Some (later_of o)
slices_there ops i o e = slice_get-map later_of ops i ∙ ap (option_map later_of) e

waits_own : (first next : Option NextShare) (share : Share) (ops : List Operator) (i : ℕ) → option_map (λ (n : NextShare). n.from) first ≡ option_map (λ (n : NextShare). n.from) next
    → slice_get (map later_of ops) i ≡ Some (slice_later share next) → map (own_of i) (waiting_if first ops) ≡ waiting_slice next
waits_own None None share ops i alike there = refl
waits_own None (Some next) share ops i alike there = absurd (none-some next.from alike)
waits_own (Some first) None share ops i alike there = absurd (none-some first.from (sym alike))
waits_own (Some first) (Some next) share ops i alike there =
    let from : first.from ≡ next.from = same_Some first.from next.from alike in
    rw there (ap (λ (n : ℕ). let r : SliceFrom = record { from = n; slice = next.share.slice } in r ∷ []) from)

waits_among : (ops : List Operator) (from : Option ℕ) (i : ℕ) (o : Operator) → AllByRecursion (λ (x : Operator). waits_from x ≡ from) ops → slice_get ops i ≡ Some o → map (own_of i) (waiting_among ops) ≡ waiting_slice o.state.next
waits_among [] from i o alike e = let f : ◌≡◌ {A = Option Operator} None (Some o) = e in absurd (none-some o f)
waits_among (p ∷ ops) from i o alike e =
    waits_own p.state.next o.state.next o.state.share (p ∷ ops) i (alike.0 ∙ sym (at_place (λ (x : Operator). waits_from x ≡ from) (p ∷ ops) i o alike e)) (slices_there (p ∷ ops) i o e)

-- none waits, or all from one frame on
none_from : (next : Option NextShare) → option_map (λ (n : NextShare). n.from) next ≡ None → next ≡ None
none_from None e = refl
none_from (Some next) e = absurd (none-some next.from (sym e))

waiting_none : (ops : List Operator) → AllByRecursion (λ (o : Operator). waits_from o ≡ None) ops → waiting_among ops ≡ []
waiting_none [] alike = refl
waiting_none (o ∷ ops) alike = ap (λ (next : Option NextShare). waiting_if next (o ∷ ops)) (none_from o.state.next alike.0)

if_some : (next : Option NextShare) (ops : List Operator) (from : ℕ) → option_map (λ (n : NextShare). n.from) next ≡ Some from → waiting_if next ops ≡ record { from = from; slicing = map later_of ops } ∷ []
if_some None ops from e = absurd (none-some from e)
if_some (Some next) ops from e = ap (λ (n : ℕ). let r : Reslicing = record { from = n; slicing = map later_of ops } in r ∷ []) (same_Some next.from from e)

waiting_some : (ops : List Operator) (from : ℕ) → 1 ≤ length ops → AllByRecursion (λ (o : Operator). waits_from o ≡ Some from) ops → waiting_among ops ≡ record { from = from; slicing = map later_of ops } ∷ []
waiting_some [] from some alike = absurd (omega (arith, some))
waiting_some (o ∷ ops) from some alike = if_some o.state.next (o ∷ ops) from alike.0

-- what waits of a sound state is to come
ahead_of : (consts : ConstsFields) (frame committed : ℕ) (next : Option NextShare) (from : ℕ) → IfSome next (IsNextShare consts frame committed) → option_map (λ (n : NextShare). n.from) next ≡ Some from → frame < from
ahead_of consts frame committed None from sound e = absurd (none-some from e)
ahead_of consts frame committed (Some next) from sound e = let same : next.from ≡ from = same_Some next.from from e in omega (arith, sound.to_come, same)

waits_ahead : (ops : List Operator) (frame from : ℕ) → 1 ≤ length ops → AllByRecursion IsSound ops → AllByRecursion (λ (o : Operator). o.state.frame ≡ frame) ops → AllByRecursion (λ (o : Operator). waits_from o ≡ Some from) ops → frame < from
waits_ahead [] frame from some sound at alike = absurd (omega (arith, some))
waits_ahead (o ∷ ops) frame from some sound at alike =
    let ahead = ahead_of o.consts o.state.frame _ o.state.next from sound.0.next alike.0 in omega (arith, ahead, at.0)

fresh_if : (consts : ConstsFields) (now frame committed : ℕ) (next : Option NextShare) (ops : List Operator) → IfSome next (IsNextShare consts now committed) → now ≡ frame → is_from frame (slice_get (waiting_if next ops) 0) ≡ false
fresh_if consts now frame committed None ops sound at = refl
fresh_if consts now frame committed (Some next) ops sound at = lt-leb next.from frame (omega (arith, sound.to_come, at))

fresh : (ops : List Operator) (frame : ℕ) → AllByRecursion IsSound ops → AllByRecursion (λ (o : Operator). o.state.frame ≡ frame) ops → is_from frame (slice_get (waiting_among ops) 0) ≡ false
fresh [] frame sound at = refl
fresh (o ∷ ops) frame sound at = fresh_if o.consts o.state.frame frame _ o.state.next (o ∷ ops) sound.0.next at.0

all_past : (g : Gathering) (from n : ℕ) → g.next ≤ from → AllByRecursion (HasPutNoneFrom g from) (replicate n [])
all_past g from zero le = tt
all_past g from (suc n) le = ((λ started. omega (arith, le)), all_past g from n le)

consts_own : (consts : ConstsFields) (ops : List Operator) → AllByRecursion (λ (o : Operator). o.consts ≡ consts) ops
    → map (λ (o : Operator). let b : BookView = record { row = o.row; consts = consts; state = o.state; history = [] } in b) ops ≡ map book_of ops
consts_own consts [] h = refl
consts_own consts (o ∷ ops) h = λ k. (let b : BookView = record { row = o.row; consts = sym h.0 k; state = o.state; history = [] } in b) ∷ consts_own consts ops h.1 k

pub map_is : {X Y : Type 0} (f : X → Y) (xs : List X) (ys : List Y) → length xs ≡ length ys → ((i : ℕ) (x : X) → slice_get xs i ≡ Some x → slice_get ys i ≡ Some (f x)) → map f xs ≡ ys
map_is f [] [] e h = refl
map_is f [] (y ∷ ys) e h = absurd (omega (arith, e))
map_is f (x ∷ xs) [] e h = absurd (omega (arith, e))
map_is f (x ∷ xs) (y ∷ ys) e h = λ n. sym (same_Some y (f x) (h 0 x refl)) n ∷ map_is f xs ys (omega (arith, e)) (λ i z g. h (suc i) z g) n

-- ---- the start

module _ (plant : PlantFields) (frame : ℕ) (ops : List Operator) (valid : IsPlant plant) (may : MayResume plant frame ops) where
  abbrev start : Start
  start = start_with plant frame ops

  own_names : HaveOwnNames ops
  own_names = subst (λ (rows : List RowFields). PairsByRecursion (λ (a b : RowFields). a.name ≢ b.name) rows) (sym may.rows_are) (pairs_from_AllPairs (λ (a b : RowFields). a.name ≢ b.name) plant.rows valid.names)

  -- the operator of a row
  pub record IsOperatorAt (i : ℕ) (row : RowFields) : Type 0 where
    pub op : Operator
    pub op_is : slice_get ops i ≡ Some op
    pub row_is : op.row ≡ row
    pub state_is : start.state row ≡ op.state

  pub operator_at : (i : ℕ) (row : RowFields) → slice_get plant.rows i ≡ Some row → IsOperatorAt i row
  operator_at i row here =
      let there : slice_get (map (λ (o : Operator). o.row) ops) i ≡ Some row = ap (λ (rows : List RowFields). slice_get rows i) may.rows_are ∙ here in
      let within = slice_get_within (map (λ (o : Operator). o.row) ops) i row there in
      let long = length-map ops (λ (o : Operator). o.row) in
      let o = some_at ops i (omega (arith, within, long)) in
      let row_is : o.0.row ≡ row = same_Some o.0.row row (sym (slice_get-map (λ (x : Operator). x.row) ops i ∙ ap (option_map (λ (x : Operator). x.row)) o.1) ∙ there) in
      record {
        op = o.0;
        op_is = o.1;
        row_is = row_is;
        state_is =
            sym (ap (λ (r : RowFields). state_among ops (opened_state plant.consts r) r) row_is)
            ∙ own_state ops (opened_state plant.consts o.0.row) i o.0 own_names o.1;
      }

  pub resumed_starts : IsStart plant start
  resumed_starts = record {
    sound = λ i row here.
        let at = operator_at i row here in
        let consts : at.op.consts ≡ plant.consts = at_place (λ (o : Operator). o.consts ≡ plant.consts) ops i at.op (recursion_from_All (λ (o : Operator). o.consts ≡ plant.consts) ops may.consts_are) at.op_is in
        subst IsSound (λ k. operator (consts k) (at.row_is k) (sym at.state_is k)) (at_place IsSound ops i at.op (recursion_from_All IsSound ops may.sound) at.op_is);
    at_one_frame = λ i row here.
        let at = operator_at i row here in
        ap (λ (s : OperatorState). s.frame) at.state_is
        ∙ at_place (λ (o : Operator). o.state.frame ≡ frame) ops i at.op (recursion_from_All (λ (o : Operator). o.state.frame ≡ frame) ops may.at_one_frame) at.op_is;
    waits = λ i row here.
        let at = operator_at i row here in
        waits_among ops may.from i at.op (recursion_from_All (λ (o : Operator). waits_from o ≡ may.from) ops may.wait_alike) at.op_is
        ∙ ap (λ (s : OperatorState). waiting_slice s.next) (sym at.state_is);
  }

  -- ---- what the core holds of them

  -- what is seen of each row and its state is what is seen of its operator
  states_over : {Y : Type 0} (g : RowFields → OperatorState → Y) → map (λ row. g row (start.state row)) plant.rows ≡ map (λ o. g o.row o.state) ops
  states_over g =
      map_is (λ (row : RowFields). g row (start.state row)) plant.rows (map (λ (o : Operator). g o.row o.state) ops)
      (let long = length-map ops (λ (o : Operator). g o.row o.state) in
      let rows = length-map ops (λ (o : Operator). o.row) in
      let same = ap length may.rows_are in
      omega (arith, long, rows, same))
      (λ i row here.
      let at = operator_at i row here in
      slice_get-map (λ (o : Operator). g o.row o.state) ops i
      ∙ (ap (option_map (λ (o : Operator). g o.row o.state)) at.op_is
      ∙ (λ k. let o : Option _ = Some (g (at.row_is k) (sym at.state_is k)) in o)))

  pub resumed_books : map (started_book plant.consts start) plant.rows ≡ map book_of ops
  resumed_books =
      states_over (λ row state. let b : BookView = record { row = row; consts = plant.consts; state = state; history = [] } in b)
      ∙ consts_own plant.consts ops (recursion_from_All (λ (o : Operator). o.consts ≡ plant.consts) ops may.consts_are)

  resumed_slices : map (λ row. (start.state row).share.slice) plant.rows ≡ map (λ o. o.state.share.slice) ops
  resumed_slices = states_over (λ row state. state.share.slice)

  some_operator : 1 ≤ length ops
  some_operator = let rows = length-map ops (λ (o : Operator). o.row) in let same = ap length may.rows_are in omega (arith, rows, same, valid.some)

  module _ (slices : List Minislots) (are : slices ≡ map (λ o. o.state.share.slice) ops) where
    -- where nothing waits
    pub gathers_none : All (λ o. waits_from o ≡ None) ops → gathering_at plant frame slices ≡ gathering_from plant start
    gathers_none alike = λ k. record {
      channel = plant.consts.channel;
      quotas = map quota_of plant.rows;
      slices = (are ∙ sym resumed_slices) k;
      reslicings = sym (waiting_none ops (recursion_from_All (λ (o : Operator). waits_from o ≡ None) ops alike)) k;
      queues = replicate (length plant.rows) [];
      next = frame;
    }

    -- where slices wait from a frame on
    pub gathers_some : (from : ℕ) (later : List Minislots) → later ≡ map later_of ops → All (λ o. waits_from o ≡ Some from) ops → gathering_after_reslice (gathering_at plant frame slices) from later ≡ gathering_from plant start
    gathers_some from later laters alike = λ k. record {
      channel = plant.consts.channel;
      quotas = map quota_of plant.rows;
      slices = (are ∙ sym resumed_slices) k;
      reslicings =
          (ap (λ (ms : List Minislots). let r : Reslicing = record { from = from; slicing = ms } in r ∷ []) laters
          ∙ sym (waiting_some ops from some_operator (recursion_from_All (λ (o : Operator). waits_from o ≡ Some from) ops alike))) k;
      queues = replicate (length plant.rows) [];
      next = frame;
    }

    pub may_wait : (from : ℕ) (later : List Minislots) → AreSlices plant.consts.channel (length plant.rows) later → All (λ o. waits_from o ≡ Some from) ops → MayReslice (gathering_at plant frame slices) from later
    may_wait from later fit alike =
        let ahead : frame < from = waits_ahead ops frame from some_operator (recursion_from_All IsSound ops may.sound)
        (recursion_from_All (λ (o : Operator). o.state.frame ≡ frame) ops may.at_one_frame) (recursion_from_All (λ (o : Operator). waits_from o ≡ Some from) ops alike) in
        record {
          slices_are = subst (λ (n : ℕ). AreSlices plant.consts.channel n later) (sym (length-map plant.rows quota_of)) fit;
          later = All-nil (λ (r : Reslicing). r.from < from);
          past = All-from_recursion (HasPutNoneFrom (gathering_at plant frame slices) from) (replicate (length plant.rows) []) (all_past (gathering_at plant frame slices) from (length plant.rows) (omega (arith, ahead)));
        }

  -- no slices are held that have begun
  pub none_begun : has_begun (gathering_from plant start) ≡ false
  none_begun = fresh ops frame (recursion_from_All IsSound ops may.sound) (recursion_from_All (λ (o : Operator). o.state.frame ≡ frame) ops may.at_one_frame)

-- ---- operators as they are seen

pub over_map : {X Y Z : Type 0} (f : Y → Z) (g : X → Y) (xs : List X) → map f (map g xs) ≡ map (λ x. f (g x)) xs
over_map f g [] = refl
over_map f g (x ∷ xs) = ap (λ ys. f (g x) ∷ ys) (over_map f g xs)

-- one for each row, of what all share, all at the frame, and waiting alike
pub seen_may : {X : Type 0} (see : X → Operator) (plant : PlantFields) (frame : ℕ) (from : Option ℕ) (lives : List X) → map (λ x. (see x).row) lives ≡ plant.rows → All (λ x. (see x).consts ≡ plant.consts) lives
    → All (λ x. IsSound (see x)) lives → All (λ x. (see x).state.frame ≡ frame) lives → All (λ x. waits_from (see x) ≡ from) lives → MayResume plant frame (map see lives)
seen_may see plant frame from lives rows consts sound frames alike = record {
  rows_are = over_map (λ (o : Operator). o.row) see lives ∙ rows;
  consts_are = All-map (λ (o : Operator). o.consts ≡ plant.consts) see lives consts;
  sound = All-map IsSound see lives sound;
  at_one_frame = All-map (λ (o : Operator). o.state.frame ≡ frame) see lives frames;
  from = from;
  wait_alike = All-map (λ (o : Operator). waits_from o ≡ from) see lives alike;
}

-- the same of lists that are equal
pub seen_may_same : {X : Type 0} (see : X → Operator) (plant : PlantFields) (frame : ℕ) (from : Option ℕ) (lives a b : List X) → a ≡ lives → b ≡ lives → map (λ x. (see x).row) lives ≡ plant.rows → All (λ x. (see x).consts ≡ plant.consts) lives
    → All (λ x. IsSound (see x)) a → All (λ x. (see x).state.frame ≡ frame) a → All (λ x. waits_from (see x) ≡ from) a → MayResume plant frame (map see b)
seen_may_same {X} see plant frame from lives a b e f rows consts sound frames alike =
    subst (λ (xs : List X). MayResume plant frame (map see xs)) (sym f)
    (seen_may see plant frame from lives rows consts (subst (λ (xs : List X). All (λ x. IsSound (see x)) xs) e sound)
    (subst (λ (xs : List X). All (λ x. (see x).state.frame ≡ frame) xs) e frames) (subst (λ (xs : List X). All (λ x. waits_from (see x) ≡ from) xs) e alike))

pub alike_same : {X : Type 0} (see : X → Operator) (from : Option ℕ) (lives a b : List X) → a ≡ lives → b ≡ lives → All (λ x. waits_from (see x) ≡ from) a → All (λ x. waits_from (see x) ≡ from) b
alike_same {X} see from lives a b e f alike = subst (λ (xs : List X). All (λ x. waits_from (see x) ≡ from) xs) (e ∙ sym f) alike

pub gathers_same : {X : Type 0} (see : X → Operator) (plant : PlantFields) (frame : ℕ) (lives b : List X) (g : Gathering) → b ≡ lives → g ≡ gathering_from plant (start_with plant frame (map see b)) → g ≡ gathering_from plant (start_with plant frame (map see lives))
gathers_same {X} see plant frame lives b g f is = is ∙ ap (λ (xs : List X). gathering_from plant (start_with plant frame (map see xs))) f

module _ {X : Type 0} (see : X → Operator) (plant : PlantFields) (frame : ℕ) (lives : List X) (valid : IsPlant plant) (may : MayResume plant frame (map see lives)) (slices : List Minislots) (are : slices ≡ map (λ x. (see x).state.share.slice) lives) where
  slices_are : slices ≡ map (λ (o : Operator). o.state.share.slice) (map see lives)
  slices_are = are ∙ sym (over_map (λ (o : Operator). o.state.share.slice) see lives)

  pub seen_none : (from : Option ℕ) (made : Gathering) → All (λ x. waits_from (see x) ≡ from) lives → from ≡ None → made ≡ gathering_at plant frame slices → made ≡ gathering_from plant (start_with plant frame (map see lives))
  seen_none from made alike none is =
      is ∙ gathers_none plant frame (map see lives) valid may slices slices_are
      (All-map (λ (o : Operator). waits_from o ≡ None) see lives (subst (λ (n : Option ℕ). All (λ x. waits_from (see x) ≡ n) lives) none alike))

  pub seen_may_wait : (from : Option ℕ) (at : ℕ) (made : Gathering) (later : List Minislots) → All (λ x. waits_from (see x) ≡ from) lives → from ≡ Some at → made ≡ gathering_at plant frame slices
      → AreSlices plant.consts.channel (length plant.rows) later → MayReslice made at later
  seen_may_wait from at made later alike some is fit =
      subst (λ (g : Gathering). MayReslice g at later) (sym is)
      (may_wait plant frame (map see lives) valid may slices slices_are at later fit
      (All-map (λ (o : Operator). waits_from o ≡ Some at) see lives (subst (λ (n : Option ℕ). All (λ x. waits_from (see x) ≡ n) lives) some alike)))

  pub seen_some : (from : Option ℕ) (at : ℕ) (made after : Gathering) (later : List Minislots) → All (λ x. waits_from (see x) ≡ from) lives → from ≡ Some at → made ≡ gathering_at plant frame slices
      → later ≡ map (λ x. later_of (see x)) lives → after ≡ gathering_after_reslice made at later → after ≡ gathering_from plant (start_with plant frame (map see lives))
  seen_some from at made after later alike some is laters then =
      then
      ∙ (ap (λ (g : Gathering). gathering_after_reslice g at later) is
      ∙ gathers_some plant frame (map see lives) valid may slices slices_are at later (laters ∙ sym (over_map later_of see lives))
      (All-map (λ (o : Operator). waits_from o ≡ Some at) see lives (subst (λ (n : Option ℕ). All (λ x. waits_from (see x) ≡ n) lives) some alike)))

-- the core of these operators
module _ {X : Type 0} (see : X → Operator) (plant routes : PlantFields) (frame : ℕ) (lives : List X) (valid : IsPlant plant) (may : MayResume plant frame (map see lives)) (books : List BookView) (queues : List (List (ℕ × ElementsFields))) (gathering : Gathering)
    (r : routes ≡ plant) (b : books ≡ map (λ x. book_of (see x)) lives) (q : queues ≡ replicate (length lives) []) (g : gathering ≡ gathering_from plant (start_with plant frame (map see lives))) (held : IsGathering gathering) where
  abbrev begun_with : Start
  begun_with = start_with plant frame (map see lives)

  as_many : length lives ≡ length plant.rows
  as_many = let a = length-map (map see lives) (λ (o : Operator). o.row) in let c = length-map lives see in let d = ap length may.rows_are in omega (arith, a, c, d)

  pub resumed_view : core_of routes books queues gathering ≡ started_core plant begun_with
  resumed_view = λ k.
      core_of (r k) ((b ∙ (sym (over_map book_of see lives) ∙ sym (resumed_books plant frame (map see lives) valid may))) k)
      ((q ∙ ap (λ (n : ℕ). replicate n []) as_many) k) (g k)

  pub resumed_after : IsAfterFrom plant begun_with [] [] (core_of routes books queues gathering)
  resumed_after =
      subst (λ (v : CoreView). IsAfterFrom plant begun_with [] [] v) (sym resumed_view)
      (started_after plant begun_with valid (resumed_starts plant frame (map see lives) valid may) (subst IsGathering g held))

  pub resumed_reaches : ∥ IsReachableFromStart (core_of routes books queues gathering) ∥₁
  resumed_reaches = ∣ (begun_with, [], [], subst (λ (p : PlantFields). IsAfterFrom p begun_with [] [] (core_of routes books queues gathering)) (sym r) resumed_after) ∣₁

  pub resumed_fresh : has_begun gathering ≡ false
  resumed_fresh = ap (λ (x : Gathering). has_begun x) g ∙ none_begun plant frame (map see lives) valid may
