-- Queues of several operators.
use Rattle.std.proofs.Common.{◌≡◌, ◌≢◌, ◌∙◌, refl, sym, ap, subst, arith, ℕ, ◌+◌, ◌<◌, ◌≤◌, ◌⊎◌, inl, inr, suc, zero, List, [], ◌∷◌, ◌++◌, length, Bool, true, false, Option, Some, None, take, drop, map, Result, Ok, Err, OnOk, OnErr, append-nil}
use Rattle.std.specs.Prelude.{slice_get, slice_set, slice_index_or, nat_lt, IfSome, IfNone}
use Rattle.std.proofs.lemmas.Bool.Decides.{nat_tests}
use Rattle.std.proofs.lemmas.Option.{slice_get_within, slice_get-get_or}
use Rattle.std.proofs.lemmas.List.{length-set, map-append}
use Rattle.std.proofs.Math.Seq.{take-append_seam}
use Rattle.fair_queue.specs.declared.line.Item.{Item}
use Rattle.fair_queue.specs.declared.line.Item.TheVariants as items
use Rattle.fair_queue.specs.declared.line.OwnerLine.{OwnerLine}
use Rattle.fair_queue.specs.Runs.{IsArrival, IsTaken, IsPassed}
use Rattle.std.proofs.lemmas.Bool.{cases_eq}
use Rattle.fair_queue.specs.Items.{QueueView, OwnerView, MayChoose, owner_places, as_items, IsCutOut, IsLineAdded, IsFirstTaken}
use Rattle.fair_queue.specs.Fair.{AllAct, ReadyAt, NoneReady, ComesBefore, IsNextReady, FairView, AreInStep, IsOffered, IsOwnerOffered, IsChosen, IsOwnerChosen, IsNothingReady}

pub get_set_same : {A : Type 0} (xs : List A) (i : ℕ) (x : A) → i < length xs → slice_get (slice_set xs i x) i ≡ Some x
get_set_same [] i x less = absurd (omega (arith, less))
get_set_same (y ∷ xs) zero x less = refl
get_set_same (y ∷ xs) (suc i) x less = get_set_same xs i x (omega (arith, less))

pub get_set_other : {A : Type 0} (xs : List A) (i j : ℕ) (x : A) → j ≢ i → slice_get (slice_set xs i x) j ≡ slice_get xs j
get_set_other [] i j x other = refl
get_set_other (y ∷ xs) zero zero x other = absurd (other refl)
get_set_other (y ∷ xs) zero (suc j) x other = refl
get_set_other (y ∷ xs) (suc i) zero x other = refl
get_set_other (y ∷ xs) (suc i) (suc j) x other = get_set_other xs i j x (λ e. other (ap (λ (n : ℕ). suc n) e))

-- the first k queues have done this, and the others are as they were
pub record SoFar (step : QueueView → QueueView → Type 0) (k : ℕ) (old now : List QueueView) : Type 0 where
  pub as_many : length now ≡ length old
  pub done : (op : ℕ) (q q' : QueueView) → slice_get old op ≡ Some q → slice_get now op ≡ Some q' → op < k → step q q'
  pub left : (op : ℕ) → k ≤ op → slice_get now op ≡ slice_get old op

pub begun : (step : QueueView → QueueView → Type 0) (old : List QueueView) → SoFar step 0 old old
begun step old = record { as_many = refl; done = λ op q q' at at' less. absurd (omega (arith, less)); left = λ op less. refl }

pub same_some : {A : Type 0} (x y : A) → Some x ≡ Some y → x ≡ y
same_some x y e = cc

done_more : (step : QueueView → QueueView → Type 0) (k : ℕ) (old now : List QueueView) (was is : QueueView) → SoFar step k old now
    → slice_get now k ≡ Some was → step was is → (op : ℕ) (q q' : QueueView) → slice_get old op ≡ Some q → slice_get (slice_set now k is) op ≡ Some q'
    → op < k + 1 → (op ≡ k) ⊎ (op ≡ k → ⊥) → step q q'
done_more step k old now was is so at acts op q q' at0 at1 less (inl same) =
    let here : slice_get (slice_set now k is) k ≡ Some is = get_set_same now k is (slice_get_within now k was at) in
    let is' : is ≡ q' = same_some is q' (sym here ∙ subst (λ (n : ℕ). slice_get (slice_set now k is) n ≡ Some q') same at1) in
    let was' : was ≡ q = same_some was q (sym at ∙ (so.left k (omega arith) ∙ subst (λ (n : ℕ). slice_get old n ≡ Some q) same at0)) in
    subst (λ (a : QueueView). step a q') was' (subst (λ (b : QueueView). step was b) is' acts)
done_more step k old now was is so at acts op q q' at0 at1 less (inr other) =
    so.done op q q' at0 (sym (get_set_other now k op is other) ∙ at1) (omega (arith, less, other))

pub one_more : (step : QueueView → QueueView → Type 0) (k : ℕ) (old now : List QueueView) (was is : QueueView) → SoFar step k old now
    → slice_get now k ≡ Some was → step was is → SoFar step (k + 1) old (slice_set now k is)
one_more step k old now was is so at acts = record {
  as_many = length-set now k is ∙ so.as_many;
  done = λ op q q' at0 at1 less. done_more step k old now was is so at acts op q q' at0 at1 less (cases_eq op k);
  left = λ op less. get_set_other now k op is (λ e. absurd (omega (arith, less, e))) ∙ so.left op (omega (arith, less));
}

pub all_done : (step : QueueView → QueueView → Type 0) (k : ℕ) (old now : List QueueView) → SoFar step k old now → length now ≤ k → AllAct step old now
all_done step k old now so all = record {
  as_many = so.as_many;
  each = λ op q q' at at'. so.done op q q' at at' (omega (arith, all, slice_get_within now op q' at'));
}

-- what stands at k is what stood there
pub left_at : (step : QueueView → QueueView → Type 0) (k : ℕ) (old now : List QueueView) (d : QueueView) → SoFar step k old now → k < length now
    → slice_get old k ≡ Some (slice_index_or now k d)
left_at step k old now d so less = sym (so.left k (omega arith)) ∙ slice_get-get_or now k d less

-- ---- whose turn it is

not_here : (queues : List QueueView) (k : ℕ) (d : QueueView) → k < length queues → (MayChoose (slice_index_or queues k d) → ⊥) → ReadyAt queues k → ⊥
not_here queues k d less never ready =
    never (subst (λ (q : QueueView). MayChoose q) (same_some ready.0 (slice_index_or queues k d) (sym ready.1 ∙ slice_get-get_or queues k d less)) ready.2)

none_more_at : (queues : List QueueView) (from k : ℕ) (d : QueueView) → ((j : ℕ) → from ≤ j → j < k → ReadyAt queues j → ⊥) → k < length queues
    → (MayChoose (slice_index_or queues k d) → ⊥) → (j : ℕ) → from ≤ j → j < k + 1 → ReadyAt queues j → (j ≡ k) ⊎ (j ≡ k → ⊥) → ⊥
none_more_at queues from k d before less never j low high ready (inl same) = not_here queues k d less never (subst (λ (n : ℕ). ReadyAt queues n) same ready)
none_more_at queues from k d before less never j low high ready (inr other) = before j low (omega (arith, high, other)) ready

pub none_more : (queues : List QueueView) (from k : ℕ) (d : QueueView) → ((j : ℕ) → from ≤ j → j < k → ReadyAt queues j → ⊥) → k < length queues
    → (MayChoose (slice_index_or queues k d) → ⊥) → (j : ℕ) → from ≤ j → j < k + 1 → ReadyAt queues j → ⊥
none_more queues from k d before less never j low high ready = none_more_at queues from k d before less never j low high ready (cases_eq j k)

abbrev pub IsFirstIn : List QueueView → ℕ → ℕ → ℕ → Type 0
IsFirstIn queues from to op = (from ≤ op) × (op < to) × ReadyAt queues op × ((j : ℕ) → from ≤ j → j < op → ReadyAt queues j → ⊥)

abbrev pub NoneIn : List QueueView → ℕ → ℕ → Type 0
NoneIn queues from to = (j : ℕ) → from ≤ j → j < to → ReadyAt queues j → ⊥

here_first : (queues : List QueueView) (turn op j : ℕ) → IsFirstIn queues turn (length queues) op → ComesBefore turn j op → ReadyAt queues j → ⊥
here_first queues turn op j is (inl before) ready = is.3 j before.0 before.1 ready
here_first queues turn op j is (inr (inl before)) ready = absurd (omega (arith, is.0, before.0))
here_first queues turn op j is (inr (inr before)) ready = absurd (omega (arith, is.0, before.1))

pub next_here : (queues : List QueueView) (turn op : ℕ) → IsFirstIn queues turn (length queues) op → IsNextReady queues turn op
next_here queues turn op is = record { ready = is.2; first = λ j before. here_first queues turn op j is before }

round_first : (queues : List QueueView) (turn to op j : ℕ) → to ≤ turn → NoneIn queues turn (length queues) → IsFirstIn queues 0 to op → ComesBefore turn j op → ReadyAt queues j → ⊥
round_first queues turn to op j less none is (inl before) ready = absurd (omega (arith, less, is.1, before.0, before.1))
round_first queues turn to op j less none is (inr (inl before)) ready = none j before.1 (slice_get_within queues j ready.0 ready.1) ready
round_first queues turn to op j less none is (inr (inr before)) ready = is.3 j (omega arith) before.0 ready

pub next_round : (queues : List QueueView) (turn to : ℕ) (r : Option ℕ) → to ≤ turn → NoneIn queues turn (length queues) → IfSome r (λ op. IsFirstIn queues 0 to op)
    → IfSome r (λ op. IsNextReady queues turn op)
next_round queues turn to None less none is = tt
next_round queues turn to (Some op) less none is = record { ready = is.2; first = λ j before. round_first queues turn to op j less none is before }

none_by : (queues : List QueueView) (turn to j : ℕ) → NoneIn queues turn (length queues) → NoneIn queues 0 to → (turn ≤ to) ⊎ (length queues ≤ to) → ReadyAt queues j
    → (b : Bool) → nat_lt j to ≡ b → ⊥
none_by queues turn to j high low (inr all) ready b is = low j (omega arith) (omega (arith, all, slice_get_within queues j ready.0 ready.1)) ready
none_by queues turn to j high low (inl less) ready true is = low j (omega arith) (grind (arith, nat_tests, is)) ready
none_by queues turn to j high low (inl less) ready false is =
    let over : to ≤ j = grind (arith, nat_tests, is) in
    high j (omega (arith, less, over)) (slice_get_within queues j ready.0 ready.1) ready

pub none_ready : (queues : List QueueView) (turn to : ℕ) (r : Option ℕ) → NoneIn queues turn (length queues) → (turn ≤ to) ⊎ (length queues ≤ to)
    → IfNone r (NoneIn queues 0 to) → IfNone r (NoneReady queues)
none_ready queues turn to None high less low = λ j ready. none_by queues turn to j high low less ready (nat_lt j to) refl
none_ready queues turn to (Some op) high less low = tt

pub now_at : (queues : List QueueView) (k : ℕ) (d : QueueView) → k < length queues → slice_get queues k ≡ Some (slice_index_or queues k d)
now_at queues k d less = slice_get-get_or queues k d less

-- ---- what the whole does

-- a slice of a vector that is written whole
pub written : {A : Type 0} (n : ℕ) (xs ys : List A) → length ys ≡ n → take n (ys ++ drop (length ys) xs) ≡ ys
written n xs ys as_many = ap (λ (k : ℕ). take k (ys ++ drop (length ys) xs)) (sym as_many) ∙ take-append_seam ys (drop (length ys) xs)

pub on_ok_map : {T E : Type 0} (r : Result T E) (P Q : Type 0) → (P → Q) → OnOk r P → OnOk r Q
on_ok_map (Ok x) P Q f p = f p
on_ok_map (Err e) P Q f p = tt

pub places-append : (xs ys : List Item) → owner_places (xs ++ ys) ≡ owner_places xs ++ owner_places ys
places-append [] ys = refl
places-append (items.Line line ∷ xs) ys = places-append xs ys
places-append (items.Owner tick ∷ xs) ys = ap (λ l. tick ∷ l) (places-append xs ys)

places_of_lines : (lines : List (List ℕ)) (rest : List Item) → owner_places (as_items lines ++ rest) ≡ owner_places rest
places_of_lines [] rest = refl
places_of_lines (line ∷ lines) rest = places_of_lines lines rest

pub places_cut : (tick : Bool) (xs ys : List Item) → IsCutOut tick xs ys → owner_places xs ≡ tick ∷ owner_places ys
places_cut tick xs ys cut =
    ap owner_places cut.old_is
    ∙ (places_of_lines cut.held (items.Owner tick ∷ cut.rest)
    ∙ ap (λ l. tick ∷ l) (sym (places_of_lines cut.held cut.rest) ∙ ap owner_places (sym cut.new_is)))

in_step_set_at : (owner : List OwnerLine) (queues : List QueueView) (k : ℕ) (was is : QueueView) → AreInStep owner queues → slice_get queues k ≡ Some was
    → owner_places is.items ≡ owner_places was.items → (op : ℕ) (q : QueueView) → slice_get (slice_set queues k is) op ≡ Some q → (op ≡ k) ⊎ (op ≡ k → ⊥)
    → owner_places q.items ≡ map (λ (o : OwnerLine). o.is_tick) owner
in_step_set_at owner queues k was is steps at same op q at' (inl here) =
    let is' : is ≡ q = same_some is q (sym (get_set_same queues k is (slice_get_within queues k was at)) ∙ subst (λ (n : ℕ). slice_get (slice_set queues k is) n ≡ Some q) here at') in
    subst (λ (b : QueueView). owner_places b.items ≡ map (λ (o : OwnerLine). o.is_tick) owner) is' (same ∙ steps k was at)
in_step_set_at owner queues k was is steps at same op q at' (inr other) = steps op q (sym (get_set_other queues k op is other) ∙ at')

-- one queue acts, and its places stay
pub in_step_set : (owner : List OwnerLine) (queues : List QueueView) (k : ℕ) (was is : QueueView) → AreInStep owner queues → slice_get queues k ≡ Some was
    → owner_places is.items ≡ owner_places was.items → AreInStep owner (slice_set queues k is)
in_step_set owner queues k was is steps at same = λ op q at'. in_step_set_at owner queues k was is steps at same op q at' (cases_eq op k)

-- all queues act, and the places of each change as the owner's lines do
pub in_step_all : (step : QueueView → QueueView → Type 0) (owner owner' : List OwnerLine) (old new : List QueueView)
    → ((q q' : QueueView) → step q q' → owner_places q.items ≡ map (λ (o : OwnerLine). o.is_tick) owner → owner_places q'.items ≡ map (λ (o : OwnerLine). o.is_tick) owner')
    → AllAct step old new → AreInStep owner old → AreInStep owner' new
in_step_all step owner owner' old new go act steps = λ op q' at'.
    let within : op < length old = omega (arith, slice_get_within new op q' at', act.as_many) in
    let at : slice_get old op ≡ Some (slice_index_or old op q') = now_at old op q' within in
    go (slice_index_or old op q') q' (act.each op (slice_index_or old op q') q' at at') (steps op (slice_index_or old op q') at)

pub marked_step : (line : OwnerLine) (owner : List OwnerLine) (q q' : QueueView) → IsArrival (items.Owner line.is_tick) q q'
    → owner_places q.items ≡ map (λ (o : OwnerLine). o.is_tick) owner → owner_places q'.items ≡ map (λ (o : OwnerLine). o.is_tick) (owner ++ line ∷ [])
marked_step line owner q q' comes places =
    ap (λ (a : QueueView). owner_places a.items) comes
    ∙ (places-append q.items (items.Owner line.is_tick ∷ [])
    ∙ (ap (λ l. l ++ line.is_tick ∷ []) places ∙ sym (map-append (λ (o : OwnerLine). o.is_tick) owner (line ∷ []))))

tail_same : {A : Type 0} (x y : A) (xs ys : List A) → x ∷ xs ≡ y ∷ ys → xs ≡ ys
tail_same x y xs ys e = ap (λ l. drop 1 l) e

pub passed_step : (line : OwnerLine) (owner owner' : List OwnerLine) (q q' : QueueView) → owner ≡ line ∷ owner' → IsPassed line.is_tick q q'
    → owner_places q.items ≡ map (λ (o : OwnerLine). o.is_tick) owner → owner_places q'.items ≡ map (λ (o : OwnerLine). o.is_tick) owner'
passed_step line owner owner' q q' first passed places =
    tail_same line.is_tick line.is_tick (owner_places q'.items) (map (λ (o : OwnerLine). o.is_tick) owner')
    (sym (places_cut line.is_tick q.items q'.items passed.items_are) ∙ (places ∙ ap (λ l. map (λ (o : OwnerLine). o.is_tick) l) first))

-- the owner's first line stands first in each queue
pub place_first : (line : OwnerLine) (owner owner' : List OwnerLine) (queues : List QueueView) → owner ≡ line ∷ owner' → AreInStep owner queues
    → (op : ℕ) (q : QueueView) → slice_get queues op ≡ Some q → slice_get (owner_places q.items) 0 ≡ Some line.is_tick
place_first line owner owner' queues first steps op q at =
    ap (λ l. slice_get l 0) (steps op q at ∙ ap (λ l. map (λ (o : OwnerLine). o.is_tick) l) first)

pub there : (queues : List QueueView) (k : ℕ) (q : QueueView) → k < length queues → q ≡ slice_index_or queues k q → slice_get queues k ≡ Some q
there queues k q less is = now_at queues k q less ∙ ap (λ (a : QueueView). Some a) (sym is)

pub ready_there : (queues : List QueueView) (turn op : ℕ) → IsNextReady queues turn op → op < length queues
ready_there queues turn op next = slice_get_within queues op next.ready.0 next.ready.1

pub places_kept : {T E : Type 0} (r : Result T E) (line : List ℕ) (was is : QueueView) → OnOk r (IsArrival (items.Line line) was is) → OnErr r (is ≡ was)
    → owner_places is.items ≡ owner_places was.items
places_kept (Ok x) line was is comes same =
    ap (λ (a : QueueView). owner_places a.items) comes ∙ (places-append was.items (items.Line line ∷ []) ∙ append-nil (owner_places was.items))
places_kept (Err e) line was is comes same = ap (λ (a : QueueView). owner_places a.items) same

pub offered_one : (op : ℕ) (line : List ℕ) (old : FairView) (was is : QueueView) → slice_get old.queues op ≡ Some was → IsArrival (items.Line line) was is
    → IsOffered op line old (record old { queues = slice_set old.queues op is })
offered_one op line old was is at comes = record {
  queues = record { was = was; is = is; was_at = at; acts = comes; new_are = refl };
  new_is = refl;
}

pub chosen_one : (op number : ℕ) (line : List ℕ) (old : FairView) (was is : QueueView) → IsNextReady old.queues old.turn op → slice_get old.queues op ≡ Some was
    → IsTaken line was is → number ≡ is.taken → IsChosen op number line old (record old { queues = slice_set old.queues op is; turn = op + 1 })
chosen_one op number line old was is next at taken numbered = record {
  next = next;
  queues = record { was = was; is = is; was_at = at; acts = taken; new_are = refl };
  numbered = numbered;
  new_is = refl;
}

pub owner_one : (number : ℕ) (line : OwnerLine) (old : FairView) (owner' : OwnerView) (queues' : List QueueView) → NoneReady old.queues → IsFirstTaken line old.owner owner'
    → number ≡ owner'.taken → AllAct (IsPassed line.is_tick) old.queues queues' → IsOwnerChosen number line old (record old { queues = queues'; owner = owner' })
owner_one number line old owner' queues' none first numbered act = record { none = none; owner = first; numbered = numbered; queues = act; new_is = refl }

pub owner_offered_one : (line : OwnerLine) (old : FairView) (owner' : OwnerView) (queues' : List QueueView) → IsLineAdded line old.owner owner'
    → AllAct (IsArrival (items.Owner line.is_tick)) old.queues queues' → IsOwnerOffered line old (record old { queues = queues'; owner = owner' })
owner_offered_one line old owner' queues' added act = record { queues = act; owner = added; new_is = refl }

-- a line of some operator may be chosen
pub someone_ready : (queues queues' : List QueueView) (turn op : ℕ) → IsNextReady queues turn op → queues ≡ queues' → NoneReady queues' → ⊥
someone_ready queues queues' turn op next same none = none op (subst (λ (l : List QueueView). ReadyAt l op) same next.ready)

pub idle_one : (old : FairView) → NoneReady old.queues → old.owner.lines ≡ [] → IsNothingReady old
idle_one old none no_owner = record { none = none; no_owner = no_owner }
