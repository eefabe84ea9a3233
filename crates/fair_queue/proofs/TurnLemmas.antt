-- Runs of the queues of several operators.
use Rattle.std.proofs.Common.{◌≡◌, ◌≢◌, ◌∙◌, refl, sym, ap, subst, arith, ℕ, ◌+◌, ◌<◌, ◌≤◌, ◌⊎◌, inl, inr, suc, zero, List, [], ◌∷◌, ◌++◌, length, Bool, true, false, Option, Some, None}
use Rattle.std.specs.Prelude.{slice_get, slice_set, slice_index_or, nat_lt, nat_eq, if◌then◌else◌, MatchBool}
use Rattle.std.proofs.lemmas.Bool.{cases_lt}
use Rattle.std.proofs.lemmas.Bool.Decides.{nat_tests}
use Rattle.std.proofs.lemmas.Option.{slice_get_within}
use Rattle.fair_queue.specs.declared.line.Item.{Item}
use Rattle.fair_queue.specs.declared.line.Item.TheVariants as items
use Rattle.fair_queue.specs.declared.line.OwnerLine.{OwnerLine}
use Rattle.fair_queue.specs.Items.{QueueView, MayChoose, begins_with_line}
use Rattle.fair_queue.specs.Runs.{QueueEvent, came, went, QueueSteps, IsQueueRun, IsArrival, IsTaken, IsPassed}
use Rattle.fair_queue.specs.Fair.{FairView, FairEvent, offered, owner_offered, chosen, owner_chosen, FairStep, IsFairRun, own_event, own_events, times_chosen, owner_chosen_times, ReadyAt, NoneReady, ComesBefore, IsNextReady, OneActs, AllAct, IsOffered, IsOwnerOffered, IsChosen, IsOwnerChosen}
use Rattle.fair_queue.specs.Laws.{QueuesRunAlone, TurnsAreTaken}
use Rattle.fair_queue.proofs.FairLemmas.{get_set_same, get_set_other, now_at, same_some}

-- ---- what a step does to one queue

abbrev StepsTo : Bool → (QueueView → QueueView → Type 0) → QueueView → QueueView → Type 0
StepsTo true step q q' = step q q'
StepsTo false step q q' = q' ≡ q

one_at_by : (step : QueueView → QueueView → Type 0) (op i : ℕ) (old new : List QueueView) (q : QueueView) → OneActs op step old new → slice_get old i ≡ Some q
    → (b : Bool) → nat_eq op i ≡ b → (q' : QueueView) × (slice_get new i ≡ Some q') × StepsTo b step q q'
one_at_by step op i old new q act at true is =
    let same : op ≡ i = grind (arith, nat_tests, is) in
    let was : act.was ≡ q = same_some act.was q (sym act.was_at ∙ subst (λ (n : ℕ). slice_get old n ≡ Some q) (sym same) at) in (
      act.is,
      ap (λ l. slice_get l i) act.new_are ∙ subst (λ (n : ℕ). slice_get (slice_set old op act.is) n ≡ Some act.is) same (get_set_same old op act.is (slice_get_within old op act.was act.was_at)),
      subst (λ (a : QueueView). step a act.is) was act.acts,
    )
one_at_by step op i old new q act at false is =
    let other : i ≡ op → ⊥ = λ e. let same : op ≡ i = sym e in absurd (grind (arith, nat_tests, is, same)) in
    (q, ap (λ l. slice_get l i) act.new_are ∙ (get_set_other old op i act.is other ∙ at), refl)

one_at : (step : QueueView → QueueView → Type 0) (op i : ℕ) (old new : List QueueView) (q : QueueView) → OneActs op step old new → slice_get old i ≡ Some q
    → (q' : QueueView) × (slice_get new i ≡ Some q') × StepsTo (nat_eq op i) step q q'
one_at step op i old new q act at = one_at_by step op i old new q act at (nat_eq op i) refl

all_at : (step : QueueView → QueueView → Type 0) (i : ℕ) (old new : List QueueView) (q : QueueView) → AllAct step old new → slice_get old i ≡ Some q
    → (q' : QueueView) × (slice_get new i ≡ Some q') × step q q'
all_at step i old new q act at =
    let within : i < length new = omega (arith, slice_get_within old i q at, act.as_many) in
    let at' : slice_get new i ≡ Some (slice_index_or new i q) = now_at new i q within in
    (slice_index_or new i q, at', act.each i q (slice_index_or new i q) at at')

-- ---- the queue of an operator runs alone

run_one : (b : Bool) (event : QueueEvent) (rest : List QueueEvent) (q mid q' : QueueView) → StepsTo b (QueueSteps event) q mid → IsQueueRun rest mid q'
    → IsQueueRun ((if b then event ∷ [] else []) ++ rest) q q'
run_one true event rest q mid q' step run = (mid, step, run)
run_one false event rest q mid q' same run = subst (λ (m : QueueView). IsQueueRun rest m q') same run

runs_alone : (i : ℕ) (events : List FairEvent) (u v : FairView) (q q' : QueueView) → IsFairRun events u v
    → slice_get u.queues i ≡ Some q → slice_get v.queues i ≡ Some q' → IsQueueRun (own_events i events) q q'
runs_alone i [] u v q q' run at at' = same_some q' q (sym at' ∙ (ap (λ (f : FairView). slice_get f.queues i) run ∙ at))
runs_alone i (offered op line ∷ events) u v q q' run at at' =
    let mid = one_at (IsArrival (items.Line line)) op i u.queues run.0.queues q run.1.queues at in
    run_one (nat_eq op i) (came (items.Line line)) (own_events i events) q mid.0 q' mid.2 (runs_alone i events run.0 v mid.0 q' run.2 mid.1 at')
runs_alone i (owner_offered line ∷ events) u v q q' run at at' =
    let mid = all_at (IsArrival (items.Owner line.is_tick)) i u.queues run.0.queues q run.1.queues at in
    (mid.0, mid.2, runs_alone i events run.0 v mid.0 q' run.2 mid.1 at')
runs_alone i (chosen op number line ∷ events) u v q q' run at at' =
    let mid = one_at (IsTaken line) op i u.queues run.0.queues q run.1.queues at in
    run_one (nat_eq op i) (went (items.Line line)) (own_events i events) q mid.0 q' mid.2 (runs_alone i events run.0 v mid.0 q' run.2 mid.1 at')
runs_alone i (owner_chosen number line ∷ events) u v q q' run at at' =
    let mid = all_at (IsPassed line.is_tick) i u.queues run.0.queues q run.1.queues at in
    (mid.0, mid.2, runs_alone i events run.0 v mid.0 q' run.2 mid.1 at')

pub queues_run_alone : QueuesRunAlone
queues_run_alone i events u v q q' run at at' = runs_alone i events u v q q' run at at'

-- ---- turns

begins_more : (xs ys : List Item) → begins_with_line xs ≡ true → begins_with_line (xs ++ ys) ≡ true
begins_more [] ys begins = let wrong : false ≡ true = begins in absurd cc
begins_more (items.Line line ∷ xs) ys begins = refl
begins_more (items.Owner tick ∷ xs) ys begins = begins

may_more : (item : Item) (q q' : QueueView) → IsArrival item q q' → MayChoose q → MayChoose q'
may_more item q q' comes may = subst (λ (a : QueueView). MayChoose a) (sym comes) (begins_more q.items (item ∷ []) may.0, may.1)

may_after : (b : Bool) (item : Item) (q q' : QueueView) → StepsTo b (IsArrival item) q q' → MayChoose q → MayChoose q'
may_after true item q q' comes may = may_more item q q' comes may
may_after false item q q' same may = subst (λ (a : QueueView). MayChoose a) (sym same) may

offered_ready : (op i : ℕ) (line : List ℕ) (u v : FairView) → IsOffered op line u v → ReadyAt u.queues i → ReadyAt v.queues i
offered_ready op i line u v is ready =
    let q' = one_at (IsArrival (items.Line line)) op i u.queues v.queues ready.0 is.queues ready.1 in
    (q'.0, q'.1, may_after (nat_eq op i) (items.Line line) ready.0 q'.0 q'.2 ready.2)

owner_offered_ready : (i : ℕ) (line : OwnerLine) (u v : FairView) → IsOwnerOffered line u v → ReadyAt u.queues i → ReadyAt v.queues i
owner_offered_ready i line u v is ready =
    let q' = all_at (IsArrival (items.Owner line.is_tick)) i u.queues v.queues ready.0 is.queues ready.1 in
    (q'.0, q'.1, may_more (items.Owner line.is_tick) ready.0 q'.0 q'.2 ready.2)

chosen_ready : (op i number : ℕ) (line : List ℕ) (u v : FairView) → IsChosen op number line u v → nat_eq op i ≡ false → ReadyAt u.queues i → ReadyAt v.queues i
chosen_ready op i number line u v is other ready =
    let q' = one_at_by (IsTaken line) op i u.queues v.queues ready.0 is.queues ready.1 false other in
    (q'.0, q'.1, subst (λ (a : QueueView). MayChoose a) (sym q'.2) ready.2)

-- op was next, i waits and is not before it, and i comes before j: so it does from behind op on
still_by : (turn i j op : ℕ) → ComesBefore turn i j → (ComesBefore turn i op → ⊥) → op ≢ i → (op < i) ⊎ (i ≤ op) → (op < j) ⊎ (j ≤ op) → (op < turn) ⊎ (turn ≤ op)
    → ComesBefore (op + 1) i j
still_by turn i j op (inl (a, b)) never other (inl c) d e = inl (omega (arith, c), b)
still_by turn i j op (inl (a, b)) never other (inr c) d e = absurd (never (inl (a, omega (arith, c, other))))
still_by turn i j op (inr (inl (a, b))) never other (inr c) d e = absurd (never (inl (b, omega (arith, c, other))))
still_by turn i j op (inr (inl (a, b))) never other (inl c) (inl d) e = absurd (never (inr (inl (omega (arith, d, a), b))))
still_by turn i j op (inr (inl (a, b))) never other (inl c) (inr d) e = inr (inl (omega (arith, d), omega (arith, c)))
still_by turn i j op (inr (inr (a, b))) never other (inl c) d e = inl (omega (arith, c), a)
still_by turn i j op (inr (inr (a, b))) never other (inr c) d (inl e) = absurd (never (inr (inr (omega (arith, c, other), e))))
still_by turn i j op (inr (inr (a, b))) never other (inr c) d (inr e) = inr (inr (a, omega (arith, b, e)))

still : (turn i j op : ℕ) → ComesBefore turn i j → (ComesBefore turn i op → ⊥) → op ≢ i → ComesBefore (op + 1) i j
still turn i j op before never other = still_by turn i j op before never other (cases_lt op i) (cases_lt op j) (cases_lt op turn)

behind_by : (i j : ℕ) → j ≢ i → (i < j) ⊎ (j ≤ i) → ComesBefore (j + 1) i j
behind_by i j other (inl less) = inr (inr (less, omega arith))
behind_by i j other (inr more) = inr (inl (omega arith, omega (arith, more, other)))

not_same : (op i : ℕ) → nat_eq op i ≡ false → op ≡ i → ⊥
not_same op i is e = absurd (grind (arith, nat_tests, is, e))

same_of : (op i : ℕ) → nat_eq op i ≡ true → op ≡ i
same_of op i is = grind (arith, nat_tests, is)

-- if what is counted stays 0, this was none
counted_by : (b : Bool) (n : ℕ) → (if b then suc n else n) ≡ 0 → (b ≡ false) × (n ≡ 0)
counted_by true n none = absurd (omega (arith, none))
counted_by false n none = (refl, none)

not_counted : (b : Bool) (n : ℕ) → (b ≡ true → ⊥) → n ≡ 0 → (if b then suc n else n) ≡ 0
not_counted true n never none = absurd (never refl)
not_counted false n never none = none

-- i waits and comes before j: no line of j is chosen before one of i
none_again : (i j : ℕ) (events : List FairEvent) (u v : FairView) → IsFairRun events u v → ReadyAt u.queues i → ComesBefore u.turn i j → times_chosen i events ≡ 0
    → (times_chosen j events ≡ 0) × (owner_chosen_times events ≡ 0)
none_again i j [] u v run ready before none = (refl, refl)
none_again i j (offered op line ∷ events) u v run ready before none =
    none_again i j events run.0 v run.2 (offered_ready op i line u run.0 run.1 ready) (subst (λ (n : ℕ). ComesBefore n i j) (sym (ap (λ (f : FairView). f.turn) run.1.new_is)) before) none
none_again i j (owner_offered line ∷ events) u v run ready before none =
    none_again i j events run.0 v run.2 (owner_offered_ready i line u run.0 run.1 ready) (subst (λ (n : ℕ). ComesBefore n i j) (sym (ap (λ (f : FairView). f.turn) run.1.new_is)) before) none
none_again i j (owner_chosen number line ∷ events) u v run ready before none = absurd (run.1.none i ready)
none_again i j (chosen op number line ∷ events) u v run ready before none =
    let counted = counted_by (nat_eq op i) (times_chosen i events) none in
    let never : ComesBefore u.turn i op → ⊥ = λ b. run.1.next.first i b ready in
    let turn : ComesBefore run.0.turn i j =
    subst (λ (n : ℕ). ComesBefore n i j) (sym (ap (λ (f : FairView). f.turn) run.1.new_is)) (still u.turn i j op before never (not_same op i counted.0)) in
    let later = none_again i j events run.0 v run.2 (chosen_ready op i number line u run.0 run.1 counted.0 ready) turn counted.1 in
    (not_counted (nat_eq op j) (times_chosen j events) (λ is. never (subst (λ (n : ℕ). ComesBefore u.turn i n) (sym (same_of op j is)) before)) later.0, later.1)

-- i waits: of j at most one line is chosen before one of i
once_more : (i j op number : ℕ) (line : List ℕ) (events : List FairEvent) (u mid v : FairView) → IsChosen op number line u mid → IsFairRun events mid v → nat_eq op i ≡ false
    → ReadyAt mid.queues i → times_chosen i events ≡ 0 → (times_chosen j events ≤ 1) × (owner_chosen_times events ≡ 0) → (b : Bool) → nat_eq op j ≡ b
    → ((if b then suc (times_chosen j events) else times_chosen j events) ≤ 1) × (owner_chosen_times events ≡ 0)
once_more i j op number line events u mid v step run other ready none later false is = later
once_more i j op number line events u mid v step run other ready none later true is =
    let here : op ≡ j = same_of op j is in
    let apart : j ≢ i = λ e. not_same op i other (here ∙ e) in
    let before : ComesBefore mid.turn i j =
    subst (λ (n : ℕ). ComesBefore n i j) (sym (ap (λ (f : FairView). f.turn) step.new_is)) (subst (λ (n : ℕ). ComesBefore (n + 1) i j) (sym here) (behind_by i j apart (cases_lt i j))) in
    let again = none_again i j events mid v run ready before none in
    (omega (arith, again.0), again.1)

turns : (i j : ℕ) (events : List FairEvent) (u v : FairView) → IsFairRun events u v → ReadyAt u.queues i → times_chosen i events ≡ 0
    → (times_chosen j events ≤ 1) × (owner_chosen_times events ≡ 0)
turns i j [] u v run ready none = (omega arith, refl)
turns i j (offered op line ∷ events) u v run ready none = turns i j events run.0 v run.2 (offered_ready op i line u run.0 run.1 ready) none
turns i j (owner_offered line ∷ events) u v run ready none = turns i j events run.0 v run.2 (owner_offered_ready i line u run.0 run.1 ready) none
turns i j (owner_chosen number line ∷ events) u v run ready none = absurd (run.1.none i ready)
turns i j (chosen op number line ∷ events) u v run ready none =
    let counted = counted_by (nat_eq op i) (times_chosen i events) none in
    let ready' = chosen_ready op i number line u run.0 run.1 counted.0 ready in
    once_more i j op number line events u run.0 v run.1 run.2 counted.0 ready' counted.1 (turns i j events run.0 v run.2 ready' counted.1) (nat_eq op j) refl

pub turns_are_taken : TurnsAreTaken
turns_are_taken i j events u v run ready none = turns i j events u v run ready none
