-- How many lines of a queue are chosen.
use Rattle.std.proofs.Common.{◌≡◌, ◌∙◌, refl, sym, ap, subst, arith, ℕ, ◌+◌, ◌-◌, ◌<◌, ◌≤◌, suc, List, [], ◌∷◌, ◌++◌, length, drop, Bool, true, false, Option, Some}
use Rattle.std.specs.Prelude.{◌^◌, min, slice_get, if◌then◌else◌}
use Rattle.fair_queue.specs.declared.line.Item.{Item}
use Rattle.fair_queue.specs.declared.line.Item.TheVariants as items
use Rattle.fair_queue.specs.Items.{QueueView, own_lines}
use Rattle.fair_queue.specs.Runs.{QueueEvent, came, went, QueueSteps, IsQueueRun, choices}
use Rattle.fair_queue.specs.Laws.{has_tick, LimitHolds, LinesAreNumbered}

head_same : {A : Type 0} (x y : A) (xs ys : List A) → x ∷ xs ≡ y ∷ ys → x ≡ y
head_same {A = A} x y xs ys e =
    let first : ◌≡◌ {A = Option A} (Some x) (Some y) = ap (λ l. slice_get l 0) e in cc

tail_same : {A : Type 0} (x y : A) (xs ys : List A) → x ∷ xs ≡ y ∷ ys → xs ≡ ys
tail_same x y xs ys e = ap (λ l. drop 1 l) e

-- ---- at most as many as the limit says

-- the count stays within the limit
came_few : (item : Item) (u mid : QueueView) → QueueSteps (came item) u mid → u.chosen ≤ u.limit → mid.chosen ≤ mid.limit
came_few item u mid is few = subst (λ (m : QueueView). m.chosen ≤ m.limit) (sym is) few

went_few : (item : Item) (u mid : QueueView) → QueueSteps (went item) u mid → u.chosen ≤ u.limit → mid.chosen ≤ mid.limit
went_few (items.Line line) u mid is few =
    let less : u.chosen + 1 ≤ u.limit = omega (arith, is.allowed) in
    subst (λ (m : QueueView). m.chosen ≤ m.limit) (sym is.new_is) less
went_few (items.Owner true) u mid is few =
    let none : 0 ≤ u.limit = omega arith in
    subst (λ (m : QueueView). m.chosen ≤ m.limit) (sym is.new_is) none
went_few (items.Owner false) u mid is few = subst (λ (m : QueueView). m.chosen ≤ m.limit) (sym is.new_is) few

same_limit : (event : QueueEvent) (u mid : QueueView) → QueueSteps event u mid → mid.limit ≡ u.limit
same_limit (came item) u mid is = ap (λ (m : QueueView). m.limit) is
same_limit (went (items.Line line)) u mid is = ap (λ (m : QueueView). m.limit) is.new_is
same_limit (went (items.Owner tick)) u mid is = ap (λ (m : QueueView). m.limit) is.new_is

-- so many lines are chosen before the next tick
from_here : (events : List QueueEvent) (u v : QueueView) (between after : List Item) → u.chosen ≤ u.limit → IsQueueRun events u v → choices events ≡ between ++ after
    → has_tick between ≡ false → u.chosen + length (own_lines between) ≤ u.limit
from_here events u v [] after few run are none = omega (arith, few)
from_here [] u v (item ∷ between) after few run are none = let wrong : ◌≡◌ {A = List Item} [] (item ∷ (between ++ after)) = are in cc
from_here (came new ∷ events) u v (item ∷ between) after few run are none =
    let count : run.0.chosen ≡ u.chosen = ap (λ (m : QueueView). m.chosen) run.1 in
    let later = from_here events run.0 v (item ∷ between) after (came_few new u run.0 run.1 few) run.2 are none in
    omega (arith, later, count, same_limit (came new) u run.0 run.1)
from_here (went (items.Line line) ∷ events) u v (item ∷ between) after few run are none =
    let same : items.Line line ≡ item = head_same (items.Line line) item (choices events) (between ++ after) are in
    let rest : choices events ≡ between ++ after = tail_same (items.Line line) item (choices events) (between ++ after) are in
    let free : has_tick between ≡ false = subst (λ (x : Item). has_tick (x ∷ between) ≡ false) (sym same) none in
    let count : run.0.chosen ≡ u.chosen + 1 = ap (λ (m : QueueView). m.chosen) run.1.new_is in
    let later = from_here events run.0 v between after (went_few (items.Line line) u run.0 run.1 few) run.2 rest free in
    subst (λ (x : Item). u.chosen + length (own_lines (x ∷ between)) ≤ u.limit) same
    (omega (arith, later, count, same_limit (went (items.Line line)) u run.0 run.1))
from_here (went (items.Owner true) ∷ events) u v (item ∷ between) after few run are none =
    let same : items.Owner true ≡ item = head_same (items.Owner true) item (choices events) (between ++ after) are in
    let wrong : true ≡ false = subst (λ (x : Item). has_tick (x ∷ between) ≡ false) (sym same) none in cc
from_here (went (items.Owner false) ∷ events) u v (item ∷ between) after few run are none =
    let same : items.Owner false ≡ item = head_same (items.Owner false) item (choices events) (between ++ after) are in
    let rest : choices events ≡ between ++ after = tail_same (items.Owner false) item (choices events) (between ++ after) are in
    let free : has_tick between ≡ false = subst (λ (x : Item). has_tick (x ∷ between) ≡ false) (sym same) none in
    let count : run.0.chosen ≡ u.chosen = ap (λ (m : QueueView). m.chosen) run.1.new_is in
    let later = from_here events run.0 v between after (went_few (items.Owner false) u run.0 run.1 few) run.2 rest free in
    subst (λ (x : Item). u.chosen + length (own_lines (x ∷ between)) ≤ u.limit) same
    (omega (arith, later, count, same_limit (went (items.Owner false)) u run.0 run.1))

pub limit_holds : LimitHolds
limit_holds events u v [] between after few run are none = omega (arith, from_here events u v between after few run are none)
limit_holds [] u v (item ∷ before) between after few run are none = let wrong : ◌≡◌ {A = List Item} [] (item ∷ (before ++ (between ++ after))) = are in cc
limit_holds (came new ∷ events) u v (item ∷ before) between after few run are none =
    let later = limit_holds events run.0 v (item ∷ before) between after (came_few new u run.0 run.1 few) run.2 are none in
    omega (arith, later, same_limit (came new) u run.0 run.1)
limit_holds (went new ∷ events) u v (item ∷ before) between after few run are none =
    let rest : choices events ≡ before ++ (between ++ after) = tail_same new item (choices events) (before ++ (between ++ after)) are in
    let later = limit_holds events run.0 v before between after (went_few new u run.0 run.1 few) run.2 rest none in
    omega (arith, later, same_limit (went new) u run.0 run.1)

-- ---- numbers

number_more : (n k c : ℕ) → min (min (n + 1) c + k) c ≡ min (n + suc k) c
number_more n k c = omega arith

counted : (events : List QueueEvent) (u v : QueueView) → u.taken ≤ 2 ^ 64 - 1 → IsQueueRun events u v → v.taken ≡ min (u.taken + length (own_lines (choices events))) (2 ^ 64 - 1)
counted [] u v few run = ap (λ (m : QueueView). m.taken) run ∙ omega (arith, few)
counted (came item ∷ events) u v few run =
    let same : run.0.taken ≡ u.taken = ap (λ (m : QueueView). m.taken) run.1 in
    counted events run.0 v (subst (λ n. n ≤ 2 ^ 64 - 1) (sym same) few) run.2 ∙ ap (λ n. min (n + length (own_lines (choices events))) (2 ^ 64 - 1)) same
counted (went (items.Line line) ∷ events) u v few run =
    let next : run.0.taken ≡ min (u.taken + 1) (2 ^ 64 - 1) = ap (λ (m : QueueView). m.taken) run.1.new_is in
    let few' : min (u.taken + 1) (2 ^ 64 - 1) ≤ 2 ^ 64 - 1 = omega arith in
    counted events run.0 v (subst (λ n. n ≤ 2 ^ 64 - 1) (sym next) few') run.2
    ∙ (ap (λ n. min (n + length (own_lines (choices events))) (2 ^ 64 - 1)) next ∙ number_more u.taken (length (own_lines (choices events))) (2 ^ 64 - 1))
counted (went (items.Owner tick) ∷ events) u v few run =
    let same : run.0.taken ≡ u.taken = ap (λ (m : QueueView). m.taken) run.1.new_is in
    counted events run.0 v (subst (λ n. n ≤ 2 ^ 64 - 1) (sym same) few) run.2 ∙ ap (λ n. min (n + length (own_lines (choices events))) (2 ^ 64 - 1)) same

pub lines_are_numbered : LinesAreNumbered
lines_are_numbered events u v few run = counted events u v (omega (arith, few)) run
