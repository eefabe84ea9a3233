-- Lines that are taken one after the other.
use Rattle.std.proofs.Common.{◌≡◌, ◌∙◌, refl, sym, ap, subst, arith, ℕ, suc, List, [], ◌∷◌, ◌++◌, length, map, drop, Bool, true, false, Option, Some, append-nil}
use Rattle.std.specs.Prelude.{slice_get, ⊤}
use Rattle.std.proofs.lemmas.List.{append_assoc}
use Rattle.fair_queue.specs.declared.fair_queue.Choice.{Choice}
use Rattle.fair_queue.specs.declared.fair_queue.Choice.TheVariants as choices
use Rattle.fair_queue.specs.Fair.{FairView, FairEvent, FairStep, IsFairRun, IsChoice}
use Rattle.line_intake.specs.Batches.{choice_event, is_tick_choice, IsBatchTaken}

same_head : {A : Type 0} (x y : A) (xs ys : List A) → x ∷ xs ≡ y ∷ ys → x ≡ y
same_head {A = A} x y xs ys e =
    let first : ◌≡◌ {A = Option A} (Some x) (Some y) = ap (λ l. slice_get l 0) e in cc

same_tail : {A : Type 0} (x y : A) (xs ys : List A) → x ∷ xs ≡ y ∷ ys → xs ≡ ys
same_tail x y xs ys e = ap (λ l. drop 1 l) e

not_empty : {A : Type 0} (xs : List A) (y : A) (ys : List A) → [] ≡ xs ++ y ∷ ys → ⊥
not_empty {A = A} [] y ys e = let wrong : ◌≡◌ {A = List A} [] (y ∷ ys) = e in cc
not_empty {A = A} (x ∷ xs) y ys e = let wrong : ◌≡◌ {A = List A} [] (x ∷ (xs ++ y ∷ ys)) = e in cc

-- none of these lines is a tick
abbrev pub HaveNoTick : List Choice → Type 0
HaveNoTick [] = ⊤
HaveNoTick (choice ∷ more) = (is_tick_choice choice ≡ false) × HaveNoTick more

no_tick_more : (taken : List Choice) (choice : Choice) → HaveNoTick taken → is_tick_choice choice ≡ false → HaveNoTick (taken ++ choice ∷ [])
no_tick_more [] choice none is = (is, tt)
no_tick_more (first ∷ taken) choice none is = (none.0, no_tick_more taken choice none.1 is)

last_of_none : (taken first : List Choice) (choice : Choice) (more : List Choice) → HaveNoTick taken → taken ≡ first ++ choice ∷ more → is_tick_choice choice ≡ true → more ≡ []
last_of_none [] first choice more none are is = absurd (not_empty first choice more are)
last_of_none (line ∷ taken) [] choice more none are is =
    let same : line ≡ choice = same_head line choice taken more are in
    let wrong : false ≡ true = sym none.0 ∙ (ap is_tick_choice same ∙ is) in cc
last_of_none (line ∷ taken) (other ∷ first) choice more none are is =
    last_of_none taken first choice more none.1 (same_tail line other taken (first ++ choice ∷ more) are) is

last_of_more : (taken : List Choice) (last : Choice) (first : List Choice) (choice : Choice) (more : List Choice) → HaveNoTick taken → taken ++ last ∷ [] ≡ first ++ choice ∷ more
    → is_tick_choice choice ≡ true → more ≡ []
last_of_more [] last [] choice more none are is = sym (same_tail last choice [] more are)
last_of_more [] last (other ∷ first) choice more none are is = absurd (not_empty first choice more (same_tail last other [] (first ++ choice ∷ more) are))
last_of_more (line ∷ taken) last [] choice more none are is =
    let same : line ≡ choice = same_head line choice (taken ++ last ∷ []) more are in
    let wrong : false ≡ true = sym none.0 ∙ (ap is_tick_choice same ∙ is) in cc
last_of_more (line ∷ taken) last (other ∷ first) choice more none are is =
    last_of_more taken last first choice more none.1 (same_tail line other (taken ++ last ∷ []) (first ++ choice ∷ more) are) is

step_of : (choice : Choice) (u v : FairView) → IsChoice choice u v → FairStep (choice_event choice) u v
step_of (choices.Operator op number line) u v is = is
step_of (choices.Owner number line) u v is = is

run_more : (taken : List Choice) (choice : Choice) (u v w : FairView) → IsFairRun (map choice_event taken) u v → IsChoice choice v w
    → IsFairRun (map choice_event (taken ++ choice ∷ [])) u w
run_more [] choice u v w run is = (w, subst (λ (a : FairView). FairStep (choice_event choice) a w) run (step_of choice v w is), refl)
run_more (first ∷ taken) choice u v w run is = (run.0, run.1, run_more taken choice run.0 v w run.2 is)

-- these lines are taken so far, and none of them is a tick
pub record SoTaken (before now : List Choice) (old new : FairView) : Type 0 where
  pub taken : List Choice
  pub all : now ≡ before ++ taken
  pub run : IsFairRun (map choice_event taken) old new
  pub none : HaveNoTick taken

pub begun : (before : List Choice) (old : FairView) → SoTaken before before old old
begun before old = record { taken = []; all = sym (append-nil before); run = refl; none = tt }

pub one_more : (before now now' : List Choice) (choice : Choice) (old mid new : FairView) → SoTaken before now old mid → IsChoice choice mid new → is_tick_choice choice ≡ false
    → now' ≡ now ++ choice ∷ [] → SoTaken before now' old new
one_more before now now' choice old mid new so is plain are = record {
  taken = so.taken ++ choice ∷ [];
  all = are ∙ (ap (λ l. l ++ choice ∷ []) so.all ∙ append_assoc before so.taken (choice ∷ []));
  run = run_more so.taken choice old mid new so.run is;
  none = no_tick_more so.taken choice so.none plain;
}

pub with_last : (before now now' : List Choice) (choice : Choice) (old mid new : FairView) → SoTaken before now old mid → IsChoice choice mid new
    → now' ≡ now ++ choice ∷ [] → IsBatchTaken before now' old new
with_last before now now' choice old mid new so is are = record {
  taken = so.taken ++ choice ∷ [];
  all = are ∙ (ap (λ l. l ++ choice ∷ []) so.all ∙ append_assoc before so.taken (choice ∷ []));
  run = run_more so.taken choice old mid new so.run is;
  last = λ first tick more split. last_of_more so.taken choice first tick more so.none split;
}

pub all_taken : (before now : List Choice) (old mid new : FairView) → SoTaken before now old mid → new ≡ mid → IsBatchTaken before now old new
all_taken before now old mid new so same = record {
  taken = so.taken;
  all = so.all;
  run = subst (λ (v : FairView). IsFairRun (map choice_event so.taken) old v) (sym same) so.run;
  last = λ first tick more split. last_of_none so.taken first tick more so.none split;
}
