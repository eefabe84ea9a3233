-- A run has one capture: how its outputs are divided among its steps is determined.
use Rattle.pcap_capture.proofs.Common.{◌≡◌, ℕ, ◌+◌, List, [], ◌∷◌, ◌++◌, map, length, take, drop, Option, Some, None, false, refl, flat_map, take-append_seam, drop-append_seam, PlantFields, Step, Out, outputs_under, is_collect, isolated_run, IsLeast, IsTraceOf, target, IsCollected, AreOwn, IsTold, AreInOrder, Ordered, Clock, Packet, file_of, CaptureView, Turn, clock_of, sent_in, told_in, packets_of, HaveOwnOutputs, IsCaptureOf}
use Rattle.std.proofs.Common.{arith, sym, ◌∙◌, ap, subst, append_assoc, append-nil}
use Rattle.plant.specs.declared.operator_row.RowFields.{RowFields}
use Rattle.operator_model.specs.declared.action.Action.{Action}
use Rattle.operator_model.specs.State.{operator}
use Rattle.operator_model.specs.Machine.{own_step}
use Rattle.run_model.specs.declared.step.Step.TheVariants as steps
use Rattle.run_model.specs.declared.step.Out.TheVariants as outs
use Rattle.run_model.proofs.Kept.{collects_same, one_least}

-- ---- lists

-- equal lists have equal fronts of equal length, and equal rests after them
same_front : {A : Type 0} (a b c d : List A) → length a ≡ length b → a ++ c ≡ b ++ d → a ≡ b
same_front a b c d long is = sym (take-append_seam a c) ∙ ap (take (length a)) is ∙ ap (λ (n : ℕ). take n (b ++ d)) long ∙ take-append_seam b d

same_back : {A : Type 0} (a b c d : List A) → length a ≡ length b → a ++ c ≡ b ++ d → c ≡ d
same_back a b c d long is = sym (drop-append_seam a c) ∙ ap (drop (length a)) is ∙ ap (λ (n : ℕ). drop n (b ++ d)) long ∙ drop-append_seam b d

-- ---- the outputs of one step

same_own : (plant : PlantFields) (before : List Step) (i : ℕ) (action : Action) (a b : List Out) → AreOwn plant before i action a
    → AreOwn plant before i action b → a ≡ b
same_own plant before i action a b x y =
    let row : x.row ≡ y.row = let e : Some x.row ≡ Some y.row = sym x.row_is ∙ y.row_is in cc in
    x.outputs
    ∙ (ap (λ (r : RowFields). outputs_under i (own_step (operator plant.consts r (isolated_run plant.consts r i before).state) action).outputs) row
    ∙ sym y.outputs)

not_both : (plant : PlantFields) (after : List Step) (n : ℕ) → IsLeast plant after n → IsLeast plant after (n + 1) → ⊥
not_both plant after n a b = let e = one_least plant after n (n + 1) a b in absurd (omega (arith, e))

-- the number of MAPs that a collection gives is determined
as_many : (plant : PlantFields) (before after : List Step) (n : ℕ) (a b : List Out) → IsLeast plant before n
    → IsCollected plant before after a → IsCollected plant before after b → length a ≡ length b
as_many plant before after n [] [] least x y = refl
as_many plant before after n [] (outs.Map made ∷ []) least x y = absurd (not_both plant after n (x n least) (y n least))
as_many plant before after n [] (outs.Map made ∷ out ∷ more) least x y = absurd y
as_many plant before after n [] (outs.Of op output ∷ more) least x y = absurd y
as_many plant before after n (outs.Map made ∷ []) [] least x y = absurd (not_both plant after n (y n least) (x n least))
as_many plant before after n (outs.Map made ∷ []) (outs.Map other ∷ []) least x y = refl
as_many plant before after n (outs.Map made ∷ []) (outs.Map other ∷ out ∷ more) least x y = absurd y
as_many plant before after n (outs.Map made ∷ []) (outs.Of op output ∷ more) least x y = absurd y
as_many plant before after n (outs.Map made ∷ out ∷ more) b least x y = absurd x
as_many plant before after n (outs.Of op output ∷ more) b least x y = absurd x

-- the number of a step's outputs is determined
same_told : (plant : PlantFields) (before : List Step) (step : Step) (goal : Option (ℕ × Action)) (n : ℕ) (a b : List Out) → IsLeast plant before n
    → IsTold plant before step goal a → IsTold plant before step goal b → length a ≡ length b
same_told plant before step (Some goal) n a b least x y = ap length (same_own plant before goal.0 goal.1 a b x y)
same_told plant before (steps.Arrive modem heard) None n a b least x y = absurd x
same_told plant before (steps.Work op) None n a b least x y = absurd x
same_told plant before (steps.Tick op) None n a b least x y = absurd x
same_told plant before (steps.Collect op) None n a b least x y = as_many plant before (before ++ steps.Collect op ∷ []) n a b least x y
same_told plant before (steps.Reslice from rows) None n a b least x y = ap length (x ∙ sym y)

-- ---- collections

-- there is a least number of collections after these steps
record HasLeast (plant : PlantFields) (after : List Step) : Type 0 where
  pub count : ℕ
  pub is : IsLeast plant after count

least_kept : (plant : PlantFields) (before : List Step) (step : Step) (n : ℕ) → ((i : ℕ) → is_collect i step ≡ false) → IsLeast plant before n
    → HasLeast plant (before ++ step ∷ [])
least_kept plant before step n others least = record {
  count = n;
  is = record {
    at_most = λ i within. let p = least.at_most i within in let q = collects_same i before step (others i) in omega (arith, p, q);
    one = (least.one.0, least.one.1, collects_same least.one.0 before step (others least.one.0) ∙ least.one.2);
  };
}

least_collected : (plant : PlantFields) (before after : List Step) (n : ℕ) (now : List Out) → IsLeast plant before n → IsCollected plant before after now
    → HasLeast plant after
least_collected plant before after n [] least told = record { count = n; is = told n least }
least_collected plant before after n (outs.Map made ∷ []) least told = record { count = n + 1; is = told n least }
least_collected plant before after n (outs.Map made ∷ out ∷ more) least told = absurd told
least_collected plant before after n (outs.Of op output ∷ more) least told = absurd told

least_after : (plant : PlantFields) (before : List Step) (step : Step) (n : ℕ) (now : List Out) → IsLeast plant before n
    → IsTold plant before step (target plant step) now → HasLeast plant (before ++ step ∷ [])
least_after plant before (steps.Arrive modem heard) n now least told = least_kept plant before _ n (λ i. refl) least
least_after plant before (steps.Work op) n now least told = least_kept plant before _ n (λ i. refl) least
least_after plant before (steps.Tick op) n now least told = least_kept plant before _ n (λ i. refl) least
least_after plant before (steps.Collect op) n now least told = least_collected plant before _ n now least told
least_after plant before (steps.Reslice from rows) n now least told = least_kept plant before _ n (λ i. refl) least

-- no operator's frames are collected before the first step
least_first : (plant : PlantFields) (all : List Step) (outs : List Out) → IsTraceOf plant all outs → IsLeast plant [] 0
least_first plant all outs shown = record {
  at_most = λ i within. omega arith;
  one = (shown.maps.count.one.0, shown.maps.count.one.1, refl);
}

-- ---- the last step's outputs

-- where a run is in order, what follows its first steps and their outputs is in order after them
later_told : (plant : PlantFields) (before : List Step) (n : ℕ) (done later : List Step) (xs ys : List Out) → IsLeast plant before n
    → AreInOrder plant before done xs → AreInOrder plant before (done ++ later) (xs ++ ys) → AreInOrder plant (before ++ done) later ys
later_told plant before n [] later xs ys least a b =
    subst (λ (s : List Step). AreInOrder plant s later ys) (sym (append-nil before))
    (subst (λ (os : List Out). AreInOrder plant before later (os ++ ys)) a b)
later_told plant before n (step ∷ done) later xs ys least a b =
    let long : length a.0 ≡ length b.0 = same_told plant before step (target plant step) n a.0 b.0 least a.3 b.3 in
    let cut : a.0 ++ (a.1 ++ ys) ≡ b.0 ++ b.1 = sym (append_assoc a.0 a.1 ys) ∙ (sym (ap (λ (os : List Out). os ++ ys) a.2) ∙ b.2) in
    let rest : a.1 ++ ys ≡ b.1 = same_back a.0 b.0 (a.1 ++ ys) b.1 long cut in
    let then : HasLeast plant (before ++ step ∷ []) = least_after plant before step n a.0 least a.3 in
    subst (λ (s : List Step). AreInOrder plant s later ys) (append_assoc before (step ∷ []) done)
    (later_told plant (before ++ step ∷ []) then.count done later a.1 ys then.is a.4
    (subst (λ (os : List Out). AreInOrder plant (before ++ step ∷ []) (done ++ later) os) (sym rest) b.4))

pub last_told : (plant : PlantFields) (before : List Step) (outs : List Out) (step : Step) (now : List Out) → IsTraceOf plant before outs
    → Ordered plant before outs → Ordered plant (before ++ step ∷ []) (outs ++ now) → IsTold plant before step (target plant step) now
last_told plant before outs step now shown one more =
    let last : AreInOrder plant before (step ∷ []) now = later_told plant [] 0 before (step ∷ []) outs now (least_first plant before outs shown) one more in
    subst (λ (os : List Out). IsTold plant before step (target plant step) os)
    (sym (last.2 ∙ (ap (λ (os : List Out). last.0 ++ os) last.4 ∙ append-nil last.0))) last.3

-- ---- a capture exists

-- the outputs of a run, step by step
record HasTurns (plant : PlantFields) (before all : List Step) (outs : List Out) : Type 0 where
  pub turns : List Turn
  pub steps_are : map (λ turn. turn.step) turns ≡ all
  pub outs_are : flat_map (λ turn. turn.outs) turns ≡ outs
  pub own : HaveOwnOutputs plant before turns

turns_of : (plant : PlantFields) (before all : List Step) (outs : List Out) → AreInOrder plant before all outs → HasTurns plant before all outs
turns_of plant before [] outs is = record { turns = []; steps_are = refl; outs_are = sym is; own = tt }
turns_of plant before (step ∷ later) outs is =
    let rest : HasTurns plant (before ++ step ∷ []) later is.1 = turns_of plant (before ++ step ∷ []) later is.1 is.4 in
    record {
      turns = record { step = step; outs = is.0 } ∷ rest.turns;
      steps_are = ap (λ (l : List Step). step ∷ l) rest.steps_are;
      outs_are = ap (λ (l : List Out). is.0 ++ l) rest.outs_are ∙ sym is.2;
      own = (is.3, rest.own);
    }

pub some_capture : (plant : PlantFields) (all : List Step) (outs : List Out) → Ordered plant all outs
    → (bytes : List ℕ) × IsCaptureOf plant all outs bytes
some_capture plant all outs is =
    let t : HasTurns plant [] all outs = turns_of plant [] all outs is in
    let captured : CaptureView = record { clock = clock_of plant.consts; packets = flat_map packets_of t.turns } in (
      file_of captured.clock captured.packets,
      record {
        captured = captured;
        of_run = record { turns = t.turns; steps_are = t.steps_are; outs_are = t.outs_are; own = t.own; clock_is = refl; packets_are = refl };
        bytes_are = refl;
      },
    )

-- ---- no other capture

same_packets : (plant : PlantFields) (before : List Step) (n : ℕ) (xs ys : List Turn) → IsLeast plant before n
    → map (λ (t : Turn). t.step) xs ≡ map (λ (t : Turn). t.step) ys → flat_map (λ (t : Turn). t.outs) xs ≡ flat_map (λ (t : Turn). t.outs) ys
    → HaveOwnOutputs plant before xs → HaveOwnOutputs plant before ys → flat_map packets_of xs ≡ flat_map packets_of ys
same_packets plant before n [] [] least steps_are outs_are a b = refl
same_packets plant before n [] (y ∷ ys) least steps_are outs_are a b = cc
same_packets plant before n (x ∷ xs) [] least steps_are outs_are a b = cc
same_packets plant before n (x ∷ xs) (y ∷ ys) least steps_are outs_are a b =
    let step : x.step ≡ y.step = cc in
    let later : map (λ (t : Turn). t.step) xs ≡ map (λ (t : Turn). t.step) ys = cc in
    let told : IsTold plant before x.step (target plant x.step) y.outs =
    subst (λ (s : Step). IsTold plant before s (target plant s) y.outs) (sym step) b.0 in
    let long : length x.outs ≡ length y.outs = same_told plant before x.step (target plant x.step) n x.outs y.outs least a.0 told in
    let now : x.outs ≡ y.outs = same_front x.outs y.outs _ _ long outs_are in
    let then : HasLeast plant (before ++ x.step ∷ []) = least_after plant before x.step n x.outs least a.0 in
    let rest : flat_map packets_of xs ≡ flat_map packets_of ys =
    same_packets plant (before ++ x.step ∷ []) then.count xs ys then.is later (same_back x.outs y.outs _ _ long outs_are) a.1
    (subst (λ (s : Step). HaveOwnOutputs plant (before ++ s ∷ []) ys) (sym step) b.1) in
    ap (λ (l : List Packet). packets_of x ++ l) rest
    ∙ (ap (λ (s : Step). (sent_in s ++ flat_map told_in x.outs) ++ flat_map packets_of ys) step
    ∙ ap (λ (os : List Out). (sent_in y.step ++ flat_map told_in os) ++ flat_map packets_of ys) now)

pub one_capture : (plant : PlantFields) (all : List Step) (outs : List Out) (one other : List ℕ) → IsTraceOf plant all outs
    → IsCaptureOf plant all outs one → IsCaptureOf plant all outs other → one ≡ other
one_capture plant all outs one other shown a b =
    let packets : a.captured.packets ≡ b.captured.packets =
    a.of_run.packets_are
    ∙ (same_packets plant [] 0 a.of_run.turns b.of_run.turns (least_first plant all outs shown) (a.of_run.steps_are ∙ sym b.of_run.steps_are)
    (a.of_run.outs_are ∙ sym b.of_run.outs_are) a.of_run.own b.of_run.own
    ∙ sym b.of_run.packets_are) in
    a.bytes_are
    ∙ (ap (λ (c : Clock). file_of c a.captured.packets) (a.of_run.clock_is ∙ sym b.of_run.clock_is)
    ∙ (ap (λ (l : List Packet). file_of b.captured.clock l) packets ∙ sym b.bytes_are))
