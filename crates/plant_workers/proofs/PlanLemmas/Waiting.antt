-- How many frames wait, step by step.
use Rattle.std.proofs.Common.{◌≡◌, ℕ, ◌+◌, ◌-◌, ◌<◌, ◌≤◌, Bool, false, List, [], length, take, replicate, Some, None, Option, ◌⊎◌, inl, inr, refl, sym, ap, ◌∙◌, arith}
use Rattle.plant_workers.proofs.PlanLemmas.Common.{slice_get, slice_set, slice_index, if◌then◌else◌, cases_eq, eq-eqb, ne_eqb, lt-ltb, le-ltb, length-set, length-take-le, get_or-set_other, take-replicate, length-replicate, get_or-replicate, count_by-le-length, PlantFields, Step, is_collect, collects_of, is_tick_of, ticks_of, CoreFault, AreWaiting, past, all_collected}
use Rattle.std.proofs.lemmas.Grind.{get_or-set_at}
use Rattle.run_model.specs.declared.step.Step.TheVariants as steps
use Rattle.plant_core.specs.declared.live.core_fault.CoreFault.TheVariants.{UnknownOperator, NothingToCollect}
use Rattle.plant_workers.proofs.PlanLemmas.Counts.{one_more, no_more}

module _ (operators : ℕ) (all : List Step) (at : ℕ) (waiting : List ℕ) (are : AreWaiting operators (take at all) waiting) where
  pub stay : (step : Step) → slice_get all at ≡ Some step → ((i : ℕ) → is_tick_of i step ≡ false) → ((i : ℕ) → is_collect i step ≡ false) → AreWaiting operators (take (at + 1) all) waiting
  stay step here no_tick no_collect = record {
    one_each = are.one_each;
    counts = λ op lt.
        let t = no_more (is_tick_of op) all at step here (no_tick op) in
        let c = no_more (is_collect op) all at step here (no_collect op) in
        omega (arith, are.counts op lt, t, c);
  }

  pub few : (op : ℕ) → op < operators → at ≤ length all → slice_index waiting op ≤ at
  few op lt within =
      let most = count_by-le-length (is_tick_of op) (take at all) in
      let long = length-take-le at all within in
      omega (arith, most, long, are.counts op lt)

  module _ (op : ℕ) (lt : op < operators) where
    pub ticked : slice_get all at ≡ Some (steps.Tick op) → AreWaiting operators (take (at + 1) all) (slice_set waiting op (slice_index waiting op + 1))
    ticked here = record { one_each = length-set waiting op (slice_index waiting op + 1) ∙ are.one_each; counts = λ i below. by i below (cases_eq i op) }
      where
        by : (i : ℕ) → i < operators → (i ≡ op) ⊎ (i ≡ op → ⊥) → slice_index (slice_set waiting op (slice_index waiting op + 1)) i + collects_of i (take (at + 1) all) ≡ ticks_of i (take (at + 1) all)
        by i below (inl same) =
            let t = one_more (is_tick_of i) all at (steps.Tick op) here (eq-eqb op i (sym same)) in
            let c = no_more (is_collect i) all at (steps.Tick op) here refl in
            let s = get_or-set_at waiting op i (slice_index waiting op + 1) 0 same (omega (arith, lt, are.one_each)) in
            let was : slice_index waiting i ≡ slice_index waiting op = ap (slice_index waiting) same in
            omega (arith, t, c, s, was, are.counts i below)
        by i below (inr other) =
            let t = no_more (is_tick_of i) all at (steps.Tick op) here (ne_eqb op i (λ e. other (sym e))) in
            let c = no_more (is_collect i) all at (steps.Tick op) here refl in
            let s = get_or-set_other waiting op i (slice_index waiting op + 1) 0 other in
            omega (arith, t, c, s, are.counts i below)

    pub collected : slice_get all at ≡ Some (steps.Collect op) → 0 < slice_index waiting op → AreWaiting operators (take (at + 1) all) (slice_set waiting op (slice_index waiting op - 1))
    collected here some = record { one_each = length-set waiting op (slice_index waiting op - 1) ∙ are.one_each; counts = λ i below. by i below (cases_eq i op) }
      where
        by : (i : ℕ) → i < operators → (i ≡ op) ⊎ (i ≡ op → ⊥) → slice_index (slice_set waiting op (slice_index waiting op - 1)) i + collects_of i (take (at + 1) all) ≡ ticks_of i (take (at + 1) all)
        by i below (inl same) =
            let t = no_more (is_tick_of i) all at (steps.Collect op) here refl in
            let c = one_more (is_collect i) all at (steps.Collect op) here (eq-eqb op i (sym same)) in
            let s = get_or-set_at waiting op i (slice_index waiting op - 1) 0 same (omega (arith, lt, are.one_each)) in
            let was : slice_index waiting i ≡ slice_index waiting op = ap (slice_index waiting) same in
            omega (arith, t, c, s, was, some, are.counts i below)
        by i below (inr other) =
            let t = no_more (is_tick_of i) all at (steps.Collect op) here refl in
            let c = no_more (is_collect i) all at (steps.Collect op) here (ne_eqb op i (λ e. other (sym e))) in
            let s = get_or-set_other waiting op i (slice_index waiting op - 1) 0 other in
            omega (arith, t, c, s, are.counts i below)

    pub none_left : slice_index waiting op ≡ 0 → all_collected (take at all) op ≡ Some (NothingToCollect op)
    none_left none =
        ap (λ (b : Bool). if b then None else Some (NothingToCollect op)) (le-ltb (collects_of op (take at all)) (ticks_of op (take at all)) (omega (arith, none, are.counts op lt)))

    pub some_left : 0 < slice_index waiting op → all_collected (take at all) op ≡ None
    some_left some =
        ap (λ (b : Bool). if b then None else Some (NothingToCollect op)) (lt-ltb (collects_of op (take at all)) (ticks_of op (take at all)) (omega (arith, some, are.counts op lt)))

-- before the first step no frame waits
pub none_waits : (n operators : ℕ) → operators ≤ n → AreWaiting operators [] (take operators (replicate n 0))
none_waits n operators le = record {
  one_each = ap (λ (zs : List ℕ). length zs) (take-replicate operators n 0 le) ∙ length-replicate operators 0;
  counts = λ op lt.
      let none : slice_index (take operators (replicate n 0)) op ≡ 0 = ap (λ (zs : List ℕ). slice_index zs op) (take-replicate operators n 0 le) ∙ get_or-replicate operators op 0 0 lt in
      omega (arith, none);
}

-- an operator that is there, and one that is not
module _ (plant : PlantFields) (op : ℕ) (other : Option CoreFault) where
  pub there : op < length plant.rows → past plant op other ≡ other
  there lt = ap (λ (b : Bool). if b then other else Some (UnknownOperator op)) (lt-ltb op (length plant.rows) lt)

  pub not_there : length plant.rows ≤ op → past plant op other ≡ Some (UnknownOperator op)
  not_there le = ap (λ (b : Bool). if b then other else Some (UnknownOperator op)) (le-ltb op (length plant.rows) le)
