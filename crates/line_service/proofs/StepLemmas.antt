-- The steps of a line, one after the other.
use Rattle.line_service.proofs.Common.{Start, first_start, Appends, Appends-nil, Appends-trans, map-append, flat_map-append, PlantFields, Step, Out, CoreView, step_fault, IsReported, IsAfter, IsAfterFrom, IsReachableFromStart, LineStep, steps_without_numbers, out_line, outs_text, StepsEnd, IsHalfDone, steps_end, IsStepsEndAt, HasDone}
use Rattle.std.proofs.Common.{◌≡◌, ◌≢◌, Result, Ok, OnOk, OnErr, ℕ, zero, suc, List, [], ◌∷◌, ◌++◌, All, drop, take, Option, Some, IsSome, Err, refl, sym, ap, subst, ◌∙◌, append_assoc, append-nil}
use Rattle.plant_core.specs.declared.live.core_fault.CoreFault.{CoreFault}
use Rattle.plant_core.specs.declared.live.core_fault.CoreFault.TheVariants.{UnknownModem, UnknownOperator, Book, Gather, NothingToCollect, NoMemory, Reslice}
use Rattle.line_service.specs.declared.steps_end.StepsEnd.TheVariants as ends
use Rattle.run_model.specs.Placed.{IsPlaced}
use Rattle.line_service.specs.script.Script.{ArePlaced}
use Rattle.std.proofs.lemmas.List.Elements.{All-head, All-drop}
use Rattle.line_service.proofs.LeftLemmas.{first_left, none_left, take_next, drop_next}

-- ---- one step more

-- what a run leads to is of its plant
pub after_plant : (plant : PlantFields) (start : Start) (steps : List Step) (outs : List Out) (live : CoreView) → IsAfterFrom plant start steps outs live → live.plant ≡ plant
after_plant plant start steps outs live after = after.plant_is

-- nothing is done yet
pub none_done : (plant : PlantFields) (start : Start) (before : List Step) (shown : List Out) (steps : List LineStep) (live : CoreView) (known : Option (List ℕ))
    → IsAfterFrom plant start before shown live → IsHalfDone plant start before shown steps live known known steps
none_done plant start before shown steps live known after = record {
  at = zero;
  told = [];
  after = subst (λ (s : List Step). IsAfterFrom plant start s (shown ++ []) live) (sym (append-nil before)) (subst (λ (o : List Out). IsAfterFrom plant start before o live) (sym (append-nil shown)) after);
  written = Appends-nil known;
  left_are = refl;
}

-- the next step is placed, as all are
pub next_is_placed : (plant : PlantFields) (steps : List LineStep) (at : ℕ) (line : LineStep) (rest : List LineStep) → ArePlaced plant steps → drop at steps ≡ line ∷ rest
    → IsPlaced plant line.step line.place
next_is_placed plant steps at line rest placed is =
    let Placed : LineStep → Type 0 = λ l. IsPlaced plant l.step l.place in
    All-head Placed line rest (subst (λ (left : List LineStep). All Placed left) is (All-drop Placed at steps placed))

-- a step that puts out nothing writes nothing
pub none_written : (plant : PlantFields) (known : Option (List ℕ)) (now : List Out) → now ≡ [] → Appends known known (outs_text plant now)
none_written plant known now none = subst (λ (o : List Out). Appends known known (outs_text plant o)) (sym none) (Appends-nil known)

module _ (plant : PlantFields) (start : Start) (before : List Step) (shown : List Out) (steps : List LineStep) (old new : CoreView) (w0 w1 w2 : Option (List ℕ)) (line : LineStep) (rest : List LineStep) (now : List Out)
    (half : IsHalfDone plant start before shown steps old w0 w1 (line ∷ rest))
    (reached : (b : List Step) (t : List Out) → IsAfterFrom old.plant start b t old → IsAfterFrom old.plant start (b ++ line.step ∷ []) (t ++ now) new) where
  done : List Step
  done = steps_without_numbers (take half.at steps)

  steps_more : done ++ line.step ∷ [] ≡ steps_without_numbers (take (suc half.at) steps)
  unfolding done
  steps_more =
      sym (map-append (λ (l : LineStep). l.step) (take half.at steps) (line ∷ []))
      ∙ ap steps_without_numbers (sym (take_next steps half.at line rest half.left_are))

  after_more : IsAfterFrom plant start (before ++ steps_without_numbers (take (suc half.at) steps)) (shown ++ (half.told ++ now)) new
  unfolding done steps_more
  after_more =
      let same : old.plant ≡ plant = after_plant plant start (before ++ done) (shown ++ half.told) old half.after in
      let then_new = reached (before ++ done) (shown ++ half.told) (subst (λ (p : PlantFields). IsAfterFrom p start (before ++ done) (shown ++ half.told) old) (sym same) half.after) in
      let of_plant : IsAfterFrom plant start ((before ++ done) ++ line.step ∷ []) ((shown ++ half.told) ++ now) new =
      subst (λ (p : PlantFields). IsAfterFrom p start ((before ++ done) ++ line.step ∷ []) ((shown ++ half.told) ++ now) new) same then_new in
      subst (λ (o : List Out). IsAfterFrom plant start (before ++ steps_without_numbers (take (suc half.at) steps)) o new) (append_assoc shown half.told now)
      (subst (λ (s : List Step). IsAfterFrom plant start s ((shown ++ half.told) ++ now) new) (append_assoc before done (line.step ∷ []) ∙ ap (λ (s : List Step). before ++ s) steps_more) of_plant)

  -- what the step puts out is written too
  pub half_more : Appends w1 w2 (outs_text new.plant now) → IsHalfDone plant start before shown steps new w0 w2 rest
  unfolding after_more
  half_more wrote =
      let same : new.plant ≡ plant = after_plant plant start _ _ new after_more in
      record {
        at = suc half.at;
        told = half.told ++ now;
        after = after_more;
        written =
            subst (λ (t : List ℕ). Appends w0 w2 t) (sym (flat_map-append (out_line plant) half.told now))
            (Appends-trans w0 w1 w2 (outs_text plant half.told) (outs_text plant now) half.written (subst (λ (p : PlantFields). Appends w1 w2 (outs_text p now)) same wrote));
        left_are = drop_next steps half.at line rest half.left_are;
      }

-- ---- how steps end

pub all_are_done : (plant : PlantFields) (start : Start) (before : List Step) (shown : List Out) (steps : List LineStep) (live : CoreView) (w0 w1 : Option (List ℕ)) (left : List LineStep)
    → IsHalfDone plant start before shown steps live w0 w1 left → left ≡ [] → HasDone plant start before shown steps live ends.Done w0 w1
all_are_done plant start before shown steps live w0 w1 left half none = record {
  at = half.at;
  told = half.told;
  after = half.after;
  ends = rw (none_left steps half.at (half.left_are ∙ none)) tt;
  written = half.written;
}

-- a fault that is told, other than want of memory
pub fault_is_told : (A : Type 0) (fault : CoreFault) (reason : Option CoreFault) → IsReported {A = A} (Err fault) reason → fault ≢ NoMemory → reason ≡ Some fault
fault_is_told A (UnknownModem modem) reason told other = told
fault_is_told A (UnknownOperator op) reason told other = told
fault_is_told A (Book refused) reason told other = told
fault_is_told A (Gather refused) reason told other = told
fault_is_told A (NothingToCollect op) reason told other = told
fault_is_told A NoMemory reason told other = absurd (other refl)
fault_is_told A (Reslice refused) reason told other = told

is_some_of : {fault : CoreFault} {reason : Option CoreFault} → reason ≡ Some fault → IsSome reason
is_some_of is = rw is refl

-- a step that the core does not do is refused, or it is not and memory ran out
pub ends_at : (A : Type 0) (live : CoreView) (line : LineStep) (fault : CoreFault) → IsReported {A = A} (Err fault) (step_fault live line.step) → IsStepsEndAt live (Some line) (steps_end line.number fault)
ends_at A live line (UnknownModem modem) told = (refl, is_some_of told)
ends_at A live line (UnknownOperator op) told = (refl, is_some_of told)
ends_at A live line (Book refused) told = (refl, is_some_of told)
ends_at A live line (Gather refused) told = (refl, is_some_of told)
ends_at A live line (NothingToCollect op) told = (refl, is_some_of told)
ends_at A live line NoMemory told = told
ends_at A live line (Reslice refused) told = (refl, is_some_of told)

-- steps end where one is not done
pub step_not_done : (plant : PlantFields) (start : Start) (before : List Step) (shown : List Out) (steps : List LineStep) (old live : CoreView) (w0 w1 : Option (List ℕ)) (line : LineStep) (rest : List LineStep)
    (A : Type 0) (fault : CoreFault) (end : StepsEnd) → IsHalfDone plant start before shown steps old w0 w1 (line ∷ rest) → live ≡ old → IsReported {A = A} (Err fault) (step_fault old line.step)
    → end ≡ steps_end line.number fault → HasDone plant start before shown steps live end w0 w1
step_not_done plant start before shown steps old live w0 w1 line rest A fault end half same told is =
    subst (λ (c : CoreView). HasDone plant start before shown steps c end w0 w1) (sym same)
    (record {
      at = half.at;
      told = half.told;
      after = half.after;
      ends = rw (first_left steps half.at line rest half.left_are, is) (ends_at A old line fault told);
      written = half.written;
    })

-- what holds whatever is answered
pub on_ok : {A E : Type 0} (r : Result A E) (P : Type 0) → P → OnOk r P
on_ok (Ok x) P p = p
on_ok (Err e) P p = tt

-- what an error says, where there was no value
pub on_err_of : {A E : Type 0} (r : Result A E) (P : Type 0) → ((x : A) → r ≡ Ok x → ⊥) → OnErr r P → P
on_err_of (Ok x) P not_ok on = absurd (not_ok x refl)
on_err_of (Err e) P not_ok on = on

-- what no step leads to from the opened plant is reachable
pub opened_reachable : (plant : PlantFields) (live : CoreView) → IsAfter plant [] [] live → IsReachableFromStart live
opened_reachable plant live after = (first_start plant, [], [], subst (λ (p : PlantFields). IsAfterFrom p (first_start plant) [] [] live) (sym after.plant_is) after)

-- whatever a call leads to from a run is reachable, where the old core was
pub reachable_on : (old new : CoreView) → IsReachableFromStart old
    → ((plant : PlantFields) (start : Start) (before : List Step) (shown : List Out) → IsAfterFrom plant start before shown old → (steps : List Step) × (outs : List Out) × IsAfterFrom plant start steps outs new) → IsReachableFromStart new
reachable_on old new was on =
    let then_new = on old.plant was.0 was.1 was.2 was.3 in
    let same : new.plant ≡ old.plant = after_plant old.plant was.0 then_new.0 then_new.1 new then_new.2 in
    (was.0, then_new.0, then_new.1, subst (λ (p : PlantFields). IsAfterFrom p was.0 then_new.0 then_new.1 new) (sym same) then_new.2)

pub on_ok_map : {A E : Type 0} (r : Result A E) (P Q : Type 0) → (P → Q) → OnOk r P → OnOk r Q
on_ok_map (Ok x) P Q f p = f p
on_ok_map (Err e) P Q f p = tt
