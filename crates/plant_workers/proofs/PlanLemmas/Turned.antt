-- Turns and courses, step by step.
use Rattle.std.proofs.Common.{◌≡◌, ℕ, ◌+◌, ◌<◌, ◌≤◌, List, [], ◌∷◌, ◌++◌, length, take, Some, ◌⊎◌, inl, inr, refl, sym, ap, ◌∙◌, subst, arith}
use Rattle.plant_workers.proofs.PlanLemmas.Common.{slice_get, slice_set, cases_eq, length-set, none-some, same_Some, slice_get_within, RowFields, PlantFields, Tick, Step, own_steps, collects_of, get_same, get_other, same_at, others_none, Course, IsDueAt, IsTurn, IsCourse, IsOwnTurn, IsNewCourse, AreNewCourses, AreCourses}
use Rattle.plant.specs.Plant.{IsPlant}
use Rattle.plant_workers.specs.audit.Taken.{waiting_operator}
use Rattle.plant_workers.proofs.PlanLemmas.Courses.{get_front, get_last, length_end, course_none}

-- ---- one step more, operator by operator
-- the first operators have gone on by the step at this place, and the others have not
pub record HavePassed (plant : PlantFields) (all : List Step) (at count : ℕ) (courses : List Course) : Type 0 where
  pub one_each : length courses ≡ length plant.rows
  pub passed : (op : ℕ) (row : RowFields) (course : Course) → op < count → slice_get plant.rows op ≡ Some row → slice_get courses op ≡ Some course → IsCourse row op (take (at + 1) all) course
  pub left : (op : ℕ) (row : RowFields) (course : Course) → count ≤ op → slice_get plant.rows op ≡ Some row → slice_get courses op ≡ Some course → IsCourse row op (take at all) course

module _ (plant : PlantFields) (all : List Step) (at : ℕ) where
  pub none_passed : (courses : List Course) → AreCourses plant (take at all) courses → HavePassed plant all at 0 courses
  none_passed courses are = record {
    one_each = are.one_each;
    passed = λ op row course lt here there. absurd (omega (arith, lt));
    left = λ op row course le here there. are.each op row course here there;
  }

  pub all_passed : (count : ℕ) (courses : List Course) → length courses ≤ count → HavePassed plant all at count courses → AreCourses plant (take (at + 1) all) courses
  all_passed count courses le are = record {
    one_each = are.one_each;
    each = λ op row course here there. are.passed op row course (let within = slice_get_within courses op course there in omega (arith, le, within)) here there;
  }

  module _ (count : ℕ) (courses : List Course) (within : count < length courses) (d : Course) where
    -- what stands at the operator's own place is its course
    own_course : (P : ℕ → Course → Type 0) → P count d → (op : ℕ) (course : Course) → op ≡ count → slice_get (slice_set courses count d) op ≡ Some course → P op course
    own_course P holds op course same there =
        let course_is : d ≡ course =
        same_at (slice_set courses count d) count d course (get_same courses count d within) (ap (λ (n : ℕ). slice_get (slice_set courses count d) n) (sym same) ∙ there) in
        subst (λ (n : ℕ). P n course) (sym same) (subst (λ (c : Course). P count c) course_is holds)

    pub one_passed : HavePassed plant all at count courses → ((row : RowFields) → slice_get plant.rows count ≡ Some row → IsCourse row count (take (at + 1) all) d)
        → HavePassed plant all at (count + 1) (slice_set courses count d)
    one_passed are new = record {
      one_each = length-set courses count d ∙ are.one_each;
      passed = λ op row course lt here there. by op row course lt here there (cases_eq op count);
      left = λ op row course le here there.
          are.left op row course (omega (arith, le)) here (sym (get_other courses count op d (λ same. absurd (omega (arith, le, same)))) ∙ there);
    }
      where
        by : (op : ℕ) (row : RowFields) (course : Course) → op < count + 1 → slice_get plant.rows op ≡ Some row → slice_get (slice_set courses count d) op ≡ Some course → (op ≡ count) ⊎ (op ≡ count → ⊥)
            → IsCourse row op (take (at + 1) all) course
        by op row course lt here there (inl same) =
            own_course (λ n c. slice_get plant.rows n ≡ Some row → IsCourse row n (take (at + 1) all) c) (λ e. new row e) op course same there here
        by op row course lt here there (inr ne) = are.passed op row course (omega (arith, lt, ne)) here (sym (get_other courses count op d ne) ∙ there)

    -- the step is this operator's, and it alone goes on
    pub own_passed : IsPlant plant → (step : Step) → slice_get all at ≡ Some step → waiting_operator plant step ≡ Some count → AreCourses plant (take at all) courses
        → ((row : RowFields) → slice_get plant.rows count ≡ Some row → IsCourse row count (take (at + 1) all) d) → AreCourses plant (take (at + 1) all) (slice_set courses count d)
    own_passed is step stands waits are new = record {
      one_each = length-set courses count d ∙ are.one_each;
      each = λ op row course here there. by op row course here there (cases_eq op count);
    }
      where
        by : (op : ℕ) (row : RowFields) (course : Course) → slice_get plant.rows op ≡ Some row → slice_get (slice_set courses count d) op ≡ Some course → (op ≡ count) ⊎ (op ≡ count → ⊥)
            → IsCourse row op (take (at + 1) all) course
        by op row course here there (inl same) =
            own_course (λ n c. slice_get plant.rows n ≡ Some row → IsCourse row n (take (at + 1) all) c) (λ e. new row e) op course same there here
        by op row course here there (inr ne) =
            let none = others_none plant step count op row is waits ne here in
            course_none row op all at step stands course (are.each op row course here (sym (get_other courses count op d ne) ∙ there)) none.action none.collection

  module _ (step : Step) (stands : slice_get all at ≡ Some step) where
    -- the step is of an operator that is not there
    pub stranger_passed : IsPlant plant → (op : ℕ) → waiting_operator plant step ≡ Some op → (courses : List Course) → length courses ≤ op → AreCourses plant (take at all) courses
        → AreCourses plant (take (at + 1) all) courses
    stranger_passed is op waits courses past are = record {
      one_each = are.one_each;
      each = λ i row course here there.
          let within = slice_get_within courses i course there in
          let none = others_none plant step op i row is waits (λ same. absurd (omega (arith, past, within, same))) here in
          course_none row i all at step stands course (are.each i row course here there) none.action none.collection;
    }

-- ---- the turn of a step
module _ (plant : PlantFields) (before : List Step) (step : Step) where
  pub own_is_turn : (op : ℕ) → waiting_operator plant step ≡ Some op → (turn : ℕ) → ((row : RowFields) → slice_get plant.rows op ≡ Some row → IsOwnTurn plant row op before step (Some turn))
      → IsTurn plant before step turn
  own_is_turn op waits turn is = record {
    due = λ i row also here.
        let same : op ≡ i = same_Some op i (sym waits ∙ also) in
        subst (λ (n : ℕ). IsDueAt (own_steps row n before) (collects_of n before) step turn) same (is row (ap (λ (n : ℕ). slice_get plant.rows n) same ∙ here)).1;
    none = λ never. absurd (none-some op (sym never ∙ waits));
  }

-- ---- all steps
-- the first steps have their turns, and the operators have come as far as they lead
pub record HaveTurns (plant : PlantFields) (all : List Step) (at : ℕ) (courses : List Course) (turns : List ℕ) : Type 0 where
  pub courses_are : AreCourses plant (take at all) courses
  pub within : at ≤ length all
  pub one_each : length turns ≡ at
  pub each : (k : ℕ) (step : Step) (turn : ℕ) → slice_get all k ≡ Some step → slice_get turns k ≡ Some turn → IsTurn plant (take k all) step turn

pub no_courses : AreNewCourses 0 []
no_courses = record { one_each = refl; each = λ op course there. absurd (none-some course there) }

pub new_more : (count : ℕ) (courses : List Course) (course : Course) → AreNewCourses count courses → IsNewCourse course → AreNewCourses (count + 1) (courses ++ course ∷ [])
new_more count courses course are new = record {
  one_each = length_end courses course ∙ ap (λ (n : ℕ). n + 1) are.one_each;
  each = λ op other there. by op other there (cases_eq op count);
}
  where
    by : (op : ℕ) (other : Course) → slice_get (courses ++ course ∷ []) op ≡ Some other → (op ≡ count) ⊎ (op ≡ count → ⊥) → IsNewCourse other
    by op other there (inl same) = subst IsNewCourse (same_Some course other (sym (get_last courses course op (same ∙ sym are.one_each)) ∙ there)) new
    by op other there (inr ne) =
        let long = length_end courses course in
        let within = slice_get_within (courses ++ course ∷ []) op other there in
        are.each op other (sym (get_front courses (course ∷ []) op (omega (arith, within, long, ne, are.one_each))) ∙ there)

none_done : (row : RowFields) (op : ℕ) (course : Course) → IsNewCourse course → IsCourse row op [] course
none_done row op course is = record {
  actions = is.actions;
  collects = is.collects;
  many = ap (λ (ns : List ℕ). length ns) is.behind;
  ticks = λ count place t. absurd (none-some Tick t.tick);
}

module _ (plant : PlantFields) (all : List Step) where
  pub turn_more : (at : ℕ) (courses new : List Course) (turns : List ℕ) (turn : ℕ) → at < length all → HaveTurns plant all at courses turns → AreCourses plant (take (at + 1) all) new
      → ((step : Step) → slice_get all at ≡ Some step → IsTurn plant (take at all) step turn) → HaveTurns plant all (at + 1) new (turns ++ turn ∷ [])
  turn_more at courses new turns turn lt have are is = record {
    courses_are = are;
    within = omega (arith, lt);
    one_each = length_end turns turn ∙ ap (λ (n : ℕ). n + 1) have.one_each;
    each = λ k step other here there. by k step other here there (cases_eq k at);
  }
    where
      by : (k : ℕ) (step : Step) (other : ℕ) → slice_get all k ≡ Some step → slice_get (turns ++ turn ∷ []) k ≡ Some other → (k ≡ at) ⊎ (k ≡ at → ⊥) → IsTurn plant (take k all) step other
      by k step other here there (inl same) =
          let turn_is : turn ≡ other = same_Some turn other (sym (get_last turns turn k (same ∙ sym have.one_each)) ∙ there) in
          subst (λ (n : ℕ). IsTurn plant (take k all) step n) turn_is
          (subst (λ (n : ℕ). IsTurn plant (take n all) step turn) (sym same) (is step (ap (λ (n : ℕ). slice_get all n) (sym same) ∙ here)))
      by k step other here there (inr ne) =
          let long = length_end turns turn in
          let within = slice_get_within (turns ++ turn ∷ []) k other there in
          have.each k step other here (sym (get_front turns (turn ∷ []) k (omega (arith, within, long, ne, have.one_each))) ∙ there)
