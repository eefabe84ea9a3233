-- Where a step of a run on threads is refused.
use Rattle.std.proofs.Common.{◌≡◌, ◌⊎◌, inl, inr, ℕ, zero, suc, ◌<◌, List, [], ◌∷◌, ◌++◌, length, take, drop, get_or, Some, refl, sym, ap, subst, ◌∙◌, arith}
use Rattle.plant_script.proofs.Common.{slice_get, not, prefix_len, cases_order, length-map, take-append-le, take-append-drop, slice_get-get_or, slice_get_within, PlantFields, Step, ticks_of, IsSpentAt, IsFirstSpent, is_reslice, before_reslice, LineStep, steps_without_numbers, ReportsLine, ReportsPlace, ReportsSpent, ReportsCore}
use Rattle.run_model.specs.declared.step.Step.TheVariants as steps

-- ---- the line at a place

-- each step is of a line
pub step_within : (lines : List LineStep) (place : ℕ) (step : Step) → slice_get (steps_without_numbers lines) place ≡ Some step → place < length lines
step_within lines place step is =
    omega (arith, slice_get_within (steps_without_numbers lines) place step is, length-map lines (λ (l : LineStep). l.step))

-- what is read at the place is the line
pub place_reported : (lines : List LineStep) (place : ℕ) (other : LineStep) (status : ℕ) (text : List ℕ) → place < length lines
    → ReportsLine (get_or lines place other).number status text → ReportsPlace lines place status text
place_reported lines place other status text lt reports = record { line = get_or lines place other; line_is = slice_get-get_or lines place other lt; reports = reports }

-- ---- the first Tick that finds its operator's frame numbers spent

-- there is one
pub one_first : (plant : PlantFields) (all : List Step) (p q : ℕ) → IsFirstSpent plant all p → IsFirstSpent plant all q → p ≡ q
one_first plant all p q a b = by (cases_order p q)
  where
    by : (p ≡ q) ⊎ ((p < q) ⊎ (q < p)) → p ≡ q
    by (inl same) = same
    by (inr (inl lt)) = absurd (b.before p a.op lt a.known a.spent)
    by (inr (inr lt)) = absurd (a.before q b.op lt b.known b.spent)

get_front : {X : Type 0} (xs ys : List X) (i : ℕ) → i < length xs → slice_get (xs ++ ys) i ≡ slice_get xs i
get_front [] ys i lt = absurd (omega (arith, lt))
get_front (x ∷ xs) ys zero lt = refl
get_front (x ∷ xs) ys (suc i) lt = get_front xs ys i (omega (arith, lt))

module _ (first_frame : ℕ) (front back : List Step) where
  ticks_front : (op i : ℕ) → i < length front → ticks_of op (take i (front ++ back)) ≡ ticks_of op (take i front)
  ticks_front op i lt = ap (ticks_of op) (take-append-le i front back (omega (arith, lt)))

  spent_whole : (op i : ℕ) → i < length front → IsSpentAt first_frame op front i → IsSpentAt first_frame op (front ++ back) i
  spent_whole op i lt spent = record {
    step_is = get_front front back i lt ∙ spent.step_is;
    spent = let same = ticks_front op i lt in let most = spent.spent in omega (arith, same, most);
  }

  spent_front : (op i : ℕ) → i < length front → IsSpentAt first_frame op (front ++ back) i → IsSpentAt first_frame op front i
  spent_front op i lt spent = record {
    step_is = sym (get_front front back i lt) ∙ spent.step_is;
    spent = let same = ticks_front op i lt in let most = spent.spent in omega (arith, same, most);
  }

-- the first of the steps in front is the first of all
first_whole : (plant : PlantFields) (front back : List Step) (place : ℕ) → IsFirstSpent plant front place → IsFirstSpent plant (front ++ back) place
first_whole plant front back place first =
    let within = slice_get_within front place (steps.Tick first.op) first.spent.step_is in
    record {
      op = first.op;
      known = first.known;
      spent = spent_whole plant.consts.channel.first_frame front back first.op place within first.spent;
      before = λ i op lt known spent. first.before i op lt known (spent_front plant.consts.channel.first_frame front back op i (omega (arith, lt, within)) spent);
    }

first_taken : (plant : PlantFields) (all : List Step) (k place : ℕ) → IsFirstSpent plant (take k all) place → IsFirstSpent plant all place
first_taken plant all k place first = subst (λ (s : List Step). IsFirstSpent plant s place) (take-append-drop k all) (first_whole plant (take k all) (drop k all) place first)

pub first_of_all : (plant : PlantFields) (all : List Step) (place : ℕ) → IsFirstSpent plant (before_reslice all) place → IsFirstSpent plant all place
first_of_all plant all place first = first_taken plant all (prefix_len (λ step. not (is_reslice step)) all) place first

-- ---- what is reported

pub first_within : (plant : PlantFields) (lines : List LineStep) (all : List Step) (place : ℕ) → all ≡ steps_without_numbers lines → IsFirstSpent plant all place → place < length lines
first_within plant lines all place are first = step_within lines place (steps.Tick first.op) (ap (λ (s : List Step). slice_get s place) (sym are) ∙ first.spent.step_is)

-- where there is one, it is the one that is reported
pub core_spent : (plant : PlantFields) (lines : List LineStep) (place : ℕ) (status : ℕ) (text : List ℕ) → IsFirstSpent plant (steps_without_numbers lines) place → ReportsCore plant lines status text
    → ReportsSpent plant lines place status text
core_spent plant lines place status text first (inl told) =
    subst (λ (p : ℕ). ReportsSpent plant lines p status text) (one_first plant (steps_without_numbers lines) told.0 place told.1.first first) told.1
core_spent plant lines place status text first (inr none) =
    absurd (none.0 place first.op (first_within plant lines (steps_without_numbers lines) place refl first) first.known first.spent)
