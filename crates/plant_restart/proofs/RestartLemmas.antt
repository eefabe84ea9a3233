-- Operators that start in states by their names.
use Rattle.std.proofs.Common.{◌≡◌, ℕ, ◌+◌, ◌<◌, List, [], ◌∷◌, ◌++◌, length, map, take, get_or, All, Some, sym, ap, ap₂, subst, ◌∙◌, refl}
use Rattle.plant_restart.proofs.Common.{slice_get, ◌≢◌, AllByRecursion, map-append, take_more, map-id, All-from_recursion, ConstsFields, RowFields, PlantFields, OperatorState, Operator, all-map, CoreView, ResumeFault, start_with, IsResumeFault, IsAfterFrom, over_map, RestartFault, State, Core, NoMemory, operator_by_name, operators_by_name, IsRowFault, IsRowsFault, IsRestarted, IsRestartFault}
use Rattle.run_model.specs.Opened.{started_core}
use Rattle.plant_core.specs.declared.live.resume_fault.ResumeFault.TheVariants as resume

-- ---- row by row

-- a machine more is made, of the next row
pub machine_more : {X Y Z : Type 0} (see : X → Z) (by_row : Y → Z) (machines more : List X) (rows : List Y) (n : ℕ) (machine : X) (row : Y) → more ≡ machines ++ machine ∷ [] → n < length rows
    → row ≡ get_or rows n row → see machine ≡ by_row row → map see machines ≡ map by_row (take n rows) → map see more ≡ map by_row (take (n + 1) rows)
machine_more see by_row machines more rows n machine row is within there same so_far =
    ap (map see) is ∙ (map-append see machines (machine ∷ []) ∙ (ap₂ (λ zs z. zs ++ z ∷ []) so_far (same ∙ ap by_row there)
    ∙ (sym (map-append by_row (take n rows) (get_or rows n row ∷ [])) ∙ ap (map by_row) (sym (take_more rows n row within)))))

pub of_row : (consts : ConstsFields) (states : List (List ℕ × OperatorState)) (rows : List RowFields) (op : ℕ) (row : RowFields) (fault : RestartFault) → slice_get rows op ≡ Some row
    → IsRowFault consts states op row fault → IsRowsFault consts states rows fault
of_row consts states rows op row (State at why) there is = record { row = row; row_is = ap (λ (n : ℕ). slice_get rows n) is.0 ∙ there; wrong = is.1 }
of_row consts states rows op row (Core why) there is = is
of_row consts states rows op row NoMemory there is = is

-- ---- all of them

module _ {X : Type 0} (see : X → Operator) (plant : PlantFields) (frame : ℕ) (states : List (List ℕ × OperatorState)) (machines : List X) (made : map see machines ≡ operators_by_name plant frame states) where
  pub rows_by_name : map (λ x. (see x).row) machines ≡ plant.rows
  rows_by_name =
      sym (over_map (λ (o : Operator). o.row) see machines)
      ∙ (ap (λ (os : List Operator). map (λ (o : Operator). o.row) os) made ∙ (over_map (λ (o : Operator). o.row) (operator_by_name plant.consts frame states) plant.rows ∙ map-id plant.rows))

  consts_each : (rows : List RowFields) → AllByRecursion (λ (o : Operator). o.consts ≡ plant.consts) (map (operator_by_name plant.consts frame states) rows)
  consts_each [] = tt
  consts_each (row ∷ rows) = (refl, consts_each rows)

  pub consts_by_name : All (λ x. (see x).consts ≡ plant.consts) machines
  consts_by_name =
      All-from_recursion (λ x. (see x).consts ≡ plant.consts) machines
      (all-map (λ (o : Operator). o.consts ≡ plant.consts) see machines
      (subst (λ (os : List Operator). AllByRecursion (λ (o : Operator). o.consts ≡ plant.consts) os) (sym made) (consts_each plant.rows)))

  pub restarts : (live : CoreView) → live ≡ started_core plant (start_with plant frame (map see machines)) → IsAfterFrom plant (start_with plant frame (map see machines)) [] [] live → IsRestarted plant frame states live
  restarts live is after = record {
    is_started = is ∙ ap (λ (os : List Operator). started_core plant (start_with plant frame os)) made;
    reached = subst (λ (os : List Operator). IsAfterFrom plant (start_with plant frame os) [] [] live) made after;
  }

  pub core_fault : (why : ResumeFault) → IsResumeFault plant frame (map see machines) why → why ≢ resume.NoMemory → IsRestartFault plant frame states (Core why)
  core_fault why is ne = (subst (λ (os : List Operator). IsResumeFault plant frame os why) made is, ne)
