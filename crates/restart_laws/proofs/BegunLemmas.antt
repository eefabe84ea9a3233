-- A service that begins with a plant file: each operator is opened before the plant's first frame.
use Rattle.std.proofs.Common.{◌≡◌, ℕ, ◌≤◌, false, true, Bool, MatchBool, suc, List, [], ◌∷◌, length, map, replicate, Some, All, refl, sym, ap, subst, ◌∙◌, arith}
use Rattle.restart_laws.proofs.Common.{slice_get, AllByRecursion, recursion_from_All, All-from_recursion, parse_document, Minislots, RowFields, PlantFields, IsPlant, IsRowOf, OperatorState, operator, opened_before, waiting_slice, IsSound, Reslicing, quota_of, IsGathering, own_of, IsStart, gathering_from, started_core, at_place, IsAfterFrom, waiting_among, started_after, Snapshot, operator_by_name, start_by_name, front_text, GoesOnFrom, BeginsAnew, IsRunSoFarOf, resumed_service, PlantFileBegins}
use Rattle.operator_model.proofs.OpenedBeforeLemmas.{opened_before_sound}
use Rattle.map_assembly.proofs.NewLemmas.{plant_slices, gathering_resumed}
use Rattle.restart_laws.proofs.CoreLemmas.{start_of}
use Rattle.restart_laws.proofs.PlantLemmas.{valid_plant, have_minislots}
use Rattle.restart_laws.proofs.FileLemmas.{begins}

module _ (plant : PlantFields) (frame : ℕ) (valid : IsPlant plant) (some : AllByRecursion (λ (row : RowFields). 1 ≤ row.slice.length) plant.rows) (begun : plant.consts.channel.first_frame ≤ frame) where
  opened_there : (i : ℕ) (row : RowFields) → slice_get plant.rows i ≡ Some row → (start_by_name plant frame []).state row ≡ opened_before frame plant.consts row
  opened_there i row here = start_of plant frame [] valid i row here

  none_waits : (rows : List RowFields) → waiting_among (map (operator_by_name plant.consts frame []) rows) ≡ []
  none_waits [] = refl
  none_waits (row ∷ rows) = refl

  opened_starts : IsStart plant (start_by_name plant frame [])
  opened_starts = record {
    sound = λ i row here.
        subst (λ (s : OperatorState). IsSound (operator plant.consts row s)) (sym (opened_there i row here))
        (opened_before_sound frame plant.consts row (at_place (IsRowOf plant.consts) plant.rows i row (recursion_from_All (IsRowOf plant.consts) plant.rows valid.rows) here)
        (at_place (λ (r : RowFields). 1 ≤ r.slice.length) plant.rows i row some here));
    at_one_frame = λ i row here. ap (λ (s : OperatorState). s.frame) (opened_there i row here);
    waits = λ i row here.
        ap (λ (rs : List Reslicing). map (own_of i) rs) (none_waits plant.rows) ∙ sym (ap (λ (s : OperatorState). waiting_slice s.next) (opened_there i row here));
  }

  slices_are : map (λ (row : RowFields). ((start_by_name plant frame []).state row).share.slice) plant.rows ≡ map (λ (row : RowFields). row.slice) plant.rows
  slices_are = each plant.rows (λ i row here. ap (λ (s : OperatorState). s.share.slice) (opened_there i row here))
    where
      each : (rows : List RowFields) → ((i : ℕ) (row : RowFields) → slice_get rows i ≡ Some row → ((start_by_name plant frame []).state row).share.slice ≡ row.slice)
          → map (λ (row : RowFields). ((start_by_name plant frame []).state row).share.slice) rows ≡ map (λ (row : RowFields). row.slice) rows
      each [] h = refl
      each (row ∷ rows) h = λ k. h 0 row refl k ∷ each rows (λ i r here. h (suc i) r here) k

  some_each : (rows : List RowFields) → AllByRecursion (λ (row : RowFields). 1 ≤ row.slice.length) rows → AllByRecursion (λ (slice : Minislots). 1 ≤ slice.length) (map (λ (row : RowFields). row.slice) rows)
  some_each [] h = tt
  some_each (row ∷ rows) h = (h.0, some_each rows h.1)

  opened_gathers : IsGathering (gathering_from plant (start_by_name plant frame []))
  opened_gathers =
      let slices = map (λ (row : RowFields). ((start_by_name plant frame []).state row).share.slice) plant.rows in
      gathering_resumed plant (gathering_from plant (start_by_name plant frame [])) frame slices valid
      (plant_slices plant valid slices slices_are
      (subst (λ (ms : List Minislots). All (λ (slice : Minislots). 1 ≤ slice.length) ms) (sym slices_are)
      (All-from_recursion (λ (slice : Minislots). 1 ≤ slice.length) (map (λ (row : RowFields). row.slice) plant.rows) (some_each plant.rows some))))
      begun
      (λ k. record { channel = plant.consts.channel; quotas = map quota_of plant.rows; slices = slices; reslicings = none_waits plant.rows k; queues = replicate (length plant.rows) []; next = frame })

  pub opened_after : IsAfterFrom plant (start_by_name plant frame []) [] [] (started_core plant (start_by_name plant frame []))
  opened_after = started_after plant (start_by_name plant frame []) valid opened_starts opened_gathers

pub file_begins : PlantFileBegins
file_begins input plant saved says other more text =
    let anew : BeginsAnew (front_text input) plant saved = subst (λ (b : Bool). MatchBool b (GoesOnFrom (front_text input) plant saved) (BeginsAnew (front_text input) plant saved)) other says in
    let first = plant.consts.channel.first_frame in
    record {
      live = started_core plant (start_by_name plant first []);
      leads =
          subst (λ (s : Snapshot). IsRunSoFarOf (resumed_service plant s).run (started_core plant (start_by_name plant first []))) (sym anew.saved_is)
          (opened_after plant first (valid_plant (parse_document (front_text input)) plant anew.plant_is) (have_minislots (parse_document (front_text input)) plant anew.plant_is) (omega arith));
      in_force = begins input plant saved says more text (λ head. absurd (let wrong : true ≡ false = sym head ∙ other in cc));
    }
