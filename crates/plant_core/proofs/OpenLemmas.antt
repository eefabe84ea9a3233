-- A core that is opened, with nothing recorded.
use Rattle.std.proofs.Common.{◌≡◌, List, [], ◌∷◌, length, map, refl, sym, ap, subst, ◌∙◌}
use Rattle.plant_core.proofs.Common.{replicate, length-map, length-replicate, ConstsFields, RowFields, PlantFields, IsPlant, Entry, BookView, opened_book, gathering_of, IsGathering, CoreView, IsStateAfter, IsReachable, forgotten, IsOf, SliceChange, with_histories, recorded_view, IsRecordOf}
use Rattle.map_assembly.proofs.GoneLemmas.{alike_self}
use Rattle.run_model.specs.Opened.{opened_core}
use Rattle.run_model.proofs.Opening.{opened_reached}
use Rattle.plant_core.proofs.RecordLemmas.{belongs}

-- opened books have no history
opened_with : (consts : ConstsFields) (rows : List RowFields) → with_histories (map (opened_book consts) rows) (replicate (length rows) []) ≡ map (opened_book consts) rows
opened_with consts [] = refl
opened_with consts (row ∷ rows) = ap (λ (bs : List BookView). opened_book consts row ∷ bs) (opened_with consts rows)

opened_forgotten : (consts : ConstsFields) (rows : List RowFields) → map forgotten (map (opened_book consts) rows) ≡ map (opened_book consts) rows
opened_forgotten consts [] = refl
opened_forgotten consts (row ∷ rows) = ap (λ (bs : List BookView). opened_book consts row ∷ bs) (opened_forgotten consts rows)

module _ (plant : PlantFields) where
  view_is : recorded_view (opened_core plant) (replicate (length plant.rows) []) [] ≡ opened_core plant
  view_is = λ k. record (opened_core plant) { books = opened_with plant.consts plant.rows k }

  is_of : IsGathering (gathering_of plant) → IsOf (opened_core plant) (opened_core plant)
  is_of held = record { plant_is = refl; books_are = opened_forgotten plant.consts plant.rows; queues_are = refl; gathering_is = alike_self (gathering_of plant); held = held }

  pub opened_belongs : (live : CoreView) (histories : List (List Entry)) (changes : List SliceChange) → live ≡ opened_core plant → histories ≡ replicate (length plant.rows) [] → changes ≡ [] → IsGathering live.gathering
      → IsRecordOf live histories changes
  opened_belongs live histories changes opened empty unchanged held =
      let here : IsRecordOf (opened_core plant) (replicate (length plant.rows) []) [] =
      belongs (opened_core plant) (replicate (length plant.rows) []) [] (length-replicate (length plant.rows) [] ∙ sym (length-map plant.rows (opened_book plant.consts)))
      (subst (λ (core : CoreView). IsOf (opened_core plant) core) (sym view_is) (is_of (subst (λ (core : CoreView). IsGathering core.gathering) opened held))) in
      subst (λ (cs : List SliceChange). IsRecordOf live histories cs) (sym unchanged)
      (subst (λ (hs : List (List Entry)). IsRecordOf live hs []) (sym empty) (subst (λ (l : CoreView). IsRecordOf l (replicate (length plant.rows) []) []) (sym opened) here))

  pub opened_view : (live : CoreView) (histories : List (List Entry)) (changes : List SliceChange) → live ≡ opened_core plant → histories ≡ replicate (length plant.rows) [] → changes ≡ []
      → recorded_view live histories changes ≡ opened_core plant
  opened_view live histories changes opened empty unchanged = (λ k. recorded_view (opened k) (empty k) (unchanged k)) ∙ view_is

  pub opened_is : (core : CoreView) → core ≡ opened_core plant → IsPlant core.plant → IsStateAfter plant [] [] core
  opened_is core opened valid =
      subst (λ (c : CoreView). IsStateAfter plant [] [] c) (sym opened) (opened_reached plant (subst (λ (c : CoreView). IsPlant c.plant) opened valid))

  pub opened_reaches : (core : CoreView) → core ≡ opened_core plant → IsPlant core.plant → ∥ IsReachable core ∥₁
  opened_reaches core opened valid =
      ∣ ([], [], subst (λ (p : PlantFields). IsStateAfter p [] [] core) (sym (ap (λ (c : CoreView). c.plant) opened)) (opened_is core opened valid)) ∣₁
