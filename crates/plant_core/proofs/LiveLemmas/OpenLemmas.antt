-- Opened operators that are resumed are the plant's core as it is opened.
use Rattle.std.proofs.Common.{◌≡◌, ℕ, List, [], ◌∷◌, length, map, replicate, Option, Some, option_map, All, refl, sym, ap, ◌∙◌, subst}
use Rattle.plant_core.proofs.LiveLemmas.Common.{slice_get, ◌≢◌, AllByRecursion, length-map, map-id, recursion_from_All, All-from_recursion, slice_get-map, ConstsFields, RowFields, PlantFields, IsPlant, OperatorState, Operator, operator, opened_state, BookView, quota_of, IsGathering, PairsByRecursion, pairs_from_AllPairs, all-map, Start, opened_core, started_core, CoreView, IsAfter, waiting_among, start_with}
use Rattle.plant_core.proofs.LiveLemmas.GoLemmas.{opened_after}
use Rattle.plant_core.proofs.LiveLemmas.ResumeLemmas.{HaveOwnNames, own_state, map_is, over_map}

-- an operator as it is opened
abbrev pub as_opened : ConstsFields → RowFields → Operator
as_opened consts row = operator consts row (opened_state consts row)

none_waits : (consts : ConstsFields) (rows : List RowFields) → waiting_among (map (as_opened consts) rows) ≡ []
none_waits consts [] = refl
none_waits consts (row ∷ rows) = refl

module _ (plant : PlantFields) (valid : IsPlant plant) where
  abbrev ops : List Operator
  ops = map (as_opened plant.consts) plant.rows

  abbrev start : Start
  start = start_with plant plant.consts.channel.first_frame ops

  rows_same : map (λ (o : Operator). o.row) ops ≡ plant.rows
  rows_same = over_map (λ (o : Operator). o.row) (as_opened plant.consts) plant.rows ∙ map-id plant.rows

  own_names : HaveOwnNames ops
  own_names =
      subst (λ (rows : List RowFields). PairsByRecursion (λ (a b : RowFields). a.name ≢ b.name) rows) (sym rows_same)
      (pairs_from_AllPairs (λ (a b : RowFields). a.name ≢ b.name) plant.rows valid.names)

  state_there : (i : ℕ) (row : RowFields) → slice_get plant.rows i ≡ Some row → start.state row ≡ opened_state plant.consts row
  state_there i row here =
      own_state ops (opened_state plant.consts row) i (as_opened plant.consts row) own_names
      (slice_get-map (as_opened plant.consts) plant.rows i ∙ ap (option_map (as_opened plant.consts)) here)

  -- what is seen of each row and its state is what is seen of the row as it is opened
  seen_opened : {Y : Type 0} (g : RowFields → OperatorState → Y) → map (λ row. g row (start.state row)) plant.rows ≡ map (λ row. g row (opened_state plant.consts row)) plant.rows
  seen_opened {Y} g =
      map_is (λ (row : RowFields). g row (start.state row)) plant.rows (map (λ (row : RowFields). g row (opened_state plant.consts row)) plant.rows)
      (sym (length-map plant.rows (λ (row : RowFields). g row (opened_state plant.consts row))))
      (λ i row here.
      slice_get-map (λ (x : RowFields). g x (opened_state plant.consts x)) plant.rows i
      ∙ (ap (option_map (λ (x : RowFields). g x (opened_state plant.consts x))) here
      ∙ (λ k. let o : Option Y = Some (g row (sym (state_there i row here) k)) in o)))

  opened_same : started_core plant start ≡ opened_core plant
  opened_same = λ k. record {
    plant = plant;
    books = seen_opened (λ row state. let b : BookView = record { row = row; consts = plant.consts; state = state; history = [] } in b) k;
    queues = replicate (length plant.rows) [];
    gathering = record {
      channel = plant.consts.channel;
      quotas = map quota_of plant.rows;
      slices = seen_opened (λ row state. state.share.slice) k;
      reslicings = none_waits plant.consts plant.rows k;
      queues = replicate (length plant.rows) [];
      next = plant.consts.channel.first_frame;
    };
  }

  pub opened_view : (all : List Operator) (live : CoreView) → all ≡ ops → live ≡ started_core plant (start_with plant plant.consts.channel.first_frame all) → live ≡ opened_core plant
  opened_view all live same is = is ∙ (ap (λ (xs : List Operator). started_core plant (start_with plant plant.consts.channel.first_frame xs)) same ∙ opened_same)

pub opened_is_after : (plant : PlantFields) (live : CoreView) → IsPlant plant → live ≡ opened_core plant → IsGathering live.gathering → IsAfter plant [] [] live
opened_is_after plant live valid is held =
    subst (λ (v : CoreView). IsAfter plant [] [] v) (sym is) (opened_after plant valid (subst (λ (v : CoreView). IsGathering v.gathering) is held))

-- ---- opened operators, as they are seen

pub rows_seen : {X : Type 0} (see : X → Operator) (consts : ConstsFields) (rows : List RowFields) (xs : List X) → map see xs ≡ map (as_opened consts) rows → map (λ x. (see x).row) xs ≡ rows
rows_seen see consts rows xs is =
    sym (over_map (λ (o : Operator). o.row) see xs)
    ∙ (ap (λ (os : List Operator). map (λ o. o.row) os) is ∙ (over_map (λ (o : Operator). o.row) (as_opened consts) rows ∙ map-id rows))

consts_opened : (consts : ConstsFields) (rows : List RowFields) → All (λ (o : Operator). o.consts ≡ consts) (map (as_opened consts) rows)
consts_opened consts rows = All-from_recursion (λ (o : Operator). o.consts ≡ consts) (map (as_opened consts) rows) (by rows)
  where
    by : (rs : List RowFields) → AllByRecursion (λ (o : Operator). o.consts ≡ consts) (map (as_opened consts) rs)
    by [] = tt
    by (r ∷ rs) = (refl, by rs)

pub consts_seen : {X : Type 0} (see : X → Operator) (consts : ConstsFields) (rows : List RowFields) (xs : List X) → map see xs ≡ map (as_opened consts) rows → All (λ x. (see x).consts ≡ consts) xs
consts_seen see consts rows xs is =
    All-from_recursion (λ x. (see x).consts ≡ consts) xs
    (all-map (λ (o : Operator). o.consts ≡ consts) see xs
    (recursion_from_All (λ (o : Operator). o.consts ≡ consts) (map see xs) (subst (λ (os : List Operator). All (λ (o : Operator). o.consts ≡ consts) os) (sym is) (consts_opened consts rows))))
