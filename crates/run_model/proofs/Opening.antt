-- A core as it is opened is what it is after no step.
use Rattle.std.proofs.Common.{◌≡◌, ℕ, zero, suc, List, [], length, replicate, Option, Some, None, append-nil, option_map, refl, sym, ap, ◌∙◌, subst, arith}
use Rattle.run_model.proofs.Common.{slice_get, length-map, length-replicate, All-nil, slice_get-map, same_Some, none-some, RowFields, PlantFields, IsPlant, Start, first_start, StandAtOneFrame, IsMapFrom, IsUnder, IsBookFrom, IsStateAfter, IsStateAfterFrom, opened_core, started_book, started_core}

none_there : {X : Type 0} (n i : ℕ) (xs : List X) → slice_get (replicate n []) i ≡ Some xs → xs ≡ []
none_there zero i xs e = let f : ◌≡◌ {A = Option _} None (Some xs) = e in absurd (none-some xs f)
none_there (suc n) zero xs e = sym (same_Some [] xs e)
none_there (suc n) (suc i) xs e = none_there n i xs e

book_started : (plant : PlantFields) (start : Start) (i : ℕ) (row : RowFields) → IsBookFrom plant start [] i row (started_book plant.consts start row)
book_started plant start i row = record { row_is = refl; consts_are = refl; state_is = refl; actions_are = refl; replay = record { state_is = refl; told = tt } }

pub started_reached : (plant : PlantFields) (start : Start) → IsPlant plant → StandAtOneFrame plant start → IsStateAfterFrom plant start [] [] (started_core plant start)
started_reached plant start is at = record {
  at_one_frame = at;
  plant_is = refl;
  shown = record {
    answers = λ i row e. refl;
    maps = record {
      frames = refl;
      count = record { at_most = λ i within. omega arith; one = (0, omega (arith, is.some), refl) };
      each = All-nil (IsMapFrom plant start []);
    };
    under_plant = All-nil (IsUnder (length plant.rows));
  };
  ordered = refl;
  one_book = length-map plant.rows (started_book plant.consts start);
  one_queue = length-replicate (length plant.rows) [];
  books = λ i row book e f.
      let there : started_book plant.consts start row ≡ book =
      same_Some (started_book plant.consts start row) book (sym (slice_get-map (started_book plant.consts start) plant.rows i ∙ ap (option_map (started_book plant.consts start)) e) ∙ f) in
      subst (IsBookFrom plant start [] i row) there (book_started plant start i row);
  frames = λ i row waiting put e f g.
      record { waiting_are = none_there (length plant.rows) i waiting f; put_are = none_there (length plant.rows) i put g };
  gathered = record {
    channel_is = refl;
    quotas_are = refl;
    slices_are = refl;
    reslicings_are = sym (append-nil start.waiting);
    one_each = length-replicate (length plant.rows) [];
    next_is = omega arith;
    collected = λ i row e. omega arith;
  };
}

pub opened_reached : (plant : PlantFields) → IsPlant plant → IsStateAfter plant [] [] (opened_core plant)
opened_reached plant is = started_reached plant (first_start plant) is (λ i row here. refl)
