-- A run is one of one step more, where that step collects a frame.
use Rattle.std.proofs.Common.{◌≡◌, ℕ, ◌+◌, false, List, [], ◌∷◌, ◌++◌, length, map, drop, All, Option, Some, None, append-nil, option_map, refl, sym, ap, ◌∙◌, subst, arith}
use Rattle.run_model.proofs.Common.{slice_get, cond-true, length-set, length-map, length_push, filter_map-append, All-weaker, All-push, All-append, slice_get-map, same_Some, slice_get_within, ElementsFields, RowFields, PlantFields, MapBytes, Reslicing, Gathering, queue_of, is_last, IsGathering, IsPutResult, after_other, Step, Out, maps_in, map_in, reslicing_in, reslicings_of, IsMapFrom, IsLeast, AreMapsFrom, IsUnder, IsCollected, CoreView, AreFramesFrom, IsStateAfterFrom, Collects, told_map, Start}
use Rattle.run_model.specs.declared.step.Step.TheVariants as steps
use Rattle.run_model.specs.declared.step.Out.TheVariants as out
use Rattle.run_model.proofs.Entries.{some_at}
use Rattle.run_model.proofs.Numbers.{Numbered}
use Rattle.run_model.proofs.Moving.{EachMoves, collects_moves}
use Rattle.run_model.proofs.Following.{EachTells, each_tells, books_follow, answers_follow}
use Rattle.run_model.proofs.Kept.{map_kept, one_least}
use Rattle.run_model.proofs.InOrder.{ordered_push}
use Rattle.run_model.proofs.Under.{told_under}
use Rattle.run_model.proofs.Collected.{then_collected, with_it, frames_put, frames_made, still_within}
use Rattle.run_model.proofs.Making.{least_waits, least_made, made_in, frames_pushed}

-- a list of which each has lost its first
first_dropped : (queues : List (List ElementsFields)) (i : ℕ) (put : List ElementsFields) → slice_get (map (λ queue. drop 1 queue) queues) i ≡ Some put → (queue : List ElementsFields) × (slice_get queues i ≡ Some queue) × (drop 1 queue ≡ put)
first_dropped queues i put e =
    let within = slice_get_within (map (λ (queue : List ElementsFields). drop 1 queue) queues) i put e in
    let long = length-map queues (λ (queue : List ElementsFields). drop 1 queue) in
    let queue = some_at queues i (omega (arith, within, long)) in
    (queue.0, queue.1, same_Some (drop 1 queue.0) put (sym (slice_get-map (λ (q : List ElementsFields). drop 1 q) queues i ∙ ap (option_map (λ (q : List ElementsFields). drop 1 q)) queue.1) ∙ e))

module _ (plant : PlantFields) (start : Start) (before : List Step) (outs : List Out) (k : ℕ) (now : List Out) (old new : CoreView) (reached : IsStateAfterFrom plant start before outs old) (is : IsGathering old.gathering) (collects : Collects k old new now) where
  abbrev after : List Step
  after = then_collected plant start before k

  abbrev queues : List (List ElementsFields)
  queues = with_it plant start before outs k now old new reached collects

  moves : EachMoves plant (steps.Collect k) old new now
  moves = collects_moves plant k old new now collects

  books : length new.books ≡ length old.books
  books = ap (λ (c : CoreView). length c.books) collects.new_is

  tells : EachTells plant start before (steps.Collect k) now
  tells = each_tells plant start before outs (steps.Collect k) now old new reached moves books

  -- what is the same whether a MAP is made
  gathered_reached : (new_maps : List MapBytes) → maps_in (outs ++ now) ≡ new_maps → AreMapsFrom plant start after new_maps
      → ((i : ℕ) (row : RowFields) (waiting : List Numbered) (put : List ElementsFields) → slice_get plant.rows i ≡ Some row → slice_get new.queues i ≡ Some waiting → slice_get new.gathering.queues i ≡ Some put → AreFramesFrom plant start after (length new_maps) i row waiting put)
      → IsCollected plant before after now → new.gathering.channel ≡ old.gathering.channel → new.gathering.quotas ≡ old.gathering.quotas → new.gathering.slices ≡ old.gathering.slices → new.gathering.reslicings ≡ old.gathering.reslicings → length new.gathering.queues ≡ length queues → new.gathering.next ≡ start.frame + length new_maps
      → IsStateAfterFrom plant start after (outs ++ now) new
  gathered_reached new_maps maps_are maps frames told channel quotas slices reslicings puts next = record {
    at_one_frame = reached.at_one_frame;
    plant_is = ap (λ (c : CoreView). c.plant) collects.new_is ∙ reached.plant_is;
    shown = record {
      answers = answers_follow plant start before outs (steps.Collect k) now old new reached moves books;
      maps = subst (AreMapsFrom plant start after) (sym maps_are) maps;
      under_plant = All-append (IsUnder (length plant.rows)) outs now reached.shown.under_plant (told_under (length plant.rows) collects.made now collects.now_is);
    };
    ordered = ordered_push plant start before outs (steps.Collect k) now reached.ordered told;
    one_book = books ∙ reached.one_book;
    one_queue = ap (λ (c : CoreView). length c.queues) collects.new_is ∙ (length-set old.queues k collects.waiting ∙ reached.one_queue);
    books = books_follow plant start before outs (steps.Collect k) now old new reached moves books;
    frames = λ i row waiting put e f g. subst (λ (ms : List MapBytes). AreFramesFrom plant start after (length ms) i row waiting put) (sym maps_are) (frames i row waiting put e f g);
    gathered = record {
      channel_is = channel ∙ reached.gathered.channel_is;
      quotas_are = quotas ∙ reached.gathered.quotas_are;
      slices_are = slices ∙ reached.gathered.slices_are;
      reslicings_are =
          reslicings
          ∙ (reached.gathered.reslicings_are
          ∙ ap (λ (rs : List Reslicing). start.waiting ++ rs) (sym (append-nil (reslicings_of before)) ∙ sym (filter_map-append reslicing_in before (steps.Collect k ∷ []))));
      one_each = puts ∙ (length-set old.gathering.queues k (queue_of old.gathering.queues k ++ collects.part ∷ []) ∙ reached.gathered.one_each);
      next_is = next ∙ ap (λ (ms : List MapBytes). start.frame + length ms) (sym maps_are);
      collected = still_within plant start before outs k now old new reached collects;
    };
  }

  maps_on : All (IsMapFrom plant start after) (maps_in outs)
  maps_on = All-weaker (IsMapFrom plant start before) (IsMapFrom plant start after) (map_kept plant start reached.at_one_frame before (steps.Collect k) now tells) (maps_in outs) reached.shown.maps.each

  -- it is not the last part of its frame
  waits_reached : is_last old.gathering k collects.part ≡ false → now ≡ [] → IsStateAfterFrom plant start after (outs ++ now) new
  waits_reached waits none =
      let least : IsLeast plant after (length (maps_in outs)) = least_waits plant start before outs k now old new reached collects waits in
      let gathering : new.gathering ≡ record old.gathering { queues = queues } = ap (λ (c : CoreView). c.gathering) collects.new_is ∙ sym (after_other old.gathering k collects.part waits) in
      gathered_reached (maps_in outs) (ap (λ (os : List Out). maps_in (outs ++ os)) none ∙ ap maps_in (append-nil outs))
      (record { frames = reached.shown.maps.frames; count = least; each = maps_on })
      (λ i row waiting put e f g. frames_put plant start before outs k now old new reached collects i row waiting put e f (ap (λ (h : Gathering). slice_get h.queues i) (sym gathering) ∙ g))
      (subst (IsCollected plant before after) (sym none) (λ n is_least. subst (IsLeast plant after) (one_least plant before (length (maps_in outs)) n reached.shown.maps.count is_least) least))
      (ap (λ (h : Gathering). h.channel) gathering) (ap (λ (h : Gathering). h.quotas) gathering)
      (ap (λ (h : Gathering). h.slices) gathering) (ap (λ (h : Gathering). h.reslicings) gathering) (ap (λ (h : Gathering). length h.queues) gathering)
      (ap (λ (h : Gathering). h.next) gathering ∙ reached.gathered.next_is)

  -- it is, and the MAP is made
  made_reached : (made : MapBytes) → IsPutResult old.gathering k collects.frame collects.part (Some made) → now ≡ out.Map made ∷ [] → IsStateAfterFrom plant start after (outs ++ now) new
  made_reached made answer one =
      let least : IsLeast plant after (length (maps_in outs) + 1) = least_made plant start before outs k now old new reached collects is answer.0 in
      let long : length (maps_in outs ++ made ∷ []) ≡ length (maps_in outs) + 1 = length_push (maps_in outs) made in
      let gathering : new.gathering ≡ record old.gathering { queues = map (λ (queue : List ElementsFields). drop 1 queue) queues; next = old.gathering.next + 1 } =
      ap (λ (c : CoreView). c.gathering) collects.new_is
      ∙ cond-true (is_last old.gathering k collects.part) (record old.gathering { queues = map (λ (queue : List ElementsFields). drop 1 queue) queues; next = old.gathering.next + 1 }) (record old.gathering { queues = queues }) answer.0 in
      gathered_reached (maps_in outs ++ made ∷ []) (ap (λ (os : List Out). maps_in (outs ++ os)) one ∙ filter_map-append map_in outs (out.Map made ∷ []))
      (record {
        frames = frames_pushed plant start before outs k now old new reached collects is made answer.0 answer.1 answer.2 answer.3;
        count = subst (IsLeast plant after) (sym long) least;
        each = All-push (IsMapFrom plant start after) (maps_in outs) made maps_on (made_in plant start before outs k now old new reached collects is made answer.0 answer.1 answer.2 answer.3);
      })
      (λ i row waiting put e f g.
      let queue = first_dropped queues i put (ap (λ (h : Gathering). slice_get h.queues i) (sym gathering) ∙ g) in
      subst (λ (n : ℕ). AreFramesFrom plant start after n i row waiting put) (sym long)
      (subst (λ (p : List ElementsFields). AreFramesFrom plant start after (length (maps_in outs) + 1) i row waiting p) queue.2
      (frames_made plant start before k (length (maps_in outs)) i row waiting queue.0 (frames_put plant start before outs k now old new reached collects i row waiting queue.0 e f queue.1))))
      (subst (IsCollected plant before after) (sym one) (λ n is_least. subst (λ (m : ℕ). IsLeast plant after (m + 1)) (one_least plant before (length (maps_in outs)) n reached.shown.maps.count is_least) least))
      (ap (λ (h : Gathering). h.channel) gathering) (ap (λ (h : Gathering). h.quotas) gathering)
      (ap (λ (h : Gathering). h.slices) gathering) (ap (λ (h : Gathering). h.reslicings) gathering) (ap (λ (h : Gathering). length h.queues) gathering ∙ length-map queues (λ (queue : List ElementsFields). drop 1 queue))
      (ap (λ (h : Gathering). h.next) gathering ∙ omega (arith, reached.gathered.next_is, long))

  pub collects_reached : IsStateAfterFrom plant start after (outs ++ now) new
  collects_reached = by collects.made refl
    where
      by : (o : Option MapBytes) → collects.made ≡ o → IsStateAfterFrom plant start after (outs ++ now) new
      by None e = waits_reached (subst (IsPutResult old.gathering k collects.frame collects.part) e collects.made_is) (collects.now_is ∙ ap told_map e)
      by (Some made) e = made_reached made (subst (IsPutResult old.gathering k collects.frame collects.part) e collects.made_is) (collects.now_is ∙ ap told_map e)
