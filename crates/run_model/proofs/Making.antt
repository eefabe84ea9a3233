-- The MAPs after a collection, which may make one.
use Rattle.std.proofs.Common.{◌≡◌, ℕ, zero, suc, ◌+◌, ◌-◌, true, false, List, [], ◌∷◌, ◌++◌, length, map, take, drop, Some, refl, sym, ap, ◌∙◌, subst, arith}
use Rattle.run_model.proofs.Common.{slice_get, range_with_len, length-set, length_push, map_push, slice_get_within, Minislots, ElementsFields, PlantFields, Channel, MapBytes, Quota, quota_of, queue_of, is_last, frame_slices, frame_parts, IsGathering, IsMapOf, length-fronts, is_put, last_is_first, Step, Out, maps_in, collects_of, isolated_run_from, ArePartsFrom, IsMapFrom, IsLeast, CoreView, frames_of, IsStateAfterFrom, Collects, Start}
use Rattle.run_model.proofs.Entries.{some_at}
use Rattle.run_model.proofs.Numbers.{numbered_from, elements_are, of_number, found_at}
use Rattle.run_model.proofs.Slices.{is_front, some_put, none_put, parts_slices}
use Rattle.run_model.proofs.Collected.{parts_in, then_collected, count_here, count_grows, put_length, first_put, with_it, k_within, here_before, frames_put, still_within}

range_push : (from count : ℕ) → range_with_len from count ++ (from + count) ∷ [] ≡ range_with_len from (count + 1)
range_push from zero = let e : from + 0 ≡ from = omega arith in ap (λ (n : ℕ). n ∷ []) e
range_push from (suc count) =
    let last : from + suc count ≡ from + 1 + count = omega arith in
    let long : suc (count + 1) ≡ suc count + 1 = omega arith in
    ap (λ (n : ℕ). from ∷ range_with_len (from + 1) count ++ n ∷ []) last ∙ (ap (λ (ns : List ℕ). from ∷ ns) (range_push (from + 1) count) ∙ ap (range_with_len from) long)

module _ (plant : PlantFields) (start : Start) (before : List Step) (outs : List Out) (k : ℕ) (now : List Out) (old new : CoreView) (reached : IsStateAfterFrom plant start before outs old) (collects : Collects k old new now) where
  abbrev count_made : ℕ
  count_made = length (maps_in outs)

  abbrev queues : List (List ElementsFields)
  queues = with_it plant start before outs k now old new reached collects

  new_queues : length new.queues ≡ length plant.rows
  new_queues = ap (λ (c : CoreView). length c.queues) collects.new_is ∙ (length-set old.queues k collects.waiting ∙ reached.one_queue)

  with_queues : length queues ≡ length plant.rows
  with_queues = length-set old.gathering.queues k (queue_of old.gathering.queues k ++ collects.part ∷ []) ∙ reached.gathered.one_each

  -- how many parts of an operator are in no MAP
  left_put : (i : ℕ) (put : List ElementsFields) → slice_get queues i ≡ Some put → length put ≡ collects_of i (then_collected plant start before k) - count_made
  left_put i put e =
      let within = slice_get_within queues i put e in
      let row = some_at plant.rows i (omega (arith, with_queues)) in
      let waiting = some_at new.queues i (omega (arith, with_queues, new_queues)) in
      let are = frames_put plant start before outs k now old new reached collects i row.0 waiting.0 put row.1 waiting.1 e in
      ap length are.put_are
      ∙ put_length count_made (collects_of i (then_collected plant start before k)) (frames_of (isolated_run_from plant.consts start row.0 i (then_collected plant start before k)).outputs)
      (still_within plant start before outs k now old new reached collects i row.0 row.1)

  -- where it is not the last part of its frame, as many MAPs are made
  pub least_waits : is_last old.gathering k collects.part ≡ false → IsLeast plant (then_collected plant start before k) count_made
  least_waits waits =
      let none = none_put queues waits in
      let within = slice_get_within queues none.0 [] none.1 in
      let left = left_put none.0 [] none.1 in
      let grows = count_grows plant start before k none.0 in
      let least = reached.shown.maps.count.at_most none.0 (omega (arith, with_queues)) in
      record {
        at_most = λ i lt.
            let more = count_grows plant start before k i in
            let le = reached.shown.maps.count.at_most i lt in
            omega (arith, more, le);
        one = (none.0, omega (arith, with_queues, within), omega (arith, left, grows, least));
      }

  -- where it is, one more
  pub least_made : IsGathering old.gathering → is_last old.gathering k collects.part ≡ true → IsLeast plant (then_collected plant start before k) (count_made + 1)
  least_made is whole =
      let within = k_within plant start before outs k now old new reached collects in
      let row = some_at plant.rows k (omega (arith, reached.gathered.one_each)) in
      let are = here_before plant start before outs k now old new reached collects k row.0 row.1 refl in
      let none = last_is_first old.gathering k collects.part is (is_put old.gathering k collects.frame collects.part collects.fits).op_is whole in
      let left = put_length count_made (collects_of k before) (frames_of (isolated_run_from plant.consts start row.0 k before).outputs) (reached.gathered.collected k row.0 row.1) in
      let nothing : length (parts_in (drop count_made (take (collects_of k before) (frames_of (isolated_run_from plant.consts start row.0 k before).outputs)))) ≡ 0 = ap length (sym are.put_are ∙ none) in
      let least = reached.shown.maps.count.at_most k (omega (arith, within, reached.gathered.one_each)) in
      let more = count_here plant start before k k refl in
      record {
        at_most = λ i lt.
            let put = some_at queues i (omega (arith, with_queues)) in
            let some = some_put queues i put.0 whole put.1 in
            let rest = left_put i put.0 put.1 in
            omega (arith, some, rest);
        one = (k, omega (arith, within, reached.gathered.one_each), omega (arith, left, nothing, least, more));
      }

  -- ---- the MAP that is made

  module _ (is : IsGathering old.gathering) (made : MapBytes) (whole : is_last old.gathering k collects.part ≡ true) (next : collects.frame ≡ old.gathering.next) (frame_is : made.frame ≡ collects.frame)
      (map_is : IsMapOf old.gathering.channel collects.frame old.gathering.quotas (frame_slices old.gathering collects.frame) (frame_parts old.gathering k collects.part) made.bytes) where
    number_is : made.frame ≡ start.frame + count_made
    number_is = frame_is ∙ (next ∙ reached.gathered.next_is)

    parts_at : ArePartsFrom plant start (then_collected plant start before k) made.frame (frame_parts old.gathering k collects.part)
    parts_at = record {
      one_each = length-fronts queues whole ∙ with_queues;
      own = λ i row part e f.
          let front = is_front queues i part whole f in
          let waiting = some_at new.queues i (let within = slice_get_within queues i front.queue front.queue_is in omega (arith, with_queues, new_queues)) in
          let are = frames_put plant start before outs k now old new reached collects i row waiting.0 front.queue e waiting.1 front.queue_is in
          let all = frames_of (isolated_run_from plant.consts start row i (then_collected plant start before k)).outputs in
          let first = first_put count_made (collects_of i (then_collected plant start before k)) all part (ap (λ (ps : List ElementsFields). slice_get ps 0) (sym are.put_are) ∙ front.first) in
          elements_are made.frame (isolated_run_from plant.consts start row i (then_collected plant start before k)).outputs
          ∙ (ap (λ (n : ℕ). of_number n all) number_is
          ∙ (found_at start.frame count_made all first.0 (numbered_from plant.consts start row i (then_collected plant start before k) (reached.at_one_frame i row e)) first.1 ∙ ap (λ (p : ElementsFields). p ∷ []) first.2));
    }

    pub made_in : IsMapFrom plant start (then_collected plant start before k) made
    made_in =
        let parts = frame_parts old.gathering k collects.part in
        record {
          parts = parts;
          parts_are = parts_at;
          map_is =
              subst (λ (l : Channel). IsMapOf l made.frame (map quota_of plant.rows) (map (λ (p : ElementsFields). p.slice) parts) parts made.bytes) reached.gathered.channel_is
              (subst (λ (n : ℕ). IsMapOf old.gathering.channel n (map quota_of plant.rows) (map (λ (p : ElementsFields). p.slice) parts) parts made.bytes) (sym frame_is)
              (subst (λ (ss : List Quota). IsMapOf old.gathering.channel collects.frame ss (map (λ (p : ElementsFields). p.slice) parts) parts made.bytes) reached.gathered.quotas_are
              (subst (λ (ms : List Minislots). IsMapOf old.gathering.channel collects.frame old.gathering.quotas ms parts made.bytes)
              (sym (parts_slices old.gathering k collects.frame collects.part is collects.fits whole)) map_is)));
        }

    pub frames_pushed : map (λ m. m.frame) (maps_in outs ++ made ∷ []) ≡ range_with_len start.frame (length (maps_in outs ++ made ∷ []))
    frames_pushed =
        map_push (λ (m : MapBytes). m.frame) (maps_in outs) made
        ∙ (ap (λ (ns : List ℕ). ns ++ made.frame ∷ []) reached.shown.maps.frames
        ∙ (ap (λ (n : ℕ). range_with_len start.frame count_made ++ n ∷ []) number_is
        ∙ (range_push start.frame count_made ∙ ap (range_with_len start.frame) (sym (length_push (maps_in outs) made)))))
