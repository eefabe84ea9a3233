-- Frames that wait to be collected, after a step that collects nothing.
use Rattle.std.proofs.Common.{◌≡◌, ℕ, ◌+◌, ◌≤◌, false, List, [], ◌∷◌, ◌++◌, length, map, take, drop, Some, append-nil, append_assoc, length-append, ◌⊎◌, inl, inr, sym, ap, ◌∙◌, arith}
use Rattle.run_model.proofs.Common.{slice_get, slice_set, cases_eq, length-set, take-append-le, drop-append-le, filter_map-append, slice_get_within, ElementsFields, RowFields, PlantFields, SliceRow, Action, Output, operator, own_step, Reslicing, Gathering, Step, Out, answers_of, maps_in, is_collect, collects_of, reslicing_in, reslicings_of, isolated_run_from, CoreView, frames_of, AreFramesFrom, IsGatheredFrom, Acts, Reslices, Start}
use Rattle.run_model.proofs.Entries.{get_same, get_other, same_at}
use Rattle.run_model.proofs.Answers.{answers_here, answers_else}
use Rattle.run_model.proofs.Following.{EachTells}
use Rattle.run_model.proofs.Numbers.{Numbered}
use Rattle.run_model.proofs.Kept.{frames_more, collects_same, maps_same}

-- each operator's frames wait behind those that waited
abbrev pub EachWaits : CoreView → CoreView → List Out → Type 0
EachWaits old new now = (i : ℕ) (waiting made : List Numbered) → slice_get old.queues i ≡ Some waiting → slice_get new.queues i ≡ Some made → made ≡ waiting ++ frames_of (answers_of i now)

-- ---- by each kind of step

module _ (k : ℕ) (action : Action) (old new : CoreView) (now : List Out) (acts : Acts k action old new now) where
  abbrev outputs : List Output
  outputs = (own_step (operator acts.book.consts acts.book.row acts.book.state) action).outputs

  pub acts_waits : EachWaits old new now
  acts_waits i waiting made e f = by (cases_eq i k)
    where
      by : (i ≡ k) ⊎ (i ≡ k → ⊥) → made ≡ waiting ++ frames_of (answers_of i now)
      by (inl same) =
          let there : slice_get new.queues i ≡ Some (acts.waiting ++ frames_of outputs) =
          ap (λ (c : CoreView). slice_get c.queues i) acts.new_is
          ∙ (ap (slice_get (slice_set old.queues k (acts.waiting ++ frames_of outputs))) same ∙ get_same old.queues k (acts.waiting ++ frames_of outputs) (slice_get_within old.queues k acts.waiting acts.waiting_is)) in
          let was : acts.waiting ≡ waiting = same_at old.queues k acts.waiting waiting acts.waiting_is (ap (slice_get old.queues) (sym same) ∙ e) in
          let told : answers_of i now ≡ outputs = ap (answers_of i) acts.now_is ∙ answers_here i k outputs same in
          same_at new.queues i made (acts.waiting ++ frames_of outputs) f there ∙ (λ n. was n ++ frames_of (sym told n))
      by (inr other) =
          let there : slice_get new.queues i ≡ Some waiting = ap (λ (c : CoreView). slice_get c.queues i) acts.new_is ∙ (get_other old.queues k i (acts.waiting ++ frames_of outputs) other ∙ e) in
          let told : answers_of i now ≡ [] = ap (answers_of i) acts.now_is ∙ answers_else i k outputs other in
          same_at new.queues i made waiting f there ∙ (sym (append-nil waiting) ∙ ap (λ (os : List Output). waiting ++ frames_of os) (sym told))

  pub acts_queues : length new.queues ≡ length old.queues
  acts_queues = ap (λ (c : CoreView). length c.queues) acts.new_is ∙ length-set old.queues k (acts.waiting ++ frames_of outputs)

pub reslices_waits : (from : ℕ) (rows : List SliceRow) (old new : CoreView) (now : List Out) → Reslices from rows old new now → EachWaits old new now
reslices_waits from rows old new now reslices i waiting made e f =
    let there : slice_get new.queues i ≡ Some waiting = ap (λ (qs : List (List Numbered)). slice_get qs i) reslices.queues_are ∙ e in
    same_at new.queues i made waiting f there ∙ (sym (append-nil waiting) ∙ ap (λ (os : List Out). waiting ++ frames_of (answers_of i os)) (sym reslices.now_is))

-- ---- what they come to

module _ (plant : PlantFields) (start : Start) (before : List Step) (outs : List Out) (step : Step) (now : List Out) (tells : EachTells plant start before step now)
    (others : (i : ℕ) → is_collect i step ≡ false) (none : maps_in now ≡ []) where
  pub frames_follow : (made i : ℕ) (row : RowFields) (waiting after : List Numbered) (put : List ElementsFields) → slice_get plant.rows i ≡ Some row
      → collects_of i before ≤ length (frames_of (isolated_run_from plant.consts start row i before).outputs) → AreFramesFrom plant start before made i row waiting put → after ≡ waiting ++ frames_of (answers_of i now)
      → AreFramesFrom plant start (before ++ step ∷ []) made i row after put
  frames_follow made i row waiting after put e within are is =
      let count = collects_same i before step (others i) in
      let all = frames_more plant start before step now tells i row e in
      let was = frames_of (isolated_run_from plant.consts start row i before).outputs in
      let more = frames_of (answers_of i now) in
      let rest : drop (collects_of i (before ++ step ∷ [])) (frames_of (isolated_run_from plant.consts start row i (before ++ step ∷ [])).outputs) ≡ drop (collects_of i before) was ++ more =
      (λ n. drop (count n) (all n)) ∙ drop-append-le (collects_of i before) was more within in
      let front : take (collects_of i (before ++ step ∷ [])) (frames_of (isolated_run_from plant.consts start row i (before ++ step ∷ [])).outputs) ≡ take (collects_of i before) was =
      (λ n. take (count n) (all n)) ∙ take-append-le (collects_of i before) was more within in
      record {
        waiting_are = is ∙ (ap (λ (ws : List Numbered). ws ++ more) are.waiting_are ∙ sym rest);
        put_are = are.put_are ∙ ap (λ (frames : List Numbered). map (λ (frame : Numbered). frame.1) (drop made frames)) (sym front);
      }

  pub gathered_follows : (g after : Gathering) → IsGatheredFrom plant start before outs g → after.channel ≡ g.channel → after.quotas ≡ g.quotas → after.slices ≡ g.slices
      → after.reslicings ≡ g.reslicings ++ reslicings_of (step ∷ []) → after.queues ≡ g.queues → after.next ≡ g.next
      → IsGatheredFrom plant start (before ++ step ∷ []) (outs ++ now) after
  gathered_follows g after is channel quotas slices reslicings queues next = record {
    channel_is = channel ∙ is.channel_is;
    quotas_are = quotas ∙ is.quotas_are;
    slices_are = slices ∙ is.slices_are;
    reslicings_are =
        reslicings
        ∙ (ap (λ (rs : List Reslicing). rs ++ reslicings_of (step ∷ [])) is.reslicings_are
        ∙ (append_assoc start.waiting (reslicings_of before) (reslicings_of (step ∷ []))
        ∙ ap (λ (rs : List Reslicing). start.waiting ++ rs) (sym (filter_map-append reslicing_in before (step ∷ [])))));
    one_each = ap length queues ∙ is.one_each;
    next_is = next ∙ (is.next_is ∙ ap (λ ms. start.frame + length ms) (sym (maps_same plant start before outs step now tells others none)));
    collected = λ i row e.
        let count = collects_same i before step (others i) in
        let all = ap length (frames_more plant start before step now tells i row e) in
        let long = length-append (frames_of (isolated_run_from plant.consts start row i before).outputs) (frames_of (answers_of i now)) in
        let was = is.collected i row e in
        omega (arith, count, all, long, was);
  }
