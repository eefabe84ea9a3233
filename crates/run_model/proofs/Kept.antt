-- The MAPs of a run stay MAPs of it after one step more.
use Rattle.std.proofs.Common.{◌≡◌, ℕ, ◌+◌, false, cond, List, [], ◌∷◌, ◌++◌, length, Some, append-nil, refl, sym, ap, ◌∙◌, subst, arith}
use Rattle.run_model.proofs.Common.{slice_get, filter_map-append, All-weaker, ElementsFields, RowFields, PlantFields, MapBytes, Step, Out, answers_of, maps_in, map_in, is_collect, collects_of, isolated_run_from, elements_at_frame, IsMapFrom, IsLeast, AreMapsFrom, frames_of, frame_with_number, AreNumbered, Start, StandAtOneFrame}
use Rattle.std.proofs.lemmas.List.Sums.{sum_by_push}
use Rattle.run_model.proofs.Following.{EachTells}
use Rattle.run_model.proofs.Numbers.{numbered_from, of_number, elements_are, number_kept}

-- ---- frames

pub frames_more : (plant : PlantFields) (start : Start) (before : List Step) (step : Step) (now : List Out) → EachTells plant start before step now → (i : ℕ) (row : RowFields) → slice_get plant.rows i ≡ Some row
    → frames_of (isolated_run_from plant.consts start row i (before ++ step ∷ [])).outputs ≡ frames_of (isolated_run_from plant.consts start row i before).outputs ++ frames_of (answers_of i now)
frames_more plant start before step now tells i row e = ap frames_of (tells i row e) ∙ filter_map-append frame_with_number (isolated_run_from plant.consts start row i before).outputs (answers_of i now)

-- the frame of a number stays what it is
part_kept : (plant : PlantFields) (start : Start) → StandAtOneFrame plant start → (before : List Step) (step : Step) (now : List Out) → EachTells plant start before step now → (i : ℕ) (row : RowFields) → slice_get plant.rows i ≡ Some row → (frame : ℕ) (part : ElementsFields)
    → elements_at_frame frame (isolated_run_from plant.consts start row i before).outputs ≡ part ∷ [] → elements_at_frame frame (isolated_run_from plant.consts start row i (before ++ step ∷ [])).outputs ≡ part ∷ []
part_kept plant start at before step now tells i row e frame part is =
    let all = frames_more plant start before step now tells i row e in
    elements_are frame (isolated_run_from plant.consts start row i (before ++ step ∷ [])).outputs
    ∙ (ap (of_number frame) all
    ∙ number_kept frame start.frame (frames_of (isolated_run_from plant.consts start row i before).outputs) (frames_of (answers_of i now)) part
    (subst (AreNumbered start.frame) all (numbered_from plant.consts start row i (before ++ step ∷ []) (at i row e)))
    (sym (elements_are frame (isolated_run_from plant.consts start row i before).outputs) ∙ is))

pub map_kept : (plant : PlantFields) (start : Start) → StandAtOneFrame plant start → (before : List Step) (step : Step) (now : List Out) → EachTells plant start before step now → (made : MapBytes) → IsMapFrom plant start before made → IsMapFrom plant start (before ++ step ∷ []) made
map_kept plant start at before step now tells made is = record {
  parts = is.parts;
  parts_are = record {
    one_each = is.parts_are.one_each;
    own = λ i row part e f. part_kept plant start at before step now tells i row e made.frame part (is.parts_are.own i row part e f);
  };
  map_is = is.map_is;
}

-- ---- counts

pub collects_more : (i : ℕ) (before : List Step) (step : Step) → collects_of i (before ++ step ∷ []) ≡ collects_of i before + cond {A = ℕ} (is_collect i step) 1 0
collects_more i before step = sum_by_push (λ (s : Step). cond {A = ℕ} (is_collect i s) 1 0) before step

pub collects_same : (i : ℕ) (before : List Step) (step : Step) → is_collect i step ≡ false → collects_of i (before ++ step ∷ []) ≡ collects_of i before
collects_same i before step other =
    let more = collects_more i before step in
    let nothing : ◌≡◌ {A = ℕ} (cond (is_collect i step) 1 0) 0 = rw other refl in
    omega (arith, more, nothing)

-- there is one least number
pub one_least : (plant : PlantFields) (steps : List Step) (m n : ℕ) → IsLeast plant steps m → IsLeast plant steps n → m ≡ n
one_least plant steps m n a b =
    let p = a.at_most b.one.0 b.one.1 in
    let q = b.at_most a.one.0 a.one.1 in
    omega (arith, p, q, a.one.2, b.one.2)

module _ (plant : PlantFields) (start : Start) (before : List Step) (outs : List Out) (step : Step) (now : List Out) (tells : EachTells plant start before step now)
    (others : (i : ℕ) → is_collect i step ≡ false) (none : maps_in now ≡ []) where
  pub maps_same : maps_in (outs ++ now) ≡ maps_in outs
  maps_same = filter_map-append map_in outs now ∙ (ap (λ (ms : List MapBytes). maps_in outs ++ ms) none ∙ append-nil (maps_in outs))

  pub least_same : (n : ℕ) → IsLeast plant before n → IsLeast plant (before ++ step ∷ []) n
  least_same n least = record {
    at_most = λ i within. let p = least.at_most i within in let q = collects_same i before step (others i) in omega (arith, p, q);
    one = (least.one.0, least.one.1, collects_same least.one.0 before step (others least.one.0) ∙ least.one.2);
  }

  -- a step that collects nothing makes no MAP, and leaves those that were made
  pub maps_kept : StandAtOneFrame plant start → AreMapsFrom plant start before (maps_in outs) → AreMapsFrom plant start (before ++ step ∷ []) (maps_in (outs ++ now))
  maps_kept at maps = subst (AreMapsFrom plant start (before ++ step ∷ [])) (sym maps_same) (record {
    frames = maps.frames;
    count = least_same (length (maps_in outs)) maps.count;
    each = All-weaker (IsMapFrom plant start before) (IsMapFrom plant start (before ++ step ∷ [])) (map_kept plant start at before step now tells) (maps_in outs) maps.each;
  })
