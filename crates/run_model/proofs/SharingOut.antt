-- The MAPs of a run: each minislot once, and to each operator its own.
use Rattle.std.proofs.Common.{◌≡◌, ℕ, count_by, List, Some, option_map, ap, ◌∙◌, arith}
use Rattle.std.specs.Prelude.{slice_get, Contains}
use Rattle.run_model.proofs.Common.{slice_get-map, slice_get_within, All-contains, RowFields, PlantFields, MapBytes, MapView, quota_of, MapReads, holds, part_of, Step, Out, maps_in, IsMapFrom, IsTraceFrom, IsOwnPartFrom, IsSharedOutFrom, Start, first_start, IsTraceOf, IsSharedOut}
use Rattle.map_assembly.specs.Map.{map_of}
use Rattle.map_assembly.proofs.ReadLemmas.{reads_once}
use Rattle.run_model.proofs.Entries.{some_at}

own_part_is : (plant : PlantFields) (start : Start) (steps : List Step) (i : ℕ) (row : RowFields) (made : MapBytes) (view : MapView) → slice_get plant.rows i ≡ Some row → IsMapFrom plant start steps made → MapReads made.bytes view
    → IsOwnPartFrom plant start steps i row made view
own_part_is plant start steps i row made view e m reads =
    let there = some_at m.parts i (omega (arith, m.parts_are.one_each, slice_get_within plant.rows i row e)) in
    record {
      part = there.0;
      put = m.parts_are.own i row there.0 e there.1;
      part_is =
          ap (part_of row.sids) (reads_once made.bytes view (map_of plant.consts.channel made.frame m.parts) reads m.map_is.reads)
          ∙ m.map_is.own i (quota_of row) there.0 (slice_get-map quota_of plant.rows i ∙ ap (option_map quota_of) e) there.1;
    }

-- each MAP of the run
pub shared_from : (plant : PlantFields) (start : Start) (steps : List Step) (outs : List Out) (made : MapBytes) (view : MapView) → IsTraceFrom plant start steps outs → Contains (maps_in outs) made → MapReads made.bytes view → IsSharedOutFrom plant start steps made view
shared_from plant start steps outs made view shown within reads =
    let m : IsMapFrom plant start steps made = All-contains (IsMapFrom plant start steps) (maps_in outs) made shown.maps.each within in
    let same : view ≡ map_of plant.consts.channel made.frame m.parts = reads_once made.bytes view (map_of plant.consts.channel made.frame m.parts) reads m.map_is.reads in
    record {
      once = λ n lt. ap (λ (v : MapView). count_by (holds n) v.spans) same ∙ m.map_is.tiled.once n lt;
      own = λ i row e. own_part_is plant start steps i row made view e m reads;
    }

-- from the opened plant
pub shared_out : (plant : PlantFields) (steps : List Step) (outs : List Out) (made : MapBytes) (view : MapView) → IsTraceOf plant steps outs → Contains (maps_in outs) made → MapReads made.bytes view → IsSharedOut plant steps made view
shared_out plant = shared_from plant (first_start plant)
