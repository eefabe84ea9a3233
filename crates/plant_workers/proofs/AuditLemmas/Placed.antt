-- One placing more.
use Rattle.std.proofs.Common.{◌≡◌, ℕ, List, [], ◌∷◌, ◌++◌, map, append_assoc, append-nil, length, ◌≤◌, Option, None, Result, Ok, Err, refl, sym, ap, ◌∙◌, subst, arith}
use Rattle.plant_workers.proofs.AuditLemmas.Common.{All, OnOk, OnErr, AllByRecursion, All-from_recursion, recursion_from_All, length-map, IsSlice, ElementsFields, PlantFields, SliceRow, MapBytes, GatherFault, Refused, Gathering, gathering_of, put_fault, after_put, MayReslice, gathering_after_reslice, IsGathering, IsPutResult, slice_of, Placing, Put, Reslice, map_if_made, HaveMade, HasPut}
use Rattle.map_assembly.specs.Plan.{IsInFrame}

-- a part more is put
pub put_more : (g after : Gathering) (placings : List Placing) (maps : List MapBytes) (op frame : ℕ) (part : ElementsFields) (made : Option MapBytes)
    → HaveMade g placings maps after → IsGathering after → put_fault after op frame part ≡ None → IsPutResult after op frame part made
    → HaveMade g (placings ++ Put op frame part ∷ []) (maps ++ map_if_made made) (after_put after op part)
put_more g after [] maps op frame part made h is fits answer =
    let here : IsGathering g = subst IsGathering h.1 is in (
      made,
      [],
      here,
      subst (λ (x : Gathering). put_fault x op frame part ≡ None) h.1 fits,
      subst (λ (x : Gathering). IsPutResult x op frame part made) h.1 answer,
      ap (λ (ms : List MapBytes). ms ++ map_if_made made) h.0 ∙ sym (append-nil (map_if_made made)),
      (refl, ap (λ (x : Gathering). after_put x op part) h.1),
    )
put_more g after (Put k n p ∷ later) maps op frame part made h is fits answer = (
  h.0,
  h.1 ++ map_if_made made,
  h.2,
  h.3,
  h.4,
  ap (λ (ms : List MapBytes). ms ++ map_if_made made) h.5 ∙ append_assoc (map_if_made h.0) h.1 (map_if_made made),
  put_more (after_put g k p) after later h.1 op frame part made h.6 is fits answer,
)
put_more g after (Reslice from rows ∷ later) maps op frame part made h is fits answer = (
  h.0,
  h.1,
  put_more (gathering_after_reslice g from (map slice_of rows)) after later maps op frame part made h.2 is fits answer,
)

-- other slices are given
pub reslice_more : (g after : Gathering) (placings : List Placing) (maps : List MapBytes) (from : ℕ) (rows : List SliceRow)
    → HaveMade g placings maps after → IsGathering after → MayReslice after from (map slice_of rows)
    → HaveMade g (placings ++ Reslice from rows ∷ []) maps (gathering_after_reslice after from (map slice_of rows))
reslice_more g after [] maps from rows h is may = (
  subst IsGathering h.1 is,
  subst (λ (x : Gathering). MayReslice x from (map slice_of rows)) h.1 may,
  (h.0, ap (λ (x : Gathering). gathering_after_reslice x from (map slice_of rows)) h.1),
)
reslice_more g after (Put k n p ∷ later) maps from rows h is may = (
  h.0,
  h.1,
  h.2,
  h.3,
  h.4,
  h.5,
  reslice_more (after_put g k p) after later h.1 from rows h.6 is may,
)
reslice_more g after (Reslice n others ∷ later) maps from rows h is may = (
  h.0,
  h.1,
  reslice_more (gathering_after_reslice g n (map slice_of others)) after later maps from rows h.2 is may,
)

-- a part is put, or nothing is changed
pub put_or_refused : (r : Result (Unit {0}) GatherFault) (plant : PlantFields) (op frame : ℕ) (part : ElementsFields) (old new : Gathering)
    (placings more : List Placing) (maps made : List MapBytes)
    → HaveMade (gathering_of plant) placings maps old → IsGathering old
    → OnOk r (HasPut op frame part (record { plant = plant; gathering = old; placings = placings; maps = maps })
    (record { plant = plant; gathering = new; placings = more; maps = made }))
    → OnErr r (new ≡ old) → OnErr r (more ≡ placings) → OnErr r (made ≡ maps) → HaveMade (gathering_of plant) more made new
put_or_refused (Ok _) plant op frame part old new placings more maps made h is put _ _ _ =
    rw (put.placings_are, put.maps_are, put.gathering_is) (put_more (gathering_of plant) old placings maps op frame part put.made h is put.fits put.made_is)
put_or_refused (Err _) plant op frame part old new placings more maps made h is _ same listed given = rw (listed, given, same) h

-- the fault of a part that was refused, else this one
abbrev pub fault_refused : GatherFault → Result (Option MapBytes) Refused → GatherFault
fault_refused fault (Ok _) = fault
fault_refused fault (Err refused) = refused.fault

-- what may be given is of few operators
pub are_few_slices : (g : Gathering) (from : ℕ) (rows : List SliceRow) → IsGathering g → MayReslice g from (map slice_of rows) → length rows ≤ 120
are_few_slices g from rows is may =
    let one_each = may.slices_are.one_each in
    let few = is.quotas_are.few in
    omega (arith, length-map rows slice_of, one_each, few)

-- what may be given are slices
pub are_slices : (g : Gathering) (from : ℕ) (rows : List SliceRow) → IsGathering g → MayReslice g from (map slice_of rows) → All (λ row. IsSlice (slice_of row)) rows
are_slices g from rows is may =
    All-from_recursion (λ row. IsSlice (slice_of row)) rows (each rows (recursion_from_All (IsInFrame g.channel) (map slice_of rows) may.slices_are.each))
  where
    each : (rs : List SliceRow) → AllByRecursion (IsInFrame g.channel) (map slice_of rs) → AllByRecursion (λ row. IsSlice (slice_of row)) rs
    each [] h = tt
    each (r ∷ rs) h = (record { some = h.0.some; in_range = let e = h.0.within_frame in let f = is.channel_is.frame in omega (arith, e, f) }, each rs h.1)
