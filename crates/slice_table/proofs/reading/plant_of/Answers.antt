use Rattle.std.proofs.Common.{◌≡◌, ◌≤◌, None, Ok, List, length, subst, sym, ap}
use Rattle.slice_table.proofs.Common.{table_view, RowFields, ConstsFields, AreConsts, IsPlant, rows_fault, unless}
use Rattle.slice_table.specs.ReadPlant.{plant_of}
use Rattle.slice_table.proofs.RowReading.{rows_read}
use Rattle.slice_table.proofs.PlantReading.{valid, no_fault}
use Rattle.slice_table.proofs.reading.plant_of.Goals as goal

pub checked_roster-requires : goal.checked_roster-requires
checked_roster-requires c =
    let read = rows_read c.in_ok-consts.consts (table_view c.args.document.now) c.in_ok-rows.rows.items c.in_ok-rows.ensures in
    subst (λ (rows : List RowFields). length rows ≤ 32) (sym c.as_slice.ensures.value) read.few

-- rows that are judged well have no fault
well_judged : (consts : ConstsFields) (seen rows : List RowFields) → seen ≡ rows → unless (rows_fault consts seen) (tt {0}) ≡ Ok (tt {0})
    → rows_fault consts rows ≡ None
well_judged consts seen rows same well =
    subst (λ (rs : List RowFields). rows_fault consts rs ≡ None) same (no_fault (rows_fault consts seen) (tt {0}) (tt {0}) well)

pub new-requires-clause-valid : goal.new-requires-clause-valid
new-requires-clause-valid c =
    let consts : ConstsFields = c.in_ok-consts.consts in
    let rows = c.in_ok-rows.rows.items in
    let shared : AreConsts consts = subst AreConsts c.consts.view_is c.consts.invariant in
    let none = well_judged consts c.as_slice.result.now rows c.as_slice.ensures.value c.in_ok-places.ensures.fault in
    subst (λ (rs : List RowFields). IsPlant (record { consts = consts; rows = rs })) (sym c.from_vec-rows.ensures)
    (valid consts rows shared (rows_read consts (table_view c.args.document.now) rows c.in_ok-rows.ensures) none)

pub returns : goal.returns
unfolding plant_of
returns c =
    let none = well_judged c.in_ok-consts.consts c.as_slice.result.now c.in_ok-rows.rows.items c.as_slice.ensures.value c.in_ok-places.ensures.fault in
    rw (c.in_ok-consts.ensures, c.in_ok-rows.ensures, none, ← c.from_vec-rows.ensures) (ap Ok (sym c.new.ensures))
