use Rattle.std.proofs.Common.{◌≡◌, ◌∙◌, ◌+◌, List, [], get_or, take, drop, Option, None, sym, ap, subst}
use Rattle.slice_table.proofs.Common.{option_or, Modem, RowFields, all_modems, Adds}
use Rattle.std.proofs.lemmas.Result.{err_from_is_err_and}
use Rattle.slice_table.specs.Checks.{first_again, twice_fault}
use Rattle.slice_table.proofs.Places.{again_row, finds_more, lists_found, none_again, fault_kept}
use Rattle.slice_table.proofs.roster.places_of.Goals as goal

pub returns-in_err-add_modems-clause-fault : goal.returns-in_err-add_modems-clause-fault
unfolding twice_fault
returns-in_err-add_modems-clause-fault c =
    let rows = c.args.rows.now in
    let here = c.loop-place in
    let row : RowFields = c.index-rows-place.result in
    let before = all_modems (take here.place rows) in
    let modems : c.as_slice.result.now ≡ (get_or rows here.place row).modems = c.as_slice.ensures ∙ ap (λ (r : RowFields). r.modems) (c.get_fields.ensures.value ∙ c.index-rows-place.is) in
    let next = first_again (all_modems (take (here.place + 1) rows)) (all_modems (drop (here.place + 1) rows)) in
    let whole : first_again [] (all_modems rows) ≡ option_or (first_again before c.as_slice.result.now) next =
    sym here.invariant.left ∙ again_row rows here.place row c.loop-place-test.true
    ∙ ap (λ (ms : List Modem). option_or (first_again before ms) next) (sym modems) in
    let exit = err_from_is_err_and c.from_residual.result c.from_residual.ensures.1 in
    rw (exit.1, exit.2) (fault_kept c.in_err-add_modems.field-0.0 (first_again before c.as_slice.result.now) next (first_again [] (all_modems rows)) (tt {0})
    (c.in_err-add_modems.ensures.fault before (lists_found (take here.place rows) here.places here.invariant.found)) whole)

pub loop-place-preserved : goal.loop-place-preserved
loop-place-preserved c =
    let rows = c.args.rows.now in
    let here = c.loop-place in
    let row : RowFields = c.index-rows-place.result in
    let before = all_modems (take here.place rows) in
    let modems : c.as_slice.result.now ≡ (get_or rows here.place row).modems = c.as_slice.ensures ∙ ap (λ (r : RowFields). r.modems) (c.get_fields.ensures.value ∙ c.index-rows-place.is) in
    let added : Adds here.places here.place (get_or rows here.place row).modems c.add_modems.new.places =
    subst (λ (ms : List Modem). Adds here.places here.place ms c.add_modems.new.places) modems c.in_ok-add_modems.ensures.added in
    let fresh : first_again before (get_or rows here.place row).modems ≡ None =
    subst (λ (ms : List Modem). first_again before ms ≡ None) modems
    (none_again (first_again before c.as_slice.result.now) (c.in_ok-add_modems.ensures.fault before (lists_found (take here.place rows) here.places here.invariant.found))) in
    let next = first_again (all_modems (take (here.place + 1) rows)) (all_modems (drop (here.place + 1) rows)) in
    record {
      found = finds_more rows here.place row here.places c.add_modems.new.places c.loop-place-test.true here.invariant.found added;
      left = sym (again_row rows here.place row c.loop-place-test.true ∙ ap (λ (o : Option Modem). option_or o next) fresh) ∙ here.invariant.left;
    }
