use Rattle.std.proofs.Common.{◌≡◌, ◌∙◌, sym, ap, get_or, None, Some, List, arith}
use Rattle.plant_workers.proofs.CellStateLemmas.Common.{slice_get, Entry, Output, frames_of, waiting_in, none_here, one_here, some_here, on_err}
use Rattle.plant_workers.proofs.cell_state.collecting.oldest_from.Goals as goal

pub returns-in-Some-clause-value : goal.returns-in-Some-clause-value
returns-in-Some-clause-value c =
    let entry : Entry = c.index-history-place.result in
    let seen : slice_get (frames_of (get_or c.args.history.now c.loop-place.place entry).outputs) 0 ≡ Some (c.in-Some.number, c.in-Some.elements) =
    ap (λ (os : List Output). slice_get (frames_of os) 0) (sym c.as_slice.ensures) ∙ (sym c.in_ok-number.ensures.value ∙ c.in-Some.is) in
    let here : waiting_in c.args.history.now c.loop-place.place ≡ waiting_in c.args.history.now c.args.from = c.loop-place.invariant in (
      sym here ∙ one_here c.args.history.now c.loop-place.place entry (c.in-Some.number, c.in-Some.elements) c.loop-place-test.true
          (c.requires.one c.loop-place.place entry c.loop-place-test.true) seen,
      omega (arith, c.loop-place-test.true),
    )

pub loop-place-preserved : goal.loop-place-preserved
loop-place-preserved c =
    let entry : Entry = c.index-history-place.result in
    let seen : slice_get (frames_of (get_or c.args.history.now c.loop-place.place entry).outputs) 0 ≡ None =
    ap (λ (os : List Output). slice_get (frames_of os) 0) (sym c.as_slice.ensures) ∙ (sym c.in_ok-number.ensures.value ∙ c.in_default.is) in
    let here : waiting_in c.args.history.now c.loop-place.place ≡ waiting_in c.args.history.now c.args.from = c.loop-place.invariant in
    none_here c.args.history.now c.loop-place.place entry c.loop-place-test.true seen ∙ here

pub returns-in_err-number-clause-some : goal.returns-in_err-number-clause-some
returns-in_err-number-clause-some c =
    let entry : Entry = c.index-history-place.result in
    let here : waiting_in c.args.history.now c.loop-place.place ≡ waiting_in c.args.history.now c.args.from = c.loop-place.invariant in
    on_err c.from_residual.result (some_here c.args.history.now c.loop-place.place entry c.args.from c.as_slice.result.now c.loop-place-test.true here c.as_slice.ensures c.in_err-number.ensures.some)
