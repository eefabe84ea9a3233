use Rattle.std.proofs.Common.{ap, ◌∙◌, List}
use Rattle.plant_workers.proofs.CellStateLemmas.Common.{count_by, Entry, Output, is_frame}
use Rattle.plant_workers.proofs.CellStateLemmas.TakeLemmas.{few, passed}
use Rattle.plant_workers.proofs.cell_state.taking.behind.Goals as goal

pub overflow_sub-left : goal.overflow_sub-left
overflow_sub-left c =
    let entry : Entry = c.index-history-place.result in
    few c.args.history.now c.loop-place.place c.loop-place.left c.count_frames-left.result entry
    (c.requires.one c.loop-place.place entry c.loop-place-test.true) c.if-left-eq0.false
    (c.count_frames-left.ensures ∙ ap (λ (os : List Output). count_by is_frame os) (c.as_slice.ensures ∙ ap (λ (e : Entry). e.outputs) c.index-history-place.is))

pub loop-place-preserved : goal.loop-place-preserved
loop-place-preserved c =
    let entry : Entry = c.index-history-place.result in
    passed c.args.history.now c.args.taken c.loop-place.place c.loop-place.left c.count_frames-left.result entry c.loop-place-test.true
    (c.count_frames-left.ensures ∙ ap (λ (os : List Output). count_by is_frame os) (c.as_slice.ensures ∙ ap (λ (e : Entry). e.outputs) c.index-history-place.is))
    (c.requires.one c.loop-place.place entry c.loop-place-test.true) c.if-left-eq0.false c.loop-place.invariant
