use Rattle.std.proofs.Common.{◌<◌, length, ap, sym, ◌∙◌, Some, arith}
use Rattle.std.proofs.lemmas.Option.{slice_get-get_or}
use Rattle.plant_workers.proofs.ReceiptsLemmas.FrameLemmas.{empty_none, low_none, high_none, found}
use Rattle.plant_workers.proofs.ReceiptsLemmas.MappingLemmas.{none_match}
use Rattle.plant_workers.proofs.receipts.own_frames.part_of_number.Goals as goal

pub returns-in_err-first : goal.returns-in_err-first
returns-in_err-first c = λ outputs same.
    none_match _ c.from_residual.result c.from_residual.ensures
    (empty_none c.args.frames.now c.requires.0 c.requires.1 outputs same c.args.number c.in_err-first.ensures.value)

pub returns-in_err-place : goal.returns-in_err-place
returns-in_err-place c = λ outputs same.
    none_match _ c.from_residual-in_err-place.result c.from_residual-in_err-place.ensures
    (low_none c.args.frames.now c.requires.0 c.requires.1 outputs same c.args.number c.in_ok-first.field-0.now c.in_ok-first.ensures.value c.in_err-place.ensures)

pub returns-in_err-get : goal.returns-in_err-get
returns-in_err-get c = λ outputs same.
    none_match _ c.from_residual-in_err-get.result c.from_residual-in_err-get.ensures
    (high_none c.args.frames.now c.requires.0 c.requires.1 outputs same c.args.number c.in_ok-first.field-0.now c.in_ok-place.place c.in_ok-first.ensures.value
    (omega (arith, c.in_ok-place.ensures.0, c.in_ok-place.ensures.1)) c.in_err-get.ensures.lookup.3)

pub returns : goal.returns
returns c = λ outputs same.
    let lt : c.in_ok-place.place < length c.args.frames.now = c.in_ok-get.ensures.lookup.3.0 in
    found c.args.frames.now c.requires.0 c.requires.1 outputs same c.args.number c.in_ok-first.field-0.now c.in_ok-get.field-0.now c.in_ok-place.place c.in_ok-first.ensures.value
    (omega (arith, c.in_ok-place.ensures.0, c.in_ok-place.ensures.1))
    (ap (λ x. Some x) c.in_ok-get.ensures.lookup.1 ∙ sym (slice_get-get_or c.args.frames.now c.in_ok-place.place c.in_ok-get.field-0.now lt))
