-- Operators of a core at rest, resumed under another plant.
use Rattle.std.proofs.Common.{◌≡◌, refl, sym, ap, ◌∙◌, arith}
use Rattle.plant_core.proofs.LiveLemmas.Common.{slice_get_within, RowFields, opened_before, some_at}
use Rattle.plant_core.specs.live.Changed.{ResumedIsChanged}
use Rattle.plant_core.proofs.LiveLemmas.ResumeLemmas.{operator_at, resumed_starts}
use Rattle.plant_core.proofs.LiveLemmas.RestLemmas.{book_at_place, stands_now, rests_at}

pub changed : ResumedIsChanged
changed plant next start steps outs live frame ops after rests valid shared may held come = record {
  rests = rests_at plant start steps outs live after frame rests;
  shared = shared;
  starts = resumed_starts next frame ops valid may;
  slices = held;
  go_on = λ i j was row here there name.
      let op = operator_at next frame ops valid may j row there in
      let book = book_at_place plant start steps outs live after i was here in
      let same : book.book.row.name ≡ op.op.row.name = ap (λ (r : RowFields). r.name) book.row_is ∙ (name ∙ ap (λ (r : RowFields). r.name) (sym op.row_is)) in
      op.state_is ∙ (come.go_on i j book.book op.op book.held op.op_is same ∙ book.state_is);
  open_anew = λ j row there new.
      let op = operator_at next frame ops valid may j row there in
      let nobody = come.open_anew j op.op op.op_is (λ i book held same.
      let was = some_at plant.rows i (omega (arith, slice_get_within live.books i book held, after.one_book)) in
      let stands = stands_now plant start steps outs live after i was.0 book was.1 held in
      new i was.0 was.1 (ap (λ (r : RowFields). r.name) (sym stands.0) ∙ (same ∙ ap (λ (r : RowFields). r.name) op.row_is))) in
      op.state_is ∙ (nobody ∙ ap (λ (r : RowFields). opened_before frame next.consts r) op.row_is);
  nothing_done = (refl, refl);
}
