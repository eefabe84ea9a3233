use Rattle.std.proofs.Common.{refl, ◌∙◌, arith}
use Rattle.operator_book.specs.ViewOf.{view_of}
use Rattle.plant_workers.proofs.AuditLemmas.Judging.{fault_of_these, outcome_of_these}
use Rattle.plant_workers.proofs.AuditLemmas.Exact.{strayed_is, map_strayed_is, no_stray_of_these, no_map_stray_of_these, put_of_these}
use Rattle.plant_workers.proofs.audit.comparing.compare.Goals as goal

pub returns : goal.returns
returns g c = record {
  ok = outcome_of_these view_of c.as_slice-books.result.now c.args.settled.books.items c.as_slice-books.ensures.value c.args.plant.now c.args.steps.now c.args.assembly
      c.args.settled.receipts.items c.into_maps-maps.result.items (c.as_slice-books.ensures.len ∙ c.requires.one_each) (omega (arith, c.as_slice-books.ensures.len, c.requires.callers_each, c.args.settled.receipts.ok)) c.requires.merged c.requires.by_callers c.requires.ticked c.always.ensures.made c.always.ensures.gathering
      c.into_maps-maps.ensures c.in_default.ensures.ok;
  books = refl;
  receipts = refl;
  maps = c.into_maps-maps.ensures;
  put = (c.in_default.ensures.ok.1, put_of_these view_of c.as_slice-books.result.now c.args.settled.books.items c.as_slice-books.ensures.value c.args.plant.now c.args.steps.now c.args.assembly c.in_default.ensures.ok.2);
  err = tt;
  strayed = λ op index. (
    λ wrong. cc,
    λ stray. absurd (no_stray_of_these view_of c.as_slice-books.result.now c.args.settled.books.items c.as_slice-books.ensures.value c.args.plant.now c.args.steps.now c.args.assembly c.in_default.ensures.ok.0 op index stray),
  );
  map_strayed = λ frame. (
    λ wrong. cc,
    λ found. absurd (no_map_stray_of_these view_of c.as_slice-books.result.now c.args.settled.books.items c.as_slice-books.ensures.value c.args.plant.now c.args.steps.now c.args.assembly c.in_default.ensures.ok.1 c.in_default.ensures.ok.2 frame found.1),
  );
}

pub returns-in-Err-clause-err : goal.returns-in-Err-clause-err
returns-in-Err-clause-err g c =
    fault_of_these view_of c.as_slice-books.result.now c.args.settled.books.items c.as_slice-books.ensures.value c.args.plant.now c.args.steps.now c.args.assembly c.in-Err.fault c.in-Err.ensures.err

pub returns-in-Err-clause-strayed : goal.returns-in-Err-clause-strayed
returns-in-Err-clause-strayed g c =
    strayed_is c.args.plant.now c.args.steps.now _ c.args.assembly c.in-Err.fault
    (fault_of_these view_of c.as_slice-books.result.now c.args.settled.books.items c.as_slice-books.ensures.value c.args.plant.now c.args.steps.now c.args.assembly c.in-Err.fault c.in-Err.ensures.err)

pub returns-in-Err-clause-map_strayed : goal.returns-in-Err-clause-map_strayed
returns-in-Err-clause-map_strayed g c =
    map_strayed_is c.args.plant.now c.args.steps.now _ c.args.assembly c.in-Err.fault
    (fault_of_these view_of c.as_slice-books.result.now c.args.settled.books.items c.as_slice-books.ensures.value c.args.plant.now c.args.steps.now c.args.assembly c.in-Err.fault c.in-Err.ensures.err)
