use Rattle.std.proofs.Common.{Bool, sym, ◌∙◌}
use Rattle.std.proofs.lemmas.Bool.{false≢true}
use Rattle.plant_workers.proofs.ReceiptsLemmas.MappingLemmas.{if_ok, parts_are, parts_not}
use Rattle.plant_workers.proofs.receipts.mapping.has_own_parts.Goals as goal

pub returns-in-Ok : goal.returns-in-Ok
returns-in-Ok c = λ books zip.
    if_ok c.are_own_parts.result
    (λ (b : Bool) told. parts_are books c.args.made.now c.in-Ok.view c.as_slice.result.now b c.as_slice.ensures c.in-Ok.ensures.found c.in-Ok.ensures.only told)
    (c.are_own_parts.ensures books zip)

pub returns-else-is_want_of_memory : goal.returns-else-is_want_of_memory
returns-else-is_want_of_memory c = λ books zip.
    parts_not books c.args.made.now c.as_slice.result.now c.in-Err.fault c.as_slice.ensures (λ e. false≢true (sym c.if-is_want_of_memory.false ∙ c.is_want_of_memory.ensures.1 e)) c.in-Err.ensures.only
