use Rattle.std.proofs.Common.{refl, rules}
use Rattle.map_assembly.proofs.ReadLemmas.{reads_made, reads_once, fault_reads_nothing, fault_is_no_want, well_says, well_has_no_fault}
use Rattle.map_assembly.proofs.reading.read_map.Goals as goal

pub returns-in_err-count-clause-only : goal.returns-in_err-count-clause-only
returns-in_err-count-clause-only c = fault_reads_nothing c.args.bytes.now c.in_err-count.field-0.0 c.from_residual.result c.in_err-count.ensures.fault

pub returns-in_err-count-clause-memory : goal.returns-in_err-count-clause-memory
returns-in_err-count-clause-memory c = fault_is_no_want c.args.bytes.now c.in_err-count.field-0.0 c.from_residual.result (search rules) c.in_err-count.ensures.fault

pub returns-in_err-view-clause-fault : goal.returns-in_err-view-clause-fault
returns-in_err-view-clause-fault c = well_has_no_fault c.args.bytes.now c.in_ok-count.count c.from_residual-in_err-view.result (well_says c.args.bytes.now c.in_ok-count.count c.in_ok-count.ensures.counted c.in_ok-count.ensures.judged).0 c.in_ok-count.ensures.counted c.in_ok-count.ensures.judged (search rules)

pub returns-in_err-view-clause-memory : goal.returns-in_err-view-clause-memory
returns-in_err-view-clause-memory c = λ _. well_says c.args.bytes.now c.in_ok-count.count c.in_ok-count.ensures.counted c.in_ok-count.ensures.judged

pub returns-clause-found : goal.returns-clause-found
returns-clause-found c = reads_made c.args.bytes.now c.in_ok-count.count c.in_ok-view.view c.in_ok-count.ensures.counted c.in_ok-count.ensures.judged c.in_ok-view.ensures.header c.in_ok-view.ensures.spans c.in_ok-view.ensures.pending

pub returns-clause-only : goal.returns-clause-only
returns-clause-only c = λ view reads. reads_once c.args.bytes.now c.in_ok-view.view view (returns-clause-found c) reads

pub returns-clause-fault : goal.returns-clause-fault
returns-clause-fault c = well_has_no_fault c.args.bytes.now c.in_ok-count.count _ c.in_ok-view.view c.in_ok-count.ensures.counted c.in_ok-count.ensures.judged refl
