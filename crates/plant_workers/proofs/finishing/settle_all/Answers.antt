use Rattle.plant_workers.proofs.finishing.settle_all.Goals as goal

pub compare-requires-clause-merged : goal.compare-requires-clause-merged
compare-requires-clause-merged g c =
    let same = c.in_ok-settled.ensures.same in
    rw same.0 (rw same.1 c.in_ok-settled.ensures.ok.merged)
