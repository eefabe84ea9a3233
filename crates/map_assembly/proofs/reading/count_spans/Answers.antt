use Rattle.std.proofs.Common.{length, arith, ap, length-drop}
use Rattle.map_assembly.specs.Reading.{IsCounted}
use Rattle.map_assembly.proofs.ReadLemmas.{judged_badly}
use Rattle.map_assembly.proofs.reading.count_spans.Goals as goal

pub returns-clause-fault : goal.returns-clause-fault
returns-clause-fault c =
    let counted : IsCounted c.args.bytes.now = omega (arith, ap length c.body_of-body.ensures, length-drop 16 c.args.bytes.now) in
    judged_badly c.args.bytes.now c.body_of-body.result.now c.judge.result counted c.body_of-body.ensures c.judge.ensures
