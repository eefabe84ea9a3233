use Rattle.std.proofs.Common.{List, ◌++◌, ap, ◌∙◌}
use Rattle.plant_core.proofs.LiveLemmas.Common.{Out, told_map}
use Rattle.plant_core.proofs.LiveLemmas.StepLemmas.{waits_in_front}
use Rattle.plant_core.proofs.LiveLemmas.DeskLemmas.{some_wait, waits_at_all}
use Rattle.plant_core.proofs.live.desk.LiveSlot.collect_into.Goals as goal

pub returns-in-Ok-clause-ok : goal.returns-in-Ok-clause-ok
returns-in-Ok-clause-ok c =
    (c.in-Ok.made, c.in-Ok.ensures.ok, c.append_map.ensures ∙ ap (λ (outs : List Out). outs ++ told_map c.in-Ok.made) c.reserve.ensures.items)

pub returns-in-Ok-clause-fault : goal.returns-in-Ok-clause-fault
returns-in-Ok-clause-fault c = waits_in_front c.args.op _ _ _ c.in-Ok.ensures.ok.waiting_is

pub returns-in-Err-clause-fault : goal.returns-in-Err-clause-fault
returns-in-Err-clause-fault c =
    let waiting = c.args.self.now.waiting in
    waits_at_all c.args.op _ (some_wait waiting.items waiting.len c.is_empty.result waiting.ok.0 c.is_empty.ensures c.if-is_empty.false)
