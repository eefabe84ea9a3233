use Rattle.std.proofs.Common.{rules, ◌-◌, length}
use Rattle.channel_c.specs.Grants.{granted_as, pending_as}
use Rattle.channel_c.proofs.PutLemmas.{put_both}
use Rattle.channel_c.proofs.putting.put_grants.Goals as goal

pub returns-clause-written : goal.returns-clause-written
returns-clause-written c = λ _. put_both granted_as pending_as c.args.elements.now.spans c.get_spans-granted.result.now c.args.elements.now.pending c.get_pending-pending.result.now
    (length c.put_granted.new.room - length c.get_spans-granted.result.now) c.put_granted.new.room c.put_pending.new.room
    c.get_spans-granted.ensures c.get_pending-pending.ensures c.put_granted.ensures.written c.put_pending.ensures.written (search rules) (search rules)
