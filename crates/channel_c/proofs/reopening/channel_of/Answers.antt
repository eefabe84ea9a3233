use Rattle.std.proofs.Common.{refl}
use Rattle.channel_c.proofs.SavedLemmas.{restore_refused}
use Rattle.channel_c.proofs.reopening.channel_of.Goals as goal

pub returns-in-Ok-restore-clause-opened : goal.returns-in-Ok-restore-clause-opened
returns-in-Ok-restore-clause-opened c =
    record {
      plant = c.in-Ok.plant;
      plant_is = rw c.as_slice.ensures at c.in-Ok.ensures;
      restored = c.in-Ok-restore.ensures.ok;
      names = c.in-Ok-restore.ensures.names;
      none_waits = c.new.ensures.items;
      text_is = refl;
    }

pub returns-in-Err-restore-clause-fault : goal.returns-in-Err-restore-clause-fault
returns-in-Err-restore-clause-fault c =
    let said = rw c.as_slice.ensures at c.in-Ok.ensures in
    rw c.restore_code.ensures (restore_refused c.args.saved c.in-Ok.plant c.in-Err-restore.fault said c.in-Err-restore.ensures.fault)
