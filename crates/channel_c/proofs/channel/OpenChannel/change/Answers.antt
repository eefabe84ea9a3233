use Rattle.channel_c.proofs.SavedLemmas.{change_refused}
use Rattle.channel_c.proofs.channel.OpenChannel.change.Goals as goal

pub returns-in-Err-change : goal.returns-in-Err-change
returns-in-Err-change c =
    rw c.change_code.ensures
    (change_refused c.args.self.now c.args.text.now c.in-Ok.plant c.in-Err-change.fault c.in-Ok.ensures c.in-Err-change.ensures.fault c.in-Err-change.ensures.only)
