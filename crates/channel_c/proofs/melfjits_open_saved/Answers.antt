use Rattle.channel_c.proofs.melfjits_open_saved.Goals as goal

pub returns-in-Ok-clause-opened : goal.returns-in-Ok-clause-opened
returns-in-Ok-clause-opened c = λ zero. (c.in-Ok.channel, c.install.ensures.done zero, c.in-Ok.ensures.opened)
