use Rattle.channel_c.proofs.melfjits_open.Goals as goal

pub returns-clause-opened : goal.returns-clause-opened
returns-clause-opened c = λ zero. (c.in-Ok.channel, c.install.ensures.done zero, c.in-Ok.ensures.opened)
