use Rattle.operator_book.proofs.logged.RecordedMachine.always.Goals as goal

pub returns-clause-sound : goal.returns-clause-sound
returns-clause-sound c =
    rw (← c.self.view_is)
    (c.replay_is_sound.ensures c.self.inside.machine.consts c.self.inside.machine.row c.self.inside.history.entries c.self.inside.machine.state c.self.invariant.valid c.self.invariant.some c.self.invariant.replay)
