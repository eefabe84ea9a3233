use Rattle.operator_book.proofs.Working.{worked_sound}
use Rattle.operator_book.proofs.live.SoundMachine.take_request.Goals as goal

pub invariant_of-self : goal.invariant_of-self
invariant_of-self c = worked_sound c.take_request.result _ c.take_request.new.self c.self.invariant c.step_keeps_sound.ensures c.take_request.ensures.state c.take_request.ensures.err
