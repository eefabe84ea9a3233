use Rattle.operator_book.proofs.UnderState.{only_memory}
use Rattle.operator_book.proofs.live.SoundMachine.resume.Goals as goal

-- where a machine can go on, only memory can be wanting
pub returns-in-Err-clause-only : goal.returns-in-Err-clause-only
returns-in-Err-clause-only c = λ is. only_memory c.args.consts.now c.args.row.now c.args.state c.in-Err.fault c.in-Err.ensures.fault is
