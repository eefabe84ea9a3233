use Rattle.line_journal.proofs.Kept.{elapses_to}
use Rattle.line_journal.proofs.memory.MemoryDevice.truncate.Goals as goal

pub returns-clause-time : goal.returns-clause-time
returns-clause-time c =
    let past = c.in_ok-change_content.ensures.past in
    elapses_to c.args.self.now.past.items c.change_content.new.past.items past.0 c.args.self.now.bytes.items c.change_content.new.bytes.items past.1 past.2
