use Rattle.program_runner.proofs.SnapshotLemmas.{unfinished, unsaved, not_begun}
use Rattle.program_runner.proofs.snapshot_command.run_snapshot.Goals as goal

pub returns-in-Ok-Unfinished : goal.returns-in-Ok-Unfinished
returns-in-Ok-Unfinished g c =
    unfinished (g.R.Read.remaining c.args.reader.now) (g.W.Write.contents c.args.writer.now) (g.W.Write.contents c.snapshot_after-ended.new.writer) (g.W.Write.contents c.finish.new.writer) c.finish.result
    c.in-Ok-Unfinished.field-0 c.in-Ok-Unfinished.why c.in-Ok-Unfinished.operator c.in-Ok-Unfinished.field-0-is c.in-Ok-Unfinished.ensures c.finish.ensures

pub returns-in-Ok-NoMemory : goal.returns-in-Ok-NoMemory
returns-in-Ok-NoMemory g c =
    unsaved (g.R.Read.remaining c.args.reader.now) (g.W.Write.contents c.args.writer.now) (g.W.Write.contents c.snapshot_after-ended.new.writer) (g.W.Write.contents c.finish-in-Ok-NoMemory.new.writer)
    c.finish-in-Ok-NoMemory.result c.in-Ok-NoMemory.field-0 c.in-Ok-NoMemory.field-0-is c.in-Ok-NoMemory.ensures c.finish-in-Ok-NoMemory.ensures

pub returns-in-Ok-NotBegun : goal.returns-in-Ok-NotBegun
returns-in-Ok-NotBegun g c =
    not_begun (g.R.Read.remaining c.args.reader.now) (g.W.Write.contents c.args.writer.now) (g.W.Write.contents c.snapshot_after-ended.new.writer) (g.W.Write.contents c.refuse_to_begin.new.writer)
    c.refuse_to_begin.result c.in-Ok-NotBegun.field-0 c.in-Ok-NotBegun.fault c.in-Ok-NotBegun.field-0-is c.in-Ok-NotBegun.ensures c.refuse_to_begin.ensures
