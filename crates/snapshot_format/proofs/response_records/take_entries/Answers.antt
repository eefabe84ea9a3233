use Rattle.std.proofs.Common.{◌≡◌, Bool, true, false, not, List, [], ap, sym, ◌∙◌, arith, rules}
use Rattle.snapshot_format.proofs.Common.{err_from_is_err_and, list_any, KeptEntry, is_of, take_items}
use Rattle.snapshot_format.specs.Records.{take_entry, entry_follows, take_entries}
use Rattle.snapshot_format.proofs.Loop.{goes_on, repeats, ends}
use Rattle.snapshot_format.proofs.response_records.take_entries.Goals as goal

-- what the code tests is whether the response may not follow
entry_test : (before items : List KeptEntry) (entry : KeptEntry) (said other : Bool) → said ≡ list_any (is_of entry.modem entry.tid) items → items ≡ before → said ≡ other
    → entry_follows before entry ≡ not other
entry_test before items entry said other e same is = rw (← same) (ap not (sym e ∙ is))

pub returns-in_err-entry : goal.returns-in_err-entry
unfolding take_entries
returns-in_err-entry c =
    let exit = err_from_is_err_and c.from_residual.result c.from_residual.ensures.1 in
    rw (exit.1, exit.2) (ends take_entry entry_follows c.args.count c.loop.counter c.loop.entries.items c.loop.rest.now (take_items take_entry entry_follows c.args.count [] c.args.bytes.now) c.in_err-entry.field-0.0 (omega arith) c.in_err-entry.ensures c.loop.invariant)

pub returns-then-has_transaction : goal.returns-then-has_transaction
unfolding take_entries
returns-then-has_transaction c =
    let follows = entry_test c.loop.entries.items c.deref.result.now c.in_ok-entry.entry c.has_transaction.result true c.has_transaction.ensures c.deref.ensures.value (search rules) in
    rw c.stop_at.ensures (repeats take_entry entry_follows c.args.count c.loop.counter c.loop.entries.items c.loop.rest.now (take_items take_entry entry_follows c.args.count [] c.args.bytes.now) c.in_ok-entry.entry c.in_ok-entry.after.now (omega arith) c.in_ok-entry.ensures follows c.loop.invariant)

pub loop-preserved : goal.loop-preserved
loop-preserved c =
    let follows = entry_test c.loop.entries.items c.deref.result.now c.in_ok-entry.entry c.has_transaction.result false c.has_transaction.ensures c.deref.ensures.value (search rules) in
    rw c.in_ok-push.ensures.items (goes_on take_entry entry_follows c.args.count c.loop.counter c.loop.entries.items c.loop.rest.now (take_items take_entry entry_follows c.args.count [] c.args.bytes.now) c.in_ok-entry.entry c.in_ok-entry.after.now (omega arith) c.in_ok-entry.ensures follows c.loop.invariant)
