use Rattle.std.proofs.Common.{rules}
use Rattle.map_assembly.proofs.StateLemmas.{put_at_next}
use Rattle.map_assembly.proofs.gather.Gather.put.Goals as goal

pub keep-requires-clause-put : goal.keep-requires-clause-put
keep-requires-clause-put c = put_at_next c.args.self.now c.args.op c.args.frame c.args.elements (search rules)

pub returns-in-Ok-put_last-clause-map : goal.returns-in-Ok-put_last-clause-map
returns-in-Ok-put_last-clause-map c = (search (rules, c.is_last.ensures c.args.elements), search (rules, c.put_last.ensures.next), search (rules, c.in-Ok-put_last.ensures.frame), search (rules, c.in-Ok-put_last.ensures.bytes))
