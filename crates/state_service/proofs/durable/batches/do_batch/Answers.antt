use Rattle.std.proofs.Common.{◌∙◌, ap, sym, List, ℕ, ◌+◌, Vec}
use Rattle.state_service.proofs.DurableLemmas.Common.{Global, length-map, live_view, texts, journal_content, with_lines}
use Rattle.state_service.proofs.DurableLemmas.LeadLemmas.{leads_on, text_alone}
use Rattle.state_service.proofs.durable.batches.do_batch.Goals as goal

pub returns-clause-done : goal.returns-clause-done
returns-clause-done g c plant start before shown after =
    text_alone plant start before shown _ (texts c.args.lines.now) (live_view c.do_lines.new.core) c.new-text.result.items c.do_lines.new.text.items c.new-text.ensures.items
    (c.in_ok-do_lines.ensures.done plant start before shown after)

pub returns-clause-leads : goal.returns-clause-leads
returns-clause-leads g c plant leading =
    let before = journal_content (g.D.Device.seen c.args.journal.now.device) in
    let count = c.args.service.now.count in
    leads_on plant (live_view c.args.service.now.core) (live_view c.do_lines.new.core) count c.do_lines.new.count (texts c.args.lines.now) c.do_lines.new.text.items before _
    (returns-clause-done g c) (c.in_ok-append.ensures.acknowledged.1 ∙ ap (λ (ls : List (List ℕ)). with_lines ls before) c.in_ok-batch.ensures)
    (c.in_ok-do_lines.ensures.count ∙ ap (λ (n : ℕ). count + n) (sym (length-map c.args.lines.now (λ (v : Vec ℕ Global). v.items)))) leading
