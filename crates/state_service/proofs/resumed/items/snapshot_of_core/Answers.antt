use Rattle.std.proofs.Common.{List, ℕ, ◌++◌, ap, ◌∙◌}
use Rattle.state_service.proofs.ResumedLemmas.Common.{live_view, text_of_snapshot}
use Rattle.state_service.proofs.ResumedLemmas.ItemLemmas.{core_text}
use Rattle.state_service.proofs.resumed.items.snapshot_of_core.Goals as goal

pub returns-in-Ok-clause-ok : goal.returns-in-Ok-clause-ok
returns-in-Ok-clause-ok c =
    let live = live_view c.args.core.now in
    let saved = c.in_ok-saved.saved in
    let is = c.in_ok-saved.ensures.ok in
    record {
      frame = saved.frame;
      rests = is.rests;
      text_is = c.in-Ok.ensures ∙ (ap (λ (text : List ℕ). text ++ text_of_snapshot saved) c.new-text.ensures.items ∙ core_text c.args.file.now live saved is);
    }
