use Rattle.std.proofs.Common.{List, ℕ, subst}
use Rattle.state_service.proofs.ResumedLemmas.Common.{live_view, if_ok, IsCoreSnapshot}
use Rattle.state_service.proofs.ResumedLemmas.ItemLemmas.{core_saved}
use Rattle.state_service.proofs.resumed.items.saved_core.Goals as goal

pub returns-clause-ok : goal.returns-clause-ok
returns-clause-ok c =
    let live = live_view c.args.core.now in
    if_ok c.save.result _ _ (λ saved is. core_saved c.args.file.now live saved (subst (λ (file : List ℕ). IsCoreSnapshot live file saved) c.in_ok-copy.ensures.value is)) c.save.ensures.ok
