use Rattle.std.proofs.Common.{ap, ◌∙◌}
use Rattle.plant_workers.proofs.CellStateLemmas.Common.{BookView, waiting_in, waiting_acted}
use Rattle.plant_workers.proofs.cell_state.held.Held.act.Goals as goal

pub returns-in-Ok-act-clause-waiting : goal.returns-in-Ok-act-clause-waiting
returns-in-Ok-act-clause-waiting g c =
    let held = c.args.self.now in
    ap (λ (b : BookView). waiting_in b.history held.collected) c.in-Ok-act.ensures.state
    ∙ waiting_acted held.book.kept.book c.args.action held.collected c.requires.within
