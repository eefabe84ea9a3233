use Rattle.std.proofs.Common.{sym, ◌∙◌}
use Rattle.plant_workers.proofs.cell_state.held.Held.turn.Goals as goal

pub returns-in-Ok-clause-refused : goal.returns-in-Ok-clause-refused
returns-in-Ok-clause-refused g c = λ fault apart. (
  λ e. cc,
  λ h. let told = (c.in-Ok.ensures.refused fault apart).1 h.2 in cc,
)

pub returns-in-Err-clause-refused : goal.returns-in-Err-clause-refused
returns-in-Err-clause-refused g c = λ fault apart. (
  λ e. (c.if-self.false, sym c.count.ensures ∙ c.if-count-index.false, (c.in-Err.ensures.refused fault apart).0 cc),
  λ h. let told = (c.in-Err.ensures.refused fault apart).1 h.2 in cc,
)
