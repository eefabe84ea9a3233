use Rattle.plant_core.proofs.RecordLemmas.{is_of}
use Rattle.plant_core.proofs.recorded.RecordedCore.always.Goals as goal

pub returns-clause-gathering : goal.returns-clause-gathering
returns-clause-gathering c = (is_of _ _ _ c.always.ensures.gathering c.args.self.now.belongs).held
