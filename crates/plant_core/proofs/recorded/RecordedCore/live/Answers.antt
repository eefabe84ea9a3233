use Rattle.plant_core.proofs.RecordLemmas.{is_of}
use Rattle.plant_core.proofs.recorded.RecordedCore.live.Goals as goal

pub returns : goal.returns
returns c = is_of _ _ _ c.always.ensures.gathering c.args.self.now.belongs
