-- Laws of a live core's runs.
use Rattle.std.proofs.Common.{List}
use Rattle.plant_core.proofs.LiveLemmas.Common.{PlantFields, Step, Out, Start, OrderedFrom, CoreView, IsTraceFrom, IsAfterFrom, TwoLiveCores, TwoResumedCores}
use Rattle.run_model.proofs.TwoRuns.{notice_from, notice_same}

pub live_shown : (plant : PlantFields) (start : Start) (steps : List Step) (outs : List Out) (live : CoreView) → IsAfterFrom plant start steps outs live → IsTraceFrom plant start steps outs
live_shown plant start steps outs live after = after.shown

pub live_ordered : (plant : PlantFields) (start : Start) (steps : List Step) (outs : List Out) (live : CoreView) → IsAfterFrom plant start steps outs live → OrderedFrom plant start steps outs
live_ordered plant start steps outs live after = after.ordered

pub two_resumed : TwoResumedCores
two_resumed live p q a b i j s t o u agree after shown state same = notice_from p q a b i j s t o u agree after.shown shown state same

pub two_live : TwoLiveCores
two_live live p q i j s t o u agree after shown same = notice_same p q i j s t o u agree after.shown shown same
