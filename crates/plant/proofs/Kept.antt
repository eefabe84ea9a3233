-- What all operators share is kept where nothing changes.
use Rattle.std.proofs.Common.{refl}
use Rattle.std.proofs.lemmas.List.Elements.{All-contains_itself}
use Rattle.plant.specs.declared.consts.ConstsFields.{ConstsFields}
use Rattle.plant.specs.Consts.{KeepsConsts}

pub keeps_itself : (consts : ConstsFields) → KeepsConsts consts consts
keeps_itself consts = record { channel = refl; units = refl; short_max = refl; timers = refl; classes = All-contains_itself consts.classes }
