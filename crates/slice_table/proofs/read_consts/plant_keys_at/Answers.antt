use Rattle.std.proofs.Common.{refl}
use Rattle.slice_table.specs.ReadConsts.{plant_keys_at}
use Rattle.slice_table.proofs.read_consts.plant_keys_at.Goals as goal

pub returns-clause-value : goal.returns-clause-value
unfolding plant_keys_at
returns-clause-value c =
    rw (
      ← c.in_ok-frame_minislots.ensures.value,
      ← c.in_ok-head.ensures.value,
      ← c.in_ok-units.ensures,
      ← c.in_ok-short_max.ensures.value,
      ← c.in_ok-id.ensures.value,
      ← c.in_ok-ucd_count.ensures.value,
      ← c.in_ok-backoffs.ensures.value,
      ← c.in_ok-timers.ensures,
      ← c.in_ok-first_frame.ensures.value,
    ) refl
