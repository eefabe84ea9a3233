-- Provisioned flows, put one after the other (implementation-specific).
use Rattle.std.specs.Prelude.{ℕ, List, [], ◌∷◌, Option, Some, None, is_some, if◌then◌else◌}
use Rattle.admission.specs.Free.{least_free_of}
use Rattle.param_sets.specs.declared.sets.SetsFields.{SetsFields}
use Rattle.dsx_messages.specs.declared.modem.Modem.{Modem}
use Rattle.plant.specs.declared.consts.ConstsFields.{ConstsFields}
use Rattle.plant.specs.declared.operator_row.RowFields.{RowFields}
use Rattle.plant.specs.declared.provision.Provision.{Provision}
use Rattle.plant.specs.Provisioned.{sets_of_encoding}
use Rattle.flow_table.specs.declared.flow.Flow.{Flow}
use Rattle.flow_table.specs.Table.{sfids_of, sids_of, with_flow}
use Rattle.operator_model.specs.State.{opened_flow}

-- the least free SID, where a set is admitted
abbrev pub sid_for : RowFields → List (ℕ × Flow) → SetsFields → Option ℕ
sid_for row flows sets = if is_some sets.admitted then least_free_of row.sids (sids_of flows) else None

-- one flow more with these sets, opened in this frame under this SFID; none where no SFID is free
abbrev pub put_under : ℕ → RowFields → List (ℕ × Flow) → Modem → SetsFields → Option ℕ → List (ℕ × Flow)
put_under frame row flows modem sets None = flows
put_under frame row flows modem sets (Some sfid) = with_flow sfid (opened_flow frame (record { modem = modem; sid = sid_for row flows sets; sets = sets })) flows

-- one flow more, under the least free SFID, where its encoding gives it sets
abbrev pub put_opened : ℕ → RowFields → List (ℕ × Flow) → Modem → Option SetsFields → List (ℕ × Flow)
put_opened frame row flows modem None = flows
put_opened frame row flows modem (Some sets) = put_under frame row flows modem sets (least_free_of row.sfids (sfids_of flows))

-- one provisioned flow more, opened in this frame
unfoldable pub put_provision : ℕ → ConstsFields → RowFields → List (ℕ × Flow) → Provision → List (ℕ × Flow)
put_provision frame consts row flows p = put_opened frame row flows p.modem (sets_of_encoding consts p.encoding)

-- the provisioned flows, put one after the other
abbrev pub put_provisions : ℕ → ConstsFields → RowFields → List (ℕ × Flow) → List Provision → List (ℕ × Flow)
put_provisions frame consts row flows [] = flows
put_provisions frame consts row flows (p ∷ provisions) = put_provisions frame consts row (put_provision frame consts row flows p) provisions
