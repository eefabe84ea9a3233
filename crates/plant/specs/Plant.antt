-- When a plant is valid (implementation-specific).
use Rattle.std.specs.Prelude.{◌≡◌, ◌≢◌, ℕ, ◌+◌, ◌*◌, ◌≤◌, ◌&&◌, nat_le, Bool, false, List, length, All, AllPairs, sum_by, slice_get, Some}
use Rattle.std.specs.List.{flat_map}
use Rattle.dsx_messages.specs.declared.modem.Modem.{Modem}
use Rattle.admission.specs.Free.{Numbers}
use Rattle.slice_scheduler.specs.Minislots.{slices_overlap}
use Rattle.plant.specs.declared.operator_row.RowFields.{RowFields}
use Rattle.plant.specs.declared.plant.PlantFields.{PlantFields}
use Rattle.plant.specs.Consts.{AreConsts}
use Rattle.plant.specs.Row.{IsRowOf}

-- two ranges have a number in common
abbrev pub ranges_overlap : Numbers → Numbers → Bool
ranges_overlap a b = nat_le a.first b.last && nat_le b.first a.last

-- the addresses of all operators, in the file's order
abbrev pub all_modems : List RowFields → List Modem
all_modems rows = flat_map (λ row. row.modems) rows

-- the most elements that a MAP can need: each operator's quota, an idle span of it and one after its slice, and the head,
-- the idle span after the head and the Null
abbrev pub most_elements : List RowFields → ℕ
most_elements rows = sum_by (λ row. row.elements) rows + 2 * length rows + 3

-- when a plant is valid: it has 1 to 32 operators, each row is valid by itself, no two share a name, a minislot, an SFID, a SID or a modem,
-- and a MAP of all their quotas keeps its limit of elements; the type `Plant` keeps it
pub record IsPlant (plant : PlantFields) : Type 0 where
  pub consts : AreConsts plant.consts
  pub some : 1 ≤ length plant.rows
  pub few : length plant.rows ≤ 32
  pub rows : All (IsRowOf plant.consts) plant.rows
  pub names : AllPairs (λ a b. a.name ≢ b.name) plant.rows
  pub slices : AllPairs (λ a b. slices_overlap a.slice b.slice ≡ false) plant.rows
  pub sids : AllPairs (λ a b. ranges_overlap a.sids b.sids ≡ false) plant.rows
  pub sfids : AllPairs (λ a b. ranges_overlap a.sfids b.sfids ≡ false) plant.rows
  pub modems : AllPairs (λ a b. a ≢ b) (all_modems plant.rows)
  pub elements : most_elements plant.rows ≤ 240

-- two plants are provisioned alike for the operators at these places: the same constants, and the same row
pub record AgreeOn (p : PlantFields) (i : ℕ) (q : PlantFields) (j : ℕ) : Type 0 where
  pub row : RowFields
  pub consts : p.consts ≡ q.consts
  pub here : slice_get p.rows i ≡ Some row
  pub there : slice_get q.rows j ≡ Some row
