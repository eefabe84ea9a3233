-- Non-interference between operators (implementation-specific), in the sense of Goguen and Meseguer: purging the inputs of all
-- other domains leaves what a domain observes unchanged.
--
-- The domains are the operators, and the policy permits no flow from one to another. The inputs of an operator are its own steps
-- (`own_steps`, which purges the others'): its modems' messages and requests, its work, its ticks, and its rows of slice changes.
-- It observes its outputs (replies, drop reasons, frames) and its part of each MAP. Two runs are compared. The premises are that
-- both are traces of their plants (`IsTraceOf`), that the plants agree on the operator's provisioning (`AgreeOn`), and that its
-- own steps are equal. Then its observations are equal. The operators' rows, steps and states may otherwise differ in any way, and
-- the steps may interleave in any way. A trace has for each operator the outputs of its machine run alone (`isolated_run`), and
-- MAPs of which none gives a minislot twice, so the observations are those of the isolated run.
--
-- Not covered: when something happens, which frames have a MAP, and which step an allocation failure refuses.
use Rattle.std.specs.Prelude.{◌≡◌, ℕ, List}
use Rattle.std.specs.List.{Contains}
use Rattle.plant.specs.declared.plant.PlantFields.{PlantFields}
use Rattle.plant.specs.Plant.{AgreeOn}
use Rattle.map_assembly.specs.declared.map_bytes.MapBytes.{MapBytes}
use Rattle.map_assembly.specs.declared.view.MapView.{MapView}
use Rattle.map_assembly.specs.Reading.{MapReads}
use Rattle.map_assembly.specs.Tiled.{part_of}
use Rattle.run_model.specs.declared.step.Step.{Step}
use Rattle.run_model.specs.declared.step.Out.{Out}
use Rattle.run_model.specs.OwnSteps.{own_steps, answers_of, maps_in}
use Rattle.run_model.specs.Starts.{Start}
use Rattle.run_model.specs.IsTraceOf.{IsTraceOf, IsTraceFrom}

-- the operator at place i of one run and the one at place j of the other observe the same: its outputs are equal, and so is its part of the
-- MAP of each frame, whatever else the MAPs say
pub record NoticeTheSame (p : PlantFields) (i : ℕ) (outs : List Out) (q : PlantFields) (j : ℕ) (others : List Out) (agree : AgreeOn p i q j) : Type 0 where
  pub answers : answers_of i outs ≡ answers_of j others
  pub parts : (a b : MapBytes) (v w : MapView) → Contains (maps_in outs) a → Contains (maps_in others) b → a.frame ≡ b.frame
      → MapReads a.bytes v → MapReads b.bytes w → part_of agree.row.sids v ≡ part_of agree.row.sids w

-- The non-interference theorem: in any two runs of opened plants that agree on an operator and on its own steps, it observes the same.
-- Others may be provisioned with anything and send anything, and all steps may interleave in any way.
abbrev pub NonInterference : Type 0
NonInterference = (p q : PlantFields) (i j : ℕ) (s t : List Step) (o u : List Out) (agree : AgreeOn p i q j)
    → IsTraceOf p s o → IsTraceOf q t u → own_steps agree.row i s ≡ own_steps agree.row j t → NoticeTheSame p i o q j u agree

-- the theorem for two runs that start in any states, of which the operator's is the same
abbrev pub NonInterferenceFrom : Type 0
NonInterferenceFrom = (p q : PlantFields) (a b : Start) (i j : ℕ) (s t : List Step) (o u : List Out) (agree : AgreeOn p i q j)
    → IsTraceFrom p a s o → IsTraceFrom q b t u → a.state agree.row ≡ b.state agree.row → own_steps agree.row i s ≡ own_steps agree.row j t → NoticeTheSame p i o q j u agree
