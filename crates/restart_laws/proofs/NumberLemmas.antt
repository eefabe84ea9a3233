-- An operator after a line `N`: it does the same under other frame numbers, and has no more modems.
use Rattle.std.proofs.Common.{◌≡◌, ℕ, ◌+◌, List, [], ◌∷◌, map, refl, sym, ap, ◌∙◌, subst, arith}
use Rattle.restart_laws.proofs.Common.{All, slice_get, Some, AllByRecursion, recursion_from_All, All-from_recursion, Modem, Flow, RowFields, PlantFields, KeptEntry, Arrival, OperatorState, operator, IsSound, IsListedIn, own_steps, state_now, may, HasCore, behind, InService, ItemAnswer, IsFrameAnswer, IsOfItsModems, StartsOfItsModems, NumbersKeepModems, NumbersAreNotNoticed}
use Rattle.param_sets.specs.Units.{UnitSizes}
use Rattle.frame_numbers.specs.Seen.{entry_seen}
use Rattle.frame_numbers.specs.Renumbered.{IsRenumbered}
use Rattle.frame_numbers.proofs.StepLemmas.{run-same}
use Rattle.restart_laws.proofs.ModemLemmas.{run_of_its_modems}
use Rattle.restart_laws.proofs.RunLemmas as runs

-- ---- what a state is of

abbrev modem_of : ℕ × Flow → Modem
modem_of entry = entry.1.modem

modems_seen : (units : UnitSizes) (frame : ℕ) (flows : List (ℕ × Flow)) → map modem_of (map (entry_seen units frame) flows) ≡ map modem_of flows
modems_seen units frame [] = refl
modems_seen units frame (entry ∷ flows) = ap (λ (modems : List Modem). entry.1.modem ∷ modems) (modems_seen units frame flows)

each_modem : (row : RowFields) (flows : List (ℕ × Flow)) → AllByRecursion (λ (entry : ℕ × Flow). IsListedIn row entry.1.modem) flows → AllByRecursion (IsListedIn row) (map modem_of flows)
each_modem row [] are = tt
each_modem row (entry ∷ flows) are = (are.0, each_modem row flows are.1)

each_flow : (row : RowFields) (flows : List (ℕ × Flow)) → AllByRecursion (IsListedIn row) (map modem_of flows) → AllByRecursion (λ (entry : ℕ × Flow). IsListedIn row entry.1.modem) flows
each_flow row [] are = tt
each_flow row (entry ∷ flows) are = (are.0, each_flow row flows are.1)

renumbered_of_its_modems : (units : UnitSizes) (row : RowFields) (a b : OperatorState) → IsRenumbered units a b → IsOfItsModems row a → IsOfItsModems row b
renumbered_of_its_modems units row a b same is =
    let modems : map modem_of a.flows ≡ map modem_of b.flows =
    sym (modems_seen units a.frame a.flows) ∙ (ap (λ (s : OperatorState). map modem_of s.flows) same ∙ modems_seen units b.frame b.flows) in
    record {
      flows = All-from_recursion (λ (entry : ℕ × Flow). IsListedIn row entry.1.modem) b.flows
          (each_flow row b.flows (subst (AllByRecursion (IsListedIn row)) modems (each_modem row a.flows (recursion_from_All (λ (entry : ℕ × Flow). IsListedIn row entry.1.modem) a.flows is.flows))));
      responses = subst (λ (s : OperatorState). All (λ (entry : KeptEntry). IsListedIn row entry.modem) s.kept) same is.responses;
      messages = subst (λ (s : OperatorState). All (λ (arrival : Arrival). IsListedIn row arrival.modem) s.inbox) same is.messages;
    }

-- ---- the answer to a line `N`

module _ (old : InService) (line : List ℕ) (answer : ItemAnswer) (is : IsFrameAnswer old line answer) (i : ℕ) (row : RowFields) (here : slice_get old.run.plant.rows i ≡ Some row) where
  abbrev plant : PlantFields
  plant = old.run.plant

  abbrev a : OperatorState
  a = state_now old.run i row

  abbrev b : OperatorState
  b = answer.next.run.start.state row

  abbrev had : HasCore plant old.run.start old.run.steps old.run.outs is.live
  had = behind plant old.run.start old.run.steps old.run.outs is.live is.leads

  sound_a : IsSound (operator plant.consts row a)
  sound_a = runs.sound_now plant old.run.start old.run.steps old.run.outs had.core had.starts had.reached had.is_of.held i row here

  there : slice_get answer.next.run.plant.rows i ≡ Some row
  there = subst (λ (p : PlantFields). slice_get p.rows i ≡ Some row) (sym is.changed.same_plant) here

  sound_b : IsSound (operator plant.consts row b)
  sound_b = subst (λ (p : PlantFields). IsSound (operator p.consts row b)) is.changed.same_plant (is.changed.starts.sound i row there)

  distance : a.frame + answer.next.run.start.frame ≡ b.frame + is.changed.from
  distance =
      let at_a : a.frame ≡ is.changed.from = is.changed.rests.before i row here in
      let at_b : b.frame ≡ answer.next.run.start.frame = is.changed.starts.at_one_frame i row there in
      omega (arith, at_a, at_b)

  own_modems : StartsOfItsModems old.run → IsOfItsModems row b
  own_modems starts =
      renumbered_of_its_modems plant.consts.units row a b (is.changed.states i row here)
      (run_of_its_modems row plant.consts (old.run.start.state row) (own_steps row i old.run.steps) (starts i row here)
      (may plant old.run.start old.run.steps old.run.outs had.core had.starts had.reached had.is_of.held i row here))

pub numbers_keep_modems : NumbersKeepModems
numbers_keep_modems old line answer is starts i row there =
    own_modems old line answer is i row (subst (λ (p : PlantFields). slice_get p.rows i ≡ Some row) is.changed.same_plant there) starts

pub not_noticed : NumbersAreNotNoticed
not_noticed old line answer is i row actions here may numbers =
    let at_b : (b old line answer is i row here).frame ≡ answer.next.run.start.frame = is.changed.starts.at_one_frame i row (there old line answer is i row here) in
    let same = run-same old.run.plant.consts row is.changed.from answer.next.run.start.frame (a old line answer is i row here) (b old line answer is i row here) actions (sound_a old line answer is i row here) (sound_b old line answer is i row here)
    (is.changed.states i row here) (distance old line answer is i row here) may (omega (arith, at_b, numbers)) in
    record { may = same.0; same = same.1 }
