-- the non-interference theorem at cores, and what a core answers to an operator's action (implementation-specific).
use Rattle.std.specs.Prelude.{◌≡◌, ℕ, List}
use Rattle.plant.specs.Plant.{AgreeOn}
use Rattle.operator_model.specs.declared.action.Action.{Action}
use Rattle.run_model.specs.declared.step.Step.{Step}
use Rattle.run_model.specs.declared.step.Out.{Out}
use Rattle.run_model.specs.OwnSteps.{own_steps, answers_of}
use Rattle.run_model.specs.IsTraceOf.{isolated_run}
use Rattle.run_model.specs.IsStateAfter.{CoreView, IsStateAfter}
use Rattle.run_model.specs.Steps.{Acts}
use Rattle.run_model.specs.NonInterference.{NoticeTheSame}

-- of two cores, each after its steps, which agree on an operator's provisioning and own steps: the operator notices the same,
-- and what it notices is its own machine's run alone
abbrev pub TwoCores : Type 0
TwoCores = (a b : CoreView) (i j : ℕ) (s t : List Step) (o u : List Out) (agree : AgreeOn a.plant i b.plant j)
    → IsStateAfter a.plant s o a → IsStateAfter b.plant t u b → own_steps agree.row i s ≡ own_steps agree.row j t
    → NoticeTheSame a.plant i o b.plant j u agree × (answers_of i o ≡ (isolated_run a.plant.consts agree.row i s).outputs)

-- two operators of cores whose books agree on what all operators share, on the row and on the state answer an action alike,
-- whatever else is in their cores
abbrev pub AnswerAlike : Type 0
AnswerAlike = (i j : ℕ) (action : Action) (a a' b b' : CoreView) (now then : List Out)
    → (here : Acts i action a a' now) → (there : Acts j action b b' then) → here.book.consts ≡ there.book.consts
    → here.book.row ≡ there.book.row → here.book.state ≡ there.book.state → answers_of i now ≡ answers_of j then
