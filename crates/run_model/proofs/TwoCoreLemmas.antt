-- Two cores in which an operator's own steps are the same, and two books that agree.
use Rattle.std.proofs.Common.{◌≡◌, ℕ, List, refl, sym, ap, ◌∙◌}
use Rattle.run_model.proofs.Common.{AgreeOn, Action, operator, own_step, Step, Out, own_steps, answers_of, isolated_run, CoreView, IsStateAfter, Acts, NoticeTheSame}
use Rattle.run_model.proofs.Answers.{answers_here}
use Rattle.run_model.proofs.TwoRuns.{notice_same}

pub cores_same : (a b : CoreView) (i j : ℕ) (s t : List Step) (o u : List Out) (agree : AgreeOn a.plant i b.plant j)
    → IsStateAfter a.plant s o a → IsStateAfter b.plant t u b → own_steps agree.row i s ≡ own_steps agree.row j t
    → NoticeTheSame a.plant i o b.plant j u agree × (answers_of i o ≡ (isolated_run a.plant.consts agree.row i s).outputs)
cores_same a b i j s t o u agree here there same =
    (notice_same a.plant b.plant i j s t o u agree here.shown there.shown same, here.shown.answers i agree.row agree.here)

pub answer_alike : (i j : ℕ) (action : Action) (a a' b b' : CoreView) (now then : List Out)
    → (here : Acts i action a a' now) → (there : Acts j action b b' then) → here.book.consts ≡ there.book.consts
    → here.book.row ≡ there.book.row → here.book.state ≡ there.book.state → answers_of i now ≡ answers_of j then
answer_alike i j action a a' b b' now then here there consts row state =
    ap (answers_of i) here.now_is
    ∙ (answers_here i i (own_step (operator here.book.consts here.book.row here.book.state) action).outputs refl
    ∙ ((λ k. (own_step (operator (consts k) (row k) (state k)) action).outputs)
    ∙ (sym (answers_here j j (own_step (operator there.book.consts there.book.row there.book.state) action).outputs refl)
    ∙ sym (ap (answers_of j) there.now_is))))
