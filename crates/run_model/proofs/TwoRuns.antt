-- Two runs in which an operator's own steps are the same: it notices the same.
use Rattle.std.proofs.Common.{◌≡◌, ℕ, List, [], ◌∷◌, sym, ap, ◌∙◌}
use Rattle.run_model.proofs.Common.{ElementsFields, ConstsFields, RowFields, PlantFields, AgreeOn, opened_state, operator, own_run, front_or, own_part, Step, Out, own_steps, Start, first_start, isolated_run_from, elements_at_frame, IsTraceOf, IsTraceFrom, NoticeTheSame}
use Rattle.run_model.proofs.SharingOut.{shared_from}

same_alone : (p q : ConstsFields) (a b : Start) (row : RowFields) (i j : ℕ) (s t : List Step) → p ≡ q → a.state row ≡ b.state row → own_steps row i s ≡ own_steps row j t → (isolated_run_from p a row i s).outputs ≡ (isolated_run_from q b row j t).outputs
same_alone p q a b row i j s t e state f = λ k. (own_run (operator (e k) row (state k)) (f k)).outputs

pub one_part : (a b : ElementsFields) (xs ys : List ElementsFields) → xs ≡ a ∷ [] → ys ≡ b ∷ [] → xs ≡ ys → a ≡ b
one_part a b xs ys e f same = ap (front_or a) (sym e ∙ (same ∙ f))

-- where they start alike
pub notice_from : (p q : PlantFields) (a b : Start) (i j : ℕ) (s t : List Step) (o u : List Out) (agree : AgreeOn p i q j) → IsTraceFrom p a s o → IsTraceFrom q b t u → a.state agree.row ≡ b.state agree.row
    → own_steps agree.row i s ≡ own_steps agree.row j t → NoticeTheSame p i o q j u agree
notice_from p q a b i j s t o u agree here there state same =
    let outputs = same_alone p.consts q.consts a b agree.row i j s t agree.consts state same in
    record {
      answers = here.answers i agree.row agree.here ∙ (outputs ∙ sym (there.answers j agree.row agree.there));
      parts = λ m n v w in_m in_n frame reads_m reads_n.
          let x = (shared_from p a s o m v here in_m reads_m).own i agree.row agree.here in
          let y = (shared_from q b t u n w there in_n reads_n).own j agree.row agree.there in
          x.part_is ∙ (ap own_part (one_part x.part y.part (elements_at_frame m.frame (isolated_run_from p.consts a agree.row i s).outputs) (elements_at_frame n.frame (isolated_run_from q.consts b agree.row j t).outputs) x.put y.put
          (λ k. elements_at_frame (frame k) (outputs k))) ∙ sym y.part_is);
    }

-- from the opened plants
pub notice_same : (p q : PlantFields) (i j : ℕ) (s t : List Step) (o u : List Out) (agree : AgreeOn p i q j) → IsTraceOf p s o → IsTraceOf q t u → own_steps agree.row i s ≡ own_steps agree.row j t → NoticeTheSame p i o q j u agree
notice_same p q i j s t o u agree here there same =
    notice_from p q (first_start p) (first_start q) i j s t o u agree here there (ap (λ (c : ConstsFields). opened_state c agree.row) agree.consts) same
