use Rattle.std.proofs.Common.{inl, inr, ⊎_elim, List, ℕ, sym, subst, refl}
use Rattle.state_service.specs.durable.Durable.{IsOpeningState, SaysState}
use Rattle.state_service.proofs.DurableLemmas.LeadLemmas.{begun_with, left_at_most}
use Rattle.state_service.proofs.durable.saving.begin_state.Goals as goal

pub returns-in_err-gate-clause-any_moment : goal.returns-in_err-gate-clause-any_moment
returns-in_err-gate-clause-any_moment g c =
    let start = c.in_ok-start.start in
    left_at_most g.D.Device.moment g.D.Device.left_since c.args.device.now c.begin.new.device _ _ c.begin.ensures.any_moment
    (λ d. ⊎_elim (λ was. inl was) (λ is. inr (begun_with c.args.file start.plant start.saved c.in_ok-snapshot.snapshot
    (subst (λ (ls : List (List ℕ)). SaysState ls 0 start.plant start.saved) (sym c.in_ok-snapshot.ensures) c.in_ok-start.ensures.says) (subst (λ (f : List ℕ). IsOpeningState f start.plant start.saved) c.as_slice-2.ensures (c.if-not-is_opening.ensures refl)) d is)))

pub returns-clause-any_moment : goal.returns-clause-any_moment
returns-clause-any_moment g c =
    let start = c.in_ok-start.start in
    left_at_most g.D.Device.moment g.D.Device.left_since c.args.device.now c.begin.new.device _ _ c.begin.ensures.any_moment
    (λ d. ⊎_elim (λ was. inl was) (λ is. inr (begun_with c.args.file start.plant start.saved c.in_ok-snapshot.snapshot
    (subst (λ (ls : List (List ℕ)). SaysState ls 0 start.plant start.saved) (sym c.in_ok-snapshot.ensures) c.in_ok-start.ensures.says) (subst (λ (f : List ℕ). IsOpeningState f start.plant start.saved) c.as_slice-2.ensures (c.if-not-is_opening.ensures refl)) d is)))
