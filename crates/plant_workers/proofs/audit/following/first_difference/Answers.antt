use Rattle.std.proofs.Common.{◌≡◌, ℕ, ◌+◌, ◌++◌, ◌∙◌, take, drop, sym, ap, refl, arith}
use Rattle.plant_workers.proofs.AuditLemmas.Common.{false≢true, length-map, Entry, actions_of, action_of, own_steps}
use Rattle.plant_workers.proofs.AuditLemmas.Differing.{walk_none, walk_here, walk_some, walk_end, differ_here, differ_end}
use Rattle.plant_workers.proofs.AuditLemmas.Whose.{own_action, no_action}
use Rattle.plant_workers.proofs.audit.following.first_difference.Goals as goal
use Rattle.plant_workers.proofs.audit.following.first_difference.Goals.{then-is_own+else-not-is_next, else-is_own}

pub returns-then-not-is_next : goal.returns-then-not-is_next
returns-then-not-is_next c row here =
    let long = length-map c.args.history.now (λ (e : Entry). e.action) in
    let own = own_action row c.args.op c.step-item.result (sym (c.if-is_own.ensures row here)) in
    differ_here (actions_of c.args.history.now) (own_steps row c.args.op c.args.steps.now) _ c.loop-step.place own.0 (omega (arith, c.loop-step.invariant.within, long))
    (walk_here (action_of row c.args.op) (own_steps row c.args.op c.args.steps.now) (actions_of c.args.history.now) c.args.steps.now c.loop-step.place c.loop-step.step-index c.step-item.result
    (c.loop-step.invariant.followed row here) c.loop-step-test.true c.step-item.is own.0 own.1)
    (λ same. false≢true ((c.if-not-is_next.ensures.value own.0 own.2).1 same))

pub loop-step-preserved : goal.loop-step-preserved
loop-step-preserved c =
    elim c.if-is_own.branch [
      | then-is_own+else-not-is_next w ↦
          let next : c.if-is_own.place ≡ c.loop-step.place + 1 = w.place-is in
          record {
            within = omega (arith, w.if-not-is_next.ensures.within refl, next);
            followed = λ row here.
                let own = own_action row c.args.op c.step-item.result (sym (w.if-is_own.ensures row here)) in
                walk_some (action_of row c.args.op) (own_steps row c.args.op c.args.steps.now) (actions_of c.args.history.now) c.args.steps.now c.loop-step.place c.loop-step.step-index c.step-item.result
                (c.loop-step.invariant.followed row here) c.loop-step-test.true c.step-item.is own.0 own.1 ((w.if-not-is_next.ensures.value own.0 own.2).0 refl)
                ∙ ap (λ (n : ℕ). take n (actions_of c.args.history.now) ++ own_steps row c.args.op (drop (c.loop-step.step-index + 1) c.args.steps.now)) (sym next);
          }
      | else-is_own w ↦
          let same : c.if-is_own.place ≡ c.loop-step.place = w.place-is in
          record {
            within = omega (arith, c.loop-step.invariant.within, same);
            followed = λ row here.
                walk_none (action_of row c.args.op) (own_steps row c.args.op c.args.steps.now) (actions_of c.args.history.now) c.args.steps.now c.loop-step.place c.loop-step.step-index c.step-item.result
                (c.loop-step.invariant.followed row here) c.loop-step-test.true c.step-item.is (no_action row c.args.op c.step-item.result (sym (w.if-is_own.ensures row here)))
                ∙ ap (λ (n : ℕ). take n (actions_of c.args.history.now) ++ own_steps row c.args.op (drop (c.loop-step.step-index + 1) c.args.steps.now)) (sym same);
          }
    ]

pub returns-then-place-history : goal.returns-then-place-history
returns-then-place-history c row here =
    let long = length-map c.args.history.now (λ (e : Entry). e.action) in
    differ_end (actions_of c.args.history.now) (own_steps row c.args.op c.args.steps.now) c.loop-step.place (omega (arith, c.if-place-history.true, long))
    (walk_end (action_of row c.args.op) (own_steps row c.args.op c.args.steps.now) (actions_of c.args.history.now) c.args.steps.now c.loop-step.place c.loop-step.step-index
    (c.loop-step.invariant.followed row here) c.loop-step-test.false)
