use Rattle.std.proofs.Common.{rules, ◌≡◌, ℕ, ◌*◌, Bool, true, cond, min, ap, ◌∙◌, arith}
use Rattle.slice_scheduler.proofs.Common.{is_due, due_minislots, minislots_when_due, minislots_of, Scheduling, UnsolicitedGrant, AtFields, Flowing}
use Rattle.slice_scheduler.proofs.due.push_due.Goals as goal

-- the minislots of unsolicited grants, at most 65,535
grants_held : (at : AtFields) (f : Flowing) (times len held : ℕ) → is_due at f ≡ true → f.set.scheduling ≡ UnsolicitedGrant
    → times ≡ f.set.grants_per_interval → len ≡ minislots_of f.set.grant_size at.units → held ≡ min (times * len) 65535 → held ≡ min 65535 (due_minislots at f)
grants_held at f times len held due kind many long is =
    let all : due_minislots at f ≡ f.set.grants_per_interval * minislots_of f.set.grant_size at.units =
    ap (λ (b : Bool). cond b (minislots_when_due f.set.scheduling f.set at.units) 0) due ∙ ap (λ (s : Scheduling). minislots_when_due s f.set at.units) kind in
    let same : times * len ≡ f.set.grants_per_interval * minislots_of f.set.grant_size at.units = ap (λ (n : ℕ). n * len) many ∙ ap (λ (n : ℕ). f.set.grants_per_interval * n) long in
    omega (arith, all, same, is)

pub returns-in_ok-push_many-in-UnsolicitedGrant-clause-minislots : goal.returns-in_ok-push_many-in-UnsolicitedGrant-clause-minislots
returns-in_ok-push_many-in-UnsolicitedGrant-clause-minislots c =
    let due : is_due c.args.at.now c.args.flow.now ≡ true = search rules in
    let kind : c.args.flow.now.set.scheduling ≡ UnsolicitedGrant = search rules in
    let times : c.from-in-UnsolicitedGrant.result ≡ c.args.flow.now.set.grants_per_interval = search rules in
    let len : c.minislots-len.result ≡ minislots_of c.args.flow.now.set.grant_size c.args.at.now.units = search rules in
    grants_held c.args.at.now c.args.flow.now c.from-in-UnsolicitedGrant.result c.minislots-len.result c.saturating_mul.result due kind times len c.saturating_mul.ensures
