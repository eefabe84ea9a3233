use Rattle.std.proofs.Common.{sym, ap, ◌∙◌}
use Rattle.admission.specs.Free.{Numbers}
use Rattle.admission.proofs.FreeLemmas.{IsPassed-first, found_in_window, none_in_range, IsPassed-more, least_free_found, least_free_none}
use Rattle.admission.proofs.id_range.IdRange.least_free.Goals as goal

pub loop-place-init : goal.loop-place-init
loop-place-init c =
    let first = ap (λ (range : Numbers). range.first) c.self.view_is in
    let last = ap (λ (range : Numbers). range.last) c.self.view_is in
    rw first (IsPassed-first c.args.self.now c.args.used.now (rw (← first, ← last) c.self.invariant))

pub returns-in-Some-clause-exact : goal.returns-in-Some-clause-exact
returns-in-Some-clause-exact c =
    let last = ap (λ (range : Numbers). range.last) c.self.view_is in
    found_in_window _ _ _ c.loop-place.invariant _ c.taken_in-taken.ensures _ (rw last at c.min-width.ensures) _ (sym c.first_unmarked.ensures ∙ c.in-Some.is)

pub returns-in-Some-clause-found : goal.returns-in-Some-clause-found
returns-in-Some-clause-found c = least_free_found _ _ _ (returns-in-Some-clause-exact c)

pub returns-in-Some-clause-none : goal.returns-in-Some-clause-none
returns-in-Some-clause-none c = least_free_none _ _ _ (returns-in-Some-clause-exact c)

pub returns-then-left-clause-exact : goal.returns-then-left-clause-exact
returns-then-left-clause-exact c =
    let last = ap (λ (range : Numbers). range.last) c.self.view_is in
    none_in_range _ _ _ c.loop-place.invariant _ c.taken_in-taken.ensures _ (rw last at c.min-width.ensures) (rw last at c.if-left.true) (sym c.first_unmarked.ensures ∙ c.in_default.is)

pub returns-then-left-clause-none : goal.returns-then-left-clause-none
returns-then-left-clause-none c = least_free_none _ _ _ (returns-then-left-clause-exact c)

pub loop-place-preserved : goal.loop-place-preserved
loop-place-preserved c =
    let last = ap (λ (range : Numbers). range.last) c.self.view_is in
    IsPassed-more _ _ _ c.loop-place.invariant _ c.taken_in-taken.ensures _ (rw last at c.min-width.ensures) (rw last at c.if-left.false) (sym c.first_unmarked.ensures ∙ c.in_default.is)
