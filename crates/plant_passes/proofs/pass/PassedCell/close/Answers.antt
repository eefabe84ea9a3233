use Rattle.std.proofs.Common.{arith, ◌≡◌, ◌≤◌, length, Some, sym, ap, ◌∙◌}
use Rattle.plant_passes.proofs.Common.{policy_of, origin_of}
use Rattle.plant_passes.specs.ViewOf.{cell_of, pass_of}
use Rattle.plant_passes.proofs.Logs.{at_one}
use Rattle.plant_passes.proofs.Cells.{popped_are_of, the_book}
use Rattle.plant_passes.proofs.pass.PassedCell.close.Goals as goal

pub gather-collector-requires-clause-own : goal.gather-collector-requires-clause-own
gather-collector-requires-clause-own g c = popped_are_of c.args.passes.items _ _ (λ p. pass_of p) (cell_of c.args.self) c.in-Some.ensures.items c.requires.of

pub unreachable-requires-in_default-parts : goal.unreachable-requires-in_default-parts
unreachable-requires-in_default-parts g c =
    let final = c.close_with-closed.ensures.values.2 in
    let count : length final.0.homes ≡ 1 = omega (arith, final.3, c.close_with-closed.result.slots.ok.0, c.close_with-closed.ensures.counts.1, c.args.self.one) in
    let enough : c.args.self.table.shared.key.passes ≤ length c.args.passes.items = omega (arith, c.args.passes.ok.0, c.if-len-all.false, c.args.self.passes_are) in
    let e = the_book policy_of _ final.0 final.1.0 _ c.gather-collector.result.me.0 final.1.1 count c.args.passes.items _ (λ p. pass_of p)
    c.in-Some.ensures.items c.gather-collector.ensures.gathers c.gather-collector.ensures.follows enough in
    let is = at_one _ 0 _ _ c.take-parts.ensures.value (final.4 0 (Some e.book) e.home) in
    let h = sym is ∙ c.in_default-parts.is in cc h

pub of_parts-requires : goal.of_parts-requires
of_parts-requires g c =
    let final = c.close_with-closed.ensures.values.2 in
    let count : length final.0.homes ≡ 1 = omega (arith, final.3, c.close_with-closed.result.slots.ok.0, c.close_with-closed.ensures.counts.1, c.args.self.one) in
    let enough : c.args.self.table.shared.key.passes ≤ length c.args.passes.items = omega (arith, c.args.passes.ok.0, c.if-len-all.false, c.args.self.passes_are) in
    let e = the_book policy_of _ final.0 final.1.0 _ c.gather-collector.result.me.0 final.1.1 count c.args.passes.items _ (λ p. pass_of p)
    c.in-Some.ensures.items c.gather-collector.ensures.gathers c.gather-collector.ensures.follows enough in
    let is = at_one _ 0 _ _ c.take-parts.ensures.value (final.4 0 (Some e.book) e.home) in
    let z = sym c.in-Some-parts.is ∙ is in
    let same : c.in-Some-parts.parts ≡ e.book = cc z in
    ap (λ h. h.ranking.policy) same ∙ (e.follows ∙ ap (λ h. h.kept.book.row.policy) (sym same))

pub returns-clause-some : goal.returns-clause-some
returns-clause-some g c =
    let final = c.close_with-closed.ensures.values.2 in
    let count : length final.0.homes ≡ 1 = omega (arith, final.3, c.close_with-closed.result.slots.ok.0, c.close_with-closed.ensures.counts.1, c.args.self.one) in
    let enough : c.args.self.table.shared.key.passes ≤ length c.args.passes.items = omega (arith, c.args.passes.ok.0, c.if-len-all.false, c.args.self.passes_are) in
    let e = the_book policy_of _ final.0 final.1.0 _ c.gather-collector.result.me.0 final.1.1 count c.args.passes.items _ (λ p. pass_of p)
    c.in-Some.ensures.items c.gather-collector.ensures.gathers c.gather-collector.ensures.follows enough in
    let is = at_one _ 0 _ _ c.take-parts.ensures.value (final.4 0 (Some e.book) e.home) in
    let z = sym c.in-Some-parts.is ∙ is in
    let same : c.in-Some-parts.parts ≡ e.book = cc z in
    let kept = c.of_parts.ensures.0 ∙ ap (λ h. h.kept) same in
    let long = e.longest in (
      ap (λ b. origin_of b.book) kept ∙ e.origin,
      record { longest = long.longest; among = long.among; begins = long.begins; entries_are = ap (λ b. b.book.history) kept ∙ long.entries_are },
    )
