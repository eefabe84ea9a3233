use Rattle.std.proofs.Common.{◌≡◌, map, None, refl, rules}
use Rattle.frame_numbers.specs.Numbering.{operator_renumbered, renumber_refusal}
use Rattle.frame_numbers.proofs.SnapshotLemmas.{snapshot_renumbered}
use Rattle.frame_numbers.proofs.renumbering.renumber.Goals as goal

pub returns-clause-ok : goal.returns-clause-ok
returns-clause-ok c =
    let none : renumber_refusal c.args.consts.now c.args.to c.args.saved.now ≡ None = search rules in
    let operators : c.from_vec.result ≡ map (operator_renumbered c.args.consts.now.units c.args.saved.now.frame c.args.to) c.args.saved.now.operators = search rules in
    snapshot_renumbered c.args.consts.now c.args.to c.args.saved.now _ none c.in_ok-copy.ensures.value refl operators
