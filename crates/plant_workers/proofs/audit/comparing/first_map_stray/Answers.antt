use Rattle.std.proofs.Common.{◌≡◌, List, map, sym, ◌∙◌, subst, refl, arith}
use Rattle.plant_workers.proofs.AuditLemmas.Common.{MatchOption, length-map, view_of, Placing, ArePut, IsPutStray, AllAreNumbered}
use Rattle.plant_workers.proofs.AuditLemmas.Judging.{all_numbered, map_told}
use Rattle.plant_workers.proofs.audit.comparing.first_map_stray.Goals as goal

pub returns : goal.returns
returns g c =
    let same : c.args.assembly.now.plant ≡ c.args.plant.now = sym c.plant.ensures ∙ c.if-not-is_same_plant.ensures.0 refl in
    let long = length-map c.args.books.now view_of in
    let are = all_numbered c.args.plant.now c.args.steps.now (map view_of c.args.books.now) c.args.assembly.now (omega (arith, long, c.requires.one_each)) c.requires.own same c.always.ensures.made in
    map_told c.args.plant.now c.args.steps.now (map view_of c.args.books.now) c.args.assembly.now same c.first_put_stray.result
    (subst (λ (ps : List Placing). AllAreNumbered c.args.plant.now.consts.channel.first_frame c.args.steps.now (map view_of c.args.books.now) ps
    → MatchOption c.first_put_stray.result (ArePut c.args.steps.now (map view_of c.args.books.now) ps) (IsPutStray c.args.plant.now.consts.channel.first_frame c.args.steps.now (map view_of c.args.books.now) ps))
    c.placings.ensures (c.first_put_stray.ensures c.args.plant.now.consts.channel.first_frame) are)
