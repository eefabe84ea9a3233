use Rattle.std.proofs.Common.{rules, [], ◌∷◌, sym, refl, ◌∙◌, subst}
use Rattle.plant_passes.proofs.Common.{map-append, policy_of, pass_view, FollowsPolicy, Gathers}
use Rattle.plant_passes.proofs.Moves.{joins}
use Rattle.plant_passes.proofs.Cells.{gathers_one, gathers_more, pop_all, map_popped, no_hands}
use Rattle.plant_passes.proofs.dealing.gather.Goals as goal

pub loop-pass-init : goal.loop-pass-init
loop-pass-init g c = record {
  place = c.requires.own.0;
  own = c.requires.own.1;
  follows = c.args.first.follows;
  joined = (
    pass_view c.args.first.seat ∷ [],
    sym (map-append _ c.args.rest.items (c.args.first ∷ [])),
    gathers_one (pass_view c.args.first.seat) c.args.first.seat.me.0 c.args.first.passes c.args.first.number_is c.args.first.holds_book refl,
  );
}

pub join_seat-requires : goal.join_seat-requires
join_seat-requires g c =
    let popped = pop_all c.loop-pass.rest.items c.pop.new.self.items c.in-Some.pass (λ p. p.seat.table_id) c.args.table.now.table_id
    c.in-Some.ensures.items c.loop-pass.invariant.own in
    let t = c.loop-pass.invariant.joined.2 in (
      search rules,
      popped.1,
      no_hands _ c.in-Some.pass.hand_is,
      search rules,
      joins _ _ _ _ _ _ t.number t.holds_book c.in-Some.pass.holds_book c.in-Some.pass.ticket,
    )

pub loop-pass-preserved : goal.loop-pass-preserved
loop-pass-preserved g c =
    let popped = pop_all c.loop-pass.rest.items c.pop.new.self.items c.in-Some.pass (λ p. p.seat.table_id) c.args.table.now.table_id
    c.in-Some.ensures.items c.loop-pass.invariant.own in
    let t = c.loop-pass.invariant.joined in
    let view = pass_view c.in-Some.pass.seat in
    let all = gathers_more view t.0 c.loop-pass.collector.me.0 c.in-Some.pass.seat.me.0 t.2 c.in-Some.pass.passes refl in record {
      place = c.join_seat.ensures.0 ∙ c.loop-pass.invariant.place;
      own = popped.0;
      follows = subst (λ m. FollowsPolicy policy_of m.0) (sym c.join_seat.ensures.2) c.loop-pass.invariant.follows;
      joined = (
        view ∷ t.0,
        map_popped c.loop-pass.rest.items c.pop.new.self.items c.in-Some.pass (λ p. pass_view p.seat) t.0 c.in-Some.ensures.items ∙ t.1,
        subst (λ m. Gathers (view ∷ t.0) m.0) (sym c.join_seat.ensures.2) all,
      );
    }
