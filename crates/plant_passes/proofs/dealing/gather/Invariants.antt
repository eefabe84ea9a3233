use Rattle.std.proofs.Common.{◌≡◌, List, [], ◌∷◌, ◌++◌, map, All}
use Rattle.plant_passes.proofs.Common.{policy_of, PassView, pass_view, FollowsPolicy, Gathers}
use Rattle.plant_passes.proofs.dealing.gather.Given as goal

-- what is left, and what was joined, are all
abbrev pub invariant-loop-pass : goal.invariant-loop-pass
invariant-loop-pass g l = record {
  place : l.collector.table_id ≡ l.table.table_id;
  own : All (λ p. p.seat.table_id ≡ l.table.table_id) l.rest.items;
  follows : FollowsPolicy policy_of l.collector.me.0;
  joined : (ps : List PassView)
      × (map (λ p. pass_view p.seat) l.rest.items ++ ps ≡ map (λ p. pass_view p.seat) (l.fn.rest.items ++ l.fn.first ∷ []))
      × Gathers ps l.collector.me.0;
}

abbrev pub decreases-loop-pass : goal.decreases-loop-pass
decreases-loop-pass g l = goal.left-loop-pass g l
