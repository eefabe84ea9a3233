use Rattle.std.proofs.Common.{◌≡◌, ◌+◌, ◌≤◌, true, ◌++◌, map, vec_len, vec_capacity}
use Rattle.plant_passes.specs.Passes.{pass_view, first_passes}
use Rattle.plant_passes.proofs.dealing.deal_out.Given as goal

-- the passes so far, and those that are left, are all
abbrev pub invariant-loop-left : goal.invariant-loop-left
invariant-loop-left g l = record {
  place : l.giver.table_id ≡ l.table.table_id;
  opens : l.giver.me.0.opens ≡ true;
  passes : l.giver.me.0.passes ≡ l.left;
  origin : l.giver.me.0.origin ≡ l.fn.giver.me.0.origin;
  seen : l.giver.me.0.seen ≡ l.fn.giver.me.0.seen;
  ranking : l.giver.me.0.ranking ≡ l.fn.giver.me.0.ranking;
  given : map (λ p. pass_view p.seat) l.given.items ++ first_passes l.table.table_id l.fn.giver.me.0.origin l.fn.giver.me.0.seen l.left
      ≡ first_passes l.table.table_id l.fn.giver.me.0.origin l.fn.giver.me.0.seen l.passes;
  room : vec_len l.given + l.left ≤ vec_capacity l.given;
}

abbrev pub decreases-loop-left : goal.decreases-loop-left
decreases-loop-left g l = l.left
