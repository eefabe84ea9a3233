use Rattle.std.proofs.Common.{rules, ap}
use Rattle.plant_passes.proofs.Moves.{copies, joins, looks}
use Rattle.plant_passes.proofs.pass.PassedCell.meet.Goals as goal

pub split_seat-copy-requires : goal.split_seat-copy-requires
split_seat-copy-requires g c = (search rules, search rules, copies _ _ _ _)

pub join_seat-requires : goal.join_seat-requires
join_seat-requires g c = (
  search rules,
  search rules,
  search rules,
  search rules,
  joins _ _ _ _ _ _ c.args.told.now.number_is c.args.told.now.holds_book (ap (λ m. m.0.holds_book) c.split_seat-copy.ensures.4)
      (ap (λ m. m.0.ticket) c.split_seat-copy.ensures.4),
)

pub load-requires : goal.load-requires
load-requires g c = (search rules, search rules, looks _ _ _ _ _ (search rules) (search rules))
