use Rattle.std.proofs.Common.{List, sym, subst}
use Rattle.operator_model.specs.Replay.{BookView}
use Rattle.run_model.specs.Steps.{NoneRefuses}
use Rattle.plant_core.proofs.LiveLemmas.FreeLemmas.{are_free}
use Rattle.plant_workers.proofs.cell_state.giving.give_all.Goals as goal

pub give-requires-clause-fit : goal.give-requires-clause-fit
give-requires-clause-fit g c =
    subst (λ (books : List BookView). NoneRefuses c.args.from books c.args.rows.now) (sym c.make_room.ensures.books) (are_free c.args.from _ c.args.rows.now c.requires.fit).fit
