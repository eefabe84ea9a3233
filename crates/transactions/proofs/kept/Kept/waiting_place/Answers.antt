use Rattle.std.proofs.Common.{◌≡◌, position, ap, ◌∙◌}
use Rattle.transactions.proofs.Common.{waits_for, Keeping}
use Rattle.transactions.proofs.ListLemmas.{found_at}
use Rattle.transactions.proofs.kept.Kept.waiting_place.Goals as goal

placed : (c : goal.After-place_waiting_for) → c.place_waiting_for.result ≡ position (waits_for c.args.modem c.args.tid c.args.kind) c.args.self.now.entries
placed c =
    c.place_waiting_for.ensures
    ∙ ap (position (waits_for c.args.modem c.args.tid c.args.kind)) (c.as_slice.ensures.value ∙ ap (λ (k : Keeping). k.entries) c.self.view_is)

pub returns-clause-found : goal.returns-clause-found
returns-clause-found c = (found_at (waits_for c.args.modem c.args.tid c.args.kind) c.args.self.now.entries c.place_waiting_for.result (placed c)).0

pub returns-clause-none : goal.returns-clause-none
returns-clause-none c = (found_at (waits_for c.args.modem c.args.tid c.args.kind) c.args.self.now.entries c.place_waiting_for.result (placed c)).1
