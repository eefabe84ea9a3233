use Rattle.std.proofs.Common.{◌≡◌, ◌<◌, length, find, None, ap, ◌∙◌, arith}
use Rattle.transactions.proofs.Common.{is_of, Keeping}
use Rattle.transactions.proofs.AckLemmas.{IsKept-begin, none_is}
use Rattle.transactions.proofs.kept.Kept.begin_new.Goals as goal

pub invariant_of-self : goal.invariant_of-self
invariant_of-self c =
    let entries = ap (λ (k : Keeping). k.entries) c.self.view_is in
    let capacity = ap (λ (k : Keeping). k.capacity) c.self.view_is in
    let few : length c.self.inside.entries.items < c.self.inside.capacity = omega (arith, ap length entries, capacity, c.requires.room) in
    let free : find (is_of c.args.modem c.args.tid) c.self.inside.entries.items ≡ None = ap (find (is_of c.args.modem c.args.tid)) entries ∙ none_is c.requires.free in
    rw (c.push_reserved.ensures.items, c.push_reserved.ensures.capacity, c.begin-entry.ensures)
    (IsKept-begin _ c.args.modem c.args.tid c.args.kind c.args.reply c.args.sfid c.args.waits free few c.self.invariant)
