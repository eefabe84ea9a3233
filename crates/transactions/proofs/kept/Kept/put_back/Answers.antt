use Rattle.std.proofs.Common.{◌≡◌, ◌<◌, length, find, None, ap, ◌∙◌, arith}
use Rattle.transactions.proofs.Common.{is_of, Keeping}
use Rattle.transactions.proofs.AckLemmas.{IsKept-put_back, none_is}
use Rattle.transactions.proofs.kept.Kept.put_back.Goals as goal

pub invariant_of-self : goal.invariant_of-self
invariant_of-self c =
    let entries = ap (λ (k : Keeping). k.entries) c.self.view_is in
    let capacity = ap (λ (k : Keeping). k.capacity) c.self.view_is in
    let few : length c.self.inside.entries.items < c.self.inside.capacity = omega (arith, ap length entries, capacity, c.requires.room) in
    let free : find (is_of c.args.saved.modem c.args.saved.tid) c.self.inside.entries.items ≡ None = ap (find (is_of c.args.saved.modem c.args.saved.tid)) entries ∙ none_is c.requires.free in
    rw (c.push_reserved.ensures.items, c.push_reserved.ensures.capacity)
    (IsKept-put_back c.args.saved free few c.requires.ticking c.requires.held c.self.invariant)
