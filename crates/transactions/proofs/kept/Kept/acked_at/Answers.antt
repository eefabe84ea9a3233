use Rattle.std.proofs.Common.{◌≡◌, ◌<◌, List, length, map, set, position, Some, ap, ◌∙◌, sym, subst}
use Rattle.transactions.proofs.Common.{KeptEntry, waits_for, Keeping, entry_after_ack}
use Rattle.transactions.proofs.AckLemmas.{acknowledged_at, sfid_at, IsKept-hold}
use Rattle.transactions.proofs.kept.Kept.acked_at.Goals as goal

pub invariant_of-self : goal.invariant_of-self
invariant_of-self c =
    let entries = ap (λ (k : Keeping). k.entries) c.self.view_is in
    let within = subst (λ (es : List KeptEntry). c.args.place < length es) (sym entries) c.requires in
    rw c.hold.ensures (IsKept-hold _ _ _ within c.index_mut-entry.ensures.value c.self.invariant)

pub returns-clause-sfid : goal.returns-clause-sfid
returns-clause-sfid c modem tid kind at =
    let entries = ap (λ (k : Keeping). k.entries) c.self.view_is in
    let found = ap (position (waits_for modem tid kind)) entries ∙ at in
    let sfid = sfid_at modem tid kind c.self.inside.entries.items c.args.place c.index_mut-entry.result.now found c.index_mut-entry.ensures.value in
    ap (λ (e : KeptEntry). Some e.sfid) c.hold.ensures ∙ sym (rw entries at sfid)

pub returns-clause-state : goal.returns-clause-state
returns-clause-state c modem tid kind at =
    let entries = ap (λ (k : Keeping). k.entries) c.self.view_is in
    let waits = ap (λ (k : Keeping). k.waits) c.self.view_is in
    let capacity = ap (λ (k : Keeping). k.capacity) c.self.view_is in
    let items = c.self.inside.entries.items in
    let found = ap (position (waits_for modem tid kind)) entries ∙ at in
    let held = ap (set items c.args.place) c.hold.ensures ∙ sym (acknowledged_at c.self.inside.timers modem tid kind items c.self.invariant.one_each c.args.place _ found c.index_mut-entry.ensures.value) in
    let moved : map (entry_after_ack c.self.inside.timers modem tid kind) items ≡ map (entry_after_ack c.args.self.now.waits modem tid kind) c.args.self.now.entries = λ i. map (entry_after_ack (waits i) modem tid kind) (entries i) in
    let all = held ∙ moved in
    λ i. record { capacity = capacity i; waits = waits i; entries = all i }
