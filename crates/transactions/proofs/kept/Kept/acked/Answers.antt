use Rattle.std.proofs.Common.{List, ap, ◌∙◌, sym}
use Rattle.transactions.specs.declared.entry.KeptEntry.{KeptEntry}
use Rattle.transactions.proofs.AckLemmas.{acknowledged_none, sfid_none}
use Rattle.transactions.proofs.kept.Kept.acked.Goals as goal

-- no entry waits for the acknowledgement
pub returns-in_err-place-clause-sfid : goal.returns-in_err-place-clause-sfid
returns-in_err-place-clause-sfid c =
    c.from_residual.ensures ∙ sym (sfid_none c.args.modem c.args.tid c.args.kind c.args.self.now.entries (sym c.in_err-place.ensures.place))

pub returns-in_err-place-clause-state : goal.returns-in_err-place-clause-state
returns-in_err-place-clause-state c =
    let same = acknowledged_none c.args.self.now.waits c.args.modem c.args.tid c.args.kind c.args.self.now.entries (sym c.in_err-place.ensures.place) in
    ap (λ (entries : List KeptEntry). record c.args.self.now { entries = entries }) (sym same)
