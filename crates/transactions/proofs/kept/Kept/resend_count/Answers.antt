use Rattle.std.proofs.Common.{count_by, filter, ap, ◌∙◌, sym}
use Rattle.transactions.proofs.Common.{length-map, length-filter, is_resent, resend_of, Keeping}
use Rattle.transactions.proofs.kept.Kept.resend_count.Goals as goal

pub returns-clause-value : goal.returns-clause-value
returns-clause-value c =
    let entries = ap (λ (k : Keeping). k.entries) c.self.view_is in
    let now = c.args.self.now.entries in
    c.resent_count.ensures.value
    ∙ (ap (count_by is_resent) (c.deref.ensures.value ∙ entries)
    ∙ sym (length-map (filter is_resent now) resend_of ∙ length-filter is_resent now))
