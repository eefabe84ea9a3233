use Rattle.std.proofs.Common.{ℕ, List, get_or, ap, sym}
use Rattle.std.proofs.lemmas.Option.{none-some}
use Rattle.dsx_messages.proofs.reply_reading.read_reply.Goals as goal

pub returns-in_err-kind-clause-every : goal.returns-in_err-kind-clause-every
returns-in_err-kind-clause-every c reply well fits spelling =
    absurd (none-some reply.kind (c.in_err-kind.ensures.every reply.kind (sym (ap (λ (bs : List ℕ). get_or bs 0 0) spelling))))

pub returns-in_err-code-clause-every : goal.returns-in_err-code-clause-every
returns-in_err-code-clause-every c reply well fits spelling =
    absurd (none-some reply.code (c.in_err-code.ensures.every reply.code (sym (ap (λ (bs : List ℕ). get_or bs 3 0) spelling))))
