use Rattle.std.proofs.Common.{◌≡◌, ap, subst, IfOk}
use Rattle.operator_book.proofs.Common.{ConstsFields, OperatorState, operator, opened_state, opened_before}
use Rattle.operator_book.proofs.live.Machine.open.Goals as goal

-- a machine that is opened before the plant's first frame is the machine that is opened
pub returns : goal.returns
returns c =
    let same : opened_before c.get_fields.result.now.channel.first_frame c.args.consts.now c.args.row.now ≡ opened_state c.args.consts.now c.args.row.now =
    ap (λ (k : ConstsFields). opened_before k.channel.first_frame c.args.consts.now c.args.row.now) c.get_fields.ensures.value in
    subst (λ (s : OperatorState). IfOk c.open_before.result (λ live. live.sound ≡ operator c.args.consts.now c.args.row.now s)) same c.open_before.ensures
