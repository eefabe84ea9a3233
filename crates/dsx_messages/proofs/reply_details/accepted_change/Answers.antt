use Rattle.std.proofs.Common.{◌<◌, ◌^◌, arith}
use Rattle.dsx_messages.proofs.reply_details.accepted_change.Goals as goal

pub returns-in_err-sfid-clause-every_with_sid : goal.returns-in_err-sfid-clause-every_with_sid
returns-in_err-sfid-clause-every_with_sid c sfid sid fits_sfid small told =
    let fits_sid : sid < 2 ^ 16 = omega arith in
    absurd (cc (c.in_err-sfid.ensures.every sfid sid fits_sfid fits_sid told))
