use Rattle.std.proofs.Common.{◌<◌, ◌^◌, arith}
use Rattle.dsx_messages.proofs.reply_details.accepted_addition.Goals as goal

pub returns-in_err-reference-clause-every : goal.returns-in_err-reference-clause-every
returns-in_err-reference-clause-every c reference sfid sid fits_reference fits_sfid small told =
    let fits_sid : sid < 2 ^ 16 = omega arith in
    absurd (cc (c.in_err-reference.ensures.every reference sfid sid fits_reference fits_sfid fits_sid told))
