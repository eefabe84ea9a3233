use Rattle.dsx_messages.proofs.reply_details.refused_change.Goals as goal

pub returns-in_err-parse_refusal-clause-every_sfid : goal.returns-in_err-parse_refusal-clause-every_sfid
returns-in_err-parse_refusal-clause-every_sfid c sfid subtype fits told =
    absurd (cc (c.in_err-parse_refusal.ensures.every_sfid sfid subtype fits told))
