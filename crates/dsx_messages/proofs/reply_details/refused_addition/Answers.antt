use Rattle.dsx_messages.proofs.reply_details.refused_addition.Goals as goal

pub returns-in_err-parse_refusal-clause-every_reference :
    goal.returns-in_err-parse_refusal-clause-every_reference
returns-in_err-parse_refusal-clause-every_reference c reference subtype fits told =
    absurd (cc (c.in_err-parse_refusal.ensures.every_reference reference subtype fits told))
