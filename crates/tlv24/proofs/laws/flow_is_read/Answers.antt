use Rattle.tlv24.proofs.Law.{right_answer, flow_answered}
use Rattle.tlv24.proofs.laws.flow_is_read.Goals as goal

pub returns-clause-right : goal.returns-clause-right
returns-clause-right c bytes are = right_answer bytes are

pub returns-clause-only : goal.returns-clause-only
returns-clause-only c bytes m are says = flow_answered bytes m are says
