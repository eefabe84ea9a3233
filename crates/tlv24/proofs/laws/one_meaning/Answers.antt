use Rattle.tlv24.proofs.Lists.{one_list}
use Rattle.tlv24.proofs.Sound.{one_flow}
use Rattle.tlv24.proofs.laws.one_meaning.Goals as goal

pub returns-clause-fields : goal.returns-clause-fields
returns-clause-fields c = one_flow

pub returns-clause-tlvs : goal.returns-clause-tlvs
returns-clause-tlvs c = one_list
