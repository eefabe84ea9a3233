use Rattle.dsx_messages.proofs.Grammar.{message_says, says_message, message_fault, message_memory}
use Rattle.dsx_messages.proofs.laws.message_is_read.Goals as goal

pub returns-clause-found : goal.returns-clause-found
returns-clause-found c bytes m are e = message_says bytes m are e

pub returns-clause-only : goal.returns-clause-only
returns-clause-only c bytes m are says = says_message bytes m are says

pub returns-clause-fault : goal.returns-clause-fault
returns-clause-fault c bytes fault are e = message_fault bytes fault are e

pub returns-clause-memory : goal.returns-clause-memory
returns-clause-memory c bytes are e = message_memory bytes are e
