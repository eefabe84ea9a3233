use Rattle.std.proofs.Common.{arith}
use Rattle.dsx_messages.proofs.Grammar.{given_found, given_only, given_fault}
use Rattle.dsx_messages.proofs.reading.read.Goals as goal

pub returns-clause-found : goal.returns-clause-found
returns-clause-found c = given_found c.args.bytes.now c.message_of.result (λ i. omega (arith, c.type_inv.bytes i)) c.message_of.ensures.exact

pub returns-clause-only : goal.returns-clause-only
returns-clause-only c m says = given_only c.args.bytes.now c.message_of.result m (λ i. omega (arith, c.type_inv.bytes i)) c.message_of.ensures.exact says

pub returns-clause-fault : goal.returns-clause-fault
returns-clause-fault c = given_fault c.args.bytes.now c.message_of.result (λ i. omega (arith, c.type_inv.bytes i)) c.message_of.ensures.exact
