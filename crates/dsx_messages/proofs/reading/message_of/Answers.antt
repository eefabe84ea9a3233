use Rattle.std.proofs.Common.{refl, inl, inr}
use Rattle.dsx_messages.specs.MessageType.{dsa_req, dsa_ack, dsc_req, dsc_ack, dsd_req}
use Rattle.dsx_messages.specs.Reading.{message_of}
use Rattle.dsx_messages.proofs.Typed.{gives_by, brings_by, gives_it}
use Rattle.dsx_messages.proofs.reading.message_of.Goals as goal

pub returns-in-15-clause-exact : goal.returns-in-15-clause-exact
unfolding message_of
returns-in-15-clause-exact c = gives_by c.args.bytes.now dsa_req _ c.in-len1-up.len_at_least c.in-15.is c.flows_request_of.ensures.exact

pub returns-in-15-clause-memory : goal.returns-in-15-clause-memory
returns-in-15-clause-memory c memory = brings_by c.args.bytes.now dsa_req c.in-len1-up.len_at_least c.in-15.is (inl refl, c.flows_request_of.ensures.memory memory)

pub returns-in-17-clause-exact : goal.returns-in-17-clause-exact
unfolding message_of
returns-in-17-clause-exact c = gives_by c.args.bytes.now dsa_ack _ c.in-len1-up.len_at_least c.in-17.is (gives_it _ _ c.ack_of.ensures.exact)

pub returns-in-18-clause-exact : goal.returns-in-18-clause-exact
unfolding message_of
returns-in-18-clause-exact c = gives_by c.args.bytes.now dsc_req _ c.in-len1-up.len_at_least c.in-18.is c.flows_request_of-in-18.ensures.exact

pub returns-in-18-clause-memory : goal.returns-in-18-clause-memory
returns-in-18-clause-memory c memory = brings_by c.args.bytes.now dsc_req c.in-len1-up.len_at_least c.in-18.is (inr refl, c.flows_request_of-in-18.ensures.memory memory)

pub returns-in-20-clause-exact : goal.returns-in-20-clause-exact
unfolding message_of
returns-in-20-clause-exact c = gives_by c.args.bytes.now dsc_ack _ c.in-len1-up.len_at_least c.in-20.is (gives_it _ _ c.ack_of-in-20.ensures.exact)

pub returns-in-21-clause-exact : goal.returns-in-21-clause-exact
unfolding message_of
returns-in-21-clause-exact c = gives_by c.args.bytes.now dsd_req _ c.in-len1-up.len_at_least c.in-21.is (gives_it _ _ c.deletion_of.ensures.exact)
