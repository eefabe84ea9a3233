-- The names of causes for which nothing is answered (implementation-specific).
use Rattle.std.specs.Prelude.{ℕ, List, codes}
use Rattle.operator_model.specs.declared.output.Cause.{Cause}
use Rattle.operator_model.specs.declared.output.Cause.TheVariants.{InboxFull, Idle, Empty, NotOurs, Short, TidInUse, UnknownAck, NoSuchSid, NotRequesting}

-- how a drop reason is written in a line `S`
abbrev pub cause_name : Cause → List ℕ
cause_name InboxFull = codes "InboxFull"
cause_name Idle = codes "Idle"
cause_name Empty = codes "Empty"
cause_name NotOurs = codes "NotOurs"
cause_name Short = codes "Short"
cause_name TidInUse = codes "TidInUse"
cause_name UnknownAck = codes "UnknownAck"
cause_name NoSuchSid = codes "NoSuchSid"
cause_name NotRequesting = codes "NotRequesting"
