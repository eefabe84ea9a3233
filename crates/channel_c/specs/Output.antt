-- An output as C gets it: a head, its bytes and its grants (implementation-specific).
use Rattle.std.specs.Prelude.{◌≤◌, ℕ, List, [], ◌∷◌, ◌++◌, length, map, Option, Some, None}
use Rattle.dsx_messages.specs.declared.modem.Modem.{Modem}
use Rattle.operator_model.specs.declared.output.Cause.{Cause}
use Rattle.operator_model.specs.declared.output.Cause.TheVariants.{InboxFull, Idle, Empty, NotOurs, Short, TidInUse, UnknownAck, NoSuchSid, NotRequesting}
use Rattle.operator_model.specs.declared.output.Output.{Output}
use Rattle.operator_model.specs.declared.output.Output.TheVariants.{Reply, Silent, Frame}
use Rattle.map_assembly.specs.declared.map_bytes.MapBytes.{MapBytes}
use Rattle.run_model.specs.declared.step.Out.{Out}
use Rattle.run_model.specs.declared.step.Out.TheVariants as outs
use Rattle.channel_c.specs.declared.head.OutputHead.{OutputHead}
use Rattle.channel_c.specs.declared.grants.Grant.{Grant}
use Rattle.channel_c.specs.Grants.{granted_as, pending_as}

-- ---- the head

-- 1 to 9, in the order in which the causes are declared
abbrev pub cause_number : Cause → ℕ
cause_number InboxFull = 1
cause_number Idle = 2
cause_number Empty = 3
cause_number NotOurs = 4
cause_number Short = 5
cause_number TidInUse = 6
cause_number UnknownAck = 7
cause_number NoSuchSid = 8
cause_number NotRequesting = 9

-- six bytes; zeros for no modem
abbrev pub address_of : Option Modem → List ℕ
address_of None = 0 ∷ 0 ∷ 0 ∷ 0 ∷ 0 ∷ 0 ∷ []
address_of (Some modem) = modem.0

-- of an output with no bytes and no grants
abbrev pub head_alone : ℕ → ℕ → List ℕ → OutputHead
head_alone kind operator modem = record { kind = kind; cause = 0; operator = operator; frame = 0; modem = modem; length = 0; granted = 0; pending = 0 }

-- of an operator's output, by its place in the plant file: 1 a reply, 2 why there is no reply, 3 a frame
abbrev pub head_under : ℕ → Output → OutputHead
head_under op (Reply modem bytes) = record (head_alone 1 op modem.0) { length = length bytes }
head_under op (Silent modem cause) = record (head_alone 2 op (address_of modem)) { cause = cause_number cause }
head_under op (Frame number elements) =
    record (head_alone 3 op (address_of None)) { frame = number; granted = length elements.spans; pending = length elements.pending }

-- 4: a MAP, which is of no one operator
abbrev pub head_of : Out → OutputHead
head_of (outs.Of op output) = head_under op output
head_of (outs.Map made) = record (head_alone 4 0 (address_of None)) { frame = made.frame; length = length made.bytes }

-- ---- the bytes and the grants

-- the bytes of an operator's output: of a reply its message, and of any other output none
abbrev pub bytes_under : Output → List ℕ
bytes_under (Reply modem bytes) = bytes
bytes_under (Silent modem cause) = []
bytes_under (Frame number elements) = []

-- of a reply its message, of a MAP its body
abbrev pub bytes_of : Out → List ℕ
bytes_of (outs.Of op output) = bytes_under output
bytes_of (outs.Map made) = made.bytes

-- the grants of an operator's output: of a frame its spans and then its grants pending, and of any other output none
abbrev pub grants_under : Output → List Grant
grants_under (Reply modem bytes) = []
grants_under (Silent modem cause) = []
grants_under (Frame number elements) = map granted_as elements.spans ++ map pending_as elements.pending

-- of a frame its spans of minislots, and then its grants pending
abbrev pub grants_of : Out → List Grant
grants_of (outs.Of op output) = grants_under output
grants_of (outs.Map made) = []

-- the bytes and the grants of an output fit into the caller's buffers
abbrev pub Fits : Out → List ℕ → List Grant → Type 0
Fits out bytes grants = (length (bytes_of out) ≤ length bytes) × (length (grants_of out) ≤ length grants)
