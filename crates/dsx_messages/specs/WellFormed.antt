-- Which detail goes with a reply's kind and code (implementation-specific layout of DSA-RSP, DSC-RSP and DSD-RSP).
use Rattle.std.specs.Prelude.{◌≡◌, ◌≢◌, ◌<◌, Some, None, IfSome}
use Rattle.dsx_messages.specs.declared.kind.Kind.{Kind}
use Rattle.dsx_messages.specs.declared.kind.Kind.TheVariants.{Dsa, Dsc, Dsd}
use Rattle.dsx_messages.specs.declared.code.Code.{Code}
use Rattle.dsx_messages.specs.declared.code.Code.TheVariants.{Okay}
use Rattle.dsx_messages.specs.declared.reply.FlowId.{FlowId}
use Rattle.dsx_messages.specs.declared.reply.FlowId.TheVariants.{Reference, Sfid}
use Rattle.dsx_messages.specs.declared.reply.Detail.{Detail}
use Rattle.dsx_messages.specs.declared.reply.Detail.TheVariants.{Nothing, Given, Errored}
use Rattle.dsx_messages.specs.declared.reply.ReplyFields.{ReplyFields}

-- an addition names a flow by its reference, a change by its SFID, a deletion names none
abbrev pub IsFlowIdOf : Kind → FlowId → Type 0
IsFlowIdOf Dsa (Reference reference) = Unit {0}
IsFlowIdOf Dsc (Sfid sfid) = Unit {0}
IsFlowIdOf kind id = ⊥

-- An accepted addition gives reference, SFID and SID, an accepted change SFID and perhaps a SID; a refusal of either may
-- name an encoding and a subtype; a deletion says nothing more.
abbrev pub GoesWith : Kind → Code → Detail → Type 0
GoesWith Dsd code Nothing = Unit {0}
GoesWith Dsd code detail = ⊥
GoesWith kind code Nothing = code ≢ Okay
GoesWith kind code (Errored id subtype) = (code ≢ Okay) × IfSome id (IsFlowIdOf kind)
GoesWith Dsa code (Given (Some reference) sfid (Some sid)) = (code ≡ Okay) × (sid < 16384)
GoesWith Dsc code (Given None sfid sid) = (code ≡ Okay) × IfSome sid (λ n. n < 16384)
GoesWith kind code (Given reference sfid sid) = ⊥

-- the detail of a reply goes with its kind and its confirmation code; the type `Reply` keeps it
abbrev pub IsWellFormed : ReplyFields → Type 0
IsWellFormed reply = GoesWith reply.kind reply.code reply.detail
