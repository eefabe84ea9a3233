-- The widths of the numbers in a reply.
use Rattle.std.specs.Prelude.{◌<◌, ◌^◌, IfSome}
use Rattle.dsx_messages.specs.declared.reply.FlowId.{FlowId}
use Rattle.dsx_messages.specs.declared.reply.FlowId.TheVariants.{Reference, Sfid}
use Rattle.dsx_messages.specs.declared.reply.Detail.{Detail}
use Rattle.dsx_messages.specs.declared.reply.Detail.TheVariants.{Nothing, Given, Errored}
use Rattle.dsx_messages.specs.declared.reply.ReplyFields.{ReplyFields}

-- a reference has 16 bits, an SFID 32
abbrev pub FitsId : FlowId → Type 0
FitsId (Reference reference) = reference < 2 ^ 16
FitsId (Sfid sfid) = sfid < 2 ^ 32

-- each number of a detail has no more bits than its field: a reference and a SID 16, an SFID 32, a subtype 8
abbrev pub FitsDetail : Detail → Type 0
FitsDetail Nothing = Unit {0}
FitsDetail (Given reference sfid sid) = IfSome reference (λ n. n < 2 ^ 16) × (sfid < 2 ^ 32) × IfSome sid (λ n. n < 2 ^ 16)
FitsDetail (Errored id subtype) = IfSome id FitsId × (subtype < 2 ^ 8)

-- each number of a reply has no more bits than its field on the wire
pub record FitsReply (reply : ReplyFields) : Type 0 where
  pub tid : reply.tid < 2 ^ 16
  pub detail : FitsDetail reply.detail
