-- The names that several proofs of this crate cite, passed on from one place. Declares nothing.
pub use Rattle.dsx_messages.specs.Reading.{message_cause, is_left_out, left_out_in, flow_in, flows_read_after, message_of, BringsFlows}
pub use Rattle.dsx_messages.specs.TlvType.{upstream_service_flow}
pub use Rattle.dsx_messages.specs.Told.{IsDetailSpelling}
pub use Rattle.dsx_messages.specs.declared.fault.MessageFault.{MessageFault}
pub use Rattle.dsx_messages.specs.declared.kind.Kind.{Kind}
pub use Rattle.dsx_messages.specs.declared.kind.Kind.TheVariants.{Dsa, Dsc, Dsd}
pub use Rattle.dsx_messages.specs.declared.message.Message.{Message}
pub use Rattle.lists.specs.Results.{◌>>=◌, Gives, Fails}
pub use Rattle.std.proofs.lemmas.List.{take_at, drop_at, take_all}
pub use Rattle.std.specs.Prelude.{IfOk, IfErr, IfSome}
pub use Rattle.tlv24.proofs.Lists.{IsFront-end, IsFront-stuck, front_of-some, front_of-none, shrinks}
pub use Rattle.tlv24.specs.Flow.{word, long, values_of, flow_of, IsFlowEncoding}
pub use Rattle.tlv24.specs.Tlv.{spelled_one, spelled, IsTlvList, NoTlvBegins, Front, front_of, tlv, first_tlv}
pub use Rattle.tlv24.specs.declared.fields.FlowFields.{FlowFields}
pub use Rattle.tlv24.specs.declared.tlv.Tlv.{Tlv}
