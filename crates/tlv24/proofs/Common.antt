-- The names that several proofs of this crate cite, passed on from one place. Declares nothing.
pub use Rattle.std.proofs.lemmas.Bool.{leb-true, leb-false, cases_eq, le-leb, ltb-true, and_from, lt-ltb, le-ltb}
pub use Rattle.std.proofs.lemmas.Bool.Decides.{nat_tests}
pub use Rattle.std.proofs.lemmas.List.{take-append-drop, length-take, get_or-drop, append-nil, take_at, drop_at, map-append, drop-replicate, length-replicate}
pub use Rattle.std.proofs.lemmas.Option.{same_Some}
pub use Rattle.std.specs.Int.{w16, w32, to_be_bytes}
pub use Rattle.std.specs.List.{AllByRecursion, list_all}
pub use Rattle.std.specs.Option.{option_map}
pub use Rattle.std.specs.Prelude.{IfSome, IsTrue, option_to_list, replicate, is_some}
pub use Rattle.tlv24.specs.Flow.{fields_of, fault_of, flow_of, IsFlowEncoding, IsFirstFlowFault, byte, word, long, low_bits, name_of, errored_of, value_of, values_of, lengths_of, in_range, is_terminated, IsOfSubtype, IsOnceAtMost, EachIsOnceAtMost}
pub use Rattle.tlv24.specs.Name.{IsClassName}
pub use Rattle.tlv24.specs.Range.{AreInRange}
pub use Rattle.tlv24.specs.Reading.{IsReadUpTo}
pub use Rattle.tlv24.specs.Spelling.{single, terminated_name, spelled_error, under, tlvs_of}
pub use Rattle.tlv24.specs.Stated.{States}
pub use Rattle.tlv24.specs.Tlv.{tlv, spelled, spelled_one, IsFront, Begins, NoTlvBegins, First, Front, first_tlv, front_of, FitsLengthByte}
pub use Rattle.tlv24.specs.declared.fault.FlowFault.{FlowFault}
pub use Rattle.tlv24.specs.declared.fields.FlowFields.{FlowFields}
pub use Rattle.tlv24.specs.declared.tlv.Tlv.{Tlv}
pub use Rattle.tlv24.specs.declared.tlv.TlvFault.{TlvFault}
pub use Rattle.tlv24.specs.declared.tlv.TlvFault.TheVariants.{Cut, WrongLength, Twice, Range, NoMemory}
