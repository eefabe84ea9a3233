-- The one spelling of each reply (implementation-specific layout).
use Rattle.std.specs.Prelude.{ℕ, List, [], ◌∷◌, ◌++◌, Option, Some, None}
use Rattle.std.specs.Option.{option_map}
use Rattle.std.specs.Int.{w16, w32, to_be_bytes}
use Rattle.tlv24.specs.Subtype.{reference_subtype, sfid_subtype, sid_subtype, errored_subtype, errored_parameter_subtype, error_code_subtype}
use Rattle.tlv24.specs.Tlv.{tlv, spelled}
use Rattle.tlv24.specs.Spelling.{under}
use Rattle.tlv24.specs.declared.tlv.Tlv.{Tlv}
use Rattle.dsx_messages.specs.declared.kind.Kind.{Kind}
use Rattle.dsx_messages.specs.declared.kind.Kind.TheVariants.{Dsa, Dsc, Dsd}
use Rattle.dsx_messages.specs.declared.code.Code.{Code}
use Rattle.dsx_messages.specs.declared.reply.FlowId.{FlowId}
use Rattle.dsx_messages.specs.declared.reply.FlowId.TheVariants.{Reference, Sfid}
use Rattle.dsx_messages.specs.declared.reply.Detail.{Detail}
use Rattle.dsx_messages.specs.declared.reply.Detail.TheVariants.{Nothing, Given, Errored}
use Rattle.dsx_messages.specs.declared.reply.ReplyFields.{ReplyFields}
use Rattle.dsx_messages.specs.Code.{code_number}
use Rattle.dsx_messages.specs.MessageType.{dsa_rsp, dsc_rsp, dsd_rsp}
use Rattle.dsx_messages.specs.TlvType.{upstream_service_flow}

-- the message type of a response
abbrev pub response_type : Kind → ℕ
response_type Dsa = dsa_rsp
response_type Dsc = dsc_rsp
response_type Dsd = dsd_rsp

-- the identifier that a reply names: a reference of two bytes, or an SFID of four
abbrev pub id_tlv : Option FlowId → List Tlv
id_tlv None = []
id_tlv (Some (Reference reference)) = tlv reference_subtype (to_be_bytes w16 reference) ∷ []
id_tlv (Some (Sfid sfid)) = tlv sfid_subtype (to_be_bytes w32 sfid) ∷ []

-- what is under type 24: the flow that was added or changed
abbrev pub given_tlvs : Option ℕ → ℕ → Option ℕ → List Tlv
given_tlvs reference sfid sid =
    under reference_subtype (option_map (to_be_bytes w16) reference) ++
    tlv sfid_subtype (to_be_bytes w32 sfid) ∷
    under sid_subtype (option_map (to_be_bytes w16) sid)

-- or the invalid encoding, and its error encodings: the subtype, and the reply's code again
abbrev pub errored_tlvs : Code → Option FlowId → ℕ → List Tlv
errored_tlvs code id subtype =
    id_tlv id ++
    tlv errored_subtype (spelled (tlv errored_parameter_subtype (subtype ∷ []) ∷ tlv error_code_subtype (code_number code ∷ []) ∷ [])) ∷ []

-- the TLVs of a response: one type 24, or nothing
abbrev pub tlvs_in : Code → Detail → List Tlv
tlvs_in code Nothing = []
tlvs_in code (Given reference sfid sid) = tlv upstream_service_flow (spelled (given_tlvs reference sfid sid)) ∷ []
tlvs_in code (Errored id subtype) = tlv upstream_service_flow (spelled (errored_tlvs code id subtype)) ∷ []

-- what follows the confirmation code: a deletion has a reserved byte, which is 0
abbrev pub tail_of : Kind → Code → Detail → List ℕ
tail_of Dsd code detail = 0 ∷ []
tail_of kind code detail = spelled (tlvs_in code detail)

-- the one spelling of a reply: the message type, the transaction ID, the confirmation code, and what goes with these
-- (implementation-specific layout)
abbrev pub spell_reply : ReplyFields → List ℕ
spell_reply reply =
    response_type reply.kind ∷ (to_be_bytes w16 reply.tid ++ code_number reply.code ∷ tail_of reply.kind reply.code reply.detail)
