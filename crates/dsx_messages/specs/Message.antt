-- The grammar of messages (CM-SP-MULPIv3.1, 6.4.12, 6.4.14, 6.4.15, 6.4.17 and 6.4.18), and their first fault.
use Rattle.std.specs.Prelude.{◌≡◌, ◌≢◌, ℕ, ◌<◌, List, [], ◌∷◌, ◌++◌, ◌⊎◌, length, Option, Some, None}
use Rattle.std.specs.List.{find}
use Rattle.tlv24.specs.declared.tlv.Tlv.{Tlv}
use Rattle.tlv24.specs.declared.tlv.TlvFault.{TlvFault}
use Rattle.tlv24.specs.declared.tlv.TlvFault.TheVariants.{Cut}
use Rattle.tlv24.specs.declared.fields.FlowFields.{FlowFields}
use Rattle.tlv24.specs.declared.fault.FlowFault.{FlowFault}
use Rattle.tlv24.specs.Tlv.{IsTlvList, IsCutAt}
use Rattle.tlv24.specs.Flow.{word, long, values_of, IsFlowEncoding, IsFirstFlowFault}
use Rattle.dsx_messages.specs.declared.kind.Kind.{Kind}
use Rattle.dsx_messages.specs.declared.kind.Kind.TheVariants.{Dsa, Dsc, Dsd}
use Rattle.dsx_messages.specs.declared.reply.FlowId.{FlowId}
use Rattle.dsx_messages.specs.declared.message.Request.TheVariants as requests
use Rattle.dsx_messages.specs.declared.message.Message.{Message}
use Rattle.dsx_messages.specs.declared.message.Message.TheVariants as messages
use Rattle.dsx_messages.specs.declared.fault.MessageFault.{MessageFault}
use Rattle.dsx_messages.specs.declared.fault.MessageFault.TheVariants as faults
use Rattle.dsx_messages.specs.MessageType.{dsa_req, dsa_ack, dsc_req, dsc_ack, dsd_req}
use Rattle.dsx_messages.specs.TlvType.{upstream_service_flow}
use Rattle.dsx_messages.specs.Reading.{is_left_out, id_of_fault}

-- the bytes begin with a message type and a transaction ID, and the body follows
pub record IsHeaded (bytes : List ℕ) (mtype tid : ℕ) (body : List ℕ) : Type 0 where
  pub high : ℕ
  pub low : ℕ
  pub spelling : bytes ≡ mtype ∷ high ∷ low ∷ body
  pub tid_is : tid ≡ word (high ∷ low ∷ [])

-- each value is a flow encoding and says the fields at its place
abbrev pub AreSaid : List (List ℕ) → List FlowFields → Type 0
AreSaid [] [] = Unit {0}
AreSaid (value ∷ values) (flow ∷ flows) = IsFlowEncoding value flow × AreSaid values flows
AreSaid values flows = ⊥

-- a list of TLVs of which none is left out, and its type 24s say the flows, in order
pub record SaysFlows (list : List ℕ) (flows : List FlowFields) : Type 0 where
  pub tlvs : List Tlv
  pub spelling : IsTlvList list tlvs
  pub none_left_out : find is_left_out tlvs ≡ None
  pub said : AreSaid (values_of upstream_service_flow tlvs) flows

-- two reserved bytes and an SFID; what follows is not read
pub record SaysSfid (body : List ℕ) (sfid : ℕ) : Type 0 where
  pub reserved : List ℕ
  pub two : length reserved ≡ 2
  pub field : List ℕ
  pub four : length field ≡ 4
  pub more : List ℕ
  pub spelling : body ≡ reserved ++ (field ++ more)
  pub sfid_is : sfid ≡ long field

-- What the bytes of a message say, by the type byte: a header with the transaction ID, and after it a list of TLVs (DSA-REQ, DSC-REQ), an
-- SFID (DSD-REQ) or a confirmation code (DSA-ACK, DSC-ACK). No TLV of the list is of a type that is left out, and its type 24s say the
-- flows in order.
abbrev pub Says : List ℕ → Message → Type 0
Says bytes (messages.Request (requests.Dsa tid flows)) = (list : List ℕ) × IsHeaded bytes dsa_req tid list × SaysFlows list flows
Says bytes (messages.Request (requests.Dsc tid flows)) = (list : List ℕ) × IsHeaded bytes dsc_req tid list × SaysFlows list flows
Says bytes (messages.Request (requests.Dsd tid sfid)) = (body : List ℕ) × IsHeaded bytes dsd_req tid body × SaysSfid body sfid
Says bytes (messages.Ack Dsa tid code) = (more : List ℕ) × IsHeaded bytes dsa_ack tid (code ∷ more)
Says bytes (messages.Ack Dsc tid code) = (more : List ℕ) × IsHeaded bytes dsc_ack tid (code ∷ more)
Says bytes (messages.Ack Dsd tid code) = ⊥

-- the type byte of a request that carries flow encodings
abbrev pub HasType : Kind → ℕ → Type 0
HasType Dsa mtype = mtype ≡ dsa_req
HasType Dsc mtype = mtype ≡ dsc_req
HasType Dsd mtype = ⊥

-- how many bytes follow the type byte of a message of ours at least
pub record IsShortBody (mtype : ℕ) (body : List ℕ) : Type 0 where
  pub addition : mtype ≡ dsa_req → length body < 2
  pub addition_ack : mtype ≡ dsa_ack → length body < 3
  pub change : mtype ≡ dsc_req → length body < 2
  pub change_ack : mtype ≡ dsc_ack → length body < 3
  pub deletion : mtype ≡ dsd_req → length body < 8

-- a message type that is none of ours
pub record IsForeign (mtype : ℕ) : Type 0 where
  pub addition : mtype ≢ dsa_req
  pub addition_ack : mtype ≢ dsa_ack
  pub change : mtype ≢ dsc_req
  pub change_ack : mtype ≢ dsc_ack
  pub deletion : mtype ≢ dsd_req

-- a request with flow encodings has this type, transaction ID and list
pub record IsRequest (bytes : List ℕ) (tid : ℕ) (kind : Kind) (list : List ℕ) : Type 0 where
  pub mtype : ℕ
  pub typed : HasType kind mtype
  pub headed : IsHeaded bytes mtype tid list

-- the list is cut at the fault's place, and no identifier is reported
pub record IsCutList (list : List ℕ) (id : Option FlowId) (fault : TlvFault) : Type 0 where
  pub place : ℕ
  pub fault_is : fault ≡ Cut place
  pub cut : IsCutAt list place
  pub id_is : id ≡ None

-- the first invalid flow encoding, after some that say flows, in a list of TLVs of which none is left out
pub record IsFaultyFlow (list : List ℕ) (kind : Kind) (id : Option FlowId) (fault : TlvFault) : Type 0 where
  pub tlvs : List Tlv
  pub spelling : IsTlvList list tlvs
  pub none_left_out : find is_left_out tlvs ≡ None
  pub before : List (List ℕ)
  pub value : List ℕ
  pub after : List (List ℕ)
  pub values : values_of upstream_service_flow tlvs ≡ before ++ value ∷ after
  pub flows : List FlowFields
  pub said : AreSaid before flows
  pub told : FlowFault
  pub first : IsFirstFlowFault value told
  pub fault_is : fault ≡ told.fault
  pub id_is : id ≡ id_of_fault kind told

-- a list of TLVs, the first of a type that is left out being of this one
pub record IsLeftOutIn (list : List ℕ) (found : ℕ) : Type 0 where
  pub tlvs : List Tlv
  pub spelling : IsTlvList list tlvs
  pub t : Tlv
  pub first : find is_left_out tlvs ≡ Some t
  pub found_is : found ≡ t.kind

-- The first fault: no byte, a type that is not ours, a fixed part cut short, a cut list, a type that is left out, or the first invalid flow
-- encoding.
abbrev pub IsFirstMessageFault : List ℕ → MessageFault → Type 0
IsFirstMessageFault bytes faults.Empty = bytes ≡ []
IsFirstMessageFault bytes (faults.NotOurs mtype) = (body : List ℕ) × (bytes ≡ mtype ∷ body) × IsForeign mtype
IsFirstMessageFault bytes faults.Short = (mtype : ℕ) × (body : List ℕ) × (bytes ≡ mtype ∷ body) × IsShortBody mtype body × (IsForeign mtype → ⊥)
IsFirstMessageFault bytes (faults.Tlv tid kind id fault) = (list : List ℕ) × IsRequest bytes tid kind list × (IsCutList list id fault ⊎ IsFaultyFlow list kind id fault)
IsFirstMessageFault bytes (faults.LeftOut tid kind found) = (list : List ℕ) × IsRequest bytes tid kind list × IsLeftOutIn list found
IsFirstMessageFault bytes faults.NoMemory = Unit {0}
