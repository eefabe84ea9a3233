-- Messages read from left to right, as functions on their bytes.
use Rattle.std.specs.Prelude.{◌≡◌, ◌≢◌, ◌==◌, ℕ, ◌-◌, Bool, ◌||◌, ◌⊎◌, List, [], ◌∷◌, ◌++◌, length, Option, Some, None, Result, Ok, Err, if◌then◌else◌}
use Rattle.std.specs.Option.{option_map}
use Rattle.std.specs.List.{find}
use Rattle.lists.specs.Results.{◌>>=◌}
use Rattle.tlv24.specs.declared.tlv.Tlv.{Tlv}
use Rattle.tlv24.specs.declared.tlv.TlvFault.TheVariants.{Cut}
use Rattle.tlv24.specs.declared.fields.FlowFields.{FlowFields}
use Rattle.tlv24.specs.declared.fault.FlowFault.{FlowFault}
use Rattle.tlv24.specs.Tlv.{Front, front_of}
use Rattle.tlv24.specs.Flow.{word, long, values_of, flow_of}
use Rattle.dsx_messages.specs.MessageType.{dsa_req, dsa_ack, dsc_req, dsc_ack, dsd_req}
use Rattle.dsx_messages.specs.TlvType.{upstream_classifier, downstream_classifier, upstream_service_flow, downstream_service_flow, payload_header_suppression}
use Rattle.dsx_messages.specs.declared.kind.Kind.{Kind}
use Rattle.dsx_messages.specs.declared.kind.Kind.TheVariants.{Dsa, Dsc, Dsd}
use Rattle.dsx_messages.specs.declared.reply.FlowId.{FlowId}
use Rattle.dsx_messages.specs.declared.reply.FlowId.TheVariants.{Reference, Sfid}
use Rattle.dsx_messages.specs.declared.message.Request.{Request}
use Rattle.dsx_messages.specs.declared.message.Request.TheVariants as requests
use Rattle.dsx_messages.specs.declared.message.Message.{Message}
use Rattle.dsx_messages.specs.declared.message.Message.TheVariants as messages
use Rattle.dsx_messages.specs.declared.fault.MessageFault.{MessageFault}
use Rattle.dsx_messages.specs.declared.fault.MessageFault.TheVariants as faults

-- the fault of reading that a fault stands for: none where memory ran out
abbrev pub message_cause : MessageFault → Option MessageFault
message_cause faults.NoMemory = None
message_cause fault = Some fault

-- classifiers, downstream flows and payload header suppression are left out of this product
abbrev pub is_left_out : Tlv → Bool
is_left_out t =
    (t.kind == upstream_classifier) || (t.kind == downstream_classifier) || (t.kind == downstream_service_flow) ||
    (t.kind == payload_header_suppression)

-- the identifier of an encoding: a reference in an addition, an SFID in a change
abbrev pub id_of_fault : Kind → FlowFault → Option FlowId
id_of_fault Dsa fault = option_map Reference fault.reference
id_of_fault Dsc fault = option_map Sfid fault.sfid
id_of_fault Dsd fault = None

-- what the value of one type 24 says
abbrev pub flow_told : ℕ → Kind → Result FlowFields FlowFault → Result FlowFields MessageFault
flow_told tid kind (Ok flow) = Ok flow
flow_told tid kind (Err e) = Err (faults.Tlv tid kind (id_of_fault kind e) e.fault)

-- what the value of one type 24 says, in a request of this kind and transaction ID
unfoldable pub flow_in : ℕ → Kind → List ℕ → Result FlowFields MessageFault
flow_in tid kind value = flow_told tid kind (flow_of value)

-- what the values of the type 24s say, in order, after the flows before them
abbrev pub flows_read_after : ℕ → Kind → List FlowFields → List (List ℕ) → Result (List FlowFields) MessageFault
flows_read_after tid kind flows [] = Ok flows
flows_read_after tid kind flows (value ∷ values) = flow_in tid kind value >>= λ flow. flows_read_after tid kind (flows ++ flow ∷ []) values

-- what the TLVs of a request say: first a cut, then a type that is left out, then the first invalid flow encoding
abbrev pub flows_unless : ℕ → Kind → Option ℕ → List (List ℕ) → Result (List FlowFields) MessageFault
flows_unless tid kind None values = flows_read_after tid kind [] values
flows_unless tid kind (Some found) values = Err (faults.LeftOut tid kind found)

-- the first type of these TLVs that is left out, if there is one
abbrev pub left_out_in : List Tlv → Option ℕ
left_out_in tlvs = option_map (λ t. t.kind) (find is_left_out tlvs)

-- what the TLVs at the front of a list say; where a rest is left, the list is cut there
abbrev pub flows_in_front : ℕ → Kind → List ℕ → Front → Result (List FlowFields) MessageFault
flows_in_front tid kind list front =
    if length front.rest == 0 then flows_unless tid kind (left_out_in front.tlvs) (values_of upstream_service_flow front.tlvs)
    else Err (faults.Tlv tid kind None (Cut (length list - length front.rest)))

-- the flow encodings of a list of TLVs in order, or the list's first fault
unfoldable pub flows_in : ℕ → Kind → List ℕ → Result (List FlowFields) MessageFault
flows_in tid kind list = flows_in_front tid kind list (front_of list)

-- the fixed parts after the type byte, and what follows them

-- the request that holds flow encodings: an addition, or else a change (a deletion holds none)
abbrev pub request_with_flows : Kind → ℕ → List FlowFields → Request
request_with_flows Dsa tid flows = requests.Dsa tid flows
request_with_flows kind tid flows = requests.Dsc tid flows

-- a DSA-REQ or DSC-REQ after its type byte: a transaction ID and a list of TLVs (6.4.12, 6.4.15)
abbrev pub flows_request_of : Kind → List ℕ → Result Message MessageFault
flows_request_of kind (high ∷ low ∷ list) =
    flows_in (word (high ∷ low ∷ [])) kind list >>= λ flows. Ok (messages.Request (request_with_flows kind (word (high ∷ low ∷ [])) flows))
flows_request_of kind body = Err faults.Short

-- a DSD-REQ after its type byte: a transaction ID, two reserved bytes and an SFID; what follows is not read (6.4.18)
abbrev pub deletion_of : List ℕ → Result Message MessageFault
deletion_of (high ∷ low ∷ reserved ∷ reserved' ∷ a ∷ b ∷ c ∷ d ∷ more) = Ok (messages.Request (requests.Dsd (word (high ∷ low ∷ [])) (long (a ∷ b ∷ c ∷ d ∷ []))))
deletion_of body = Err faults.Short

-- a DSA-ACK or DSC-ACK after its type byte: a transaction ID and a confirmation code; what follows is not read (6.4.14, 6.4.17)
abbrev pub ack_of : Kind → List ℕ → Result Message MessageFault
ack_of kind (high ∷ low ∷ code ∷ more) = Ok (messages.Ack kind (word (high ∷ low ∷ [])) code)
ack_of kind body = Err faults.Short

-- what the bytes of a message say, or their first fault, by the type byte: the result of reading as a function
unfoldable pub message_of : List ℕ → Result Message MessageFault
message_of [] = Err faults.Empty
message_of (mtype ∷ body) =
    if mtype == dsa_req then flows_request_of Dsa body else
    if mtype == dsa_ack then ack_of Dsa body else
    if mtype == dsc_req then flows_request_of Dsc body else
    if mtype == dsc_ack then ack_of Dsc body else
    if mtype == dsd_req then deletion_of body else
    Err (faults.NotOurs mtype)

-- a whole list of TLVs of which none is left out and some are flow encodings (type 24)
pub record HoldsFlows (list : List ℕ) : Type 0 where
  pub whole : length (front_of list).rest ≡ 0
  pub none_left_out : left_out_in (front_of list).tlvs ≡ None
  pub some : values_of upstream_service_flow (front_of list).tlvs ≢ []

-- such a list behind a transaction ID
abbrev pub HoldsFlowsBehindTid : List ℕ → Type 0
HoldsFlowsBehindTid (high ∷ low ∷ list) = HoldsFlows list
HoldsFlowsBehindTid body = ⊥

-- a DSA-REQ or DSC-REQ with such a list: all that reading takes memory for
abbrev pub BringsFlows : List ℕ → Type 0
BringsFlows (mtype ∷ body) = ((mtype ≡ dsa_req) ⊎ (mtype ≡ dsc_req)) × HoldsFlowsBehindTid body
BringsFlows [] = ⊥
