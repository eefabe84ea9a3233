-- What reading answers is what the grammar says.
use Rattle.std.proofs.Common.{◌≡◌, ◌≢◌, ℕ, zero, suc, ◌+◌, ◌-◌, ◌<◌, inl, inr, Bool, true, false, cond, eqb, List, [], ◌∷◌, ◌++◌, length, take, drop, Option, Some, None, Result, Ok, Err, refl, sym, ap, subst, ◌∙◌, append-nil, append_assoc, length-append, arith}
use Rattle.dsx_messages.proofs.Common.{IfOk, IfErr, take_at, drop_at, ◌>>=◌, Gives, Tlv, FlowFields, spelled_one, spelled, IsTlvList, NoTlvBegins, Front, front_of, word, long, values_of, flow_of, IsFlowEncoding, IsFront-end, IsFront-stuck, Kind, Dsa, Dsc, Dsd, Message, MessageFault, upstream_service_flow}
use Rattle.std.specs.Option.{option_map}
use Rattle.std.specs.List.{find, AllByRecursion}
use Rattle.std.proofs.lemmas.Bool.{eqb-true, eqb-false}
use Rattle.tlv24.specs.declared.tlv.TlvFault.TheVariants.{Cut}
use Rattle.tlv24.specs.declared.fault.FlowFault.{FlowFault}
use Rattle.tlv24.specs.Law.{AreBytes}
use Rattle.tlv24.proofs.Law.{IsWholeFront, whole_front, answers_flow, answers_fault, flow_answered}
use Rattle.dsx_messages.specs.declared.message.Request.TheVariants as requests
use Rattle.dsx_messages.specs.declared.message.Message.TheVariants as messages
use Rattle.dsx_messages.specs.declared.fault.MessageFault.TheVariants as faults
use Rattle.dsx_messages.specs.MessageType.{dsa_req, dsa_ack, dsc_req, dsc_ack, dsd_req}
use Rattle.dsx_messages.specs.Reading.{message_cause, is_left_out, left_out_in, flow_told, flow_in, flows_read_after, flows_unless, flows_in_front, flows_in, request_with_flows, flows_request_of, deletion_of, ack_of, message_of}
use Rattle.dsx_messages.specs.Message.{IsHeaded, AreSaid, SaysFlows, SaysSfid, Says, HasType, IsShortBody, IsForeign, IsRequest, IsFirstMessageFault}
use Rattle.dsx_messages.proofs.Passes.{values-flow, values-other}

-- ---- parts of a list of bytes

bytes_front : (a b : List ℕ) → AreBytes (a ++ b) → AreBytes a
bytes_front [] b are place = omega arith
bytes_front (x ∷ a) b are zero = are 0
bytes_front (x ∷ a) b are (suc place) = bytes_front a b (λ k. are (suc k)) place

bytes_back : (a b : List ℕ) → AreBytes (a ++ b) → AreBytes b
bytes_back [] b are place = are place
bytes_back (x ∷ a) b are place = bytes_back a b (λ k. are (suc k)) place

values_by_kind : (t : Tlv) (tlvs : List Tlv) (b : Bool) → eqb t.kind upstream_service_flow ≡ b → AreBytes t.value → AllByRecursion AreBytes (values_of upstream_service_flow tlvs) → AllByRecursion AreBytes (values_of upstream_service_flow (t ∷ tlvs))
values_by_kind t tlvs true e here others = subst (AllByRecursion AreBytes) (sym (values-flow t tlvs e)) (here, others)
values_by_kind t tlvs false e here others = subst (AllByRecursion AreBytes) (sym (values-other t tlvs e)) others

values_are_bytes : (tlvs : List Tlv) (rest : List ℕ) → AreBytes (spelled tlvs ++ rest) → AllByRecursion AreBytes (values_of upstream_service_flow tlvs)
values_are_bytes [] rest are = tt
values_are_bytes (t ∷ tlvs) rest are =
    let whole : AreBytes (spelled_one t ++ (spelled tlvs ++ rest)) = subst AreBytes (append_assoc (spelled_one t) (spelled tlvs) rest) are in
    values_by_kind t tlvs (eqb t.kind upstream_service_flow) refl (bytes_front t.value (spelled tlvs ++ rest) (λ k. whole (suc (suc k)))) (values_are_bytes tlvs rest (bytes_back (spelled_one t) (spelled tlvs ++ rest) whole))

is_nothing : (rest : List ℕ) → length rest ≡ 0 → rest ≡ []
is_nothing [] e = refl
is_nothing (b ∷ rest) e = absurd (omega arith)

-- ---- what the flow encodings say

said-append : (before : List (List ℕ)) (flows : List FlowFields) (value : List ℕ) (flow : FlowFields) → AreSaid before flows → IsFlowEncoding value flow → AreSaid (before ++ value ∷ []) (flows ++ flow ∷ [])
said-append [] [] value flow said here = (here, tt)
said-append [] (m ∷ flows) value flow said here = absurd said
said-append (v ∷ before) [] value flow said here = absurd said
said-append (v ∷ before) (m ∷ flows) value flow said here = (said.0, said-append before flows value flow said.1 here)

-- a fault of the message, and not want of memory
pub record IsRightFault (bytes : List ℕ) (fault : MessageFault) : Type 0 where
  pub first : IsFirstMessageFault bytes fault
  pub of_message : fault ≢ faults.NoMemory

-- an answer about the list of a request
abbrev pub IsRightAboutFlows : List ℕ → List ℕ → Result (List FlowFields) MessageFault → Type 0
IsRightAboutFlows bytes list (Ok flows) = SaysFlows list flows
IsRightAboutFlows bytes list (Err fault) = IsRightFault bytes fault

module _ (bytes : List ℕ) (tid : ℕ) (kind : Kind) (list : List ℕ) (request : IsRequest bytes tid kind list) where
  after_right : (tlvs : List Tlv) → IsTlvList list tlvs → find is_left_out tlvs ≡ None
      → (before values : List (List ℕ)) (flows : List FlowFields) → AllByRecursion AreBytes values → values_of upstream_service_flow tlvs ≡ before ++ values → AreSaid before flows
      → IsRightAboutFlows bytes list (flows_read_after tid kind flows values)
  unfolding flow_in
  after_right tlvs spelling none before [] flows are whole said = record {
    tlvs = tlvs;
    spelling = spelling;
    none_left_out = none;
    said = subst (λ (vs : List (List ℕ)). AreSaid vs flows) (sym (whole ∙ append-nil before)) said;
  }
  after_right tlvs spelling none before (value ∷ values) flows are whole said =
      first tlvs spelling none before value values flows are.0 whole said (flow_of value) refl
      (λ flow here. after_right tlvs spelling none (before ++ value ∷ []) values (flows ++ flow ∷ []) are.1 (whole ∙ sym (append_assoc before (value ∷ []) values)) (said-append before flows value flow said here))
    where
      first : (tlvs : List Tlv) → IsTlvList list tlvs → find is_left_out tlvs ≡ None
          → (before : List (List ℕ)) (value : List ℕ) (values : List (List ℕ)) (flows : List FlowFields) → AreBytes value → values_of upstream_service_flow tlvs ≡ before ++ value ∷ values → AreSaid before flows
          → (r : Result FlowFields FlowFault) → flow_of value ≡ r → ((flow : FlowFields) → IsFlowEncoding value flow → IsRightAboutFlows bytes list (flows_read_after tid kind (flows ++ flow ∷ []) values))
          → IsRightAboutFlows bytes list (flow_told tid kind r >>= λ flow. flows_read_after tid kind (flows ++ flow ∷ []) values)
      first tlvs spelling none before value values flows are whole said (Ok flow) e again = again flow (answers_flow value flow are e)
      first tlvs spelling none before value values flows are whole said (Err told) e again = record {
        first = (
          list,
          request,
          inr (record {
            tlvs = tlvs;
            spelling = spelling;
            none_left_out = none;
            before = before;
            value = value;
            after = values;
            values = whole;
            flows = flows;
            said = said;
            told = told;
            first = answers_fault value told are e;
            fault_is = refl;
            id_is = refl;
          }),
        );
        of_message = λ same. absurd cc;
      }

  unless_right : (tlvs : List Tlv) → IsTlvList list tlvs → AllByRecursion AreBytes (values_of upstream_service_flow tlvs) → (o : Option Tlv) → find is_left_out tlvs ≡ o
      → IsRightAboutFlows bytes list (flows_unless tid kind (option_map (λ t. t.kind) o) (values_of upstream_service_flow tlvs))
  unless_right tlvs spelling are None none = after_right tlvs spelling none [] (values_of upstream_service_flow tlvs) [] are refl tt
  unless_right tlvs spelling are (Some t) found = record {
    first = (list, request, record { tlvs = tlvs; spelling = spelling; t = t; first = found; found_is = refl });
    of_message = λ same. absurd cc;
  }

  front_right : (front : Front) (b : Bool) → eqb (length front.rest) 0 ≡ b → IsWholeFront list front → AreBytes list
      → IsRightAboutFlows bytes list (cond b (flows_unless tid kind (left_out_in front.tlvs) (values_of upstream_service_flow front.tlvs)) (Err (faults.Tlv tid kind None (Cut (length list - length front.rest)))))
  front_right front true none whole are =
      let empty = is_nothing front.rest (eqb-true (length front.rest) 0 none) in
      unless_right front.tlvs
      (record { short = whole.front.short; spelling = whole.front.spelling ∙ ap (λ (x : List ℕ). spelled front.tlvs ++ x) empty ∙ append-nil (spelled front.tlvs) })
      (values_are_bytes front.tlvs front.rest (subst AreBytes whole.front.spelling are))
      (find is_left_out front.tlvs) refl
  front_right front false some whole are =
      let rest_is : length front.rest ≢ 0 = eqb-false (length front.rest) 0 some in
      let len : length list ≡ length (spelled front.tlvs) + length front.rest = ap length whole.front.spelling ∙ length-append (spelled front.tlvs) front.rest in
      let place : length (spelled front.tlvs) ≡ length list - length front.rest = omega arith in
      record {
        first = (
          list,
          request,
          inl (record {
            place = length list - length front.rest;
            fault_is = refl;
            cut = record {
              inside = omega arith;
              before = front.tlvs;
              front = record {
                short = whole.front.short;
                spelling = ap (take (length list - length front.rest)) whole.front.spelling ∙ take_at (spelled front.tlvs) front.rest (length list - length front.rest) place;
              };
              stuck = subst NoTlvBegins (sym (ap (drop (length list - length front.rest)) whole.front.spelling ∙ drop_at (spelled front.tlvs) front.rest (length list - length front.rest) place)) whole.stuck;
            };
            id_is = refl;
          }),
        );
        of_message = λ same. absurd cc;
      }

  flows_right : AreBytes list → IsRightAboutFlows bytes list (flows_in tid kind list)
  unfolding flows_in
  flows_right are = front_right (front_of list) (eqb (length (front_of list).rest) 0) refl (whole_front list are) are

-- what is said is read

after_said : (tid : ℕ) (kind : Kind) (before : List FlowFields) (values : List (List ℕ)) (flows : List FlowFields) → AllByRecursion AreBytes values → AreSaid values flows
    → flows_read_after tid kind before values ≡ Ok (before ++ flows)
unfolding flow_in
after_said tid kind before [] [] are said = ap Ok (sym (append-nil before))
after_said tid kind before [] (flow ∷ flows) are said = absurd said
after_said tid kind before (value ∷ values) [] are said = absurd said
after_said tid kind before (value ∷ values) (flow ∷ flows) are said =
    ap (λ (r : Result FlowFields FlowFault). flow_told tid kind r >>= λ m. flows_read_after tid kind (before ++ m ∷ []) values) (flow_answered value flow are.0 said.0)
    ∙ after_said tid kind (before ++ flow ∷ []) values flows are.1 said.1 ∙ ap Ok (append_assoc before (flow ∷ []) flows)

front_said : (tid : ℕ) (kind : Kind) (list : List ℕ) (front : Front) (flows : List FlowFields) → front.rest ≡ [] → find is_left_out front.tlvs ≡ None → AllByRecursion AreBytes (values_of upstream_service_flow front.tlvs) → AreSaid (values_of upstream_service_flow front.tlvs) flows
    → flows_in_front tid kind list front ≡ Ok flows
front_said tid kind list front flows empty none are said =
    ap (λ (x : List ℕ). flows_in_front tid kind list (record { tlvs = front.tlvs; rest = x })) empty
    ∙ ap (λ (o : Option Tlv). flows_unless tid kind (option_map (λ t. t.kind) o) (values_of upstream_service_flow front.tlvs)) none
    ∙ after_said tid kind [] (values_of upstream_service_flow front.tlvs) flows are said

flows_said : (tid : ℕ) (kind : Kind) (list : List ℕ) (flows : List FlowFields) → AreBytes list → SaysFlows list flows → flows_in tid kind list ≡ Ok flows
unfolding flows_in
flows_said tid kind list flows are says =
    let whole = whole_front list are in
    let empty : (front_of list).rest ≡ [] = emptied (front_of list).rest (λ some. IsFront-stuck list (front_of list).tlvs (front_of list).rest says.tlvs whole.front some whole.stuck says.spelling) in
    let same : (front_of list).tlvs ≡ says.tlvs = IsFront-end list (front_of list).tlvs (front_of list).rest says.tlvs whole.front (ap length empty) says.spelling in
    front_said tid kind list (front_of list) flows empty
    (subst (λ (ts : List Tlv). find is_left_out ts ≡ None) (sym same) says.none_left_out)
    (values_are_bytes (front_of list).tlvs (front_of list).rest (subst AreBytes whole.front.spelling are))
    (subst (λ (ts : List Tlv). AreSaid (values_of upstream_service_flow ts) flows) (sym same) says.said)
  where
    emptied : (rest : List ℕ) → (0 < length rest → ⊥) → rest ≡ []
    emptied [] none = refl
    emptied (b ∷ rest) none = absurd (none (omega arith))

-- ---- messages

-- an answer about a message
abbrev pub IsRightMessage : List ℕ → Result Message MessageFault → Type 0
IsRightMessage bytes (Ok m) = Says bytes m
IsRightMessage bytes (Err fault) = IsRightFault bytes fault

head_is : (mtype high low : ℕ) (body : List ℕ) → IsHeaded (mtype ∷ high ∷ low ∷ body) mtype (word (high ∷ low ∷ [])) body
head_is mtype high low body = record { high = high; low = low; spelling = refl; tid_is = refl }

short_right : (mtype : ℕ) (body : List ℕ) → IsShortBody mtype body → (IsForeign mtype → ⊥) → IsRightFault (mtype ∷ body) faults.Short
short_right mtype body short ours = record { first = (mtype, body, refl, short, ours); of_message = λ same. absurd cc }

addition_short : (body : List ℕ) → length body < 2 → IsRightFault (dsa_req ∷ body) faults.Short
addition_short body few = short_right dsa_req body (record { addition = λ e. few; addition_ack = λ e. absurd (omega arith); change = λ e. absurd (omega arith); change_ack = λ e. absurd (omega arith); deletion = λ e. absurd (omega arith) }) (λ f. f.addition refl)

change_short : (body : List ℕ) → length body < 2 → IsRightFault (dsc_req ∷ body) faults.Short
change_short body few = short_right dsc_req body (record { addition = λ e. absurd (omega arith); addition_ack = λ e. absurd (omega arith); change = λ e. few; change_ack = λ e. absurd (omega arith); deletion = λ e. absurd (omega arith) }) (λ f. f.change refl)

addition_ack_short : (body : List ℕ) → length body < 3 → IsRightFault (dsa_ack ∷ body) faults.Short
addition_ack_short body few = short_right dsa_ack body (record { addition = λ e. absurd (omega arith); addition_ack = λ e. few; change = λ e. absurd (omega arith); change_ack = λ e. absurd (omega arith); deletion = λ e. absurd (omega arith) }) (λ f. f.addition_ack refl)

change_ack_short : (body : List ℕ) → length body < 3 → IsRightFault (dsc_ack ∷ body) faults.Short
change_ack_short body few = short_right dsc_ack body (record { addition = λ e. absurd (omega arith); addition_ack = λ e. absurd (omega arith); change = λ e. absurd (omega arith); change_ack = λ e. few; deletion = λ e. absurd (omega arith) }) (λ f. f.change_ack refl)

deletion_short : (body : List ℕ) → length body < 8 → IsRightFault (dsd_req ∷ body) faults.Short
deletion_short body few = short_right dsd_req body (record { addition = λ e. absurd (omega arith); addition_ack = λ e. absurd (omega arith); change = λ e. absurd (omega arith); change_ack = λ e. absurd (omega arith); deletion = λ e. few }) (λ f. f.deletion refl)

flows_short : (kind : Kind) (mtype : ℕ) (body : List ℕ) → HasType kind mtype → length body < 2 → IsRightFault (mtype ∷ body) faults.Short
flows_short Dsa mtype body typed few = subst (λ (n : ℕ). IsRightFault (n ∷ body) faults.Short) (sym typed) (addition_short body few)
flows_short Dsc mtype body typed few = subst (λ (n : ℕ). IsRightFault (n ∷ body) faults.Short) (sym typed) (change_short body few)
flows_short Dsd mtype body typed few = absurd typed

request_right : (kind : Kind) (mtype : ℕ) (body : List ℕ) → HasType kind mtype → AreBytes (mtype ∷ body) → IsRightMessage (mtype ∷ body) (flows_request_of kind body)
request_right kind mtype [] typed are = flows_short kind mtype [] typed (omega arith)
request_right kind mtype (high ∷ []) typed are = flows_short kind mtype (high ∷ []) typed (omega arith)
request_right kind mtype (high ∷ low ∷ list) typed are =
    told kind mtype high low list typed (flows_in (word (high ∷ low ∷ [])) kind list)
    (flows_right (mtype ∷ high ∷ low ∷ list) (word (high ∷ low ∷ [])) kind list (record { mtype = mtype; typed = typed; headed = head_is mtype high low list }) (bytes_back (mtype ∷ high ∷ low ∷ []) list are))
  where
    headed : (n mtype high low : ℕ) (list : List ℕ) → mtype ≡ n → IsHeaded (mtype ∷ high ∷ low ∷ list) n (word (high ∷ low ∷ [])) list
    headed n mtype high low list same = subst (λ (k : ℕ). IsHeaded (mtype ∷ high ∷ low ∷ list) k (word (high ∷ low ∷ [])) list) same (head_is mtype high low list)

    told : (kind : Kind) (mtype high low : ℕ) (list : List ℕ) → HasType kind mtype → (r : Result (List FlowFields) MessageFault) → IsRightAboutFlows (mtype ∷ high ∷ low ∷ list) list r
        → IsRightMessage (mtype ∷ high ∷ low ∷ list) (r >>= λ flows. Ok (messages.Request (request_with_flows kind (word (high ∷ low ∷ [])) flows)))
    told kind mtype high low list typed (Err fault) right = right
    told Dsa mtype high low list typed (Ok flows) right = (list, headed dsa_req mtype high low list typed, right)
    told Dsc mtype high low list typed (Ok flows) right = (list, headed dsc_req mtype high low list typed, right)
    told Dsd mtype high low list typed (Ok flows) right = absurd typed

addition_ack_right : (body : List ℕ) → IsRightMessage (dsa_ack ∷ body) (ack_of Dsa body)
addition_ack_right [] = addition_ack_short [] (omega arith)
addition_ack_right (high ∷ []) = addition_ack_short (high ∷ []) (omega arith)
addition_ack_right (high ∷ low ∷ []) = addition_ack_short (high ∷ low ∷ []) (omega arith)
addition_ack_right (high ∷ low ∷ code ∷ more) = (more, head_is dsa_ack high low (code ∷ more))

change_ack_right : (body : List ℕ) → IsRightMessage (dsc_ack ∷ body) (ack_of Dsc body)
change_ack_right [] = change_ack_short [] (omega arith)
change_ack_right (high ∷ []) = change_ack_short (high ∷ []) (omega arith)
change_ack_right (high ∷ low ∷ []) = change_ack_short (high ∷ low ∷ []) (omega arith)
change_ack_right (high ∷ low ∷ code ∷ more) = (more, head_is dsc_ack high low (code ∷ more))

deletion_right : (body : List ℕ) → IsRightMessage (dsd_req ∷ body) (deletion_of body)
deletion_right [] = deletion_short [] (omega arith)
deletion_right (high ∷ []) = deletion_short (high ∷ []) (omega arith)
deletion_right (high ∷ low ∷ []) = deletion_short (high ∷ low ∷ []) (omega arith)
deletion_right (high ∷ low ∷ x ∷ []) = deletion_short (high ∷ low ∷ x ∷ []) (omega arith)
deletion_right (high ∷ low ∷ x ∷ y ∷ []) = deletion_short (high ∷ low ∷ x ∷ y ∷ []) (omega arith)
deletion_right (high ∷ low ∷ x ∷ y ∷ a ∷ []) = deletion_short (high ∷ low ∷ x ∷ y ∷ a ∷ []) (omega arith)
deletion_right (high ∷ low ∷ x ∷ y ∷ a ∷ b ∷ []) = deletion_short (high ∷ low ∷ x ∷ y ∷ a ∷ b ∷ []) (omega arith)
deletion_right (high ∷ low ∷ x ∷ y ∷ a ∷ b ∷ c ∷ []) = deletion_short (high ∷ low ∷ x ∷ y ∷ a ∷ b ∷ c ∷ []) (omega arith)
deletion_right (high ∷ low ∷ x ∷ y ∷ a ∷ b ∷ c ∷ d ∷ more) = (
  x ∷ y ∷ a ∷ b ∷ c ∷ d ∷ more,
  head_is dsd_req high low (x ∷ y ∷ a ∷ b ∷ c ∷ d ∷ more),
  record { reserved = x ∷ y ∷ []; two = omega arith; field = a ∷ b ∷ c ∷ d ∷ []; four = omega arith; more = more; spelling = refl; sfid_is = refl },
)

typed_right : (mtype : ℕ) (body : List ℕ) (p q r s t : Bool) → eqb mtype dsa_req ≡ p → eqb mtype dsa_ack ≡ q → eqb mtype dsc_req ≡ r → eqb mtype dsc_ack ≡ s → eqb mtype dsd_req ≡ t → AreBytes (mtype ∷ body)
    → IsRightMessage (mtype ∷ body) (cond p (flows_request_of Dsa body) (cond q (ack_of Dsa body) (cond r (flows_request_of Dsc body) (cond s (ack_of Dsc body) (cond t (deletion_of body) (Err (faults.NotOurs mtype)))))))
typed_right mtype body true q r s t is_addition is_addition_ack is_change is_change_ack is_deletion are = request_right Dsa mtype body (eqb-true mtype dsa_req is_addition) are
typed_right mtype body false true r s t is_addition is_addition_ack is_change is_change_ack is_deletion are = subst (λ (n : ℕ). IsRightMessage (n ∷ body) (ack_of Dsa body)) (sym (eqb-true mtype dsa_ack is_addition_ack)) (addition_ack_right body)
typed_right mtype body false false true s t is_addition is_addition_ack is_change is_change_ack is_deletion are = request_right Dsc mtype body (eqb-true mtype dsc_req is_change) are
typed_right mtype body false false false true t is_addition is_addition_ack is_change is_change_ack is_deletion are = subst (λ (n : ℕ). IsRightMessage (n ∷ body) (ack_of Dsc body)) (sym (eqb-true mtype dsc_ack is_change_ack)) (change_ack_right body)
typed_right mtype body false false false false true is_addition is_addition_ack is_change is_change_ack is_deletion are = subst (λ (n : ℕ). IsRightMessage (n ∷ body) (deletion_of body)) (sym (eqb-true mtype dsd_req is_deletion)) (deletion_right body)
typed_right mtype body false false false false false is_addition is_addition_ack is_change is_change_ack is_deletion are = record {
  first = (
    body,
    refl,
    record {
      addition = eqb-false mtype dsa_req is_addition;
      addition_ack = eqb-false mtype dsa_ack is_addition_ack;
      change = eqb-false mtype dsc_req is_change;
      change_ack = eqb-false mtype dsc_ack is_change_ack;
      deletion = eqb-false mtype dsd_req is_deletion;
    },
  );
  of_message = λ same. absurd cc;
}

pub right_message : (bytes : List ℕ) → AreBytes bytes → IsRightMessage bytes (message_of bytes)
unfolding message_of
right_message [] are = record { first = refl; of_message = λ same. absurd cc }
right_message (mtype ∷ body) are = typed_right mtype body (eqb mtype dsa_req) (eqb mtype dsa_ack) (eqb mtype dsc_req) (eqb mtype dsc_ack) (eqb mtype dsd_req) refl refl refl refl refl are

pub message_says : (bytes : List ℕ) (m : Message) → AreBytes bytes → message_of bytes ≡ Ok m → Says bytes m
message_says bytes m are e = subst (IsRightMessage bytes) e (right_message bytes are)

message_told : (bytes : List ℕ) (fault : MessageFault) → AreBytes bytes → message_of bytes ≡ Err fault → IsRightFault bytes fault
message_told bytes fault are e = subst (IsRightMessage bytes) e (right_message bytes are)

pub message_fault : (bytes : List ℕ) (fault : MessageFault) → AreBytes bytes → message_of bytes ≡ Err fault → IsFirstMessageFault bytes fault
message_fault bytes fault are e = (message_told bytes fault are e).first

pub message_memory : (bytes : List ℕ) → AreBytes bytes → message_of bytes ≢ Err faults.NoMemory
message_memory bytes are e = (message_told bytes faults.NoMemory are e).of_message refl

-- what is said is read

request_said : (kind : Kind) (high low tid : ℕ) (list : List ℕ) (flows : List FlowFields) → AreBytes list → tid ≡ word (high ∷ low ∷ []) → SaysFlows list flows
    → flows_request_of kind (high ∷ low ∷ list) ≡ Ok (messages.Request (request_with_flows kind tid flows))
request_said kind high low tid list flows are tid_is says =
    ap (λ (r : Result (List FlowFields) MessageFault). r >>= λ m. Ok (messages.Request (request_with_flows kind (word (high ∷ low ∷ [])) m)))
    (flows_said (word (high ∷ low ∷ [])) kind list flows are says)
    ∙ ap (λ (n : ℕ). Ok (messages.Request (request_with_flows kind n flows))) (sym tid_is)

addition_said : (bytes : List ℕ) (tid : ℕ) (flows : List FlowFields) (list : List ℕ) → AreBytes bytes → IsHeaded bytes dsa_req tid list → SaysFlows list flows → message_of bytes ≡ Ok (messages.Request (requests.Dsa tid flows))
unfolding message_of
addition_said bytes tid flows list are headed says =
    let within : AreBytes (dsa_req ∷ headed.high ∷ headed.low ∷ list) = subst AreBytes headed.spelling are in
    ap message_of headed.spelling
    ∙ request_said Dsa headed.high headed.low tid list flows (bytes_back (dsa_req ∷ headed.high ∷ headed.low ∷ []) list within) headed.tid_is says

change_said : (bytes : List ℕ) (tid : ℕ) (flows : List FlowFields) (list : List ℕ) → AreBytes bytes → IsHeaded bytes dsc_req tid list → SaysFlows list flows → message_of bytes ≡ Ok (messages.Request (requests.Dsc tid flows))
unfolding message_of
change_said bytes tid flows list are headed says =
    let within : AreBytes (dsc_req ∷ headed.high ∷ headed.low ∷ list) = subst AreBytes headed.spelling are in
    ap message_of headed.spelling
    ∙ request_said Dsc headed.high headed.low tid list flows (bytes_back (dsc_req ∷ headed.high ∷ headed.low ∷ []) list within) headed.tid_is says

four_said : (high low x y : ℕ) (field more : List ℕ) → length field ≡ 4 → deletion_of (high ∷ low ∷ x ∷ y ∷ (field ++ more)) ≡ Ok (messages.Request (requests.Dsd (word (high ∷ low ∷ [])) (long field)))
four_said high low x y [] more four = absurd (omega arith)
four_said high low x y (a ∷ []) more four = absurd (omega arith)
four_said high low x y (a ∷ b ∷ []) more four = absurd (omega arith)
four_said high low x y (a ∷ b ∷ c ∷ []) more four = absurd (omega arith)
four_said high low x y (a ∷ b ∷ c ∷ d ∷ []) more four = refl
four_said high low x y (a ∷ b ∷ c ∷ d ∷ e ∷ field) more four = absurd (omega arith)

two_said : (high low : ℕ) (reserved field more : List ℕ) → length reserved ≡ 2 → length field ≡ 4 → deletion_of (high ∷ low ∷ (reserved ++ (field ++ more))) ≡ Ok (messages.Request (requests.Dsd (word (high ∷ low ∷ [])) (long field)))
two_said high low [] field more two four = absurd (omega arith)
two_said high low (x ∷ []) field more two four = absurd (omega arith)
two_said high low (x ∷ y ∷ []) field more two four = four_said high low x y field more four
two_said high low (x ∷ y ∷ z ∷ reserved) field more two four = absurd (omega arith)

deletion_said : (bytes : List ℕ) (tid sfid : ℕ) (body : List ℕ) → IsHeaded bytes dsd_req tid body → SaysSfid body sfid → message_of bytes ≡ Ok (messages.Request (requests.Dsd tid sfid))
unfolding message_of
deletion_said bytes tid sfid body headed says =
    ap message_of headed.spelling
    ∙ ap (λ (b : List ℕ). deletion_of (headed.high ∷ headed.low ∷ b)) says.spelling
    ∙ two_said headed.high headed.low says.reserved says.field says.more says.two says.four
    ∙ ap (λ (n : ℕ). Ok (messages.Request (requests.Dsd n (long says.field)))) (sym headed.tid_is)
    ∙ ap (λ (n : ℕ). Ok (messages.Request (requests.Dsd tid n))) (sym says.sfid_is)

addition_ack_said : (bytes : List ℕ) (tid code : ℕ) (more : List ℕ) → IsHeaded bytes dsa_ack tid (code ∷ more) → message_of bytes ≡ Ok (messages.Ack Dsa tid code)
unfolding message_of
addition_ack_said bytes tid code more headed = ap message_of headed.spelling ∙ ap (λ (n : ℕ). Ok (messages.Ack Dsa n code)) (sym headed.tid_is)

change_ack_said : (bytes : List ℕ) (tid code : ℕ) (more : List ℕ) → IsHeaded bytes dsc_ack tid (code ∷ more) → message_of bytes ≡ Ok (messages.Ack Dsc tid code)
unfolding message_of
change_ack_said bytes tid code more headed = ap message_of headed.spelling ∙ ap (λ (n : ℕ). Ok (messages.Ack Dsc n code)) (sym headed.tid_is)

pub says_message : (bytes : List ℕ) (m : Message) → AreBytes bytes → Says bytes m → message_of bytes ≡ Ok m
says_message bytes (messages.Request (requests.Dsa tid flows)) are says = addition_said bytes tid flows says.0 are says.1 says.2
says_message bytes (messages.Request (requests.Dsc tid flows)) are says = change_said bytes tid flows says.0 are says.1 says.2
says_message bytes (messages.Request (requests.Dsd tid sfid)) are says = deletion_said bytes tid sfid says.0 says.1 says.2
says_message bytes (messages.Ack Dsa tid code) are says = addition_ack_said bytes tid code says.0 says.1
says_message bytes (messages.Ack Dsc tid code) are says = change_ack_said bytes tid code says.0 says.1
says_message bytes (messages.Ack Dsd tid code) are says = absurd says

-- ---- what a function returned

pub given_found : (bytes : List ℕ) (r : Result Message MessageFault) → AreBytes bytes → Gives message_cause (λ message. message) r (message_of bytes) → IfOk r (Says bytes)
given_found bytes (Ok m) are gives = message_says bytes m are gives
given_found bytes (Err fault) are gives = tt

pub given_only : (bytes : List ℕ) (r : Result Message MessageFault) (m : Message) → AreBytes bytes → Gives message_cause (λ message. message) r (message_of bytes) → Says bytes m → Gives message_cause (λ message. message) r (Ok m)
given_only bytes r m are gives says = subst (Gives message_cause (λ message. message) r) (says_message bytes m are says) gives

pub given_fault : (bytes : List ℕ) (r : Result Message MessageFault) → AreBytes bytes → Gives message_cause (λ message. message) r (message_of bytes) → IfErr r (IsFirstMessageFault bytes)
given_fault bytes (Ok m) are gives = tt
given_fault bytes (Err faults.Empty) are gives = message_fault bytes faults.Empty are gives
given_fault bytes (Err (faults.NotOurs mtype)) are gives = message_fault bytes (faults.NotOurs mtype) are gives
given_fault bytes (Err faults.Short) are gives = message_fault bytes faults.Short are gives
given_fault bytes (Err (faults.Tlv tid kind id fault)) are gives = message_fault bytes (faults.Tlv tid kind id fault) are gives
given_fault bytes (Err (faults.LeftOut tid kind found)) are gives = message_fault bytes (faults.LeftOut tid kind found) are gives
given_fault bytes (Err faults.NoMemory) are gives = tt
