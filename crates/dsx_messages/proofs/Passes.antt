-- The two passes over the TLVs of a request.
use Rattle.std.proofs.Common.{◌≡◌, ◌≢◌, ℕ, ◌+◌, ◌-◌, ◌<◌, ◌≤◌, Bool, true, false, cond, eqb, List, [], ◌∷◌, ◌++◌, length, Option, Some, None, Result, Ok, Err, refl, sym, ap, ◌∙◌, arith}
use Rattle.dsx_messages.proofs.Common.{◌>>=◌, Fails, Tlv, FlowFields, tlv, Front, first_tlv, front_of, values_of, front_of-some, front_of-none, shrinks, upstream_service_flow, Kind, MessageFault, message_cause, is_left_out, left_out_in, flow_in, flows_read_after}
use Rattle.dsx_messages.specs.declared.fault.MessageFault.TheVariants as faults
use Rattle.dsx_messages.specs.Survey.{first_some, left_out_kind, flow_count, IsSurveyed, IsCutSurvey, IsSurveyedUpTo}

-- ---- values of flow encodings

values_by : (t : Tlv) (tlvs : List Tlv) (b : Bool) → eqb t.kind upstream_service_flow ≡ b → values_of upstream_service_flow (t ∷ tlvs) ≡ cond b (t.value ∷ values_of upstream_service_flow tlvs) (values_of upstream_service_flow tlvs)
values_by t tlvs true e = rw e refl
values_by t tlvs false e = rw e refl

pub values-flow : (t : Tlv) (tlvs : List Tlv) → eqb t.kind upstream_service_flow ≡ true → values_of upstream_service_flow (t ∷ tlvs) ≡ t.value ∷ values_of upstream_service_flow tlvs
values-flow t tlvs e = values_by t tlvs true e

pub values-other : (t : Tlv) (tlvs : List Tlv) → eqb t.kind upstream_service_flow ≡ false → values_of upstream_service_flow (t ∷ tlvs) ≡ values_of upstream_service_flow tlvs
values-other t tlvs e = values_by t tlvs false e

-- ---- the survey

count_by_kind : (t : Tlv) (tlvs : List Tlv) (b : Bool) → eqb t.kind upstream_service_flow ≡ b → length (values_of upstream_service_flow (t ∷ tlvs)) ≡ flow_count t.kind + length (values_of upstream_service_flow tlvs)
count_by_kind t tlvs true e = ap length (values_by t tlvs true e) ∙ rw e (omega arith)
count_by_kind t tlvs false e = ap length (values_by t tlvs false e) ∙ rw e (omega arith)

left_out_by : (t : Tlv) (tlvs : List Tlv) (b : Bool) → is_left_out t ≡ b → left_out_in (t ∷ tlvs) ≡ first_some (left_out_kind t.kind) (left_out_in tlvs)
left_out_by t tlvs true e = rw e refl
left_out_by t tlvs false e = rw e refl

first_some-assoc : (a b c : Option ℕ) → first_some a (first_some b c) ≡ first_some (first_some a b) c
first_some-assoc None b c = refl
first_some-assoc (Some n) b c = refl

pub survey_more : (list rest : List ℕ) (left_out : Option ℕ) (flows kind : ℕ) (value after : List ℕ) → IsSurveyedUpTo list rest left_out flows → Some (record { tlv = tlv kind value; rest = after }) ≡ first_tlv rest
    → IsSurveyedUpTo list after (first_some left_out (left_out_kind kind)) (flows + flow_count kind)
survey_more list rest left_out flows kind value after s first =
    let front = front_of-some rest (record { tlv = tlv kind value; rest = after }) (sym first) in
    let less : length after < length rest = shrinks rest (record { tlv = tlv kind value; rest = after }) (sym first) in
    let few : flow_count kind ≤ 1 = at_most_one (eqb kind upstream_service_flow) in
    let others = (front_of after).tlvs in
    record {
      room = let room : flows + length rest ≤ length list = s.room in omega arith;
      same_rest = s.same_rest ∙ ap (λ (f : Front). f.rest) front;
      left_out_is = s.left_out_is ∙ ap (λ (f : Front). first_some left_out (left_out_in f.tlvs)) front
          ∙ ap (first_some left_out) (left_out_by (tlv kind value) others (is_left_out (tlv kind value)) refl)
          ∙ first_some-assoc left_out (left_out_kind kind) (left_out_in others);
      flows_are =
          let whole : length (values_of upstream_service_flow (front_of list).tlvs) ≡ flows + length (values_of upstream_service_flow (tlv kind value ∷ others)) = s.flows_are ∙ ap (λ (f : Front). flows + length (values_of upstream_service_flow f.tlvs)) front in
          let one : length (values_of upstream_service_flow (tlv kind value ∷ others)) ≡ flow_count kind + length (values_of upstream_service_flow others) = count_by_kind (tlv kind value) others (eqb kind upstream_service_flow) refl in
          omega (arith, whole, one);
    }
  where
    at_most_one : (b : Bool) → cond b 1 0 ≤ 1
    at_most_one true = omega arith
    at_most_one false = omega arith

nothing_more : (rest : List ℕ) → length rest ≡ 0 → rest ≡ []
nothing_more [] e = refl
nothing_more (b ∷ rest) e = absurd (omega arith)

first_some-none : (a : Option ℕ) → first_some a None ≡ a
first_some-none None = refl
first_some-none (Some n) = refl

pub survey_whole : (list rest : List ℕ) (left_out : Option ℕ) (flows : ℕ) → IsSurveyedUpTo list rest left_out flows → length rest ≡ 0 → IsSurveyed list left_out flows
survey_whole list rest left_out flows s none =
    let empty = nothing_more rest none in
    let front : front_of rest ≡ record { tlvs = []; rest = [] } = ap front_of empty ∙ front_of-none [] refl in
    record {
      whole = ap length (s.same_rest ∙ ap (λ (f : Front). f.rest) front);
      left_out_is = sym (s.left_out_is ∙ ap (λ (f : Front). first_some left_out (left_out_in f.tlvs)) front ∙ first_some-none left_out);
      flows_are = let all : length (values_of upstream_service_flow (front_of list).tlvs) ≡ flows + 0 = s.flows_are ∙ ap (λ (f : Front). flows + length (values_of upstream_service_flow f.tlvs)) front in omega (arith, all);
    }

pub survey_cut : (list rest : List ℕ) (left_out : Option ℕ) (flows : ℕ) → IsSurveyedUpTo list rest left_out flows → first_tlv rest ≡ None → length rest ≢ 0 → IsCutSurvey list (length list - length rest)
survey_cut list rest left_out flows s none some =
    let front = front_of-none rest none in
    let same : (front_of list).rest ≡ rest = s.same_rest ∙ ap (λ (f : Front). f.rest) front in
    record {
      some = omega (arith, ap length same, some);
      place_is = ap (λ (x : List ℕ). length list - length x) (sym same);
    }

-- ---- the flows

pub fails : {Y : Type 0} (fault : MessageFault) (read : Result Y MessageFault) → read ≡ Err fault → Fails (message_cause fault) read
fails faults.Empty read e = e
fails (faults.NotOurs mtype) read e = e
fails faults.Short read e = e
fails (faults.Tlv tid kind id fault) read e = e
fails (faults.LeftOut tid kind found) read e = e
fails faults.NoMemory read e = tt

module _ (tid : ℕ) (kind : Kind) where
  flows_first : (rest : List ℕ) (flows : List FlowFields) (type : ℕ) (value after : List ℕ) (total : Result (List FlowFields) MessageFault) → Some (record { tlv = tlv type value; rest = after }) ≡ first_tlv rest
      → flows_read_after tid kind flows (values_of upstream_service_flow (front_of rest).tlvs) ≡ total → flows_read_after tid kind flows (values_of upstream_service_flow (tlv type value ∷ (front_of after).tlvs)) ≡ total
  flows_first rest flows type value after total first so_far =
      let front = front_of-some rest (record { tlv = tlv type value; rest = after }) (sym first) in
      sym (ap (λ (f : Front). flows_read_after tid kind flows (values_of upstream_service_flow f.tlvs)) front) ∙ so_far

  pub flows_skip : (rest : List ℕ) (flows : List FlowFields) (type : ℕ) (value after : List ℕ) (total : Result (List FlowFields) MessageFault) → Some (record { tlv = tlv type value; rest = after }) ≡ first_tlv rest
      → flows_read_after tid kind flows (values_of upstream_service_flow (front_of rest).tlvs) ≡ total → eqb type upstream_service_flow ≡ false → flows_read_after tid kind flows (values_of upstream_service_flow (front_of after).tlvs) ≡ total
  flows_skip rest flows type value after total first so_far other =
      sym (ap (flows_read_after tid kind flows) (values-other (tlv type value) (front_of after).tlvs other)) ∙ flows_first rest flows type value after total first so_far

  pub flows_take : (rest : List ℕ) (flows : List FlowFields) (type : ℕ) (value after : List ℕ) (total : Result (List FlowFields) MessageFault) (flow : FlowFields) → Some (record { tlv = tlv type value; rest = after }) ≡ first_tlv rest
      → flows_read_after tid kind flows (values_of upstream_service_flow (front_of rest).tlvs) ≡ total → eqb type upstream_service_flow ≡ true → Ok flow ≡ flow_in tid kind value → flows_read_after tid kind (flows ++ flow ∷ []) (values_of upstream_service_flow (front_of after).tlvs) ≡ total
  flows_take rest flows type value after total flow first so_far same told =
      ap (λ (r : Result FlowFields MessageFault). r >>= λ m. flows_read_after tid kind (flows ++ m ∷ []) (values_of upstream_service_flow (front_of after).tlvs)) told
      ∙ sym (ap (flows_read_after tid kind flows) (values-flow (tlv type value) (front_of after).tlvs same)) ∙ flows_first rest flows type value after total first so_far

  pub flows_stop : (rest : List ℕ) (flows : List FlowFields) (type : ℕ) (value after : List ℕ) (total : Result (List FlowFields) MessageFault) (fault : MessageFault) → Some (record { tlv = tlv type value; rest = after }) ≡ first_tlv rest
      → flows_read_after tid kind flows (values_of upstream_service_flow (front_of rest).tlvs) ≡ total → eqb type upstream_service_flow ≡ true → Err fault ≡ flow_in tid kind value → total ≡ Err fault
  flows_stop rest flows type value after total fault first so_far same told =
      sym (ap (λ (r : Result FlowFields MessageFault). r >>= λ m. flows_read_after tid kind (flows ++ m ∷ []) (values_of upstream_service_flow (front_of after).tlvs)) told
      ∙ sym (ap (flows_read_after tid kind flows) (values-flow (tlv type value) (front_of after).tlvs same)) ∙ flows_first rest flows type value after total first so_far)

  pub flows_end : (rest : List ℕ) (flows : List FlowFields) (total : Result (List FlowFields) MessageFault) → first_tlv rest ≡ None → flows_read_after tid kind flows (values_of upstream_service_flow (front_of rest).tlvs) ≡ total → total ≡ Ok flows
  flows_end rest flows total none so_far = sym (sym (ap (λ (f : Front). flows_read_after tid kind flows (values_of upstream_service_flow f.tlvs)) (front_of-none rest none)) ∙ so_far)
