-- The reading function answers what the relations say.
use Rattle.std.proofs.Common.{◌≡◌, ◌≢◌, ℕ, zero, suc, ◌+◌, ◌-◌, ◌<◌, ◌≤◌, Bool, true, false, cond, leb, List, [], ◌∷◌, ◌++◌, length, take, drop, Option, Some, None, Result, Ok, Err, refl, sym, ap, subst, ◌∙◌, append_assoc, length-append, arith}
use Rattle.tlv24.proofs.Common.{take-append-drop, length-take, get_or-drop, same_Some, leb-true, leb-false, Tlv, TlvFault, Cut, FlowFields, FlowFault, tlv, spelled, spelled_one, IsFront, Begins, NoTlvBegins, First, Front, first_tlv, front_of, fields_of, fault_of, flow_of, IsFlowEncoding, IsFirstFlowFault, States, IsReadUpTo}
use Rattle.tlv24.specs.Law.{AreBytes, IsRightAnswer}
use Rattle.tlv24.proofs.Lists.{shrinks, front_of-none, front_of-some}
use Rattle.tlv24.proofs.Sound.{read_nothing, read_more_here, read_all, read_flow_of, cut_exact, cut_first, fault_exact_here, fault_first_here, refused, one_flow, flow_ok}

-- ---- the first TLV

-- the parts that the front of the bytes has
pub record IsFirst (bytes : List ℕ) (first : First) : Type 0 where
  pub begins : Begins bytes first.tlv first.rest
  pub bytes_left : AreBytes first.rest

first_by : (kind count : ℕ) (more : List ℕ) (b : Bool) (first : First) → leb count (length more) ≡ b → cond b (Some (record { tlv = tlv kind (take count more); rest = drop count more })) None ≡ Some first → AreBytes (kind ∷ count ∷ more) → IsFirst (kind ∷ count ∷ more) first
first_by kind count more true first fits e bytes =
    let le : count ≤ length more = leb-true count (length more) fits in
    let small : count < 256 = bytes 1 in
    let len : length (take count more) ≡ count = omega (arith, length-take count more) in
    subst (λ (f : First). IsFirst (kind ∷ count ∷ more) f) (same_Some _ _ e) (record {
      begins = record {
        short = omega arith;
        spelling = ap (λ (x : List ℕ). kind ∷ count ∷ x) (sym (take-append-drop count more)) ∙ ap (λ (n : ℕ). kind ∷ n ∷ (take count more ++ drop count more)) (sym len);
      };
      bytes_left = λ place. rw get_or-drop (bytes (suc (suc (count + place))));
    })
first_by kind count more false first fits e bytes = absurd cc

pub first_some : (bytes : List ℕ) (first : First) → AreBytes bytes → first_tlv bytes ≡ Some first → IsFirst bytes first
first_some [] first bytes e = absurd cc
first_some (kind ∷ []) first bytes e = absurd cc
first_some (kind ∷ count ∷ more) first bytes e = first_by kind count more (leb count (length more)) first refl e bytes

pub first_none : (bytes : List ℕ) → first_tlv bytes ≡ None → NoTlvBegins bytes
first_none [] e t rest b = let clash : [] ≡ spelled_one t ++ rest = b.spelling in absurd cc
first_none (kind ∷ []) e t rest b = let clash : kind ∷ [] ≡ spelled_one t ++ rest = b.spelling in absurd cc
first_none (kind ∷ count ∷ more) e t rest b =
    let clash : kind ∷ count ∷ more ≡ spelled_one t ++ rest = b.spelling in
    let counts : count ≡ length t.value = cc in
    let tails : more ≡ t.value ++ rest = cc in
    too_long count more (leb count (length more)) kind refl e (omega (arith, counts, ap length tails, length-append t.value rest))
  where
    too_long : (count : ℕ) (more : List ℕ) (b : Bool) (kind : ℕ) → leb count (length more) ≡ b → ◌≡◌ {A = Option First} (cond b (Some (record { tlv = tlv kind (take count more); rest = drop count more })) None) None → count ≤ length more → ⊥
    too_long count more true kind fits e le = absurd cc
    too_long count more false kind fits e le = let lt : length more < count = leb-false count (length more) fits in omega arith

-- ---- the front

-- whole TLVs, and a rest with which none begins
pub record IsWholeFront (bytes : List ℕ) (f : Front) : Type 0 where
  pub front : IsFront bytes f.tlvs f.rest
  pub stuck : NoTlvBegins f.rest

more_front : (bytes : List ℕ) (first : First) (others : Front) → Begins bytes first.tlv first.rest → IsWholeFront first.rest others → IsWholeFront bytes (record { tlvs = first.tlv ∷ others.tlvs; rest = others.rest })
more_front bytes first others b w = record {
  front = record {
    short = (b.short, w.front.short);
    spelling = b.spelling ∙ ap (λ (x : List ℕ). spelled_one first.tlv ++ x) w.front.spelling ∙ sym (append_assoc (spelled_one first.tlv) (spelled others.tlvs) others.rest);
  };
  stuck = w.stuck;
}

whole_front_within : (n : ℕ) (bytes : List ℕ) (o : Option First) → length bytes ≤ n → AreBytes bytes → first_tlv bytes ≡ o → IsWholeFront bytes (front_of bytes)
whole_front_within n bytes None le are e = subst (IsWholeFront bytes) (sym (front_of-none bytes e)) (record { front = record { short = tt; spelling = refl }; stuck = first_none bytes e })
whole_front_within zero bytes (Some first) le are e = let less : length first.rest < length bytes = shrinks bytes first e in absurd (omega arith)
whole_front_within (suc n) bytes (Some first) le are e =
    let less : length first.rest < length bytes = shrinks bytes first e in
    let f = first_some bytes first are e in
    subst (IsWholeFront bytes) (sym (front_of-some bytes first e)) (more_front bytes first (front_of first.rest) f.begins (whole_front_within n first.rest (first_tlv first.rest) (omega arith) f.bytes_left refl))

pub whole_front : (bytes : List ℕ) → AreBytes bytes → IsWholeFront bytes (front_of bytes)
whole_front bytes are = whole_front_within (length bytes) bytes (first_tlv bytes) (omega arith) are refl

-- ---- the answer

states_itself : (tlvs : List Tlv) → States tlvs (fields_of tlvs)
states_itself tlvs = record { reference = refl; sfid = refl; sid = refl; class_name = refl; errored = refl; set_type = refl; traffic_priority = refl; max_sustained_rate = refl; max_burst = refl; min_reserved_rate = refl; scheduling_type = refl; request_policy = refl; polling_interval = refl; poll_jitter = refl; grant_size = refl; grant_interval = refl; grant_jitter = refl; grants_per_interval = refl }

answer_within : (n : ℕ) (bytes rest : List ℕ) (fields : FlowFields) (o : Option First) → length rest ≤ n → AreBytes rest → IsReadUpTo bytes rest fields → first_tlv rest ≡ o → IsRightAnswer bytes (flow_of bytes)
answer_within n bytes [] fields None le are r e = subst (IsRightAnswer bytes) (sym (read_all bytes [] fields r refl)) (read_flow_of bytes [] fields r refl)
answer_within n bytes (b ∷ rest) fields None le are r e =
    let some : length (b ∷ rest) ≢ 0 = λ h. omega arith in
    let fault : FlowFault = record { fault = Cut (length bytes - length (b ∷ rest)); reference = fields.reference; sfid = fields.sfid } in
    subst (IsRightAnswer bytes) (sym (cut_exact bytes (b ∷ rest) fields fault r some e refl)) (cut_first bytes (b ∷ rest) fields fault r some (first_none (b ∷ rest) e) refl)
answer_within zero bytes rest fields (Some first) le are r e = let less : length first.rest < length rest = shrinks rest first e in absurd (omega arith)
answer_within (suc n) bytes rest fields (Some first) le are r e =
    let less : length first.rest < length rest = shrinks rest first e in
    let f = first_some rest first are e in
    judged n bytes rest fields first (fault_of r.before first.tlv) f r e refl
    (λ next again. answer_within n bytes first.rest next (first_tlv first.rest) (omega arith) f.bytes_left again refl)
  where
    judged : (n : ℕ) (bytes rest : List ℕ) (fields : FlowFields) (first : First) (o : Option TlvFault) → IsFirst rest first → (r : IsReadUpTo bytes rest fields) → first_tlv rest ≡ Some first → fault_of r.before first.tlv ≡ o
        → ((next : FlowFields) → IsReadUpTo bytes first.rest next → IsRightAnswer bytes (flow_of bytes)) → IsRightAnswer bytes (flow_of bytes)
    judged n bytes rest fields first None f r e free again = again (fields_of (r.before ++ first.tlv ∷ [])) (read_more_here bytes rest fields (fields_of (r.before ++ first.tlv ∷ [])) first r e f.begins free (states_itself (r.before ++ first.tlv ∷ [])))
    judged n bytes rest fields first (Some fault) f r e at_fault again =
        let told : FlowFault = record { fault = fault; reference = fields.reference; sfid = fields.sfid } in
        subst (IsRightAnswer bytes) (sym (fault_exact_here bytes rest fields first fault told r e at_fault refl)) (fault_first_here bytes rest fields first fault told r f.begins at_fault refl)

pub right_answer : (bytes : List ℕ) → AreBytes bytes → IsRightAnswer bytes (flow_of bytes)
right_answer bytes are = answer_within (length bytes) bytes bytes (fields_of []) (first_tlv bytes) (omega arith) are (read_nothing bytes (fields_of []) refl) refl

pub answers_flow : (bytes : List ℕ) (m : FlowFields) → AreBytes bytes → flow_of bytes ≡ Ok m → IsFlowEncoding bytes m
answers_flow bytes m are e = subst (IsRightAnswer bytes) e (right_answer bytes are)

pub answers_fault : (bytes : List ℕ) (e : FlowFault) → AreBytes bytes → flow_of bytes ≡ Err e → IsFirstFlowFault bytes e
answers_fault bytes fault are e = subst (IsRightAnswer bytes) e (right_answer bytes are)

pub flow_answered : (bytes : List ℕ) (m : FlowFields) → AreBytes bytes → IsFlowEncoding bytes m → flow_of bytes ≡ Ok m
flow_answered bytes m are says = by_answer bytes m (flow_of bytes) says (right_answer bytes are)
  where
    by_answer : (bytes : List ℕ) (m : FlowFields) (r : Result FlowFields FlowFault) → IsFlowEncoding bytes m → IsRightAnswer bytes r → r ≡ Ok m
    by_answer bytes m (Ok n) says right = ap flow_ok (one_flow bytes n m right says)
    by_answer bytes m (Err e) says right = absurd (refused bytes m e says right)
