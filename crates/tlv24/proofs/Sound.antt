-- Reading a flow encoding from left to right, against what it means.
use Rattle.std.proofs.Common.{◌≡◌, ◌≢◌, ℕ, zero, suc, ◌-◌, ◌<◌, ◌≤◌, Bool, true, false, cond, eqb, not, nat_lt, ◌||◌, List, [], ◌∷◌, ◌++◌, length, slice_get, Option, Some, None, is_some, Result, Ok, Err, refl, sym, ap, subst, ◌∙◌, ◌⊎◌, length-append, eq-eqb, arith, inl, inr}
use Rattle.tlv24.proofs.Common.{IfSome, option_map, AllByRecursion, append-nil, same_Some, cases_eq, leb-true, nat_tests, Tlv, TlvFault, Cut, WrongLength, Twice, Range, NoMemory, FlowFields, FlowFault, tlv, FitsLengthByte, spelled, Begins, NoTlvBegins, First, Front, first_tlv, front_of, States, AreInRange, IsReadUpTo}
use Rattle.tlv24.specs.Flow.{byte, word, long, low_bits, value_of, values_of, lengths_of, in_range, fields_of, IsOfSubtype, IsOnceAtMost, EachIsOnceAtMost, IsFlowEncoding, fault_with, fault_of, GoesWrong, IsFirstFlowFault, fault_after, says_after, cut_in, flow_of}
use Rattle.tlv24.proofs.Values.{differs, values_of-append, values_same, values_other, IsFine, fine, fault_of-known, lengths_low, lengths_high}
use Rattle.tlv24.proofs.Lists.{goes_on, one_list, starts_with, not_stuck, IsFront-more, front_of-none, front_of-some}

abbrev pub flow_ok : FlowFields → Result FlowFields FlowFault
flow_ok m = Ok m

abbrev pub flow_err : FlowFault → Result FlowFields FlowFault
flow_err e = Err e

pub stated_fields : (tlvs : List Tlv) (m : FlowFields) → States tlvs m → m ≡ fields_of tlvs
stated_fields tlvs m h = λ i. record { reference = h.reference i; sfid = h.sfid i; sid = h.sid i; class_name = h.class_name i; errored = h.errored i; set_type = h.set_type i; traffic_priority = h.traffic_priority i; max_sustained_rate = h.max_sustained_rate i; max_burst = h.max_burst i; min_reserved_rate = h.min_reserved_rate i; scheduling_type = h.scheduling_type i; request_policy = h.request_policy i; polling_interval = h.polling_interval i; poll_jitter = h.poll_jitter i; grant_size = h.grant_size i; grant_interval = h.grant_interval i; grant_jitter = h.grant_jitter i; grants_per_interval = h.grants_per_interval i }

-- ---- the beginning

pub read_nothing : (bytes : List ℕ) (none : FlowFields) → none ≡ fields_of [] → IsReadUpTo bytes bytes none
unfolding flow_of
read_nothing bytes none e = record {
  before = [];
  front = record { short = tt; spelling = refl };
  sound = λ subtype lengths known. tt;
  stated = subst (States []) (sym e) record { reference = refl; sfid = refl; sid = refl; class_name = refl; errored = refl; set_type = refl; traffic_priority = refl; max_sustained_rate = refl; max_burst = refl; min_reserved_rate = refl; scheduling_type = refl; request_policy = refl; polling_interval = refl; poll_jitter = refl; grant_size = refl; grant_interval = refl; grant_jitter = refl; grants_per_interval = refl };
  goes_on = refl;
}

-- ---- one more TLV that is not at fault

sound_more : (before : List Tlv) (t : Tlv) → EachIsOnceAtMost before → fault_of before t ≡ None → EachIsOnceAtMost (before ++ t ∷ [])
sound_more before t sound free subtype lengths known =
    elim (cases_eq t.kind subtype) [
      | inl same ↦
          let here : lengths_of t.kind ≡ Some lengths = subst (λ (k : ℕ). lengths_of k ≡ Some lengths) (sym same) known in
          let f : IsFine before t lengths = fine before t lengths (sym (fault_of-known before t lengths here) ∙ free) in
          let values : values_of t.kind (before ++ t ∷ []) ≡ t.value ∷ [] = values_same before t.kind t.value f.new in
          let once : IsOnceAtMost t.kind lengths (values_of t.kind (before ++ t ∷ [])) =
          subst (IsOnceAtMost t.kind lengths) (sym values) (record {
            long_enough = lengths_low (length t.value) lengths.0 lengths.1 f.length_test;
            short_enough = lengths_high (length t.value) lengths.0 lengths.1 f.length_test;
            takes = f.takes;
          }) in
          subst (λ (k : ℕ). IsOnceAtMost k lengths (values_of k (before ++ t ∷ []))) same once
      | inr other ↦ subst (IsOnceAtMost subtype lengths) (sym (values_other before subtype t.kind t.value other)) (sound subtype lengths known)
    ]

goes_on_more : (before : List Tlv) (t : Tlv) (tlvs : List Tlv) (cut : Option ℕ) → fault_of before t ≡ None → says_after before (t ∷ tlvs) cut ≡ says_after (before ++ t ∷ []) tlvs cut
goes_on_more before t tlvs cut e = ap (λ (o : Option TlvFault). elim o [ None ↦ says_after (before ++ t ∷ []) tlvs cut | Some fault ↦ Err (fault_after before fault) ]) e

stops_at : (before : List Tlv) (t : Tlv) (tlvs : List Tlv) (cut : Option ℕ) (fault : TlvFault) → fault_of before t ≡ Some fault → says_after before (t ∷ tlvs) cut ≡ Err (fault_after before fault)
stops_at before t tlvs cut fault e = ap (λ (o : Option TlvFault). elim o [ None ↦ says_after (before ++ t ∷ []) tlvs cut | Some f ↦ Err (fault_after before f) ]) e

pub read_more_here : (bytes rest : List ℕ) (fields next : FlowFields) (first : First) (r : IsReadUpTo bytes rest fields) → first_tlv rest ≡ Some first → Begins rest first.tlv first.rest
    → fault_of r.before first.tlv ≡ None → States (r.before ++ first.tlv ∷ []) next → IsReadUpTo bytes first.rest next
read_more_here bytes rest fields next first r e begins free stated =
    record {
      before = r.before ++ first.tlv ∷ [];
      front = IsFront-more bytes r.before rest first.tlv first.rest r.front begins;
      sound = sound_more r.before first.tlv r.sound free;
      stated = stated;
      goes_on = r.goes_on ∙ ap (λ (f : Front). says_after r.before f.tlvs (cut_in bytes f.rest)) (front_of-some rest first e)
          ∙ goes_on_more r.before first.tlv (front_of first.rest).tlvs (cut_in bytes (front_of first.rest).rest) free;
    }

pub read_more : (bytes rest : List ℕ) (fields next : FlowFields) (kind : ℕ) (value after : List ℕ) → IsReadUpTo bytes rest fields → Some (record { tlv = tlv kind value; rest = after }) ≡ first_tlv rest → Begins rest (tlv kind value) after
    → ((before : List Tlv) → States before fields → None ≡ fault_of before (tlv kind value))
    → ((before : List Tlv) → States before fields → fault_of before (tlv kind value) ≡ None → States (before ++ tlv kind value ∷ []) next)
    → IsReadUpTo bytes after next
read_more bytes rest fields next kind value after r first begins judged put =
    let free : fault_of r.before (tlv kind value) ≡ None = sym (judged r.before r.stated) in
    read_more_here bytes rest fields next (record { tlv = tlv kind value; rest = after }) r (sym first) begins free (put r.before r.stated free)

-- ---- the end

nothing_left : (rest : List ℕ) → length rest ≡ 0 → rest ≡ []
nothing_left [] e = refl
nothing_left (b ∷ rest) e = absurd (omega arith)

pub read_all : (bytes rest : List ℕ) (fields : FlowFields) → IsReadUpTo bytes rest fields → length rest ≡ 0 → flow_of bytes ≡ Ok fields
read_all bytes rest fields r none =
    let empty = nothing_left rest none in
    let front = front_of-none [] refl in
    r.goes_on ∙ ap (λ (x : List ℕ). says_after r.before (front_of x).tlvs (cut_in bytes (front_of x).rest)) empty
    ∙ ap (λ (f : Front). says_after r.before f.tlvs (cut_in bytes f.rest)) front
    ∙ ap flow_ok (sym (stated_fields r.before fields r.stated))

pub read_flow_of : (bytes rest : List ℕ) (fields : FlowFields) → IsReadUpTo bytes rest fields → length rest ≡ 0 → IsFlowEncoding bytes fields
read_flow_of bytes rest fields r none =
    let empty = nothing_left rest none in
    record {
      tlvs = r.before;
      list = record { short = r.front.short; spelling = r.front.spelling ∙ ap (λ (x : List ℕ). spelled r.before ++ x) empty ∙ append-nil (spelled r.before) };
      sound = r.sound;
      fields = stated_fields r.before fields r.stated;
    }

-- ---- the fields are in range

value_of_some : (subtype : ℕ) (lengths : ℕ × ℕ) (values : List (List ℕ)) (value : List ℕ) → IsOnceAtMost subtype lengths values → slice_get values 0 ≡ Some value → in_range subtype value ≡ true
value_of_some subtype lengths [] value once e = absurd cc
value_of_some subtype lengths (v ∷ []) value once e = subst (λ (x : List ℕ). in_range subtype x ≡ true) (same_Some _ _ e) once.takes
value_of_some subtype lengths (v ∷ w ∷ values) value once e = absurd once

if_some_map : (o : Option (List ℕ)) (f : List ℕ → ℕ) (P : ℕ → Type 0) → ((value : List ℕ) → o ≡ Some value → P (f value)) → IfSome (option_map f o) P
if_some_map None f P h = tt
if_some_map (Some value) f P h = h value refl

not_zero : (n : ℕ) → not (eqb n 0) ≡ true → 0 < n
not_zero zero e = absurd cc
not_zero (suc n) e = omega arith

pub fields_in_range : (tlvs : List Tlv) → EachIsOnceAtMost tlvs → AreInRange (fields_of tlvs)
fields_in_range tlvs sound = record {
  reference = if_some_map (value_of 1 tlvs) word (λ n. 0 < n) (λ value e. not_zero (word value) (value_of_some 1 (2, 2) (values_of 1 tlvs) value (sound 1 (2, 2) refl) e));
  sfid = if_some_map (value_of 2 tlvs) long (λ n. 0 < n) (λ value e. not_zero (long value) (value_of_some 2 (4, 4) (values_of 2 tlvs) value (sound 2 (4, 4) refl) e));
  sid = if_some_map (value_of 3 tlvs) low_bits (λ n. n < 16384) (λ value e. omega arith);
  traffic_priority = if_some_map (value_of 7 tlvs) byte (λ n. n ≤ 7) (λ value e. leb-true (byte value) 7 (value_of_some 7 (1, 1) (values_of 7 tlvs) value (sound 7 (1, 1) refl) e));
}

pub read_in_range : (bytes rest : List ℕ) (fields : FlowFields) → IsReadUpTo bytes rest fields → AreInRange fields
read_in_range bytes rest fields r = subst AreInRange (sym (stated_fields r.before fields r.stated)) (fields_in_range r.before r.sound)

-- ---- a fault

pub record IsFaultOf (fields : FlowFields) (fault : TlvFault) (e : FlowFault) : Type 0 where
  pub is : e ≡ record { fault = fault; reference = fields.reference; sfid = fields.sfid }

fault_is : (fields : FlowFields) (fault : TlvFault) (e : FlowFault) (before : List Tlv) → States before fields → e ≡ record { fault = fault; reference = fields.reference; sfid = fields.sfid } → e ≡ fault_after before fault
fault_is fields fault e before stated is = is ∙ (λ i. record { fault = fault; reference = stated.reference i; sfid = stated.sfid i })

pub cut_exact : (bytes rest : List ℕ) (fields : FlowFields) (e : FlowFault) → IsReadUpTo bytes rest fields → length rest ≢ 0 → first_tlv rest ≡ None
    → e ≡ record { fault = Cut (length bytes - length rest); reference = fields.reference; sfid = fields.sfid } → flow_of bytes ≡ Err e
cut_exact bytes rest fields e r some none is =
    let front = front_of-none rest none in
    let here : eqb (length rest) 0 ≡ false = differs (length rest) 0 some in
    r.goes_on ∙ ap (λ (f : Front). says_after r.before f.tlvs (cut_in bytes f.rest)) front
    ∙ ap (λ (b : Bool). says_after r.before [] (cond b None (Some (length bytes - length rest)))) here
    ∙ ap flow_err (sym (fault_is fields (Cut (length bytes - length rest)) e r.before r.stated is))

pub cut_first : (bytes rest : List ℕ) (fields : FlowFields) (e : FlowFault) → IsReadUpTo bytes rest fields → length rest ≢ 0 → NoTlvBegins rest
    → e ≡ record { fault = Cut (length bytes - length rest); reference = fields.reference; sfid = fields.sfid } → IsFirstFlowFault bytes e
cut_first bytes rest fields e r some none is =
    let place : length bytes - length rest ≡ length (spelled r.before) = omega (arith, ap length r.front.spelling, length-append (spelled r.before) rest) in
    let long : 0 < length rest = omega (arith, some) in
    subst (IsFirstFlowFault bytes) (sym (fault_is fields (Cut (length bytes - length rest)) e r.before r.stated is)) (record {
      before = r.before;
      rest = rest;
      front = r.front;
      sound = r.sound;
      wrong = (place, long, none);
      reference = refl;
      sfid = refl;
    })

pub fault_exact_here : (bytes rest : List ℕ) (fields : FlowFields) (first : First) (fault : TlvFault) (e : FlowFault) (r : IsReadUpTo bytes rest fields) → first_tlv rest ≡ Some first
    → fault_of r.before first.tlv ≡ Some fault → e ≡ record { fault = fault; reference = fields.reference; sfid = fields.sfid } → flow_of bytes ≡ Err e
fault_exact_here bytes rest fields first fault e r is_first at_fault is =
    r.goes_on ∙ ap (λ (f : Front). says_after r.before f.tlvs (cut_in bytes f.rest)) (front_of-some rest first is_first)
    ∙ stops_at r.before first.tlv (front_of first.rest).tlvs (cut_in bytes (front_of first.rest).rest) fault at_fault
    ∙ ap flow_err (sym (fault_is fields fault e r.before r.stated is))

pub fault_exact : (bytes rest : List ℕ) (fields : FlowFields) (kind : ℕ) (value after : List ℕ) (fault : TlvFault) (e : FlowFault) → IsReadUpTo bytes rest fields → Some (record { tlv = tlv kind value; rest = after }) ≡ first_tlv rest
    → ((before : List Tlv) → States before fields → Some fault ≡ fault_of before (tlv kind value))
    → e ≡ record { fault = fault; reference = fields.reference; sfid = fields.sfid } → flow_of bytes ≡ Err e
fault_exact bytes rest fields kind value after fault e r first judged is =
    fault_exact_here bytes rest fields (record { tlv = tlv kind value; rest = after }) fault e r (sym first) (sym (judged r.before r.stated)) is

-- of a TLV no cut and no want of memory is said
no_other : (long seen fits : Bool) (a b c fault : TlvFault) → cond long (Some a) (cond seen (Some b) (cond fits None (Some c))) ≡ Some fault → (fault ≡ a) ⊎ ((fault ≡ b) ⊎ (fault ≡ c))
no_other true seen fits a b c fault e = inl (sym (same_Some _ _ e))
no_other false true fits a b c fault e = inr (inl (sym (same_Some _ _ e)))
no_other false false true a b c fault e = absurd cc
no_other false false false a b c fault e = inr (inr (sym (same_Some _ _ e)))

wrong_under : (o : Option (ℕ × ℕ)) (before : List Tlv) (t : Tlv) (rest after : List ℕ) (fault : TlvFault) → Begins rest t after → fault_of before t ≡ Some fault → fault_with o before t ≡ Some fault → GoesWrong before rest fault
wrong_under None before t rest after fault b whole e = absurd cc
wrong_under (Some lengths) before t rest after fault b whole e =
    elim (no_other (nat_lt (length t.value) lengths.0 || nat_lt lengths.1 (length t.value)) (is_some (value_of t.kind before)) (in_range t.kind t.value) (WrongLength t.kind) (Twice t.kind) (Range t.kind) fault e) [
      | inl is ↦ subst (GoesWrong before rest) (sym is) (t, after, b, subst (λ (f : TlvFault). fault_of before t ≡ Some f) is whole)
      | inr others ↦ elim others [
        | inl is ↦ subst (GoesWrong before rest) (sym is) (t, after, b, subst (λ (f : TlvFault). fault_of before t ≡ Some f) is whole)
        | inr is ↦ subst (GoesWrong before rest) (sym is) (t, after, b, subst (λ (f : TlvFault). fault_of before t ≡ Some f) is whole)
      ]
    ]

pub fault_first_here : (bytes rest : List ℕ) (fields : FlowFields) (first : First) (fault : TlvFault) (e : FlowFault) (r : IsReadUpTo bytes rest fields) → Begins rest first.tlv first.rest
    → fault_of r.before first.tlv ≡ Some fault → e ≡ record { fault = fault; reference = fields.reference; sfid = fields.sfid } → IsFirstFlowFault bytes e
unfolding fault_of
fault_first_here bytes rest fields first fault e r begins at_fault is =
    subst (IsFirstFlowFault bytes) (sym (fault_is fields fault e r.before r.stated is)) (record {
      before = r.before;
      rest = rest;
      front = r.front;
      sound = r.sound;
      wrong = wrong_under (lengths_of first.tlv.kind) r.before first.tlv rest first.rest fault begins at_fault at_fault;
      reference = refl;
      sfid = refl;
    })

pub fault_first : (bytes rest : List ℕ) (fields : FlowFields) (kind : ℕ) (value after : List ℕ) (fault : TlvFault) (e : FlowFault) → IsReadUpTo bytes rest fields → Begins rest (tlv kind value) after
    → ((before : List Tlv) → States before fields → Some fault ≡ fault_of before (tlv kind value))
    → e ≡ record { fault = fault; reference = fields.reference; sfid = fields.sfid } → IsFirstFlowFault bytes e
fault_first bytes rest fields kind value after fault e r begins judged is =
    fault_first_here bytes rest fields (record { tlv = tlv kind value; rest = after }) fault e r begins (sym (judged r.before r.stated)) is

-- ---- an encoding has one meaning and no fault

pub one_flow : (bytes : List ℕ) (m n : FlowFields) → IsFlowEncoding bytes m → IsFlowEncoding bytes n → m ≡ n
one_flow bytes m n p q = p.fields ∙ ap fields_of (one_list bytes p.tlvs q.tlvs p.list q.list) ∙ sym q.fields

alone : (subtype : ℕ) (lengths : ℕ × ℕ) (xs ys : List (List ℕ)) (value : List ℕ) → IsOnceAtMost subtype lengths (xs ++ value ∷ ys) → (xs ≡ []) × IsOfSubtype subtype lengths value
alone subtype lengths [] [] value once = (refl, once)
alone subtype lengths [] (y ∷ ys) value once = absurd once
alone subtype lengths (x ∷ []) ys value once = absurd once
alone subtype lengths (x ∷ z ∷ xs) ys value once = absurd once

values_of-cons : (kind : ℕ) (value : List ℕ) (more : List Tlv) → values_of kind (tlv kind value ∷ more) ≡ value ∷ values_of kind more
values_of-cons kind value more = rw (eq-eqb kind kind refl) refl

no_fault_under : (o : Option (ℕ × ℕ)) (before : List Tlv) (t : Tlv) (more : List Tlv) (fault : TlvFault) → lengths_of t.kind ≡ o → EachIsOnceAtMost (before ++ t ∷ more) → fault_with o before t ≡ Some fault → ⊥
no_fault_under None before t more fault known sound e = absurd cc
no_fault_under (Some lengths) before t more fault known sound e =
    let values : values_of t.kind (before ++ t ∷ more) ≡ values_of t.kind before ++ t.value ∷ values_of t.kind more =
    values_of-append t.kind before (t ∷ more) ∙ ap (λ (x : List (List ℕ)). values_of t.kind before ++ x) (values_of-cons t.kind t.value more) in
    let once = subst (IsOnceAtMost t.kind lengths) values (sound t.kind lengths known) in
    let a = alone t.kind lengths (values_of t.kind before) (values_of t.kind more) t.value once in
    let fits : (nat_lt (length t.value) lengths.0 || nat_lt lengths.1 (length t.value)) ≡ false = in_lengths (length t.value) lengths.0 lengths.1 a.1.long_enough a.1.short_enough in
    let new : is_some (value_of t.kind before) ≡ false = ap (λ (x : List (List ℕ)). is_some (slice_get x 0)) a.0 in
    all_well (nat_lt (length t.value) lengths.0 || nat_lt lengths.1 (length t.value)) (is_some (value_of t.kind before)) (in_range t.kind t.value) (WrongLength t.kind) (Twice t.kind) (Range t.kind) fault fits new a.1.takes e
  where
    in_lengths : (n low high : ℕ) → low ≤ n → n ≤ high → (nat_lt n low || nat_lt high n) ≡ false
    in_lengths n low high p q = grind (arith, nat_tests, p, q)

    all_well : (long seen fits : Bool) (a b c fault : TlvFault) → long ≡ false → seen ≡ false → fits ≡ true → cond long (Some a) (cond seen (Some b) (cond fits None (Some c))) ≡ Some fault → ⊥
    all_well true seen fits a b c fault p q r e = absurd cc
    all_well false true fits a b c fault p q r e = absurd cc
    all_well false false true a b c fault p q r e = absurd cc
    all_well false false false a b c fault p q r e = absurd cc

no_fault_here : (before : List Tlv) (rest : List ℕ) (more : List Tlv) (t : Tlv) (after : List ℕ) (fault : TlvFault) → AllByRecursion FitsLengthByte more → rest ≡ spelled more → EachIsOnceAtMost (before ++ more) → Begins rest t after → fault_of before t ≡ Some fault → ⊥
unfolding fault_of
no_fault_here before rest more t after fault short e sound b at_fault =
    let s = starts_with rest t after more short e b in
    no_fault_under (lengths_of t.kind) before t s.others fault refl (subst (λ (x : List Tlv). EachIsOnceAtMost (before ++ x)) s.whole sound) at_fault

pub refused : (bytes : List ℕ) (m : FlowFields) (e : FlowFault) → IsFlowEncoding bytes m → IsFirstFlowFault bytes e → ⊥
refused bytes m e p q =
    let g = goes_on q.before q.rest p.tlvs p.list.short (sym q.front.spelling ∙ p.list.spelling) in
    goes_right e.fault q.before q.rest g.more g.short g.spelling (subst EachIsOnceAtMost g.whole p.sound) q.wrong
  where
    goes_right : (fault : TlvFault) (before : List Tlv) (rest : List ℕ) (more : List Tlv) → AllByRecursion FitsLengthByte more → rest ≡ spelled more → EachIsOnceAtMost (before ++ more) → GoesWrong before rest fault → ⊥
    goes_right (Cut place) before rest more short e sound w = not_stuck rest more short e w.1 w.2
    goes_right (WrongLength subtype) before rest more short e sound w = no_fault_here before rest more w.0 w.1 (WrongLength subtype) short e sound w.2 w.3
    goes_right (Twice subtype) before rest more short e sound w = no_fault_here before rest more w.0 w.1 (Twice subtype) short e sound w.2 w.3
    goes_right (Range subtype) before rest more short e sound w = no_fault_here before rest more w.0 w.1 (Range subtype) short e sound w.2 w.3
    goes_right NoMemory before rest more short e sound w = w
