-- The checks of the sets that an addition or a change asks for.
use Rattle.std.proofs.Common.{◌≡◌, ◌≢◌, ℕ, ◌==◌, true, List, [], ◌∷◌, ◌++◌, ◌⊎◌, Option, Some, None, IfSome, Result, Ok, Err, is_none, option_map, find, refl, sym, ap, ◌∙◌, subst, inl, inr}
use Rattle.trace_report.proofs.TableLemmas.Common.{Contains, MatchResult, AllByRecursion, cond_both, cond-true, cond-false, eqb-true, true≢false, false≢true, All-from_recursion, All-contains, set_type_subtype, set_type_number, known_set_types, set_type_of, FlowFields, Null, Provisioned, Admitted, ProvisionedAndAdmitted, Active, AdmittedAndActive, AllSets, Modem, Kind, Dsa, Dsc, Dsd, Code, RejectRequiredParameterNotPresent, RejectInvalidForContext, RejectAuthorizationFailure, ReplyFields, ParamFields, SetsFields, Refusal, is_within, nothing_fails, asked_of, Flow, AskedSets, Refused, Operator, IsAbout, EncodingAsksFor, EncodingIsRefused, Admits, Activates, IsSetWhere, IsSetType, NamesUnknownClass, AcceptsSetType, GivesNoSet, set_type_code, Check, WrongSetType, NoParameterSet, ActiveNotWithin, AdmittedNotWithin, FlowsFull, NoSfidFree, NoSidFree, ElementsOver, MinislotsOver, Accepted}
use Rattle.lists.specs.Results.{◌>>=◌}
use Rattle.tlv24.specs.declared.set_type.SetType.{SetType}
use Rattle.param_sets.specs.Reading.{parameter_set_of}
use Rattle.operator_model.specs.Asked.{refusal_naming, is_same, has_set_type, set_or_refusal, set_over_class, set_of, is_change, asked_by_type, asked_by_one, asked_in_order, asked_by_two, asked_sets, failing_active, failing_admitted, nested_unless, nested_sets}
use Rattle.trace_report.proofs.TableLemmas.ListLemmas.{contains-here, contains-later, contains_cases, contains-nothing, any_from, none_any, all_more, first-here, first-later}
use Rattle.trace_report.proofs.TableLemmas.TableLemmas.{up_to_flow, up_to_sets, Fails, IsDecided, decided}
use Rattle.trace_report.proofs.TableLemmas.EncodingLemmas.{is_same_from, unclassed, IsShape, said_of, trans, named_refusal, IsReady}

-- ---- the set type of a number

first_found : (n : ℕ) (types : List SetType) → IfSome (find (λ (t : SetType). n == set_type_number t) types) (λ t. n ≡ set_type_number t)
first_found n [] = tt
first_found n (t ∷ types) =
    cond_both (n == set_type_number t) _ _ (λ (o : Option SetType). IfSome o (λ t. n ≡ set_type_number t)) (λ same. eqb-true n (set_type_number t) same) (λ other. first_found n types)

number_of : (n : ℕ) (set_type : SetType) → set_type_of n ≡ Some set_type → n ≡ set_type_number set_type
number_of n set_type is = subst (λ (o : Option SetType). IfSome o (λ t. n ≡ set_type_number t)) is (first_found n known_set_types)

-- ---- one check after the other

-- what a check gives the next one takes over
pub match_then : {A B : Type 0} (P : A → Type 0) (R : B → Type 0) (Q : ReplyFields → Type 0) (r : Result A ReplyFields) (f : A → Result B ReplyFields)
    → MatchResult r P Q → ((x : A) → P x → MatchResult (f x) R Q) → MatchResult (r >>= f) R Q
match_then P R Q (Ok x) f h next = next x h
match_then P R Q (Err reply) f h next = h

-- ---- the set of a part of the encodings

module _ (op : Operator) (P : FlowFields → Type 0) where
  -- of P's encodings there is one, so there is one set
  pub one_set : (es : List FlowFields) → ((a b : FlowFields) → Contains es a → Contains es b → P a → P b → a ≡ b)
      → (x y : Option ParamFields) → IsSetWhere P op.consts es x → IsSetWhere P op.consts es y → x ≡ y
  one_set es agree None None h k = refl
  one_set es agree None (Some y) h k = absurd (All-contains (λ (e : FlowFields). ¬ P e) es k.1 h (k.0, k.2, k.3) k.4.0)
  one_set es agree (Some x) None h k = absurd (All-contains (λ (e : FlowFields). ¬ P e) es h.1 k (h.0, h.2, h.3) h.4.0)
  one_set es agree (Some x) (Some y) h k =
      let same : h.1 ≡ k.1 = agree h.1 k.1 (h.0, h.2, h.3) (k.0, k.2, k.3) h.4.0 k.4.0 in
      let left : EncodingAsksFor op.consts k.1 x = subst (λ (e : FlowFields). EncodingAsksFor op.consts e x) same h.4.1 in
      let right : EncodingAsksFor op.consts k.1 y = k.4.1 in
      cc

  set_here : (es : List FlowFields) (e : FlowFields) (set : ParamFields) → Contains es e → P e → EncodingAsksFor op.consts e set → IsSetWhere P op.consts es (Some set)
  set_here es e set has holds asks = any_from (λ (x : FlowFields). P x × EncodingAsksFor op.consts x set) es e has (holds, asks)

  none_of_one : (e : FlowFields) → ¬ P e → IsSetWhere P op.consts (e ∷ []) None
  none_of_one e fails = All-from_recursion (λ (x : FlowFields). ¬ P x) (e ∷ []) (fails, tt)

pub only_one : (e a b : FlowFields) → Contains (e ∷ []) a → Contains (e ∷ []) b → a ≡ b
only_one e a b has_a has_b = by (contains_cases e [] a has_a) (contains_cases e [] b has_b)
  where
    by : (e ≡ a) ⊎ Contains [] a → (e ≡ b) ⊎ Contains [] b → a ≡ b
    by (inl x) (inl y) = sym x ∙ y
    by (inl x) (inr y) = absurd (contains-nothing b y)
    by (inr x) c = absurd (contains-nothing a x)

-- of two of which P holds of one alone
pub one_of_two : (P : FlowFields → Type 0) (first second a b : FlowFields) → (P first → P second → ⊥) → Contains (first ∷ second ∷ []) a → Contains (first ∷ second ∷ []) b → P a → P b → a ≡ b
one_of_two P first second a b apart has_a has_b p q = by (two a has_a) (two b has_b)
  where
    two : (e : FlowFields) → Contains (first ∷ second ∷ []) e → (first ≡ e) ⊎ (second ≡ e)
    two e has = more (contains_cases first (second ∷ []) e has)
      where
        last : (second ≡ e) ⊎ Contains [] e → (first ≡ e) ⊎ (second ≡ e)
        last (inl same) = inr same
        last (inr none) = absurd (contains-nothing e none)

        more : (first ≡ e) ⊎ Contains (second ∷ []) e → (first ≡ e) ⊎ (second ≡ e)
        more (inl same) = inl same
        more (inr rest) = last (contains_cases second [] e rest)

    by : (first ≡ a) ⊎ (second ≡ a) → (first ≡ b) ⊎ (second ≡ b) → a ≡ b
    by (inl x) (inl y) = sym x ∙ y
    by (inr x) (inr y) = sym x ∙ y
    by (inl x) (inr y) = absurd (apart (subst P (sym x) p) (subst P (sym y) q))
    by (inr x) (inl y) = absurd (apart (subst P (sym y) q) (subst P (sym x) p))

-- of two encodings, one for each set, just one admits, and just one activates
pub not_both_admit : (a b : FlowFields) → IsShape (a ∷ b ∷ []) → Admits a → Admits b → ⊥
not_both_admit a b (inl is) p (inl q) = cc (is.1)
not_both_admit a b (inl is) p (inr q) = cc (is.1)
not_both_admit a b (inr is) (inl p) q = cc (is.0)
not_both_admit a b (inr is) (inr p) q = cc (is.0)

pub not_both_activate : (a b : FlowFields) → IsShape (a ∷ b ∷ []) → Activates a → Activates b → ⊥
not_both_activate a b (inl is) (inl p) q = cc (is.0)
not_both_activate a b (inl is) (inr p) q = cc (is.0)
not_both_activate a b (inr is) p (inl q) = cc (is.1)
not_both_activate a b (inr is) p (inr q) = cc (is.1)

-- ---- the checks

module _ (op : Operator) (modem : Modem) (kind : Kind) (tid : ℕ) (not_dsd : kind ≢ Dsd) where
  abbrev Failing : List FlowFields → Check → Type 0
  Failing es check = Fails op modem (said_of op modem kind tid not_dsd es) check

  abbrev Decided : List FlowFields → ReplyFields → Type 0
  Decided es reply = IsDecided op modem (said_of op modem kind tid not_dsd es) (Refused reply)

  abbrev naming_refusal : Code → FlowFields → ℕ → ReplyFields
  naming_refusal code e subtype = refusal_naming (trans op modem kind tid not_dsd) code e subtype

  -- the set of an encoding, or why it has none
  abbrev IsNoSet : FlowFields → ReplyFields → Type 0
  IsNoSet e reply = (r : Refusal) × EncodingIsRefused op.consts e r × (reply ≡ naming_refusal r.code e r.subtype)

  set-view : (e : FlowFields) → ¬ NamesUnknownClass op.consts.classes e → MatchResult (set_of (trans op modem kind tid not_dsd) op.consts e) (EncodingAsksFor op.consts e) (IsNoSet e)
  unfolding set_of
  set-view e known = over (asked_of op.consts.classes e) refl
    where
      unless : (asked : FlowFields) → asked_of op.consts.classes e ≡ Some asked → (r : Result ParamFields Refusal) → parameter_set_of asked op.consts.units ≡ r
          → MatchResult (set_or_refusal (trans op modem kind tid not_dsd) e r) (EncodingAsksFor op.consts e) (IsNoSet e)
      unless asked is (Ok set) was =
          ap (λ (o : Option FlowFields). option_map (λ a. parameter_set_of a op.consts.units) o) is ∙ ap (λ (r : Result ParamFields Refusal). Some r) was
      unless asked is (Err r) was =
          (r, ap (λ (o : Option FlowFields). option_map (λ a. parameter_set_of a op.consts.units) o) is ∙ ap (λ (r : Result ParamFields Refusal). Some r) was, refl)

      over : (o : Option FlowFields) → asked_of op.consts.classes e ≡ o
          → MatchResult (set_over_class (trans op modem kind tid not_dsd) op.consts.units e o) (EncodingAsksFor op.consts e) (IsNoSet e)
      over None is = absurd (known (unclassed op.consts.classes e (ap (λ (o : Option FlowFields). is_none o) is)))
      over (Some asked) is = unless asked is (parameter_set_of asked op.consts.units) refl

  -- the sets that are asked for, and that none of the checks up to them holds
  pub record AreAsked (es : List FlowFields) (asked : AskedSets) : Type 0 where
    pub admitted : IsSetWhere Admits op.consts es asked.admitted
    pub active : IsSetWhere Activates op.consts es asked.active
    pub only_admitted : (set : Option ParamFields) → IsSetWhere Admits op.consts es set → set ≡ asked.admitted
    pub only_active : (set : Option ParamFields) → IsSetWhere Activates op.consts es set → set ≡ asked.active
    -- only a change admits none, and then makes none active
    pub null : asked.admitted ≡ None → (kind ≡ Dsc) × (asked.active ≡ None)
    pub none : AllByRecursion (Failing es) (up_to_flow ++ WrongSetType ∷ NoParameterSet ∷ [])

  abbrev View : List FlowFields → Result AskedSets ReplyFields → Type 0
  View es r = MatchResult r (AreAsked es) (Decided es)

  -- ---- one encoding

  module _ (e : FlowFields) (known : ¬ NamesUnknownClass op.consts.classes e) (none : AllByRecursion (Failing (e ∷ [])) up_to_flow) where
    wrong_type : ¬ AcceptsSetType kind e.set_type → (code : Code) → code ≡ set_type_code e.set_type → Decided (e ∷ []) (naming_refusal code e 6)
    wrong_type untaken code is =
        decided op modem (said_of op modem kind tid not_dsd (e ∷ [])) up_to_flow WrongSetType
        (NoParameterSet ∷ ActiveNotWithin ∷ AdmittedNotWithin ∷ FlowsFull ∷ NoSfidFree ∷ NoSidFree ∷ ElementsOver ∷ MinislotsOver ∷ Accepted ∷ [])
        _ refl none (e, refl, untaken)
        (e, refl, ap (λ (c : Code). Refused (naming_refusal c e 6)) is ∙ named_refusal op modem kind tid not_dsd (e ∷ []) (set_type_code e.set_type) e 6)

    right_type : AcceptsSetType kind e.set_type → AllByRecursion (Failing (e ∷ [])) (up_to_flow ++ WrongSetType ∷ [])
    right_type taken = all_more (Failing (e ∷ [])) up_to_flow WrongSetType none
        (λ h. let same : e ≡ h.0 = cc in h.2 (subst (λ (x : FlowFields). AcceptsSetType kind x.set_type) same taken))

    no_set : AcceptsSetType kind e.set_type → ¬ IsSetType Null e.set_type → (reply : ReplyFields) → IsNoSet e reply → Decided (e ∷ []) reply
    no_set taken not_null reply is =
        decided op modem (said_of op modem kind tid not_dsd (e ∷ [])) (up_to_flow ++ WrongSetType ∷ []) NoParameterSet
        (ActiveNotWithin ∷ AdmittedNotWithin ∷ FlowsFull ∷ NoSfidFree ∷ NoSidFree ∷ ElementsOver ∷ MinislotsOver ∷ Accepted ∷ [])
        _ refl (right_type taken) (any_from (GivesNoSet op.consts) (e ∷ []) e (contains-here e []) (not_null, is.0, is.1)) (
          e,
          is.0,
          first-here (GivesNoSet op.consts) e [] (not_null, is.0, is.1),
          is.1,
          ap (λ (r : ReplyFields). Refused r) is.2 ∙ named_refusal op modem kind tid not_dsd (e ∷ []) is.0.code e is.0.subtype,
        )

    some_set : AcceptsSetType kind e.set_type → (set : ParamFields) → EncodingAsksFor op.consts e set → AllByRecursion (Failing (e ∷ [])) (up_to_flow ++ WrongSetType ∷ NoParameterSet ∷ [])
    some_set taken set asks = all_more (Failing (e ∷ [])) (up_to_flow ++ WrongSetType ∷ []) NoParameterSet (right_type taken)
        (none_any (GivesNoSet op.consts) (e ∷ []) ((λ h. let refused : EncodingIsRefused op.consts e h.1 = h.2 in cc), tt))

    admits_one : IsSetType Admitted e.set_type → View (e ∷ []) (set_of (trans op modem kind tid not_dsd) op.consts e >>= λ set. Ok (record { admitted = Some set; active = None }))
    admits_one is = by (set_of (trans op modem kind tid not_dsd) op.consts e) (set-view e known)
      where
        idle : ¬ Activates e
        idle (inl other) = cc
        idle (inr other) = cc

        by : (r : Result ParamFields ReplyFields) → MatchResult r (EncodingAsksFor op.consts e) (IsNoSet e) → View (e ∷ []) (r >>= λ set. Ok (record { admitted = Some set; active = None }))
        by (Err reply) h = no_set (inl is) (λ other. cc) reply h
        by (Ok set) asks =
            let admitted : IsSetWhere Admits op.consts (e ∷ []) (Some set) = set_here op Admits (e ∷ []) e set (contains-here e []) (inl is) asks in
            let active : IsSetWhere Activates op.consts (e ∷ []) None = none_of_one op Activates e idle in
            record {
              admitted = admitted;
              active = active;
              only_admitted = λ other h. one_set op Admits (e ∷ []) (λ a b has_a has_b p q. only_one e a b has_a has_b) other (Some set) h admitted;
              only_active = λ other h. one_set op Activates (e ∷ []) (λ a b has_a has_b p q. only_one e a b has_a has_b) other None h active;
              null = λ h. cc;
              none = some_set (inl is) set asks;
            }

    activates_one : IsSetType AdmittedAndActive e.set_type → View (e ∷ []) (set_of (trans op modem kind tid not_dsd) op.consts e >>= λ set. Ok (record { admitted = Some set; active = Some set }))
    activates_one is = by (set_of (trans op modem kind tid not_dsd) op.consts e) (set-view e known)
      where
        by : (r : Result ParamFields ReplyFields) → MatchResult r (EncodingAsksFor op.consts e) (IsNoSet e) → View (e ∷ []) (r >>= λ set. Ok (record { admitted = Some set; active = Some set }))
        by (Err reply) h = no_set (inr (inl is)) (λ other. cc) reply h
        by (Ok set) asks =
            let admitted : IsSetWhere Admits op.consts (e ∷ []) (Some set) = set_here op Admits (e ∷ []) e set (contains-here e []) (inr is) asks in
            let active : IsSetWhere Activates op.consts (e ∷ []) (Some set) = set_here op Activates (e ∷ []) e set (contains-here e []) (inr is) asks in
            record {
              admitted = admitted;
              active = active;
              only_admitted = λ other h. one_set op Admits (e ∷ []) (λ a b has_a has_b p q. only_one e a b has_a has_b) other (Some set) h admitted;
              only_active = λ other h. one_set op Activates (e ∷ []) (λ a b has_a has_b p q. only_one e a b has_a has_b) other (Some set) h active;
              null = λ h. cc;
              none = some_set (inr (inl is)) set asks;
            }

    clears_one : IsSetType Null e.set_type → kind ≡ Dsc → AreAsked (e ∷ []) (record { admitted = None; active = None })
    clears_one is dsc =
        let admitted : IsSetWhere Admits op.consts (e ∷ []) None = none_of_one op Admits e no_admission in
        let active : IsSetWhere Activates op.consts (e ∷ []) None = none_of_one op Activates e no_activation in
        record {
          admitted = admitted;
          active = active;
          only_admitted = λ other h. one_set op Admits (e ∷ []) (λ a b has_a has_b p q. only_one e a b has_a has_b) other None h admitted;
          only_active = λ other h. one_set op Activates (e ∷ []) (λ a b has_a has_b p q. only_one e a b has_a has_b) other None h active;
          null = λ h. (dsc, refl);
          none = all_more (Failing (e ∷ [])) (up_to_flow ++ WrongSetType ∷ []) NoParameterSet (right_type (inr (inr (dsc, is))))
              (none_any (GivesNoSet op.consts) (e ∷ []) ((λ h. h.0 is), tt));
        }
      where
        no_admission : ¬ Admits e
        no_admission (inl other) = cc
        no_admission (inr other) = cc

        no_activation : ¬ Activates e
        no_activation (inl other) = cc
        no_activation (inr other) = cc

    one-view : View (e ∷ []) (asked_by_one (trans op modem kind tid not_dsd) op.consts e e.set_type)
    one-view = go e.set_type refl
      where
        untaken : (n : ℕ) (set_type : Option SetType) → e.set_type ≡ Some n → set_type_of n ≡ set_type → set_type ≢ Some Admitted → set_type ≢ Some AdmittedAndActive → (kind ≡ Dsc → set_type ≢ Some Null)
            → ¬ AcceptsSetType kind e.set_type
        untaken n set_type is found a b c (inl admitted) = let same : n ≡ set_type_number Admitted = cc in a (sym found ∙ ap set_type_of same)
        untaken n set_type is found a b c (inr (inl both)) = let same : n ≡ set_type_number AdmittedAndActive = cc in b (sym found ∙ ap set_type_of same)
        untaken n set_type is found a b c (inr (inr null)) = let same : n ≡ set_type_number Null = cc (null.1) in c null.0 (sym found ∙ ap set_type_of same)

        wrong : (n : ℕ) → e.set_type ≡ Some n → ¬ AcceptsSetType kind e.set_type → Decided (e ∷ []) (refusal_naming (trans op modem kind tid not_dsd) RejectInvalidForContext e set_type_subtype)
        wrong n is not_taken = wrong_type not_taken RejectInvalidForContext (ap set_type_code (sym is))

        changes : (k : Kind) → is_change k ≡ true → k ≡ Dsc
        changes Dsa is = absurd (false≢true is)
        changes Dsc is = refl
        changes Dsd is = absurd (false≢true is)

        absent : e.set_type ≡ None → ¬ AcceptsSetType kind e.set_type
        absent is (inl admitted) = cc
        absent is (inr (inl both)) = cc
        absent is (inr (inr null)) = cc (null.1)

        of_number : (n : ℕ) (set_type : SetType) → e.set_type ≡ Some n → set_type_of n ≡ Some set_type → IsSetType set_type e.set_type
        of_number n set_type is found = is ∙ ap (λ (k : ℕ). Some k) (number_of n set_type found)

        typed : (n : ℕ) (set_type : Option SetType) → e.set_type ≡ Some n → set_type_of n ≡ set_type → View (e ∷ []) (asked_by_type (trans op modem kind tid not_dsd) op.consts e set_type)
        typed n (Some Admitted) is found = admits_one (of_number n Admitted is found)
        typed n (Some AdmittedAndActive) is found = activates_one (of_number n AdmittedAndActive is found)
        typed n (Some Null) is found =
            cond_both (is_change kind) _ _ (View (e ∷ [])) (λ change. clears_one (of_number n Null is found) (changes kind change))
            (λ no_change. wrong n is (untaken n (Some Null) is found (λ h. cc) (λ h. cc) (λ dsc h. true≢false (sym (ap is_change dsc) ∙ no_change))))
        typed n (Some Provisioned) is found = wrong n is (untaken n (Some Provisioned) is found (λ h. cc) (λ h. cc) (λ dsc h. cc))
        typed n (Some ProvisionedAndAdmitted) is found = wrong n is (untaken n (Some ProvisionedAndAdmitted) is found (λ h. cc) (λ h. cc) (λ dsc h. cc))
        typed n (Some Active) is found = wrong n is (untaken n (Some Active) is found (λ h. cc) (λ h. cc) (λ dsc h. cc))
        typed n (Some AllSets) is found = wrong n is (untaken n (Some AllSets) is found (λ h. cc) (λ h. cc) (λ dsc h. cc))
        typed n None is found = wrong n is (untaken n None is found (λ h. cc) (λ h. cc) (λ dsc h. cc))

        go : (o : Option ℕ) → e.set_type ≡ o → View (e ∷ []) (asked_by_one (trans op modem kind tid not_dsd) op.consts e o)
        go None is = wrong_type (absent is) RejectRequiredParameterNotPresent (ap set_type_code (sym is))
        go (Some n) is = typed n (set_type_of n) is refl

  -- ---- two encodings

  module _ (a b : FlowFields) (known_a : ¬ NamesUnknownClass op.consts.classes a) (known_b : ¬ NamesUnknownClass op.consts.classes b)
      (shape : IsShape (a ∷ b ∷ [])) (none : AllByRecursion (Failing (a ∷ b ∷ [])) up_to_flow) where
    abbrev both : List FlowFields
    both = a ∷ b ∷ []

    two_types : AllByRecursion (Failing both) (up_to_flow ++ WrongSetType ∷ [])
    two_types = all_more (Failing both) up_to_flow WrongSetType none (λ h. cc (h.1))

    first_no_set : ¬ IsSetType Null a.set_type → (reply : ReplyFields) → IsNoSet a reply → Decided both reply
    first_no_set not_null reply is =
        decided op modem (said_of op modem kind tid not_dsd both) (up_to_flow ++ WrongSetType ∷ []) NoParameterSet
        (ActiveNotWithin ∷ AdmittedNotWithin ∷ FlowsFull ∷ NoSfidFree ∷ NoSidFree ∷ ElementsOver ∷ MinislotsOver ∷ Accepted ∷ [])
        _ refl two_types (any_from (GivesNoSet op.consts) both a (contains-here a (b ∷ [])) (not_null, is.0, is.1)) (
          a,
          is.0,
          first-here (GivesNoSet op.consts) a (b ∷ []) (not_null, is.0, is.1),
          is.1,
          ap (λ (r : ReplyFields). Refused r) is.2 ∙ named_refusal op modem kind tid not_dsd both is.0.code a is.0.subtype,
        )

    gives_a_set : (e : FlowFields) (set : ParamFields) → EncodingAsksFor op.consts e set → ¬ GivesNoSet op.consts e
    gives_a_set e set asks h = let refused : EncodingIsRefused op.consts e h.1 = h.2 in cc

    second_no_set : ¬ IsSetType Null b.set_type → (set : ParamFields) → EncodingAsksFor op.consts a set → (reply : ReplyFields) → IsNoSet b reply → Decided both reply
    second_no_set not_null set asks reply is =
        decided op modem (said_of op modem kind tid not_dsd both) (up_to_flow ++ WrongSetType ∷ []) NoParameterSet
        (ActiveNotWithin ∷ AdmittedNotWithin ∷ FlowsFull ∷ NoSfidFree ∷ NoSidFree ∷ ElementsOver ∷ MinislotsOver ∷ Accepted ∷ [])
        _ refl two_types (any_from (GivesNoSet op.consts) both b (contains-later a (b ∷ []) b (contains-here b [])) (not_null, is.0, is.1)) (
          b,
          is.0,
          first-later (GivesNoSet op.consts) a (b ∷ []) b (gives_a_set a set asks) (first-here (GivesNoSet op.consts) b [] (not_null, is.0, is.1)),
          is.1,
          ap (λ (r : ReplyFields). Refused r) is.2 ∙ named_refusal op modem kind tid not_dsd both is.0.code b is.0.subtype,
        )

    two_sets : (x y : ParamFields) → EncodingAsksFor op.consts a x → EncodingAsksFor op.consts b y → AllByRecursion (Failing both) (up_to_flow ++ WrongSetType ∷ NoParameterSet ∷ [])
    two_sets x y asks_x asks_y = all_more (Failing both) (up_to_flow ++ WrongSetType ∷ []) NoParameterSet two_types
        (none_any (GivesNoSet op.consts) both (gives_a_set a x asks_x, (gives_a_set b y asks_y, tt)))

    has_a : Contains both a
    has_a = contains-here a (b ∷ [])

    has_b : Contains both b
    has_b = contains-later a (b ∷ []) b (contains-here b [])

    -- the one admits this set, and the other activates that one
    two_asked : (admitted active : ParamFields) (one other : FlowFields) → Contains both one → Contains both other → Admits one → Activates other
        → EncodingAsksFor op.consts one admitted → EncodingAsksFor op.consts other active → AllByRecursion (Failing both) (up_to_flow ++ WrongSetType ∷ NoParameterSet ∷ [])
        → AreAsked both (record { admitted = Some admitted; active = Some active })
    two_asked admitted active one other has_one has_other admits activates asks_admitted asks_active rest =
        let first : IsSetWhere Admits op.consts both (Some admitted) = set_here op Admits both one admitted has_one admits asks_admitted in
        let second : IsSetWhere Activates op.consts both (Some active) = set_here op Activates both other active has_other activates asks_active in
        record {
          admitted = first;
          active = second;
          only_admitted = λ x h. one_set op Admits both (λ c d has_c has_d p q. one_of_two Admits a b c d (not_both_admit a b shape) has_c has_d p q) x (Some admitted) h first;
          only_active = λ x h. one_set op Activates both (λ c d has_c has_d p q. one_of_two Activates a b c d (not_both_activate a b shape) has_c has_d p q) x (Some active) h second;
          null = λ h. cc;
          none = rest;
        }

    ordered : (x y : ParamFields) → EncodingAsksFor op.consts a x → EncodingAsksFor op.consts b y → IsShape both → AreAsked both (asked_in_order a x y)
    ordered x y asks_x asks_y (inl is) =
        subst (AreAsked both) (sym (cond-true (has_set_type Admitted a) _ _ (is_same_from a.set_type (Some (set_type_number Admitted)) is.0)))
        (two_asked x y a b has_a has_b (inl is.0) (inl is.1) asks_x asks_y (two_sets x y asks_x asks_y))
    ordered x y asks_x asks_y (inr is) =
        subst (AreAsked both) (sym (cond-false (has_set_type Admitted a) _ _ (ap (λ (o : Option ℕ). is_same o (Some (set_type_number Admitted))) is.0)))
        (two_asked y x b a has_b has_a (inl is.1) (inl is.0) asks_y asks_x (two_sets x y asks_x asks_y))

    not_null_a : ¬ IsSetType Null a.set_type
    not_null_a null = by shape
      where
        by : IsShape both → ⊥
        by (inl is) = cc (is.0)
        by (inr is) = cc (is.0)

    not_null_b : ¬ IsSetType Null b.set_type
    not_null_b null = by shape
      where
        by : IsShape both → ⊥
        by (inl is) = cc (is.1)
        by (inr is) = cc (is.1)

    two-view : View both (asked_by_two (trans op modem kind tid not_dsd) op.consts a b)
    two-view = by (set_of (trans op modem kind tid not_dsd) op.consts a) (set-view a known_a)
      where
        then : (x : ParamFields) → EncodingAsksFor op.consts a x → (r : Result ParamFields ReplyFields) → MatchResult r (EncodingAsksFor op.consts b) (IsNoSet b) → View both (r >>= λ y. Ok (asked_in_order a x y))
        then x asks_x (Err reply) h = second_no_set not_null_b x asks_x reply h
        then x asks_x (Ok y) asks_y = ordered x y asks_x asks_y shape

        by : (r : Result ParamFields ReplyFields) → MatchResult r (EncodingAsksFor op.consts a) (IsNoSet a)
            → View both (r >>= λ x. set_of (trans op modem kind tid not_dsd) op.consts b >>= λ y. Ok (asked_in_order a x y))
        by (Err reply) h = first_no_set not_null_a reply h
        by (Ok x) asks_x = then x asks_x (set_of (trans op modem kind tid not_dsd) op.consts b) (set-view b known_b)

  -- ---- the sets that are asked for

  pub asked-view : (es : List FlowFields) (first : FlowFields) → IsReady op modem kind tid not_dsd es first → AllByRecursion (Failing es) up_to_flow
      → View es (asked_sets (trans op modem kind tid not_dsd) op.consts es)
  unfolding asked_sets
  asked-view [] first ready none = absurd ready.shape
  asked-view (e ∷ []) first ready none = one-view e ready.classed.0 none
  asked-view (a ∷ b ∷ []) first ready none = two-view a b ready.classed.0 ready.classed.1.0 ready.shape none
  asked-view (a ∷ b ∷ c ∷ more) first ready none = absurd ready.shape

  -- ---- active within admitted, admitted within provisioned

  -- the provisioned set of the flow that stands, if one does
  abbrev pub provisioned_of : Option Flow → Option ParamFields
  provisioned_of None = None
  provisioned_of (Some flow) = flow.sets.provisioned

  module _ (es : List FlowFields) (first : FlowFields) (has : Contains es first) (asked : AskedSets) (is : AreAsked es asked)
      (about : Option Flow) (is_about : IsAbout op (said_of op modem kind tid not_dsd es) about)
      (only_about : (o : Option Flow) → IsAbout op (said_of op modem kind tid not_dsd es) o → o ≡ about) where
    -- the sets that wait, and that none of the checks of the sets holds
    pub record AreNestedSets (sets : SetsFields) : Type 0 where
      pub are : sets ≡ record { provisioned = provisioned_of about; admitted = asked.admitted; active = asked.active }
      pub none : AllByRecursion (Failing es) up_to_sets

    abbrev Nested : Result SetsFields ReplyFields → Type 0
    Nested r = MatchResult r AreNestedSets (Decided es)

    active_fails : (subtype : ℕ) → failing_active asked.active asked.admitted ≡ Some subtype → Decided es (naming_refusal RejectInvalidForContext first subtype)
    active_fails subtype fails = by asked.active asked.admitted refl refl fails
      where
        by : (x y : Option ParamFields) → asked.active ≡ x → asked.admitted ≡ y → failing_active x y ≡ Some subtype → Decided es (naming_refusal RejectInvalidForContext first subtype)
        by None y is_x is_y fails = cc
        by (Some x) None is_x is_y fails = let none = (is.null is_y).1 in cc
        by (Some x) (Some y) is_x is_y fails =
            let active : IsSetWhere Activates op.consts es (Some x) = subst (IsSetWhere Activates op.consts es) is_x is.active in
            let admitted : IsSetWhere Admits op.consts es (Some y) = subst (IsSetWhere Admits op.consts es) is_y is.admitted in
            decided op modem (said_of op modem kind tid not_dsd es) (up_to_flow ++ WrongSetType ∷ NoParameterSet ∷ []) ActiveNotWithin
            (AdmittedNotWithin ∷ FlowsFull ∷ NoSfidFree ∷ NoSidFree ∷ ElementsOver ∷ MinislotsOver ∷ Accepted ∷ [])
            _ refl is.none (x, y, active, admitted, λ within. let nothing = nothing_fails x y within in cc)
            (first, x, y, subtype, has, active, admitted, fails, named_refusal op modem kind tid not_dsd es RejectInvalidForContext first subtype)

    active_holds : failing_active asked.active asked.admitted ≡ None → AllByRecursion (Failing es) (up_to_flow ++ WrongSetType ∷ NoParameterSet ∷ ActiveNotWithin ∷ [])
    active_holds fails = all_more (Failing es) (up_to_flow ++ WrongSetType ∷ NoParameterSet ∷ []) ActiveNotWithin is.none
        (λ h. h.4 (is_within h.0 h.1 (ap (λ (x : Option ParamFields). failing_active x (Some h.1)) (is.only_active (Some h.0) h.2)
        ∙ (ap (λ (y : Option ParamFields). failing_active asked.active y) (is.only_admitted (Some h.1) h.3) ∙ fails))))

    admitted_fails : (subtype : ℕ) → failing_active asked.active asked.admitted ≡ None → failing_admitted asked.admitted (provisioned_of about) ≡ Some subtype
        → Decided es (naming_refusal RejectAuthorizationFailure first subtype)
    admitted_fails subtype within fails = by asked.admitted about refl refl fails
      where
        to : (flow : Flow) → about ≡ Some flow → (y : ParamFields) → asked.admitted ≡ Some y → (z : Option ParamFields) → flow.sets.provisioned ≡ z
            → failing_admitted (Some y) z ≡ Some subtype → Decided es (naming_refusal RejectAuthorizationFailure first subtype)
        to flow is_flow y is_y None is_z fails = cc
        to flow is_flow y is_y (Some z) is_z fails =
            let there : IsAbout op (said_of op modem kind tid not_dsd es) (Some flow) = subst (IsAbout op (said_of op modem kind tid not_dsd es)) is_flow is_about in
            let admitted : IsSetWhere Admits op.consts es (Some y) = subst (IsSetWhere Admits op.consts es) is_y is.admitted in
            decided op modem (said_of op modem kind tid not_dsd es) (up_to_flow ++ WrongSetType ∷ NoParameterSet ∷ ActiveNotWithin ∷ []) AdmittedNotWithin
            (FlowsFull ∷ NoSfidFree ∷ NoSidFree ∷ ElementsOver ∷ MinislotsOver ∷ Accepted ∷ [])
            _ refl (active_holds within) (flow, y, z, there, admitted, is_z, λ inside. let nothing = nothing_fails y z inside in cc)
            (first, flow, y, z, subtype, has, there, admitted, is_z, fails, named_refusal op modem kind tid not_dsd es RejectAuthorizationFailure first subtype)

        by : (y : Option ParamFields) (o : Option Flow) → asked.admitted ≡ y → about ≡ o → failing_admitted y (provisioned_of o) ≡ Some subtype
            → Decided es (naming_refusal RejectAuthorizationFailure first subtype)
        by None o is_y is_o fails = cc
        by (Some y) None is_y is_o fails = cc
        by (Some y) (Some flow) is_y is_o fails = to flow is_o y is_y flow.sets.provisioned refl fails

    admitted_holds : failing_active asked.active asked.admitted ≡ None → failing_admitted asked.admitted (provisioned_of about) ≡ None → AllByRecursion (Failing es) up_to_sets
    admitted_holds within fails = all_more (Failing es) (up_to_flow ++ WrongSetType ∷ NoParameterSet ∷ ActiveNotWithin ∷ []) AdmittedNotWithin (active_holds within)
        (λ h. let set : Some h.1 ≡ asked.admitted = is.only_admitted (Some h.1) h.4 in
        let flow : Some h.0 ≡ about = only_about (Some h.0) h.3 in
        h.6 (is_within h.1 h.2 (ap (λ (z : Option ParamFields). failing_admitted (Some h.1) z) (sym h.5)
        ∙ (ap (λ (o : Option Flow). failing_admitted (Some h.1) (provisioned_of o)) flow
        ∙ (ap (λ (y : Option ParamFields). failing_admitted y (provisioned_of about)) set ∙ fails)))))

    pub nested-view : Nested (nested_sets (trans op modem kind tid not_dsd) first (provisioned_of about) asked)
    unfolding nested_sets
    nested-view = by (failing_active asked.active asked.admitted) (failing_admitted asked.admitted (provisioned_of about)) refl refl
      where
        by : (x y : Option ℕ) → failing_active asked.active asked.admitted ≡ x → failing_admitted asked.admitted (provisioned_of about) ≡ y
            → Nested (nested_unless (trans op modem kind tid not_dsd) first (provisioned_of about) asked x y)
        by (Some subtype) y is_x is_y = active_fails subtype is_x
        by None (Some subtype) is_x is_y = admitted_fails subtype is_x is_y
        by None None is_x is_y = record { are = refl; none = admitted_holds is_x is_y }
