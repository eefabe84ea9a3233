-- The checks of the encodings of an addition or a change: their classes, their identifiers, and which stand together.
use Rattle.std.proofs.Common.{◌≡◌, ◌≢◌, ℕ, ◌<◌, ◌&&◌, Bool, not, true, false, List, [], ◌∷◌, ◌⊎◌, length, map, Option, Some, None, Result, is_none, option_map, refl, sym, ap, ◌∙◌, subst, arith, inl, inr}
use Rattle.trace_report.proofs.TableLemmas.Common.{Contains, find, MatchOption, MatchResult, AllByRecursion, list_all, cond_both, and_parts, and_from, or_cases, or_left, or_right, eqb-true, eq-eqb, true≢false, false≢true, All-from_recursion, All-contains, bytes_eq-Decides, set_type_number, FlowFields, Admitted, Active, Modem, Kind, Dsa, Dsc, Dsd, Code, RejectPermanent, RejectRequiredParameterNotPresent, FlowId, Errored, ReplyFields, is_class_named, asked_over, Refused, Operator, IsFirst, Said, identifier, told_identifier, identifier_subtype, IsSetType, NamesUnknownClass, AreAdmittedAndActive, refusal_verdict, naming, UnknownClass, NoEncoding, IdentifiersDiffer, NotTogether, NoIdentifier, UnknownFlow, NotOwner, FlowWaits, WrongSetType, NoParameterSet, ActiveNotWithin, AdmittedNotWithin, FlowsFull, NoSfidFree, NoSidFree, ElementsOver, MinislotsOver, Accepted}
use Rattle.dsx_messages.specs.declared.reply.FlowId.TheVariants as ids
use Rattle.param_sets.specs.Overridden.{overridden_of}
use Rattle.plant.specs.declared.class_table.Class.{Class}
use Rattle.operator_model.specs.declared.verdict.Transaction.{Transaction}
use Rattle.operator_model.specs.Asked.{transaction, id_of, refusal_naming, stated_or_refusal, id_number, is_same, has_set_type, stand_together, first_of, is_unclassed, first_unless, first_encoding}
use Rattle.trace_report.proofs.TableLemmas.ListLemmas.{contains-here, contains-later, contains_cases, any_from, none_any, all_more, find-first, first_contains, all_pass, one_fails}
use Rattle.trace_report.proofs.TableLemmas.TableLemmas.{of_shape, of_encodings, Fails, IsDecided, decided}

-- ---- identifiers

pub same_number : (kind : Kind) (e : FlowFields) → id_number kind e ≡ identifier kind e
same_number Dsa e = refl
same_number Dsc e = refl
same_number Dsd e = refl

pub same_id : (kind : Kind) (e : FlowFields) → id_of kind e ≡ told_identifier kind e
same_id Dsa e = refl
same_id Dsc e = refl
same_id Dsd e = refl

no_id : (kind : Kind) (e : FlowFields) → identifier kind e ≡ None → id_of kind e ≡ None
no_id Dsa e is = ap (option_map ids.Reference) is
no_id Dsc e is = ap (option_map ids.Sfid) is
no_id Dsd e is = refl

pub is_same_true : (a b : Option ℕ) → is_same a b ≡ true → a ≡ b
is_same_true None None is = refl
is_same_true None (Some b) is = absurd (false≢true is)
is_same_true (Some a) None is = absurd (false≢true is)
is_same_true (Some a) (Some b) is = ap (λ (n : ℕ). Some n) (eqb-true a b is)

is_same_itself : (a : Option ℕ) → is_same a a ≡ true
is_same_itself None = refl
is_same_itself (Some a) = eq-eqb a a refl

pub is_same_from : (a b : Option ℕ) → a ≡ b → is_same a b ≡ true
is_same_from a b is = subst (λ (c : Option ℕ). is_same a c ≡ true) is (is_same_itself a)

-- ---- classes

module _ (classes : List Class) where
  named_so : (name : List ℕ) (class : Class) → is_class_named name class ≡ true → class.name ≡ name
  named_so name class is = (bytes_eq-Decides class.name name).0 is

  not_named_so : (name : List ℕ) (class : Class) → is_class_named name class ≡ false → class.name ≢ name
  not_named_so name class is same = true≢false (sym ((bytes_eq-Decides class.name name).1 same) ∙ is)

  named-first : (name : List ℕ) → MatchOption (find (is_class_named name) classes) (AllByRecursion (λ class. ¬ (class.name ≡ name)) classes) (IsFirst (λ class. class.name ≡ name) classes)
  named-first name = find-first (λ (class : Class). class.name ≡ name) (is_class_named name) (named_so name) (not_named_so name) classes

  -- the class of a name, or none
  abbrev over : FlowFields → Option Class → Option FlowFields
  over e c = option_map (λ class. overridden_of class e) (option_map (λ class. class.encoding) c)

  pub unclassed : (e : FlowFields) → is_unclassed classes e ≡ true → NamesUnknownClass classes e
  unclassed e is = go e.class_name refl is
    where
      go : (o : Option (List ℕ)) → e.class_name ≡ o → is_none (asked_over o e classes) ≡ true → NamesUnknownClass classes e
      go None names is = absurd (false≢true is)
      go (Some name) names is = by (find (is_class_named name) classes) (named-first name) is
        where
          by : (c : Option Class) → MatchOption c (AllByRecursion (λ class. ¬ (class.name ≡ name)) classes) (IsFirst (λ class. class.name ≡ name) classes)
              → is_none (over e c) ≡ true → NamesUnknownClass classes e
          by None none is = (name, names, All-from_recursion (λ (class : Class). ¬ (class.name ≡ name)) classes none)
          by (Some class) first is = absurd (false≢true is)

  pub classed : (e : FlowFields) → is_unclassed classes e ≡ false → ¬ NamesUnknownClass classes e
  classed e is unknown = go e.class_name refl is
    where
      go : (o : Option (List ℕ)) → e.class_name ≡ o → is_none (asked_over o e classes) ≡ false → ⊥
      go None names is = let is_some : e.class_name ≡ Some unknown.0 = unknown.1 in cc
      go (Some name) names is = by (find (is_class_named name) classes) (named-first name) is
        where
          by : (c : Option Class) → MatchOption c (AllByRecursion (λ class. ¬ (class.name ≡ name)) classes) (IsFirst (λ class. class.name ≡ name) classes)
              → is_none (over e c) ≡ false → ⊥
          by None none is = true≢false is
          by (Some class) first is =
              let is_some : e.class_name ≡ Some unknown.0 = unknown.1 in
              let same : name ≡ unknown.0 = cc in
              All-contains (λ (c : Class). c.name ≢ unknown.0) classes class unknown.2 (first_contains (λ (c : Class). c.name ≡ name) classes class first) (first.holds ∙ same)

-- ---- which stand together

-- one alone; or two, one for the admitted set and one for the active set
abbrev pub IsShape : List FlowFields → Type 0
IsShape [] = ⊥
IsShape (e ∷ []) = Unit {0}
IsShape (a ∷ b ∷ []) = (IsSetType Admitted a.set_type × IsSetType Active b.set_type) ⊎ (IsSetType Active a.set_type × IsSetType Admitted b.set_type)
IsShape (a ∷ b ∷ c ∷ more) = ⊥

two_types : (a b : FlowFields) → stand_together (a ∷ b ∷ []) ≡ true → IsShape (a ∷ b ∷ [])
two_types a b is = by (or_cases (has_set_type Admitted a && has_set_type Active b) (has_set_type Active a && has_set_type Admitted b) is)
  where
    by : ((has_set_type Admitted a && has_set_type Active b) ≡ true) ⊎ ((has_set_type Active a && has_set_type Admitted b) ≡ true) → IsShape (a ∷ b ∷ [])
    by (inl h) = let both = and_parts (has_set_type Admitted a) (has_set_type Active b) h in inl (is_same_true a.set_type (Some (set_type_number Admitted)) both.0, is_same_true b.set_type (Some (set_type_number Active)) both.1)
    by (inr h) = let both = and_parts (has_set_type Active a) (has_set_type Admitted b) h in inr (is_same_true a.set_type (Some (set_type_number Active)) both.0, is_same_true b.set_type (Some (set_type_number Admitted)) both.1)

types_two : (a b : FlowFields) → AreAdmittedAndActive (map (λ (e : FlowFields). e.set_type) (a ∷ b ∷ [])) → stand_together (a ∷ b ∷ []) ≡ true
types_two a b (inl is) =
    or_left (has_set_type Admitted a && has_set_type Active b) (has_set_type Active a && has_set_type Admitted b)
    (and_from (has_set_type Admitted a) (has_set_type Active b) (is_same_from a.set_type (Some (set_type_number Admitted)) cc) (is_same_from b.set_type (Some (set_type_number Active)) cc))
types_two a b (inr is) =
    or_right (has_set_type Admitted a && has_set_type Active b) (has_set_type Active a && has_set_type Admitted b)
    (and_from (has_set_type Active a) (has_set_type Admitted b) (is_same_from a.set_type (Some (set_type_number Active)) cc) (is_same_from b.set_type (Some (set_type_number Admitted)) cc))

shape_types : (es : List FlowFields) → IsShape es → 1 < length es → AreAdmittedAndActive (map (λ (e : FlowFields). e.set_type) es)
shape_types [] shape more = absurd shape
shape_types (e ∷ []) shape more = absurd (omega arith)
shape_types (a ∷ b ∷ []) (inl h) more = inl (ap (λ (x : Option ℕ). x ∷ b.set_type ∷ []) h.0 ∙ ap (λ (x : Option ℕ). Some (set_type_number Admitted) ∷ x ∷ []) h.1)
shape_types (a ∷ b ∷ []) (inr h) more = inr (ap (λ (x : Option ℕ). x ∷ b.set_type ∷ []) h.0 ∙ ap (λ (x : Option ℕ). Some (set_type_number Active) ∷ x ∷ []) h.1)
shape_types (a ∷ b ∷ c ∷ rest) shape more = absurd shape

pub together_shape : (es : List FlowFields) → stand_together es ≡ true → IsShape es
together_shape [] is = absurd (false≢true is)
together_shape (e ∷ []) is = tt
together_shape (a ∷ b ∷ []) is = two_types a b is
together_shape (a ∷ b ∷ c ∷ rest) is = absurd (false≢true is)

pub apart_more : (first : FlowFields) (others : List FlowFields) → stand_together (first ∷ others) ≡ false
    → (1 < length (first ∷ others)) × (¬ AreAdmittedAndActive (map (λ (e : FlowFields). e.set_type) (first ∷ others)))
apart_more first [] is = absurd (true≢false is)
apart_more first (b ∷ []) is = (omega arith, λ two. true≢false (sym (types_two first b two) ∙ is))
apart_more first (b ∷ c ∷ rest) is = (omega arith, λ two. no two)
  where
    no : AreAdmittedAndActive (map (λ (e : FlowFields). e.set_type) (first ∷ b ∷ c ∷ rest)) → ⊥
    no (inl same) = cc
    no (inr same) = cc

pub not-false : (b : Bool) → not b ≡ false → b ≡ true
not-false true is = refl
not-false false is = absurd (true≢false is)

pub not-true : (b : Bool) → not b ≡ true → b ≡ false
not-true true is = absurd (false≢true is)
not-true false is = refl

-- ---- the checks

module _ (op : Operator) (modem : Modem) (kind : Kind) (tid : ℕ) (not_dsd : kind ≢ Dsd) where
  abbrev pub said_of : List FlowFields → Said
  said_of encodings = record { kind = kind; tid = tid; encodings = encodings; sfid = None }

  abbrev pub trans : Transaction
  trans = transaction modem kind tid

  -- none of the checks up to which stand together holds; the first is one of them
  pub record IsReady (encodings : List FlowFields) (first : FlowFields) : Type 0 where
    pub shape : IsShape encodings
    pub has : Contains encodings first
    pub classed : AllByRecursion (λ e. ¬ NamesUnknownClass op.consts.classes e) encodings
    pub same : (e : FlowFields) → Contains encodings e → identifier kind e ≡ identifier kind first
    pub none : AllByRecursion (Fails op modem (said_of encodings)) of_shape

  abbrev View : List FlowFields → Result FlowFields ReplyFields → Type 0
  View encodings r = MatchResult r (IsReady encodings) (λ reply. IsDecided op modem (said_of encodings) (Refused reply))

  -- a refusal that names an encoding
  pub named_refusal : (encodings : List FlowFields) (code : Code) (e : FlowFields) (subtype : ℕ) → Refused (refusal_naming trans code e subtype) ≡ refusal_verdict (said_of encodings) code (naming (said_of encodings) e subtype)
  named_refusal encodings code e subtype =
      ap (λ (id : Option FlowId). Refused (record { kind = kind; tid = tid; code = code; detail = Errored id subtype })) (same_id kind e)

  module _ (first : FlowFields) (others : List FlowFields) (known : AllByRecursion (λ e. ¬ NamesUnknownClass op.consts.classes e) (first ∷ others)) where
    abbrev es : List FlowFields
    es = first ∷ others

    abbrev agrees : FlowFields → Bool
    agrees other = is_same (id_number kind first) (id_number kind other)

    some_encoding : AllByRecursion (Fails op modem (said_of es)) (UnknownClass ∷ NoEncoding ∷ [])
    some_encoding = (none_any (NamesUnknownClass op.consts.classes) es known, ((λ h. cc (h.1)), tt))

    agree : list_all agrees others ≡ true → (e : FlowFields) → Contains es e → identifier kind e ≡ identifier kind first
    agree is e has = by (contains_cases first others e has)
      where
        by : (first ≡ e) ⊎ Contains others e → identifier kind e ≡ identifier kind first
        by (inl same) = ap (identifier kind) (sym same)
        by (inr later) =
            sym (sym (same_number kind first) ∙ (is_same_true (id_number kind first) (id_number kind e) (all_pass agrees others is e later) ∙ same_number kind e))

    differ : list_all agrees others ≡ false
        → (a : FlowFields) × (b : FlowFields) × Contains es a × Contains es b × (identifier kind a ≢ identifier kind b)
    differ is =
        let other = one_fails agrees others is in (
          first,
          other.0,
          contains-here first others,
          contains-later first others other.0 other.1,
          λ same. true≢false (sym (is_same_from (id_number kind first) (id_number kind other.0) (same_number kind first ∙ (same ∙ sym (same_number kind other.0)))) ∙ other.2),
        )

    of_one_flow : list_all agrees others ≡ true → AllByRecursion (Fails op modem (said_of es)) (UnknownClass ∷ NoEncoding ∷ IdentifiersDiffer ∷ [])
    of_one_flow is =
        all_more (Fails op modem (said_of es)) (UnknownClass ∷ NoEncoding ∷ []) IdentifiersDiffer some_encoding
        (λ h. h.4 (agree is h.0 h.2 ∙ sym (agree is h.1 h.3)))

    ready : list_all agrees others ≡ true → IsShape es → IsReady es first
    ready is shape = record {
      shape = shape;
      has = contains-here first others;
      classed = known;
      same = agree is;
      none = all_more (Fails op modem (said_of es)) (UnknownClass ∷ NoEncoding ∷ IdentifiersDiffer ∷ []) NotTogether (of_one_flow is) (λ h. h.1 (shape_types es shape h.0));
    }

    first-view : View es (first_of trans es)
    first-view =
        cond_both (not (list_all agrees others)) _ _ (View es)
        (λ is. decided op modem (said_of es) (UnknownClass ∷ NoEncoding ∷ []) IdentifiersDiffer
        (NotTogether ∷ NoIdentifier ∷ UnknownFlow ∷ NotOwner ∷ FlowWaits ∷ WrongSetType ∷ NoParameterSet ∷ ActiveNotWithin ∷ AdmittedNotWithin ∷ FlowsFull ∷ NoSfidFree ∷ NoSidFree ∷ ElementsOver ∷ MinislotsOver ∷ Accepted ∷ [])
        _ refl some_encoding (differ (not-true (list_all agrees others) is)) refl)
        (λ is. cond_both (not (stand_together es)) _ _ (View es)
        (λ apart. decided op modem (said_of es) (UnknownClass ∷ NoEncoding ∷ IdentifiersDiffer ∷ []) NotTogether
        (NoIdentifier ∷ UnknownFlow ∷ NotOwner ∷ FlowWaits ∷ WrongSetType ∷ NoParameterSet ∷ ActiveNotWithin ∷ AdmittedNotWithin ∷ FlowsFull ∷ NoSfidFree ∷ NoSidFree ∷ ElementsOver ∷ MinislotsOver ∷ Accepted ∷ [])
        _ refl (of_one_flow (not-false (list_all agrees others) is)) (apart_more first others (not-true (stand_together es) apart)) refl)
        (λ together. ready (not-false (list_all agrees others) is) (together_shape es (not-false (stand_together es) together))))

  pub first-of-view : (encodings : List FlowFields) → AllByRecursion (λ e. ¬ NamesUnknownClass op.consts.classes e) encodings → View encodings (first_of trans encodings)
  first-of-view [] known =
      decided op modem (said_of []) (UnknownClass ∷ []) NoEncoding
      (IdentifiersDiffer ∷ NotTogether ∷ NoIdentifier ∷ UnknownFlow ∷ NotOwner ∷ FlowWaits ∷ WrongSetType ∷ NoParameterSet ∷ ActiveNotWithin ∷ AdmittedNotWithin ∷ FlowsFull ∷ NoSfidFree ∷ NoSidFree ∷ ElementsOver ∷ MinislotsOver ∷ Accepted ∷ [])
      _ refl (none_any (NamesUnknownClass op.consts.classes) [] tt, tt) (not_dsd, refl) refl
  first-of-view (first ∷ others) known = first-view first others known

  -- the first encoding, or which of the checks of which stand together decides
  pub encodings-view : (encodings : List FlowFields) → View encodings (first_encoding trans op.consts.classes encodings)
  unfolding first_encoding
  encodings-view encodings =
      by (find (is_unclassed op.consts.classes) encodings)
      (find-first (NamesUnknownClass op.consts.classes) (is_unclassed op.consts.classes) (unclassed op.consts.classes) (classed op.consts.classes) encodings)
    where
      by : (o : Option FlowFields) → MatchOption o (AllByRecursion (λ e. ¬ NamesUnknownClass op.consts.classes e) encodings) (IsFirst (NamesUnknownClass op.consts.classes) encodings)
          → View encodings (first_unless o trans encodings)
      by (Some e) first =
          decided op modem (said_of encodings) [] UnknownClass
          (NoEncoding ∷ IdentifiersDiffer ∷ NotTogether ∷ NoIdentifier ∷ UnknownFlow ∷ NotOwner ∷ FlowWaits ∷ WrongSetType ∷ NoParameterSet ∷ ActiveNotWithin ∷ AdmittedNotWithin ∷ FlowsFull ∷ NoSfidFree ∷ NoSidFree ∷ ElementsOver ∷ MinislotsOver ∷ Accepted ∷ [])
          _ refl tt (any_from (NamesUnknownClass op.consts.classes) encodings e (first_contains (NamesUnknownClass op.consts.classes) encodings e first) first.holds)
          (e, first, named_refusal encodings RejectPermanent e 4)
      by None known = first-of-view encodings known

  -- ---- the identifier

  -- the identifier is stated, and none of the checks of the encodings holds
  pub record IsIdentified (encodings : List FlowFields) (first : FlowFields) (n : ℕ) : Type 0 where
    pub is : identifier kind first ≡ Some n
    pub none : AllByRecursion (Fails op modem (said_of encodings)) of_encodings

  pub identifier-view : (encodings : List FlowFields) (first : FlowFields) → IsReady encodings first
      → MatchResult (stated_or_refusal (identifier kind first) (refusal_naming trans RejectRequiredParameterNotPresent first (identifier_subtype kind))) (IsIdentified encodings first)
      (λ reply. IsDecided op modem (said_of encodings) (Refused reply))
  identifier-view encodings first ready = by (identifier kind first) refl
    where
      by : (o : Option ℕ) → identifier kind first ≡ o
          → MatchResult (stated_or_refusal o (refusal_naming trans RejectRequiredParameterNotPresent first (identifier_subtype kind))) (IsIdentified encodings first)
          (λ reply. IsDecided op modem (said_of encodings) (Refused reply))
      by None is =
          decided op modem (said_of encodings) of_shape NoIdentifier
          (UnknownFlow ∷ NotOwner ∷ FlowWaits ∷ WrongSetType ∷ NoParameterSet ∷ ActiveNotWithin ∷ AdmittedNotWithin ∷ FlowsFull ∷ NoSfidFree ∷ NoSidFree ∷ ElementsOver ∷ MinislotsOver ∷ Accepted ∷ [])
          _ refl ready.none (any_from (λ (e : FlowFields). identifier kind e ≡ None) encodings first ready.has is)
          (ap (λ (id : Option FlowId). Refused (record { kind = kind; tid = tid; code = RejectRequiredParameterNotPresent; detail = Errored id (identifier_subtype kind) })) (no_id kind first is))
      by (Some n) is = record {
        is = is;
        none = all_more (Fails op modem (said_of encodings)) of_shape NoIdentifier ready.none
            (λ h. let same = ready.same h.1 (h.0, h.2, h.3) in let absent : identifier kind h.1 ≡ None = h.4 in cc);
      }
