-- Which check decides, by what a request says.
use Rattle.std.proofs.Common.{◌≡◌, ◌≢◌, ℕ, ◌<◌, ◌≤◌, List, [], ◌∷◌, ◌++◌, ◌⊎◌, length, Option, Some, None, IsSome, is_some, refl, sym, ap, ◌∙◌, subst, arith, inl, inr}
use Rattle.trace_report.proofs.TableLemmas.Common.{Contains, AllByRecursion, All-head, All-contains, All-from_recursion, set_type_number, FlowFields, Admitted, Active, AdmittedAndActive, Modem, Dsa, Dsc, Dsd, RejectTemporary, RejectInvalidForContext, RejectAuthorizationFailure, RejectNotOwner, RejectFlowNotFound, RejectRequiredParameterNotPresent, RejectDuplicateReference, RejectMultipleUpstreamFlows, Nothing, Errored, least_free_of, within_self, nothing_fails, ParamFields, Refusal, Flow, Pending, sfids_of, sids_of, Operator, new_flow, first_modem, second_modem, same_modem, true≢false, Said, said_by, identifier, NamesFlow, IsAbout, EncodingAsksFor, EncodingIsRefused, Admits, Activates, IsSetWhere, IsSetType, would_commit, NamesUnknownClass, AreAdmittedAndActive, AcceptsSetType, GivesNoSet, refusal_verdict, naming, set_type_code, IsDecidedBy, UnknownClass, NoEncoding, IdentifiersDiffer, NotTogether, NoIdentifier, UnknownFlow, NotOwner, FlowWaits, WrongSetType, NoParameterSet, ActiveNotWithin, AdmittedNotWithin, FlowsFull, NoSfidFree, NoSidFree, ElementsOver, MinislotsOver, Accepted}
use Rattle.dsx_messages.specs.declared.message.Request.TheVariants as requests
use Rattle.param_sets.specs.Within.{IsWithin, first_failing}
use Rattle.param_sets.specs.declared.scheduling.Scheduling.TheVariants.{BestEffort}
use Rattle.trace_report.proofs.TableLemmas.ListLemmas.{contains-here, contains-later, contains_cases, contains-nothing, any_from, none_any, all_more, all_append, first-here}
use Rattle.trace_report.proofs.TableLemmas.TableLemmas.{of_shape, of_encodings, up_to_flow, up_to_sets, Fails, decided_by}
use Rattle.trace_report.proofs.TableLemmas.SetLemmas.{only_one}
use Rattle.trace_report.proofs.TableLemmas.RoomLemmas.{used_up, least_one, not_used_up}

module _ (op : Operator) (modem : Modem) (tid : ℕ) where
  -- ---- additions

  abbrev adds : List FlowFields → Said
  adds es = said_by (requests.Dsa tid es)

  pub nothing_added : IsDecidedBy op modem (adds []) NoEncoding (refusal_verdict (adds []) RejectRequiredParameterNotPresent Nothing)
  nothing_added =
      decided_by op modem (adds []) (UnknownClass ∷ []) NoEncoding
      (IdentifiersDiffer ∷ NotTogether ∷ NoIdentifier ∷ UnknownFlow ∷ NotOwner ∷ FlowWaits ∷ WrongSetType ∷ NoParameterSet ∷ ActiveNotWithin ∷ AdmittedNotWithin ∷ FlowsFull ∷ NoSfidFree ∷ NoSidFree ∷ ElementsOver ∷ MinislotsOver ∷ Accepted ∷ [])
      (refusal_verdict (adds []) RejectRequiredParameterNotPresent Nothing) refl
      (none_any (NamesUnknownClass op.consts.classes) [] tt, tt) ((λ h. cc), refl) refl

  unclassed_fails : (e : FlowFields) → e.class_name ≡ None → ¬ NamesUnknownClass op.consts.classes e
  unclassed_fails e plain h = cc (h.1)

  module _ (a b : FlowFields) (plain_a : a.class_name ≡ None) (plain_b : b.class_name ≡ None) where
    abbrev two : List FlowFields
    two = a ∷ b ∷ []

    two_named : AllByRecursion (Fails op modem (adds two)) (UnknownClass ∷ NoEncoding ∷ [])
    two_named = (none_any (NamesUnknownClass op.consts.classes) two (unclassed_fails a plain_a, (unclassed_fails b plain_b, tt)), ((λ h. cc (h.1)), tt))

    pub two_differ : a.reference ≢ b.reference → IsDecidedBy op modem (adds two) IdentifiersDiffer (refusal_verdict (adds two) RejectMultipleUpstreamFlows Nothing)
    two_differ apart =
        decided_by op modem (adds two) (UnknownClass ∷ NoEncoding ∷ []) IdentifiersDiffer
        (NotTogether ∷ NoIdentifier ∷ UnknownFlow ∷ NotOwner ∷ FlowWaits ∷ WrongSetType ∷ NoParameterSet ∷ ActiveNotWithin ∷ AdmittedNotWithin ∷ FlowsFull ∷ NoSfidFree ∷ NoSidFree ∷ ElementsOver ∷ MinislotsOver ∷ Accepted ∷ [])
        (refusal_verdict (adds two) RejectMultipleUpstreamFlows Nothing) refl two_named
        (a, b, contains-here a (b ∷ []), contains-later a (b ∷ []) b (contains-here b []), apart) refl

    pub two_apart : AllByRecursion (λ e. e.reference ≡ a.reference) two → ¬ AreAdmittedAndActive (a.set_type ∷ b.set_type ∷ [])
        → IsDecidedBy op modem (adds two) NotTogether (refusal_verdict (adds two) RejectDuplicateReference Nothing)
    two_apart same apart =
        decided_by op modem (adds two) (UnknownClass ∷ NoEncoding ∷ IdentifiersDiffer ∷ []) NotTogether
        (NoIdentifier ∷ UnknownFlow ∷ NotOwner ∷ FlowWaits ∷ WrongSetType ∷ NoParameterSet ∷ ActiveNotWithin ∷ AdmittedNotWithin ∷ FlowsFull ∷ NoSfidFree ∷ NoSidFree ∷ ElementsOver ∷ MinislotsOver ∷ Accepted ∷ [])
        (refusal_verdict (adds two) RejectDuplicateReference Nothing) refl
        (all_more (Fails op modem (adds two)) (UnknownClass ∷ NoEncoding ∷ []) IdentifiersDiffer two_named
        (λ h. h.4 (each h.0 h.2 ∙ sym (each h.1 h.3)))) (omega arith, apart) refl
      where
        each : (e : FlowFields) → Contains two e → e.reference ≡ a.reference
        each e has = All-contains (λ (x : FlowFields). x.reference ≡ a.reference) two e (All-from_recursion (λ (x : FlowFields). x.reference ≡ a.reference) two same) has

    -- the one of set type 2 and the other of set type 4, of one reference
    module _ (n : ℕ) (is_a : a.reference ≡ Some n) (is_b : b.reference ≡ Some n) (is_two : IsSetType Admitted a.set_type) (is_four : IsSetType Active b.set_type)
        (x y : ParamFields) (asks_x : EncodingAsksFor op.consts a x) (asks_y : EncodingAsksFor op.consts b y) where
      two_one : (e : FlowFields) → Contains two e → e.reference ≡ Some n
      two_one e has =
          All-contains (λ (z : FlowFields). z.reference ≡ Some n) two e (All-from_recursion (λ (z : FlowFields). z.reference ≡ Some n) two (is_a, (is_b, tt))) has

      two_flow : AllByRecursion (Fails op modem (adds two)) up_to_flow
      two_flow =
          all_append (Fails op modem (adds two)) (UnknownClass ∷ NoEncoding ∷ []) (IdentifiersDiffer ∷ NotTogether ∷ NoIdentifier ∷ UnknownFlow ∷ NotOwner ∷ FlowWaits ∷ []) two_named (
            (λ h. h.4 (two_one h.0 h.2 ∙ sym (two_one h.1 h.3))),
            (
              (λ h. h.1 (inl (ap (λ (t : Option ℕ). t ∷ b.set_type ∷ []) is_two ∙ ap (λ (t : Option ℕ). Some (set_type_number Admitted) ∷ t ∷ []) is_four))),
              (
                none_any (λ (e : FlowFields). e.reference ≡ None) two ((λ h. cc), ((λ h. cc), tt)),
                ((λ h. h.1), ((λ h. h.2.0), ((λ h. h.2.0), tt))),
              ),
            ),
          )

      two_sets : AllByRecursion (Fails op modem (adds two)) (up_to_flow ++ WrongSetType ∷ NoParameterSet ∷ [])
      two_sets =
          all_append (Fails op modem (adds two)) up_to_flow (WrongSetType ∷ NoParameterSet ∷ []) two_flow (
            (λ h. cc (h.1)),
            (
              none_any (GivesNoSet op.consts) two
                  ((λ h. let no : EncodingIsRefused op.consts a h.1 = h.2 in cc), ((λ h. let no : EncodingIsRefused op.consts b h.1 = h.2 in cc), tt)),
              tt,
            ),
          )

      pub two_beyond : (subtype : ℕ) → first_failing y x ≡ Some subtype
          → IsDecidedBy op modem (adds two) ActiveNotWithin (refusal_verdict (adds two) RejectInvalidForContext (naming (adds two) a subtype))
      two_beyond subtype fails =
          decided_by op modem (adds two) (up_to_flow ++ WrongSetType ∷ NoParameterSet ∷ []) ActiveNotWithin
          (AdmittedNotWithin ∷ FlowsFull ∷ NoSfidFree ∷ NoSidFree ∷ ElementsOver ∷ MinislotsOver ∷ Accepted ∷ [])
          (refusal_verdict (adds two) RejectInvalidForContext (naming (adds two) a subtype)) refl two_sets
          (y, x, active, admitted, λ within. let nothing = nothing_fails y x within in cc)
          (a, y, x, subtype, contains-here a (b ∷ []), active, admitted, fails, refl)
        where
          active : IsSetWhere Activates op.consts two (Some y)
          active = any_from (λ (e : FlowFields). Activates e × EncodingAsksFor op.consts e y) two b (contains-later a (b ∷ []) b (contains-here b [])) (inl is_four, asks_y)

          admitted : IsSetWhere Admits op.consts two (Some x)
          admitted = any_from (λ (e : FlowFields). Admits e × EncodingAsksFor op.consts e x) two a (contains-here a (b ∷ [])) (inl is_two, asks_x)

  module _ (e : FlowFields) (plain : e.class_name ≡ None) where
    abbrev one : List FlowFields
    one = e ∷ []

    one_shape : AllByRecursion (Fails op modem (adds one)) of_shape
    one_shape = (
      none_any (NamesUnknownClass op.consts.classes) one (unclassed_fails e plain, tt),
      (
        (λ h. cc (h.1)),
        (
          (λ h. h.4 (ap (λ (x : FlowFields). x.reference) (only_one e h.0 h.1 h.2 h.3))),
          ((λ h. absurd (omega (arith, h.0))), tt),
        ),
      ),
    )

    pub one_unnamed : e.reference ≡ None → IsDecidedBy op modem (adds one) NoIdentifier (refusal_verdict (adds one) RejectRequiredParameterNotPresent (Errored None 1))
    one_unnamed none =
        decided_by op modem (adds one) of_shape NoIdentifier
        (UnknownFlow ∷ NotOwner ∷ FlowWaits ∷ WrongSetType ∷ NoParameterSet ∷ ActiveNotWithin ∷ AdmittedNotWithin ∷ FlowsFull ∷ NoSfidFree ∷ NoSidFree ∷ ElementsOver ∷ MinislotsOver ∷ Accepted ∷ [])
        (refusal_verdict (adds one) RejectRequiredParameterNotPresent (Errored None 1)) refl one_shape
        (any_from (λ (x : FlowFields). x.reference ≡ None) one e (contains-here e []) none) refl

    module _ (n : ℕ) (is : e.reference ≡ Some n) where
      pub one_flow : AllByRecursion (Fails op modem (adds one)) up_to_flow
      one_flow =
          all_append (Fails op modem (adds one)) of_encodings (UnknownFlow ∷ NotOwner ∷ FlowWaits ∷ [])
          (all_more (Fails op modem (adds one)) of_shape NoIdentifier one_shape (none_any (λ (x : FlowFields). x.reference ≡ None) one ((λ h. cc), tt)))
          ((λ h. h.1), ((λ h. h.2.0), ((λ h. h.2.0), tt)))

      pub one_mistyped : ¬ AcceptsSetType Dsa e.set_type → IsDecidedBy op modem (adds one) WrongSetType (refusal_verdict (adds one) (set_type_code e.set_type) (naming (adds one) e 6))
      one_mistyped untaken =
          decided_by op modem (adds one) up_to_flow WrongSetType
          (NoParameterSet ∷ ActiveNotWithin ∷ AdmittedNotWithin ∷ FlowsFull ∷ NoSfidFree ∷ NoSidFree ∷ ElementsOver ∷ MinislotsOver ∷ Accepted ∷ [])
          (refusal_verdict (adds one) (set_type_code e.set_type) (naming (adds one) e 6)) refl one_flow (e, refl, untaken) (e, refl, refl)

      pub one_typed : IsSetType AdmittedAndActive e.set_type → AllByRecursion (Fails op modem (adds one)) (up_to_flow ++ WrongSetType ∷ [])
      one_typed six = all_more (Fails op modem (adds one)) up_to_flow WrongSetType one_flow
          (λ h. let same : e ≡ h.0 = cc in h.2 (inr (inl (sym (ap (λ (x : FlowFields). x.set_type) same) ∙ six))))

      pub one_refused : IsSetType AdmittedAndActive e.set_type → (r : Refusal) → EncodingIsRefused op.consts e r
          → IsDecidedBy op modem (adds one) NoParameterSet (refusal_verdict (adds one) r.code (naming (adds one) e r.subtype))
      one_refused six r is_refused =
          decided_by op modem (adds one) (up_to_flow ++ WrongSetType ∷ []) NoParameterSet
          (ActiveNotWithin ∷ AdmittedNotWithin ∷ FlowsFull ∷ NoSfidFree ∷ NoSidFree ∷ ElementsOver ∷ MinislotsOver ∷ Accepted ∷ [])
          (refusal_verdict (adds one) r.code (naming (adds one) e r.subtype)) refl (one_typed six)
          (any_from (GivesNoSet op.consts) one e (contains-here e []) gives) (e, r, first-here (GivesNoSet op.consts) e [] gives, is_refused, refl)
        where
          gives : GivesNoSet op.consts e
          gives = ((λ zero. cc), r, is_refused)

      -- ---- its set is read, and is admitted and active

      module _ (six : IsSetType AdmittedAndActive e.set_type) (set : ParamFields) (asks : EncodingAsksFor op.consts e set) where
        is_set : IsSetWhere Admits op.consts one (Some set)
        is_set = any_from (λ (x : FlowFields). Admits x × EncodingAsksFor op.consts x set) one e (contains-here e []) (inr six, asks)

        -- each set that is asked for is this one
        the_set : (P : FlowFields → Type 0) (x : ParamFields) → IsSetWhere P op.consts one (Some x) → x ≡ set
        the_set P x h =
            let same : h.1 ≡ e = only_one e h.1 e (h.0, h.2, h.3) (contains-here e []) in
            let asked : EncodingAsksFor op.consts e x = subst (λ (y : FlowFields). EncodingAsksFor op.consts y x) same h.4.1 in
            cc

        alone : (o : Option ParamFields) → IsSetWhere Admits op.consts one o → o ≡ Some set
        alone None h = absurd (All-head (λ (x : FlowFields). ¬ Admits x) e [] h (inr six))
        alone (Some x) h = ap (λ (y : ParamFields). Some y) (the_set Admits x h)

        pub one_set_read : AllByRecursion (Fails op modem (adds one)) up_to_sets
        one_set_read =
            all_append (Fails op modem (adds one)) (up_to_flow ++ WrongSetType ∷ []) (NoParameterSet ∷ ActiveNotWithin ∷ AdmittedNotWithin ∷ []) (one_typed six) (
              none_any (GivesNoSet op.consts) one ((λ h. let refused : EncodingIsRefused op.consts e h.1 = h.2 in cc), tt),
              (
                (λ h. h.4 (subst (λ (x : ParamFields). IsWithin x h.1) (sym (the_set Activates h.0 h.2)) (subst (IsWithin set) (sym (the_set Admits h.1 h.3)) (within_self set)))),
                ((λ h. h.3.1.0), tt),
              ),
            )

        pub too_many_flows : op.row.flows ≤ length op.state.flows → IsDecidedBy op modem (adds one) FlowsFull (refusal_verdict (adds one) RejectTemporary Nothing)
        too_many_flows many =
            decided_by op modem (adds one) up_to_sets FlowsFull (NoSfidFree ∷ NoSidFree ∷ ElementsOver ∷ MinislotsOver ∷ Accepted ∷ [])
            (refusal_verdict (adds one) RejectTemporary Nothing) refl one_set_read (refl, many) refl

        module _ (few : length op.state.flows < op.row.flows) where
          with_room : AllByRecursion (Fails op modem (adds one)) (up_to_sets ++ FlowsFull ∷ [])
          with_room = all_more (Fails op modem (adds one)) up_to_sets FlowsFull one_set_read (λ h. let many = h.1 in absurd (omega arith))

          pub sfids_used : least_free_of op.row.sfids (sfids_of op.state.flows) ≡ None → IsDecidedBy op modem (adds one) NoSfidFree (refusal_verdict (adds one) RejectTemporary Nothing)
          sfids_used none =
              decided_by op modem (adds one) (up_to_sets ++ FlowsFull ∷ []) NoSfidFree (NoSidFree ∷ ElementsOver ∷ MinislotsOver ∷ Accepted ∷ [])
              (refusal_verdict (adds one) RejectTemporary Nothing) refl with_room (refl, used_up op.row.sfids (sfids_of op.state.flows) none) refl

          module _ (sfid : ℕ) (some_sfid : least_free_of op.row.sfids (sfids_of op.state.flows) ≡ Some sfid) where
            with_sfid : AllByRecursion (Fails op modem (adds one)) (up_to_sets ++ FlowsFull ∷ NoSfidFree ∷ [])
            with_sfid = all_more (Fails op modem (adds one)) (up_to_sets ++ FlowsFull ∷ []) NoSfidFree with_room
                (λ h. not_used_up op.row.sfids (sfids_of op.state.flows) sfid (least_one op.row.sfids (sfids_of op.state.flows) sfid some_sfid) h.1)

            pub sids_used : least_free_of op.row.sids (sids_of op.state.flows) ≡ None → IsDecidedBy op modem (adds one) NoSidFree (refusal_verdict (adds one) RejectTemporary Nothing)
            sids_used none =
                decided_by op modem (adds one) (up_to_sets ++ FlowsFull ∷ NoSfidFree ∷ []) NoSidFree (ElementsOver ∷ MinislotsOver ∷ Accepted ∷ [])
                (refusal_verdict (adds one) RejectTemporary Nothing) refl with_sfid
                (None, set, refl, is_set, refl, used_up op.row.sids (sids_of op.state.flows) none) refl

            module _ (sid : ℕ) (some_sid : least_free_of op.row.sids (sids_of op.state.flows) ≡ Some sid) where
              with_sid : AllByRecursion (Fails op modem (adds one)) (up_to_sets ++ FlowsFull ∷ NoSfidFree ∷ NoSidFree ∷ [])
              with_sid = all_more (Fails op modem (adds one)) (up_to_sets ++ FlowsFull ∷ NoSfidFree ∷ []) NoSidFree with_sfid
                  (λ h. not_used_up op.row.sids (sids_of op.state.flows) sid (least_one op.row.sids (sids_of op.state.flows) sid some_sid) h.5)

              pub elements_over : op.row.elements < would_commit (λ need. need.elements) op None (Some set)
                  → IsDecidedBy op modem (adds one) ElementsOver (refusal_verdict (adds one) RejectTemporary Nothing)
              elements_over over =
                  decided_by op modem (adds one) (up_to_sets ++ FlowsFull ∷ NoSfidFree ∷ NoSidFree ∷ []) ElementsOver (MinislotsOver ∷ Accepted ∷ [])
                  (refusal_verdict (adds one) RejectTemporary Nothing) refl with_sid
                  (would_commit (λ need. need.elements) op None (Some set), (λ h. cc), (None, Some set, refl, is_set, refl), over) refl

              none_about : (o : Option Flow) → IsAbout op (adds one) o → o ≡ None
              none_about None is = refl
              none_about (Some flow) is = absurd is.1.0

              pub minislots_over : would_commit (λ need. need.elements) op None (Some set) ≤ op.row.elements
                  → op.state.share.budget < would_commit (λ need. need.minislots) op None (Some set)
                  → IsDecidedBy op modem (adds one) MinislotsOver (refusal_verdict (adds one) RejectTemporary Nothing)
              minislots_over within over =
                  decided_by op modem (adds one) (up_to_sets ++ FlowsFull ∷ NoSfidFree ∷ NoSidFree ∷ ElementsOver ∷ []) MinislotsOver (Accepted ∷ [])
                  (refusal_verdict (adds one) RejectTemporary Nothing) refl
                  (all_more (Fails op modem (adds one)) (up_to_sets ++ FlowsFull ∷ NoSfidFree ∷ NoSidFree ∷ []) ElementsOver with_sid
                  (λ h. let n = h.3 in
                  let same : h.0 ≡ would_commit (λ need. need.elements) op None (Some set) =
                  h.2.4 ∙ (ap (λ (o : Option Flow). would_commit (λ need. need.elements) op o h.2.1) (none_about h.2.0 h.2.2)
                  ∙ ap (λ (o : Option ParamFields). would_commit (λ need. need.elements) op None o) (alone h.2.1 h.2.3)) in
                  absurd (omega arith)))
                  (would_commit (λ need. need.minislots) op None (Some set), (λ h. cc), (None, Some set, refl, is_set, refl), inl over) refl

  -- ---- changes

  -- one encoding that admits and activates a set of the one flow that stands
  module _ (e : FlowFields) (plain : e.class_name ≡ None) (n : ℕ) (is : e.sfid ≡ Some n) (six : IsSetType AdmittedAndActive e.set_type) (set : ParamFields) (asks : EncodingAsksFor op.consts e set)
      (flow : Flow) (there : op.state.flows ≡ (n, flow) ∷ []) (mine : flow.modem ≡ modem) (rests : flow.pending ≡ None) where
    abbrev changes : Said
    changes = said_by (requests.Dsc tid (e ∷ []))

    stands : Contains op.state.flows (n, flow)
    stands = subst (λ (flows : List (ℕ × Flow)). Contains flows (n, flow)) (sym there) (contains-here (n, flow) [])

    named : (m : ℕ) → NamesFlow Dsc (e ∷ []) None m → m ≡ n
    named m h =
        let same = only_one e h.1 e (h.0, h.2, h.3) (contains-here e []) in
        let other : h.1.sfid ≡ Some m = h.4 in
        let number = ap (λ (x : FlowFields). x.sfid) same in
        cc

    the_one : (m : ℕ) (f : Flow) → Contains op.state.flows (m, f) → f ≡ flow
    the_one m f has = by (contains_cases (n, flow) [] (m, f) (subst (λ (flows : List (ℕ × Flow)). Contains flows (m, f)) there has))
      where
        by : ◌≡◌ {A = ℕ × Flow} (n, flow) (m, f) ⊎ Contains {X = ℕ × Flow} [] (m, f) → f ≡ flow
        by (inl same) = sym (ap (λ (entry : ℕ × Flow). entry.1) same)
        by (inr none) = absurd (contains-nothing (m, f) none)

    used : (m : ℕ) → m ≡ n → Contains (sfids_of op.state.flows) m
    used m same = subst (λ (flows : List (ℕ × Flow)). Contains (sfids_of flows) m) (sym there) (subst (λ (k : ℕ). Contains (n ∷ []) k) (sym same) (contains-here n []))

    the_set_of : (P : FlowFields → Type 0) (x : ParamFields) → IsSetWhere P op.consts (e ∷ []) (Some x) → x ≡ set
    the_set_of P x h =
        let same : h.1 ≡ e = only_one e h.1 e (h.0, h.2, h.3) (contains-here e []) in
        let asked : EncodingAsksFor op.consts e x = subst (λ (y : FlowFields). EncodingAsksFor op.consts y x) same h.4.1 in
        cc

    sets_within : AllByRecursion (Fails op modem changes) (WrongSetType ∷ NoParameterSet ∷ ActiveNotWithin ∷ [])
    sets_within = (
      (λ h. let same : e ≡ h.0 = cc in h.2 (inr (inl (sym (ap (λ (x : FlowFields). x.set_type) same) ∙ six)))),
      (
        none_any (GivesNoSet op.consts) (e ∷ []) ((λ h. let no : EncodingIsRefused op.consts e h.1 = h.2 in cc), tt),
        (
          (λ h. h.4 (subst (λ (x : ParamFields). IsWithin x h.1) (sym (the_set_of Activates h.0 h.2)) (subst (IsWithin set) (sym (the_set_of Admits h.1 h.3)) (within_self set)))),
          tt,
        ),
      ),
    )

    change_within : AllByRecursion (Fails op modem changes) (up_to_flow ++ WrongSetType ∷ NoParameterSet ∷ ActiveNotWithin ∷ [])
    change_within = (
      none_any (NamesUnknownClass op.consts.classes) (e ∷ []) (unclassed_fails e plain, tt),
      (
        (λ h. cc (h.1)),
        (
          (λ h. h.4 (ap (λ (x : FlowFields). x.sfid) (only_one e h.0 h.1 h.2 h.3))),
          (
            (λ h. absurd (omega (arith, h.0))),
            (
              none_any (λ (x : FlowFields). x.sfid ≡ None) (e ∷ []) ((λ h. cc), tt),
              (
                (λ h. h.2 (used h.0 (named h.0 h.1))),
                (
                  (λ h. h.3 (ap (λ (f : Flow). f.modem) (the_one h.0 h.1 h.2.1) ∙ mine)),
                  (
                    (λ h. true≢false (sym h.3 ∙ (ap (λ (f : Flow). is_some f.pending) (the_one h.0 h.1 h.2.1) ∙ ap (λ (p : Option Pending). is_some p) rests))),
                    sets_within,
                  ),
                ),
              ),
            ),
          ),
        ),
      ),
    )

    pub change_beyond : (provisioned : ParamFields) → flow.sets.provisioned ≡ Some provisioned → (subtype : ℕ) → first_failing set provisioned ≡ Some subtype
        → IsDecidedBy op modem changes AdmittedNotWithin (refusal_verdict changes RejectAuthorizationFailure (naming changes e subtype))
    change_beyond provisioned is_provisioned subtype fails =
        decided_by op modem changes (up_to_flow ++ WrongSetType ∷ NoParameterSet ∷ ActiveNotWithin ∷ []) AdmittedNotWithin
        (FlowsFull ∷ NoSfidFree ∷ NoSidFree ∷ ElementsOver ∷ MinislotsOver ∷ Accepted ∷ [])
        (refusal_verdict changes RejectAuthorizationFailure (naming changes e subtype)) refl change_within
        (flow, set, provisioned, about, admitted, is_provisioned, λ within. let nothing = nothing_fails set provisioned within in cc)
        (e, flow, set, provisioned, subtype, contains-here e [], about, admitted, is_provisioned, fails, refl)
      where
        about : IsAbout op changes (Some flow)
        about = (n, (any_from (λ (x : FlowFields). x.sfid ≡ Some n) (e ∷ []) e (contains-here e []) is, stands))

        admitted : IsSetWhere Admits op.consts (e ∷ []) (Some set)
        admitted = any_from (λ (x : FlowFields). Admits x × EncodingAsksFor op.consts x set) (e ∷ []) e (contains-here e []) (inr six, asks)

  -- ---- deletions

  module _ (sfid : ℕ) where
    abbrev deletes : Said
    deletes = said_by (requests.Dsd tid sfid)

    no_encodings : AllByRecursion (Fails op modem deletes) of_encodings
    no_encodings = (
      none_any (NamesUnknownClass op.consts.classes) [] tt,
      ((λ h. h.0 refl), ((λ h. contains-nothing h.0 h.2), ((λ h. absurd (omega (arith, h.0))), (none_any (λ (x : FlowFields). identifier Dsd x ≡ None) [] tt, tt)))),
    )

    pub none_deleted : ¬ Contains (sfids_of op.state.flows) sfid → IsDecidedBy op modem deletes UnknownFlow (refusal_verdict deletes RejectFlowNotFound Nothing)
    none_deleted unknown =
        decided_by op modem deletes of_encodings UnknownFlow
        (NotOwner ∷ FlowWaits ∷ WrongSetType ∷ NoParameterSet ∷ ActiveNotWithin ∷ AdmittedNotWithin ∷ FlowsFull ∷ NoSfidFree ∷ NoSidFree ∷ ElementsOver ∷ MinislotsOver ∷ Accepted ∷ [])
        (refusal_verdict deletes RejectFlowNotFound Nothing) refl no_encodings (sfid, refl, unknown) refl

    module _ (flow : Flow) (there : op.state.flows ≡ (sfid, flow) ∷ []) where
      has : Contains op.state.flows (sfid, flow)
      has = subst (λ (flows : List (ℕ × Flow)). Contains flows (sfid, flow)) (sym there) (contains-here (sfid, flow) [])

      known : Fails op modem deletes UnknownFlow
      known h = h.2 (subst (λ (flows : List (ℕ × Flow)). Contains (sfids_of flows) h.0) (sym there) (subst (λ (n : ℕ). Contains (sfid ∷ []) n) (cc (h.1)) (contains-here sfid [])))

      one_flow_there : (n : ℕ) (f : Flow) → Contains op.state.flows (n, f) → f ≡ flow
      one_flow_there n f is = by (contains_cases (sfid, flow) [] (n, f) (subst (λ (flows : List (ℕ × Flow)). Contains flows (n, f)) there is))
        where
          by : ◌≡◌ {A = ℕ × Flow} (sfid, flow) (n, f) ⊎ Contains {X = ℕ × Flow} [] (n, f) → f ≡ flow
          by (inl same) = sym (ap (λ (entry : ℕ × Flow). entry.1) same)
          by (inr none) = absurd (contains-nothing (n, f) none)

      pub not_owned : flow.modem ≢ modem → IsDecidedBy op modem deletes NotOwner (refusal_verdict deletes RejectNotOwner Nothing)
      not_owned other =
          decided_by op modem deletes (of_encodings ++ UnknownFlow ∷ []) NotOwner
          (FlowWaits ∷ WrongSetType ∷ NoParameterSet ∷ ActiveNotWithin ∷ AdmittedNotWithin ∷ FlowsFull ∷ NoSfidFree ∷ NoSidFree ∷ ElementsOver ∷ MinislotsOver ∷ Accepted ∷ [])
          (refusal_verdict deletes RejectNotOwner Nothing) refl (all_more (Fails op modem deletes) of_encodings UnknownFlow no_encodings known) (sfid, flow, (refl, has), other) refl

      pub waits : flow.modem ≡ modem → IsSome flow.pending → IsDecidedBy op modem deletes FlowWaits (refusal_verdict deletes RejectTemporary Nothing)
      waits mine pending =
          decided_by op modem deletes (of_encodings ++ UnknownFlow ∷ NotOwner ∷ []) FlowWaits
          (WrongSetType ∷ NoParameterSet ∷ ActiveNotWithin ∷ AdmittedNotWithin ∷ FlowsFull ∷ NoSfidFree ∷ NoSidFree ∷ ElementsOver ∷ MinislotsOver ∷ Accepted ∷ [])
          (refusal_verdict deletes RejectTemporary Nothing) refl
          (all_more (Fails op modem deletes) (of_encodings ++ UnknownFlow ∷ []) NotOwner (all_more (Fails op modem deletes) of_encodings UnknownFlow no_encodings known)
          (λ h. h.3 (ap (λ (f : Flow). f.modem) (one_flow_there h.0 h.1 h.2.1) ∙ mine)))
          (sfid, flow, (refl, has), pending) refl

-- ---- what is stated, and what stands

-- an encoding that states nothing
abbrev pub unstated : FlowFields
unstated = record {
  reference = None;
  sfid = None;
  sid = None;
  class_name = None;
  errored = None;
  set_type = None;
  traffic_priority = None;
  max_sustained_rate = None;
  max_burst = None;
  min_reserved_rate = None;
  scheduling_type = None;
  request_policy = None;
  polling_interval = None;
  poll_jitter = None;
  grant_size = None;
  grant_interval = None;
  grant_jitter = None;
  grants_per_interval = None;
}

-- a best-effort set with this reserved rate
abbrev pub reserving : ℕ → ParamFields
reserving rate = record {
  scheduling = BestEffort;
  priority = 0;
  max_sustained_rate = 0;
  max_burst = 0;
  min_reserved_rate = rate;
  request_policy = 0;
  polling_interval = 0;
  poll_jitter = 0;
  grant_size = 0;
  grant_interval = 0;
  grant_jitter = 0;
  grants_per_interval = 0;
}

-- best effort under a reference, its set admitted and active
abbrev pub best_effort : ℕ → FlowFields
best_effort n = record unstated { reference = Some n; set_type = Some 6; scheduling_type = Some 2 }

pub not_one_for_each : ¬ AreAdmittedAndActive (Some 6 ∷ Some 6 ∷ [])
not_one_for_each (inl h) = let e : ◌≡◌ {A = ℕ} 6 2 = cc in absurd (omega arith)
not_one_for_each (inr h) = let e : ◌≡◌ {A = ℕ} 6 4 = cc in absurd (omega arith)

pub null_untaken : ¬ AcceptsSetType Dsa (Some 0)
null_untaken (inl h) = let e : ◌≡◌ {A = ℕ} 0 2 = cc in absurd (omega arith)
null_untaken (inr (inl h)) = let e : ◌≡◌ {A = ℕ} 0 6 = cc in absurd (omega arith)
null_untaken (inr (inr h)) = cc (h.0)

-- the first flow
abbrev pub first_flow : List (ℕ × Flow) → Flow
first_flow [] = new_flow first_modem 0 (record { provisioned = None; admitted = None; active = None }) 0
first_flow (entry ∷ more) = entry.1

pub other_modem : first_modem ≢ second_modem
other_modem same = true≢false (ap (λ (m : Modem). same_modem m first_modem) same)
