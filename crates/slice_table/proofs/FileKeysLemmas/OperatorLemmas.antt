-- The reading of the operators.
use Rattle.std.proofs.Common.{◌≡◌, ◌≢◌, ℕ, suc, ◌+◌, ◌<◌, ◌≤◌, nat_le, ◌&&◌, Bool, true, false, not, if◌then◌else◌, codes, List, [], ◌∷◌, ◌++◌, length, length-append, get_or, inl, inr, Option, Some, None, Ok, Err, refl, sym, ap, ◌∙◌, subst, arith}
use Rattle.slice_table.proofs.FileKeysLemmas.Common.{below_more, map, list_any, true≢false, false≢true, get_or_append_left, get_or_push, Data, string, array, table, Items, no_items, item, Members, get_member, get_item, as_str, as_array, ◌>>=◌, Modem, ConstsFields, RowFields, Missing, BadValue, Key, Operators, Table, Entry, Field, Place, IsAddress, SayInTurn, SaysConsts, at_most, le_true, string_is, array_is, array_said, text_said, table_said, under, name_is, modems_are, row_is, item_in, items_or_none, items_in, standing_at, value_of_key, in_turn, operator_keys, operator_fields, flow_keys, IsValueOfKey, AllItems, IsAtFault}
use Rattle.std.specs.Str.{bytes_eq}
use Rattle.std.proofs.lemmas.Slice.Eq.{bytes_eq-Decides}
use Rattle.grant_policy.specs.declared.policy.Policy.{Policy}
use Rattle.grant_policy.specs.declared.policy.Policy.TheVariants.{Strict, Short}
use Rattle.slice_table.specs.declared.plant_key.Field.TheVariants as field
use Rattle.slice_table.specs.declared.plant_key.Place.TheVariants as place
use Rattle.slice_table.specs.Tree.{PlantResult, each, items_len, required_value, expected_value, checked_value, at_field, number_of_key, text_at, array_at, modem_of, table_of}
use Rattle.plant.specs.Name.{is_operator_name}
use Rattle.slice_table.specs.ReadRows.{is_called, name_at, slice_at, range_at, aged_at, policy_named, policy_at, modem_read, modems_at, provisions_if, row_at, row_read, rows_of}
use Rattle.slice_table.proofs.FileKeysLemmas.ListLemmas.{some_same, one_of}
use Rattle.slice_table.proofs.FileKeysLemmas.FoundLemmas.{blame, Blames, blames_bind, blames_checked, refused, Found, found_behind, found_bind, found_last, found_before, found_key, found_each, judged_required}
use Rattle.slice_table.proofs.FileKeysLemmas.KeyLemmas.{held_in, found_table, found_number_in, found_range, found_slice, blames_text, blames_array}
use Rattle.slice_table.proofs.FileKeysLemmas.FlowLemmas.{blames_address, found_flows}

-- ---- the addresses

-- an address that is no address is blamed on its key, whatever stands under that
blames_one : (key : Key) (o : Option Data) (d e : Data) → o ≡ Some d → Blames key o (modem_of key e)
blames_one key o d e at fault h = blames_address key (Some e) e refl fault h ∙ sym (ap (blame key) at)

blames_each : (place : Place) (o : Option Data) (d : Data) (done : List Modem) (ds : Items) → o ≡ Some d
    → Blames (Entry place field.Modems) o (each (modem_read place) done ds)
blames_each place o d done no_items at fault h = cc
blames_each place o d done (item e ds) at fault h =
    blames_bind (Entry place field.Modems) o (modem_read place done e) (λ x. each (modem_read place) (done ++ x ∷ []) ds)
    (blames_one (Entry place field.Modems) o d e at) (λ x is. blames_each place o d (done ++ x ∷ []) ds at) fault h

-- each item says an address
all_said : (done : List Modem) (ds : Items) (modems : List Modem) → SayInTurn (λ before. IsAddress) done ds modems → AllItems (λ e. (modem : Modem) × IsAddress e modem) ds
all_said done no_items modems said = tt
all_said done (item d ds) modems said = ((said.0, said.1), all_said (done ++ said.0 ∷ []) ds modems said.2)

all_again : (done : List Modem) (ds : Items) → AllItems (λ e. (modem : Modem) × IsAddress e modem) ds → (modems : List Modem) × SayInTurn (λ before. IsAddress) done ds modems
all_again done no_items all = (done, refl)
all_again done (item d ds) all = let rest = all_again (done ++ all.0.0 ∷ []) ds all.1 in (rest.0, (all.0.0, all.0.1, rest.1))

module _ (document : Members) where
  -- the names of those before it are what stands in the document
  abbrev Names : List RowFields → Type 0
  Names rows = (k : ℕ) (d : RowFields) → k < length rows → value_of_key document (Entry (place.Operator k) field.Name) ≡ Some (string (get_or rows k d).name)

  found_name : (rows : List RowFields) (ms : Members) → standing_at document (place.Operator (length rows)) ≡ Some (table ms) → Names rows
      → Found document (Entry (place.Operator (length rows)) field.Name ∷ []) (name_at rows (place.Operator (length rows)) ms)
  unfolding name_at
  found_name rows ms at names =
      found_key document key (at_field field.Name ms) (name_at rows whose ms) (held_in document whose field.Name ms at)
      (judged_required document key (at_field field.Name ms) (name_at rows whose ms) tt blames said again)
    where
      whose : Place
      whose = place.Operator (length rows)

      key : Key
      key = Entry whose field.Name

      blames : Blames key (at_field field.Name ms) (name_at rows whose ms)
      blames =
          blames_bind key (at_field field.Name ms) (text_at whose field.Name ms) _ (blames_text whose field.Name ms)
          (λ text is. blames_checked key (at_field field.Name ms) (string text) (is_operator_name text && not (list_any (is_called text) rows)) text
          (text_said whose field.Name ms text is))

      said : (name : List ℕ) → name_at rows whose ms ≡ Ok name → (d : Data) × (at_field field.Name ms ≡ Some d) × IsValueOfKey document key d
      said name is =
          let says = (name_is rows whose ms name).0 is in (
            string name,
            says.held,
            (
              name,
              refl,
              says.valid,
              λ k lt same.
                  let row : RowFields = one_of rows k lt in
                  let text : string (get_or rows k row).name ≡ string name = some_same (string (get_or rows k row).name) (string name) (sym (names k row lt) ∙ same) in
                  let one : (get_or rows k row).name ≡ name = cc in
                  says.new k row lt one,
            ),
          )

      again : (d : Data) → at_field field.Name ms ≡ Some d → IsValueOfKey document key d → (name : List ℕ) × (name_at rows whose ms ≡ Ok name)
      again d holds may = (
        may.0,
        (name_is rows whose ms may.0).1 (record {
          held = holds ∙ ap (λ (e : Data). Some e) may.1;
          valid = may.2;
          new = λ k row lt same. may.3 k lt (names k row lt ∙ ap (λ (text : List ℕ). Some (string text)) same ∙ ap (λ (e : Data). Some e) (sym may.1));
        }),
      )

  module _ (operator : ℕ) (ms : Members) (at : standing_at document (place.Operator operator) ≡ Some (table ms)) where
    whose : Place
    whose = place.Operator operator

    -- ---- the policy, and the step of the policy "aged"

    -- the step is not asked for where the policy is another
    no_step : (d : Data) → value_of_key document (Entry (place.Operator operator) field.Policy) ≡ Some d → d ≢ string (codes "aged")
        → ¬ IsAtFault document (Entry (place.Operator operator) field.Step)
    no_step d holds other fault = elim fault [
      | inl missing ↦ other (some_same d (string (codes "aged")) (sym holds ∙ missing.1))
      | inr wrong ↦ wrong.2 (λ aged. absurd (other (some_same d (string (codes "aged")) (sym holds ∙ aged))))
    ]

    same_text : (a b : List ℕ) → bytes_eq a b ≡ true → a ≡ b
    same_text a b h = (bytes_eq-Decides a b).0 h

    told_apart : (a b : List ℕ) → bytes_eq a b ≡ false → string a ≢ string b
    told_apart a b h same = let texts : a ≡ b = cc in false≢true (sym h ∙ (bytes_eq-Decides a b).1 texts)

    -- a policy that has no step
    found_stepless : (text : List ℕ) (policy : Policy) → value_of_key document (Entry (place.Operator operator) field.Policy) ≡ Some (string text)
        → IsValueOfKey document (Entry (place.Operator operator) field.Policy) (string text) → string text ≢ string (codes "aged")
        → Found document (Entry (place.Operator operator) field.Policy ∷ Entry (place.Operator operator) field.Step ∷ []) (Ok policy)
    found_stepless text policy holds may other =
        let right = found_key document {A = Policy} (Entry (place.Operator operator) field.Policy) (Some (string text)) (Ok policy) holds may in
        (right.0, (no_step (string text) holds other, tt))

    by_name : (text : List ℕ) (strict aged short : Bool) → at_field field.Policy ms ≡ Some (string text) → bytes_eq text (codes "strict") ≡ strict
        → bytes_eq text (codes "aged") ≡ aged → bytes_eq text (codes "short") ≡ short
        → Found document {A = Policy} (Entry (place.Operator operator) field.Policy ∷ Entry (place.Operator operator) field.Step ∷ [])
        (if strict then Ok Strict else if aged then aged_at (place.Operator operator) ms else if short then Ok Short else Err (BadValue (Entry (place.Operator operator) field.Policy)))
    unfolding aged_at
    by_name text true aged short holds is_strict is_aged is_short =
        let is : text ≡ codes "strict" = same_text text (codes "strict") is_strict in
        found_stepless text Strict (held_in document (place.Operator operator) field.Policy ms at ∙ holds) (inl (ap string is))
        (λ other. told_apart (codes "strict") (codes "aged") refl (sym (ap string is) ∙ other))
    by_name text false true short holds is_strict is_aged is_short =
        let stands : value_of_key document (Entry (place.Operator operator) field.Policy) ≡ Some (string text) = held_in document (place.Operator operator) field.Policy ms at ∙ holds in
        let is : text ≡ codes "aged" = same_text text (codes "aged") is_aged in
        let aged : value_of_key document (Entry (place.Operator operator) field.Policy) ≡ Some (string (codes "aged")) = under (value_of_key document (Entry (place.Operator operator) field.Policy)) (string text) (string (codes "aged")) stands (ap string is) in
        found_behind document (Entry (place.Operator operator) field.Policy ∷ []) (Entry (place.Operator operator) field.Step ∷ []) (aged_at (place.Operator operator) ms)
        (found_key document {A = Policy} (Entry (place.Operator operator) field.Policy) (Some (string text)) (Ok Strict) stands (inr (inl (ap string is))))
        (found_bind document (Entry (place.Operator operator) field.Step ∷ []) [] (number_of_key (place.Operator operator) field.Step ms) _
        (found_number_in document (place.Operator operator) field.Step ms at ((λ h. refl), (λ h. aged)) (λ d. ((λ may. may aged), (λ number other. number)))) (λ step is_step. tt))
    by_name text false false true holds is_strict is_aged is_short =
        found_stepless text Short (held_in document (place.Operator operator) field.Policy ms at ∙ holds) (inr (inr (ap string (same_text text (codes "short") is_short))))
        (told_apart text (codes "aged") is_aged)
    by_name text false false false holds is_strict is_aged is_short =
        found_before document Policy (Entry (place.Operator operator) field.Policy ∷ []) (Entry (place.Operator operator) field.Step ∷ [])
        (BadValue (Entry (place.Operator operator) field.Policy)) (refused Policy (BadValue (Entry (place.Operator operator) field.Policy))) refl
        (found_key document {A = Policy} (Entry (place.Operator operator) field.Policy) (Some (string text)) (Err (BadValue (Entry (place.Operator operator) field.Policy)))
        (held_in document (place.Operator operator) field.Policy ms at ∙ holds) (
          (λ may. elim may [
            | inl one ↦ told_apart text (codes "strict") is_strict one
            | inr more ↦ elim more [ inl two ↦ told_apart text (codes "aged") is_aged two | inr three ↦ told_apart text (codes "short") is_short three ]
          ]),
          refl,
        ))

    by_text : (d : Data) (o : Option (List ℕ)) → at_field field.Policy ms ≡ Some d → as_str d ≡ o
        → Found document {A = Policy} (Entry (place.Operator operator) field.Policy ∷ Entry (place.Operator operator) field.Step ∷ [])
        (expected_value (Entry (place.Operator operator) field.Policy) o >>= λ text. policy_named text (place.Operator operator) ms)
    unfolding policy_named
    by_text d None holds is =
        found_before document Policy (Entry (place.Operator operator) field.Policy ∷ []) (Entry (place.Operator operator) field.Step ∷ [])
        (BadValue (Entry (place.Operator operator) field.Policy)) (refused Policy (BadValue (Entry (place.Operator operator) field.Policy))) refl
        (found_key document {A = Policy} (Entry (place.Operator operator) field.Policy) (Some d) (Err (BadValue (Entry (place.Operator operator) field.Policy)))
        (held_in document (place.Operator operator) field.Policy ms at ∙ holds) (
          (λ may. elim may [
            | inl one ↦ no_text (codes "strict") one
            | inr more ↦ elim more [ inl two ↦ no_text (codes "aged") two | inr three ↦ no_text (codes "short") three ]
          ]),
          refl,
        ))
      where
        no_text : (text : List ℕ) → d ≡ string text → ⊥
        no_text text same = let e : ◌≡◌ {A = Option (List ℕ)} None (Some text) = sym is ∙ ap as_str same in cc
    by_text d (Some text) holds is =
        by_name text (bytes_eq text (codes "strict")) (bytes_eq text (codes "aged")) (bytes_eq text (codes "short"))
        (under (at_field field.Policy ms) d (string text) holds (string_is d text is)) refl refl refl

    by_policy : (o : Option Data) → at_field field.Policy ms ≡ o
        → Found document {A = Policy} (Entry (place.Operator operator) field.Policy ∷ Entry (place.Operator operator) field.Step ∷ [])
        ((required_value (Entry (place.Operator operator) field.Policy) o >>= λ d. expected_value (Entry (place.Operator operator) field.Policy) (as_str d))
        >>= λ text. policy_named text (place.Operator operator) ms)
    by_policy None holds =
        found_before document Policy (Entry (place.Operator operator) field.Policy ∷ []) (Entry (place.Operator operator) field.Step ∷ [])
        (Missing (Entry (place.Operator operator) field.Policy)) (refused Policy (Missing (Entry (place.Operator operator) field.Policy))) refl
        (found_key document {A = Policy} (Entry (place.Operator operator) field.Policy) None (Err (Missing (Entry (place.Operator operator) field.Policy)))
        (held_in document (place.Operator operator) field.Policy ms at ∙ holds) (tt, refl))
    by_policy (Some d) holds = by_text d (as_str d) holds refl

    found_policy : Found document (Entry (place.Operator operator) field.Policy ∷ Entry (place.Operator operator) field.Step ∷ []) (policy_at (place.Operator operator) ms)
    unfolding policy_at text_at
    found_policy = by_policy (at_field field.Policy ms) refl

    -- ---- the modems

    found_modems : Found document (Entry (place.Operator operator) field.Modems ∷ []) (modems_at (place.Operator operator) ms)
    unfolding modems_at
    found_modems =
        found_key document key (at_field field.Modems ms) (modems_at (place.Operator operator) ms) (held_in document (place.Operator operator) field.Modems ms at)
        (judged_required document key (at_field field.Modems ms) (modems_at (place.Operator operator) ms) tt blames said again)
      where
        key : Key
        key = Entry (place.Operator operator) field.Modems

        blames : Blames key (at_field field.Modems ms) (modems_at (place.Operator operator) ms)
        blames =
            blames_bind key (at_field field.Modems ms) (array_at (place.Operator operator) field.Modems ms) _ (blames_array (place.Operator operator) field.Modems ms)
            (λ ds is.
            let holds : at_field field.Modems ms ≡ Some (array ds) = array_said (place.Operator operator) field.Modems ms ds is in
            blames_bind key (at_field field.Modems ms) (checked_value key (nat_le 1 (items_len ds) && nat_le (items_len ds) 1024) ds) _
            (blames_checked key (at_field field.Modems ms) (array ds) (nat_le 1 (items_len ds) && nat_le (items_len ds) 1024) ds holds)
            (λ few is_few. blames_each (place.Operator operator) (at_field field.Modems ms) (array ds) [] few holds))

        said : (modems : List Modem) → modems_at (place.Operator operator) ms ≡ Ok modems → (d : Data) × (at_field field.Modems ms ≡ Some d) × IsValueOfKey document key d
        said modems is =
            let says = (modems_are (place.Operator operator) ms modems).0 is in
            (array says.ds, says.held, (says.ds, refl, says.count, all_said [] says.ds modems says.addresses))

        again : (d : Data) → at_field field.Modems ms ≡ Some d → IsValueOfKey document key d → (modems : List Modem) × (modems_at (place.Operator operator) ms ≡ Ok modems)
        again d holds may =
            let all = all_again [] may.0 may.3 in (
              all.0,
              (modems_are (place.Operator operator) ms all.0).1 (record {
                ds = may.0;
                held = holds ∙ ap (λ (e : Data). Some e) may.1;
                count = may.2;
                addresses = all.1;
              }),
            )

  -- ---- an operator

  found_row : (consts : ConstsFields) (says_consts : SaysConsts document consts) (rows : List RowFields) (ms : Members)
      → standing_at document (place.Operator (length rows)) ≡ Some (table ms) → Names rows
      → Found document (map (Entry (place.Operator (length rows))) operator_fields
      ++ in_turn (flow_keys (length rows)) 0 (items_in (value_of_key document (Entry (place.Operator (length rows)) field.Flow)))) (row_at consts rows (length rows) ms)
  unfolding row_at
  found_row consts says_consts rows ms at names =
      among (field.Name ∷ []) (field.Slice ∷ field.Sfids ∷ field.Sids ∷ field.Flows ∷ field.Transactions ∷ field.Inbox ∷ field.Budget ∷ field.Elements ∷ field.Policy ∷ field.Step ∷ field.Modems ∷ field.Flow ∷ []) (name_at rows (place.Operator (length rows)) ms) _ (found_name rows ms at names)
      (λ name is_name. among (field.Slice ∷ []) (field.Sfids ∷ field.Sids ∷ field.Flows ∷ field.Transactions ∷ field.Inbox ∷ field.Budget ∷ field.Elements ∷ field.Policy ∷ field.Step ∷ field.Modems ∷ field.Flow ∷ []) (slice_at consts (place.Operator (length rows)) ms) _ (found_slice document consts (length rows) ms at says_consts)
      (λ slice is_slice. among (field.Sfids ∷ []) (field.Sids ∷ field.Flows ∷ field.Transactions ∷ field.Inbox ∷ field.Budget ∷ field.Elements ∷ field.Policy ∷ field.Step ∷ field.Modems ∷ field.Flow ∷ []) (range_at (place.Operator (length rows)) field.Sfids ms) _ (found_range document (place.Operator (length rows)) field.Sfids ms at tt (λ d. ((λ h. h), (λ h. h))))
      (λ sfids is_sfids. among (field.Sids ∷ []) (field.Flows ∷ field.Transactions ∷ field.Inbox ∷ field.Budget ∷ field.Elements ∷ field.Policy ∷ field.Step ∷ field.Modems ∷ field.Flow ∷ []) (range_at (place.Operator (length rows)) field.Sids ms) _ (found_range document (place.Operator (length rows)) field.Sids ms at tt (λ d. ((λ h. h), (λ h. h))))
      (λ sids is_sids. among (field.Flows ∷ []) (field.Transactions ∷ field.Inbox ∷ field.Budget ∷ field.Elements ∷ field.Policy ∷ field.Step ∷ field.Modems ∷ field.Flow ∷ []) (number_of_key (place.Operator (length rows)) field.Flows ms) _ (found_number_in document (place.Operator (length rows)) field.Flows ms at ((λ h. refl), (λ h. tt)) (λ d. ((λ h. h), (λ h. h))))
      (λ flows is_flows. among (field.Transactions ∷ []) (field.Inbox ∷ field.Budget ∷ field.Elements ∷ field.Policy ∷ field.Step ∷ field.Modems ∷ field.Flow ∷ []) (number_of_key (place.Operator (length rows)) field.Transactions ms) _ (found_number_in document (place.Operator (length rows)) field.Transactions ms at ((λ h. refl), (λ h. tt)) (λ d. ((λ h. h), (λ h. h))))
      (λ transactions is_transactions. among (field.Inbox ∷ []) (field.Budget ∷ field.Elements ∷ field.Policy ∷ field.Step ∷ field.Modems ∷ field.Flow ∷ []) (number_of_key (place.Operator (length rows)) field.Inbox ms) _ (found_number_in document (place.Operator (length rows)) field.Inbox ms at ((λ h. refl), (λ h. tt)) (λ d. ((λ h. h), (λ h. h))))
      (λ inbox is_inbox. among (field.Budget ∷ []) (field.Elements ∷ field.Policy ∷ field.Step ∷ field.Modems ∷ field.Flow ∷ []) (number_of_key (place.Operator (length rows)) field.Budget ms) _ (found_number_in document (place.Operator (length rows)) field.Budget ms at ((λ h. refl), (λ h. tt)) (λ d. ((λ h. h), (λ h. h))))
      (λ budget is_budget. among (field.Elements ∷ []) (field.Policy ∷ field.Step ∷ field.Modems ∷ field.Flow ∷ []) (number_of_key (place.Operator (length rows)) field.Elements ms) _ (found_number_in document (place.Operator (length rows)) field.Elements ms at ((λ h. refl), (λ h. tt)) (λ d. ((λ h. h), (λ h. h))))
      (λ elements is_elements. among (field.Policy ∷ field.Step ∷ []) (field.Modems ∷ field.Flow ∷ []) (policy_at (place.Operator (length rows)) ms) _ (found_policy (length rows) ms at)
      (λ policy is_policy. among (field.Modems ∷ []) (field.Flow ∷ []) (modems_at (place.Operator (length rows)) ms) _ (found_modems (length rows) ms at)
      (λ modems is_modems. found_last document (own (field.Flow ∷ []) ++ flows_behind) (provisions_if consts (length rows) modems (at_field field.Flow ms)) _
      (found_flows document consts says_consts (length rows) ms at modems ((modems_are (place.Operator (length rows)) ms modems).0 is_modems)))))))))))))
    where
      own : List Field → List Key
      own fields = map (Entry (place.Operator (length rows))) fields

      flows_behind : List Key
      flows_behind = in_turn (flow_keys (length rows)) 0 (items_in (value_of_key document (Entry (place.Operator (length rows)) field.Flow)))

      among : {A B : Type 0} (fields more : List Field) (r : PlantResult A) (f : A → PlantResult B) → Found document (own fields) r
          → ((x : A) → r ≡ Ok x → Found document (own more ++ flows_behind) (f x)) → Found document (own fields ++ (own more ++ flows_behind)) (r >>= f)
      among fields more r f found rest = found_bind document (own fields) (own more ++ flows_behind) r f found rest

  found_operator : (consts : ConstsFields) → SaysConsts document consts → (rows : List RowFields) (d : Data)
      → standing_at document (place.Operator (length rows)) ≡ Some d → Names rows → Found document (operator_keys document (length rows)) (row_read consts rows d)
  unfolding row_read
  found_operator consts says_consts rows d at names =
      let whose : Place = place.Operator (length rows) in
      found_bind document (Table whose ∷ []) (map (Entry whose) operator_fields ++ in_turn (flow_keys (length rows)) 0 (items_in (value_of_key document (Entry whose field.Flow))))
      (table_of whose d) _ (found_table document whose d at)
      (λ ms is. found_row consts says_consts rows ms (under (standing_at document whose) d (table ms) at (table_said whose d ms is)) names)

  -- ---- one after the other

  -- its name stands in the document
  name_stands : (consts : ConstsFields) (rows : List RowFields) (d : Data) (row : RowFields) → standing_at document (place.Operator (length rows)) ≡ Some d
      → row_read consts rows d ≡ Ok row → value_of_key document (Entry (place.Operator (length rows)) field.Name) ≡ Some (string row.name)
  name_stands consts rows d row at is =
      let says = (row_is consts rows d row).0 is in
      held_in document (place.Operator (length rows)) field.Name says.ms (under (standing_at document (place.Operator (length rows))) d (table says.ms) at says.is)
      ∙ says.name.held

  abbrev Inv : ℕ → List RowFields → Type 0
  Inv n rows = (length rows ≡ n) × Names rows

  more_names : (rows : List RowFields) (row : RowFields) → Names rows → value_of_key document (Entry (place.Operator (length rows)) field.Name) ≡ Some (string row.name)
      → Names (rows ++ row ∷ [])
  more_names rows row names stands k d lt =
      below_more (λ (m : ℕ). (e : RowFields) → value_of_key document (Entry (place.Operator m) field.Name) ≡ Some (string (get_or (rows ++ row ∷ []) m e).name)) (length rows)
      (λ m less e. names m e less ∙ ap (λ (r : RowFields). Some (string r.name)) (sym (get_or_append_left rows (row ∷ []) e m less)))
      (λ e. stands ∙ ap (λ (r : RowFields). Some (string r.name)) (sym (get_or_push rows row e (length rows) refl)))
      k (omega (arith, lt, length-append rows (row ∷ []))) d

  module _ (consts : ConstsFields) (says_consts : SaysConsts document consts) where
    module _ (all : Items) (held_all : get_member (codes "operator") document ≡ Some (array all)) where
      -- the place of an item
      stands_at : (n : ℕ) (d : Data) → get_item n all ≡ Some d → standing_at document (place.Operator n) ≡ Some d
      stands_at n d at = ap (item_in n) held_all ∙ at

      step : (n : ℕ) (rows : List RowFields) (d : Data) → Inv n rows → get_item n all ≡ Some d → Found document (operator_keys document n) (row_read consts rows d)
      step n rows d inv at =
          let here : standing_at document (place.Operator (length rows)) ≡ Some d = stands_at (length rows) d (subst (λ (m : ℕ). get_item m all ≡ Some d) (sym inv.0) at) in
          subst (λ (m : ℕ). Found document (operator_keys document m) (row_read consts rows d)) inv.0 (found_operator consts says_consts rows d here inv.1)

      keep : (n : ℕ) (rows : List RowFields) (d : Data) (row : RowFields) → Inv n rows → get_item n all ≡ Some d → row_read consts rows d ≡ Ok row → Inv (suc n) (rows ++ row ∷ [])
      keep n rows d row inv at is =
          let here : standing_at document (place.Operator (length rows)) ≡ Some d = stands_at (length rows) d (subst (λ (m : ℕ). get_item m all ≡ Some d) (sym inv.0) at) in
          (omega (arith, inv.0, length-append rows (row ∷ [])), more_names rows row inv.1 (name_stands consts rows d row here is))

      found_all : Found document (in_turn (operator_keys document) 0 all) (each (row_read consts) [] all)
      found_all =
          found_each document (row_read consts) (operator_keys document) Inv all step keep 0 [] all
          (λ k. ap (λ (m : ℕ). get_item m all) (let e : k ≡ 0 + k = omega arith in e)) (refl, λ k d lt. absurd (omega (arith, lt)))

    -- ---- the array

    by_count : (d : Data) (ds : Items) (some few : Bool) → get_member (codes "operator") document ≡ Some d → d ≡ array ds → nat_le 1 (items_len ds) ≡ some
        → nat_le (items_len ds) 32 ≡ few
        → Found document ((Operators ∷ []) ++ in_turn (operator_keys document) 0 ds) (checked_value Operators (some && few) ds >>= each (row_read consts) [])
    by_count d ds true true at is is_some is_few =
        found_behind document (Operators ∷ []) (in_turn (operator_keys document) 0 ds) (each (row_read consts) [] ds)
        (found_key document {A = Items} Operators (Some d) (Ok ds) at (ds, is, at_most 1 (items_len ds) is_some, at_most (items_len ds) 32 is_few))
        (found_all ds (under (get_member (codes "operator") document) d (array ds) at is))
    by_count d ds true false at is is_some is_few =
        found_before document (List RowFields) (Operators ∷ []) (in_turn (operator_keys document) 0 ds) (BadValue Operators) (refused Items (BadValue Operators)) refl
        (found_key document {A = Items} Operators (Some d) (Err (BadValue Operators)) at (
          (λ may.
              let same : ds ≡ may.0 = let e : array ds ≡ array may.0 = sym is ∙ may.1 in cc in
              true≢false (sym (le_true (items_len ds) 32 (subst (λ (es : Items). items_len es ≤ 32) (sym same) may.3)) ∙ is_few)),
          refl,
        ))
    by_count d ds false few at is is_some is_few =
        found_before document (List RowFields) (Operators ∷ []) (in_turn (operator_keys document) 0 ds) (BadValue Operators) (refused Items (BadValue Operators)) refl
        (found_key document {A = Items} Operators (Some d) (Err (BadValue Operators)) at (
          (λ may.
              let same : ds ≡ may.0 = let e : array ds ≡ array may.0 = sym is ∙ may.1 in cc in
              true≢false (sym (le_true 1 (items_len ds) (subst (λ (es : Items). 1 ≤ items_len es) (sym same) may.2)) ∙ is_some)),
          refl,
        ))

    by_array : (d : Data) (o : Option Items) → get_member (codes "operator") document ≡ Some d → as_array d ≡ o
        → Found document ((Operators ∷ []) ++ in_turn (operator_keys document) 0 (items_or_none o))
        (expected_value Operators o >>= λ ds. checked_value Operators (nat_le 1 (items_len ds) && nat_le (items_len ds) 32) ds >>= λ few. each (row_read consts) [] few)
    by_array d None at is =
        found_key document {A = List RowFields} Operators (Some d) (Err (BadValue Operators)) at
        ((λ may. let e : ◌≡◌ {A = Option Items} None (Some may.0) = sym is ∙ ap as_array may.1 in cc), refl)
    by_array d (Some ds) at is = by_count d ds (nat_le 1 (items_len ds)) (nat_le (items_len ds) 32) at (array_is d ds is) refl refl

    by_rows : (o : Option Data) → get_member (codes "operator") document ≡ o
        → Found document ((Operators ∷ []) ++ in_turn (operator_keys document) 0 (items_in o))
        (required_value Operators o >>= λ d. expected_value Operators (as_array d)
        >>= λ ds. checked_value Operators (nat_le 1 (items_len ds) && nat_le (items_len ds) 32) ds >>= λ few. each (row_read consts) [] few)
    by_rows None at = found_key document {A = List RowFields} Operators None (Err (Missing Operators)) at (tt, refl)
    by_rows (Some d) at = by_array d (as_array d) at refl

    pub found_rows : Found document ((Operators ∷ []) ++ in_turn (operator_keys document) 0 (items_in (value_of_key document Operators))) (rows_of consts document)
    unfolding rows_of
    found_rows = by_rows (get_member (codes "operator") document) refl
