-- The reading of an operator's provisioned flows.
use Rattle.std.proofs.Common.{◌≡◌, ℕ, suc, ◌+◌, true, List, [], ◌∷◌, ◌++◌, length, length-append, Option, Some, None, Ok, Err, refl, sym, ap, ◌∙◌, subst, arith}
use Rattle.std.proofs.Common.{IsSome}
use Rattle.slice_table.proofs.FileKeysLemmas.Common.{Data, string, array, table, Items, Members, get_item, as_str, as_array, decode_sized, ◌>>=◌, Modem, ConstsFields, BadValue, Key, Table, Entry, Place, SaysConsts, SaysModems, ok_same, bind_ok, required_ok, checked_ok, bind_both, required_said, checked_said, array_is, bytes_is, address_is, table_said, under, modems_are, sets_there, item_in, table_in, items_or_none, items_in, standing_at, value_of_key, in_turn, flow_keys, IsValueOfKey}
use Rattle.plant.specs.declared.provision.Provision.{Provision}
use Rattle.slice_table.specs.declared.plant_key.Field.TheVariants as field
use Rattle.slice_table.specs.declared.plant_key.Place.TheVariants as place
use Rattle.plant.specs.Provisioned.{sets_of_encoding}
use Rattle.plant.specs.Row.{is_listed}
use Rattle.slice_table.specs.Tree.{PlantResult, each, required_value, expected_value, checked_value, at_field, bytes_at, modem_in, modem_of, modem_at, table_of}
use Rattle.slice_table.specs.ReadRows.{own_modem_at, has_sets, provision_at, provision_read, provisions_in, provisions_if}
use Rattle.slice_table.proofs.FileKeysLemmas.ListLemmas.{some_same}
use Rattle.slice_table.proofs.FileKeysLemmas.FoundLemmas.{Blames, blames_required, blames_bind, blames_expected, blames_checked, Found, found_behind, found_bind, found_key, found_each, judged_required}
use Rattle.slice_table.proofs.FileKeysLemmas.KeyLemmas.{held_in, found_table, blames_bytes, consts_one}

pub blames_address : (key : Key) (o : Option Data) (d : Data) → o ≡ Some d → Blames key o (modem_of key d)
unfolding modem_of
blames_address key o d at =
    blames_bind key o (expected_value key (as_str d)) _ (blames_expected key o d (as_str d) at)
    (λ text is. blames_expected key o d (modem_in (decode_sized text 6)) at)

-- a table says one list of modems
pub modems_one : (place : Place) (ms : Members) (a b : List Modem) → SaysModems ms a → SaysModems ms b → a ≡ b
modems_one place ms a b x y = ok_same a b (sym ((modems_are place ms a).1 x) ∙ (modems_are place ms b).1 y)

module _ (document : Members) (consts : ConstsFields) (says_consts : SaysConsts document consts) (operator : ℕ) (whole : Members)
    (at_operator : standing_at document (place.Operator operator) ≡ Some (table whole)) (modems : List Modem) (says_modems : SaysModems whole modems) where
  module _ (flow : ℕ) (ms : Members) (at : standing_at document (place.Flow operator flow) ≡ Some (table ms)) where
    found_own : Found document (Entry (place.Flow operator flow) field.Modem ∷ []) (own_modem_at modems (place.Flow operator flow) ms)
    unfolding own_modem_at modem_at
    found_own =
        found_key document key (at_field field.Modem ms) (own_modem_at modems whose ms) (held_in document whose field.Modem ms at)
        (judged_required document key (at_field field.Modem ms) (own_modem_at modems whose ms) tt blames said again)
      where
        whose : Place
        whose = place.Flow operator flow

        key : Key
        key = Entry whose field.Modem

        there : (modem : Modem) → modem_at whose field.Modem ms ≡ Ok modem → (d : Data) × (at_field field.Modem ms ≡ Some d) × (modem_of key d ≡ Ok modem)
        there modem is =
            let d = bind_ok (required_value key (at_field field.Modem ms)) _ modem is in
            (d.0, required_ok key (at_field field.Modem ms) d.0 d.1, d.2)

        blames : Blames key (at_field field.Modem ms) (own_modem_at modems whose ms)
        blames =
            blames_bind key (at_field field.Modem ms) (modem_at whose field.Modem ms) _
            (blames_bind key (at_field field.Modem ms) (required_value key (at_field field.Modem ms)) _ (blames_required key (at_field field.Modem ms))
            (λ d is. blames_address key (at_field field.Modem ms) d (required_ok key (at_field field.Modem ms) d is)))
            (λ modem is. let d = there modem is in blames_checked key (at_field field.Modem ms) d.0 (is_listed modem modems) modem d.1)

        said : (modem : Modem) → own_modem_at modems whose ms ≡ Ok modem → (d : Data) × (at_field field.Modem ms ≡ Some d) × IsValueOfKey document key d
        said modem is =
            let found = bind_ok (modem_at whose field.Modem ms) _ modem is in
            let own = checked_ok key (is_listed found.0 modems) found.0 modem found.2 in
            let d = there found.0 found.1 in
            (d.0, d.1, (whole, modems, found.0, ap table_in at_operator, says_modems, (address_is key d.0 found.0).0 d.2, own.0))

        again : (d : Data) → at_field field.Modem ms ≡ Some d → IsValueOfKey document key d → (modem : Modem) × (own_modem_at modems whose ms ≡ Ok modem)
        again d holds may =
            let same : may.0 ≡ whole = some_same may.0 whole (sym may.3 ∙ ap table_in at_operator) in
            let ones : may.1 ≡ modems = modems_one whose whole may.1 modems (subst (λ (m : Members). SaysModems m may.1) same may.4) says_modems in
            let mine : is_listed may.2 modems ≡ true = subst (λ (list : List Modem). is_listed may.2 list ≡ true) ones may.6 in
            let read : modem_at whose field.Modem ms ≡ Ok may.2 =
            bind_both (required_value key (at_field field.Modem ms)) _ d may.2 (required_said key (at_field field.Modem ms) d holds) ((address_is key d may.2).1 may.5) in
            (may.2, bind_both (modem_at whose field.Modem ms) _ may.2 may.2 read (checked_said key (is_listed may.2 modems) may.2 mine))

    -- the flow of an encoding
    with : Modem → List ℕ → Provision
    with modem encoding = record { modem = modem; encoding = encoding }

    found_sets : (modem : Modem) → Found document {A = Provision} (Entry (place.Flow operator flow) field.Encoding ∷ [])
        (bytes_at (place.Flow operator flow) field.Encoding ms >>= λ encoding. checked_value (Entry (place.Flow operator flow) field.Encoding)
        (has_sets consts (record { modem = modem; encoding = encoding })) (record { modem = modem; encoding = encoding }))
    unfolding with
    found_sets modem =
        found_key document key (at_field field.Encoding ms) reading (held_in document whose field.Encoding ms at)
        (judged_required document key (at_field field.Encoding ms) reading tt blames said again)
      where
        whose : Place
        whose = place.Flow operator flow

        key : Key
        key = Entry whose field.Encoding

        reading : PlantResult Provision
        reading = bytes_at whose field.Encoding ms >>= λ encoding. checked_value key (has_sets consts (with modem encoding)) (with modem encoding)

        blames : Blames key (at_field field.Encoding ms) reading
        blames =
            blames_bind key (at_field field.Encoding ms) (bytes_at whose field.Encoding ms) _ (blames_bytes whose field.Encoding ms)
            (λ encoding is. let s = (bytes_is whose field.Encoding ms encoding).0 is in
            blames_checked key (at_field field.Encoding ms) (string s.0) (has_sets consts (with modem encoding)) (with modem encoding) s.1)

        said : (p : Provision) → reading ≡ Ok p → (d : Data) × (at_field field.Encoding ms ≡ Some d) × IsValueOfKey document key d
        said p is =
            let encoding = bind_ok (bytes_at whose field.Encoding ms) _ p is in
            let s = (bytes_is whose field.Encoding ms encoding.0).0 encoding.1 in
            let test = checked_ok key (has_sets consts (with modem encoding.0)) (with modem encoding.0) p encoding.2 in
            (string s.0, s.1, (consts, encoding.0, says_consts, (s.0, refl, s.2), (sets_there consts (with modem encoding.0)).0 test.0))

        again : (d : Data) → at_field field.Encoding ms ≡ Some d → IsValueOfKey document key d → (p : Provision) × (reading ≡ Ok p)
        again d holds may =
            let same : may.0 ≡ consts = consts_one document may.0 consts may.2 says_consts in
            let sets : IsSome (sets_of_encoding consts may.1) = subst (λ (c : ConstsFields). IsSome (sets_of_encoding c may.1)) same may.4 in
            let p : Provision = with modem may.1 in (
              p,
              bind_both (bytes_at whose field.Encoding ms) _ may.1 p
                  ((bytes_is whose field.Encoding ms may.1).1 (may.3.0, holds ∙ ap (λ (e : Data). Some e) may.3.1, may.3.2))
                  (checked_said key (has_sets consts p) p ((sets_there consts p).1 sets)),
            )

    found_keys : Found document (Entry (place.Flow operator flow) field.Modem ∷ Entry (place.Flow operator flow) field.Encoding ∷ [])
        (provision_at consts modems (place.Flow operator flow) ms)
    unfolding provision_at
    found_keys =
        found_bind document (Entry (place.Flow operator flow) field.Modem ∷ []) (Entry (place.Flow operator flow) field.Encoding ∷ [])
        (own_modem_at modems (place.Flow operator flow) ms) _ found_own (λ modem is. found_sets modem)

  found_flow : (done : List Provision) (d : Data) → standing_at document (place.Flow operator (length done)) ≡ Some d
      → Found document (flow_keys operator (length done)) (provision_read consts operator modems done d)
  unfolding provision_read
  found_flow done d at =
      let whose : Place = place.Flow operator (length done) in
      found_bind document (Table whose ∷ []) (Entry whose field.Modem ∷ Entry whose field.Encoding ∷ []) (table_of whose d) _ (found_table document whose d at)
      (λ ms is. found_keys (length done) ms (under (standing_at document whose) d (table ms) at (table_said whose d ms is)))

  -- ---- one after the other

  abbrev Inv : ℕ → List Provision → Type 0
  Inv n done = length done ≡ n

  module _ (all : Items) (held_all : value_of_key document (Entry (place.Operator operator) field.Flow) ≡ Some (array all)) where
    step : (n : ℕ) (done : List Provision) (d : Data) → Inv n done → get_item n all ≡ Some d → Found document (flow_keys operator n) (provision_read consts operator modems done d)
    step n done d inv at =
        let here : standing_at document (place.Flow operator (length done)) ≡ Some d =
        ap (item_in (length done)) held_all ∙ subst (λ (m : ℕ). get_item m all ≡ Some d) (sym inv) at in
        subst (λ (m : ℕ). Found document (flow_keys operator m) (provision_read consts operator modems done d)) inv (found_flow done d here)

    keep : (n : ℕ) (done : List Provision) (d : Data) (p : Provision) → Inv n done → get_item n all ≡ Some d → provision_read consts operator modems done d ≡ Ok p
        → Inv (suc n) (done ++ p ∷ [])
    keep n done d p inv at is = omega (arith, inv, length-append done (p ∷ []))

    found_all : Found document (in_turn (flow_keys operator) 0 all) (each (provision_read consts operator modems) [] all)
    found_all =
        found_each document (provision_read consts operator modems) (flow_keys operator) Inv all step keep 0 [] all
        (λ k. ap (λ (m : ℕ). get_item m all) (let e : k ≡ 0 + k = omega arith in e)) refl

  -- ---- the array

  by_array : (d : Data) (o : Option Items) → value_of_key document (Entry (place.Operator operator) field.Flow) ≡ Some d → as_array d ≡ o
      → Found document ((Entry (place.Operator operator) field.Flow ∷ []) ++ in_turn (flow_keys operator) 0 (items_or_none o))
      (expected_value (Entry (place.Operator operator) field.Flow) o >>= λ ds. each (provision_read consts operator modems) [] ds)
  by_array d None at is =
      found_key document {A = List Provision} (Entry (place.Operator operator) field.Flow) (Some d) (Err (BadValue (Entry (place.Operator operator) field.Flow))) at
      ((λ may. let e : ◌≡◌ {A = Option Items} None (Some may.0) = sym is ∙ ap as_array may.1 in cc), refl)
  by_array d (Some ds) at is =
      found_behind document (Entry (place.Operator operator) field.Flow ∷ []) (in_turn (flow_keys operator) 0 ds) (each (provision_read consts operator modems) [] ds)
      (found_key document {A = Items} (Entry (place.Operator operator) field.Flow) (Some d) (Ok ds) at (ds, array_is d ds is))
      (found_all ds (under (value_of_key document (Entry (place.Operator operator) field.Flow)) d (array ds) at (array_is d ds is)))

  by_flows : (o : Option Data) → value_of_key document (Entry (place.Operator operator) field.Flow) ≡ o
      → Found document ((Entry (place.Operator operator) field.Flow ∷ []) ++ in_turn (flow_keys operator) 0 (items_in o)) (provisions_if consts operator modems o)
  unfolding provisions_in
  by_flows None at = found_key document {A = List Provision} (Entry (place.Operator operator) field.Flow) None (Ok []) at (λ h. h)
  by_flows (Some d) at = by_array d (as_array d) at refl

  pub found_flows : Found document
      ((Entry (place.Operator operator) field.Flow ∷ []) ++ in_turn (flow_keys operator) 0 (items_in (value_of_key document (Entry (place.Operator operator) field.Flow))))
      (provisions_if consts operator modems (at_field field.Flow whole))
  found_flows =
      let stands : value_of_key document (Entry (place.Operator operator) field.Flow) ≡ at_field field.Flow whole = held_in document (place.Operator operator) field.Flow whole at_operator in
      subst (λ (o : Option Data). Found document
      ((Entry (place.Operator operator) field.Flow ∷ []) ++ in_turn (flow_keys operator) 0 (items_in (value_of_key document (Entry (place.Operator operator) field.Flow))))
      (provisions_if consts operator modems o)) stands (by_flows (value_of_key document (Entry (place.Operator operator) field.Flow)) refl)
