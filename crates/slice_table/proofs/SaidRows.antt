-- A reading of the operators answers rows exactly where the keys say them.
use Rattle.std.proofs.Common.{◌≡◌, ◌≢◌, ℕ, ◌↔◌, inl, inr, nat_le, ◌&&◌, Bool, true, false, not, List, [], length, get_or, Option, Some, None, Ok, codes, IsSome, refl, sym, subst, ap, ◌∙◌}
use Rattle.slice_table.proofs.Common.{bytes_eq, is_ascii_alphanumeric, list_all, list_any, and_parts, not-true, false_from_ne_true, list_any_none, bytes_eq-Decides, Data, array, table, Items, Members, get_member, as_array, Modem, ConstsFields, RowFields, Provision, Place, Operators, Entry, sets_of_encoding, is_listed, IsAddress, SayInTurn, SaysName, SaysModems, SaysProvision, SaysProvisions, SaysRow, SaysRows}
use Rattle.slice_table.specs.declared.plant_key.Field.TheVariants as field
use Rattle.slice_table.specs.declared.plant_key.Place.TheVariants as place
use Rattle.plant.specs.Name.{IsOperatorName, is_operator_name}
use Rattle.slice_table.specs.Tree.{items_len, required_value, expected_value, checked_value, at_field, number_of_key, text_at, bytes_at, array_at, modem_at, table_of}
use Rattle.slice_table.specs.ReadRows.{is_called, name_at, slice_at, range_at, policy_at, modem_read, modems_at, own_modem_at, has_sets, provision_at, provision_read, provisions_in, provisions_if, row_at, row_read, rows_of}
use Rattle.slice_table.proofs.Parsed.{ok_same, bind_ok, required_ok, expected_ok, checked_ok}
use Rattle.slice_table.proofs.RowParts.{row_parts}
use Rattle.slice_table.proofs.Values.{at_most, none_passes, told_apart}
use Rattle.slice_table.proofs.SaidKeys.{bind_both, required_said, checked_said, both_true, le_true, array_is, under, number_in_is, slice_is, range_is, text_said, text_again, bytes_is, address_is, policy_is, turn_is, array_said, array_again, table_said, table_again}

-- ---- the name

pub named : (text : List ℕ) → is_operator_name text ≡ true → IsOperatorName text
unfolding is_operator_name
named text h =
    let parts = and_parts (nat_le 1 (length text) && nat_le (length text) 16) (list_all is_ascii_alphanumeric text) h in
    let sizes = and_parts (nat_le 1 (length text)) (nat_le (length text) 16) parts.0 in
    record { some = at_most 1 (length text) sizes.0; few = at_most (length text) 16 sizes.1; letters = parts.1 }

pub named_again : (text : List ℕ) → IsOperatorName text → is_operator_name text ≡ true
unfolding is_operator_name
named_again text h =
    both_true (nat_le 1 (length text) && nat_le (length text) 16) (list_all is_ascii_alphanumeric text)
    (both_true (nat_le 1 (length text)) (nat_le (length text) 16) (le_true 1 (length text) h.some) (le_true (length text) 16 h.few)) h.letters

-- bytes that differ are told apart
pub differ : (a b : List ℕ) → a ≢ b → bytes_eq a b ≡ false
differ a b h = false_from_ne_true (bytes_eq a b) (λ e. h ((bytes_eq-Decides a b).0 e))

pub not_again : (b : Bool) → b ≡ false → not b ≡ true
not_again b h = ap not h

pub name_is : (rows : List RowFields) (place : Place) (ms : Members) (name : List ℕ) → (name_at rows place ms ≡ Ok name) ↔ SaysName rows ms name
unfolding name_at
name_is rows place ms name = (
  λ h.
      let text = bind_ok (text_at place field.Name ms) _ name h in
      let test = checked_ok (Entry place field.Name) (is_operator_name text.0 && not (list_any (is_called text.0) rows)) text.0 name text.2 in
      let parts = and_parts (is_operator_name text.0) (not (list_any (is_called text.0) rows)) test.0 in
      subst (SaysName rows ms) test.1 (record {
        held = text_said place field.Name ms text.0 text.1;
        valid = named text.0 parts.0;
        new = λ k d lt. told_apart (get_or rows k d).name text.0 (none_passes (is_called text.0) rows k d (not-true (list_any (is_called text.0) rows) parts.1) lt);
      }),
  λ s.
      let new : list_any (is_called name) rows ≡ false = list_any_none (is_called name) rows (λ k d lt. differ (get_or rows k d).name name (s.new k d lt)) in
      bind_both (text_at place field.Name ms) _ name name (text_again place field.Name ms name s.held)
      (checked_said (Entry place field.Name) (is_operator_name name && not (list_any (is_called name) rows)) name
      (both_true (is_operator_name name) (not (list_any (is_called name) rows)) (named_again name s.valid) (not_again (list_any (is_called name) rows) new))),
)

-- ---- the modems

pub modems_are : (place : Place) (ms : Members) (modems : List Modem) → (modems_at place ms ≡ Ok modems) ↔ SaysModems ms modems
unfolding modems_at
modems_are place ms modems = (
  λ h.
      let ds = bind_ok (array_at place field.Modems ms) _ modems h in
      let few = bind_ok (checked_value (Entry place field.Modems) (nat_le 1 (items_len ds.0) && nat_le (items_len ds.0) 1024) ds.0) _ modems ds.2 in
      let test = checked_ok (Entry place field.Modems) (nat_le 1 (items_len ds.0) && nat_le (items_len ds.0) 1024) ds.0 few.0 few.1 in
      let parts = and_parts (nat_le 1 (items_len ds.0)) (nat_le (items_len ds.0) 1024) test.0 in
      let said = (turn_is (modem_read place) (λ before. IsAddress) (λ done d x. address_is (Entry place field.Modems) d x) [] few.0 modems).0 few.2 in
      record {
        ds = ds.0;
        held = array_said place field.Modems ms ds.0 ds.1;
        count = record { low = at_most 1 (items_len ds.0) parts.0; high = at_most (items_len ds.0) 1024 parts.1 };
        addresses = subst (λ (items : Items). SayInTurn (λ before. IsAddress) [] items modems) (sym test.1) said;
      },
  λ s.
      let count = both_true (nat_le 1 (items_len s.ds)) (nat_le (items_len s.ds) 1024) (le_true 1 (items_len s.ds) s.count.low) (le_true (items_len s.ds) 1024 s.count.high) in
      bind_both (array_at place field.Modems ms) _ s.ds modems (array_again place field.Modems ms s.ds s.held)
      (bind_both (checked_value (Entry place field.Modems) (nat_le 1 (items_len s.ds) && nat_le (items_len s.ds) 1024) s.ds) _ s.ds modems
      (checked_said (Entry place field.Modems) (nat_le 1 (items_len s.ds) && nat_le (items_len s.ds) 1024) s.ds count)
      ((turn_is (modem_read place) (λ before. IsAddress) (λ done d x. address_is (Entry place field.Modems) d x) [] s.ds modems).1 s.addresses)),
)

-- ---- the provisioned flows

pub sets_there : (consts : ConstsFields) (p : Provision) → (has_sets consts p ≡ true) ↔ IsSome (sets_of_encoding consts p.encoding)
unfolding has_sets
sets_there consts p = (λ h. h, λ h. h)

provision_said : (consts : ConstsFields) (modems : List Modem) (place : Place) (ms : Members) (p : Provision)
    → provision_at consts modems place ms ≡ Ok p → SaysProvision consts modems (table ms) p
unfolding provision_at own_modem_at modem_at
provision_said consts modems place ms p h =
    let modem = bind_ok (own_modem_at modems place ms) _ p h in
    let encoding = bind_ok (bytes_at place field.Encoding ms) _ p modem.2 in
    let made : Provision = record { modem = modem.0; encoding = encoding.0 } in
    let test = checked_ok (Entry place field.Encoding) (has_sets consts made) made p encoding.2 in
    let found = bind_ok (modem_at place field.Modem ms) _ modem.0 modem.1 in
    let own = checked_ok (Entry place field.Modem) (is_listed found.0 modems) found.0 modem.0 found.2 in
    let whose = bind_ok (required_value (Entry place field.Modem) (at_field field.Modem ms)) _ found.0 found.1 in
    subst (SaysProvision consts modems (table ms)) test.1 (record {
      ms = ms;
      is = refl;
      whose = whose.0;
      held = required_ok (Entry place field.Modem) (at_field field.Modem ms) whose.0 whose.1;
      modem = subst (IsAddress whose.0) own.1 ((address_is (Entry place field.Modem) whose.0 found.0).0 whose.2);
      mine = subst (λ (m : Modem). is_listed m modems ≡ true) own.1 own.0;
      encoding = (bytes_is place field.Encoding ms encoding.0).0 encoding.1;
      sets = (sets_there consts made).0 test.0;
    })

provision_again : (consts : ConstsFields) (modems : List Modem) (place : Place) (p : Provision) (d : Data) (s : SaysProvision consts modems d p)
    → provision_at consts modems place s.ms ≡ Ok p
unfolding provision_at own_modem_at modem_at
provision_again consts modems place p d s =
    let modem : modem_at place field.Modem s.ms ≡ Ok p.modem =
    bind_both (required_value (Entry place field.Modem) (at_field field.Modem s.ms)) _ s.whose p.modem (required_said (Entry place field.Modem) (at_field field.Modem s.ms) s.whose s.held)
    ((address_is (Entry place field.Modem) s.whose p.modem).1 s.modem) in
    let own : own_modem_at modems place s.ms ≡ Ok p.modem =
    bind_both (modem_at place field.Modem s.ms) _ p.modem p.modem modem (checked_said (Entry place field.Modem) (is_listed p.modem modems) p.modem s.mine) in
    bind_both (own_modem_at modems place s.ms) _ p.modem p own
    (bind_both (bytes_at place field.Encoding s.ms) _ p.encoding p ((bytes_is place field.Encoding s.ms p.encoding).1 s.encoding)
    (checked_said (Entry place field.Encoding) (has_sets consts p) p ((sets_there consts p).1 s.sets)))

pub provision_is : (consts : ConstsFields) (operator : ℕ) (modems : List Modem) (done : List Provision) (d : Data) (p : Provision)
    → (provision_read consts operator modems done d ≡ Ok p) ↔ SaysProvision consts modems d p
unfolding provision_read
provision_is consts operator modems done d p = (
  λ h.
      let ms = bind_ok (table_of (place.Flow operator (length done)) d) _ p h in
      subst (λ (e : Data). SaysProvision consts modems e p) (sym (table_said (place.Flow operator (length done)) d ms.0 ms.1))
      (provision_said consts modems (place.Flow operator (length done)) ms.0 p ms.2),
  λ s. bind_both (table_of (place.Flow operator (length done)) d) _ s.ms p (table_again (place.Flow operator (length done)) d s.ms s.is)
      (provision_again consts modems (place.Flow operator (length done)) p d s),
)

provisions_said : (consts : ConstsFields) (operator : ℕ) (modems : List Modem) (d : Data) (ps : List Provision) → provisions_in consts operator modems d ≡ Ok ps
    → (ds : Items) × (d ≡ array ds) × SayInTurn (λ before. SaysProvision consts modems) [] ds ps
unfolding provisions_in
provisions_said consts operator modems d ps h =
    let ds = bind_ok (expected_value (Entry (place.Operator operator) field.Flow) (as_array d)) _ ps h in (
      ds.0,
      array_is d ds.0 (expected_ok (Entry (place.Operator operator) field.Flow) (as_array d) ds.0 ds.1),
      (turn_is (provision_read consts operator modems) (λ before. SaysProvision consts modems) (λ done e x. provision_is consts operator modems done e x) [] ds.0 ps).0 ds.2,
    )

provisions_again : (consts : ConstsFields) (operator : ℕ) (modems : List Modem) (ds : Items) (ps : List Provision)
    → SayInTurn (λ before. SaysProvision consts modems) [] ds ps → provisions_in consts operator modems (array ds) ≡ Ok ps
unfolding provisions_in
provisions_again consts operator modems ds ps h =
    (turn_is (provision_read consts operator modems) (λ before. SaysProvision consts modems) (λ done e x. provision_is consts operator modems done e x) [] ds ps).1 h

provisions_if_said : (consts : ConstsFields) (operator : ℕ) (modems : List Modem) (ms : Members) (o : Option Data) (ps : List Provision) → at_field field.Flow ms ≡ o
    → provisions_if consts operator modems o ≡ Ok ps → SaysProvisions consts modems ms ps
provisions_if_said consts operator modems ms None ps at h = inl (at, ok_same [] ps h)
provisions_if_said consts operator modems ms (Some d) ps at h =
    let said = provisions_said consts operator modems d ps h in
    inr (said.0, under (at_field field.Flow ms) d (array said.0) at said.1, said.2)

pub provisions_are : (consts : ConstsFields) (operator : ℕ) (modems : List Modem) (ms : Members) (ps : List Provision)
    → (provisions_if consts operator modems (at_field field.Flow ms) ≡ Ok ps) ↔ SaysProvisions consts modems ms ps
provisions_are consts operator modems ms ps = (
  λ h. provisions_if_said consts operator modems ms (at_field field.Flow ms) ps refl h,
  λ s. elim s [
    | inl none ↦ ap (provisions_if consts operator modems) none.0 ∙ ap (λ (qs : List Provision). Ok qs) none.1
    | inr some ↦ ap (provisions_if consts operator modems) some.1 ∙ provisions_again consts operator modems some.0 ps some.2
  ],
)

-- ---- a row

row_said : (consts : ConstsFields) (rows : List RowFields) (operator : ℕ) (ms : Members) (row : RowFields) → row_at consts rows operator ms ≡ Ok row
    → SaysRow consts rows (table ms) row
row_said consts rows operator ms row h =
    let place : Place = place.Operator operator in
    let parts = row_parts consts rows operator ms row h in
    record {
      ms = ms;
      is = refl;
      name = (name_is rows place ms row.name).0 parts.name;
      slice = (slice_is consts place ms row.slice).0 parts.slice;
      sfids = (range_is place field.Sfids ms row.sfids).0 parts.sfids;
      sids = (range_is place field.Sids ms row.sids).0 parts.sids;
      flows = (number_in_is place field.Flows ms row.flows).0 parts.flows;
      transactions = (number_in_is place field.Transactions ms row.transactions).0 parts.transactions;
      inbox = (number_in_is place field.Inbox ms row.inbox).0 parts.inbox;
      budget = (number_in_is place field.Budget ms row.budget).0 parts.budget;
      elements = (number_in_is place field.Elements ms row.elements).0 parts.elements;
      policy = (policy_is place ms row.policy).0 parts.policy;
      modems = (modems_are place ms row.modems).0 parts.modems;
      provisions = (provisions_are consts operator row.modems ms row.provisions).0 parts.provisions;
    }

row_again : (consts : ConstsFields) (rows : List RowFields) (operator : ℕ) (d : Data) (row : RowFields) (s : SaysRow consts rows d row)
    → row_at consts rows operator s.ms ≡ Ok row
unfolding row_at
row_again consts rows operator d row s =
    let place : Place = place.Operator operator in
    let ms : Members = s.ms in
    bind_both (name_at rows place ms) _ row.name row ((name_is rows place ms row.name).1 s.name)
    (bind_both (slice_at consts place ms) _ row.slice row ((slice_is consts place ms row.slice).1 s.slice)
    (bind_both (range_at place field.Sfids ms) _ row.sfids row ((range_is place field.Sfids ms row.sfids).1 s.sfids)
    (bind_both (range_at place field.Sids ms) _ row.sids row ((range_is place field.Sids ms row.sids).1 s.sids)
    (bind_both (number_of_key place field.Flows ms) _ row.flows row ((number_in_is place field.Flows ms row.flows).1 s.flows)
    (bind_both (number_of_key place field.Transactions ms) _ row.transactions row ((number_in_is place field.Transactions ms row.transactions).1 s.transactions)
    (bind_both (number_of_key place field.Inbox ms) _ row.inbox row ((number_in_is place field.Inbox ms row.inbox).1 s.inbox)
    (bind_both (number_of_key place field.Budget ms) _ row.budget row ((number_in_is place field.Budget ms row.budget).1 s.budget)
    (bind_both (number_of_key place field.Elements ms) _ row.elements row ((number_in_is place field.Elements ms row.elements).1 s.elements)
    (bind_both (policy_at place ms) _ row.policy row ((policy_is place ms row.policy).1 s.policy)
    (bind_both (modems_at place ms) _ row.modems row ((modems_are place ms row.modems).1 s.modems)
    (bind_both (provisions_if consts operator row.modems (at_field field.Flow ms)) _ row.provisions row ((provisions_are consts operator row.modems ms row.provisions).1 s.provisions) refl)))))))))))

pub row_is : (consts : ConstsFields) (rows : List RowFields) (d : Data) (row : RowFields) → (row_read consts rows d ≡ Ok row) ↔ SaysRow consts rows d row
unfolding row_read
row_is consts rows d row = (
  λ h.
      let ms = bind_ok (table_of (place.Operator (length rows)) d) _ row h in
      subst (λ (e : Data). SaysRow consts rows e row) (sym (table_said (place.Operator (length rows)) d ms.0 ms.1)) (row_said consts rows (length rows) ms.0 row ms.2),
  λ s. bind_both (table_of (place.Operator (length rows)) d) _ s.ms row (table_again (place.Operator (length rows)) d s.ms s.is) (row_again consts rows (length rows) d row s),
)

-- ---- all rows

pub rows_are : (consts : ConstsFields) (document : Members) (rows : List RowFields) → (rows_of consts document ≡ Ok rows) ↔ SaysRows consts document rows
unfolding rows_of
rows_are consts document rows = (
  λ h.
      let d = bind_ok (required_value Operators (get_member (codes "operator") document)) _ rows h in
      let ds = bind_ok (expected_value Operators (as_array d.0)) _ rows d.2 in
      let few = bind_ok (checked_value Operators (nat_le 1 (items_len ds.0) && nat_le (items_len ds.0) 32) ds.0) _ rows ds.2 in
      let test = checked_ok Operators (nat_le 1 (items_len ds.0) && nat_le (items_len ds.0) 32) ds.0 few.0 few.1 in
      let parts = and_parts (nat_le 1 (items_len ds.0)) (nat_le (items_len ds.0) 32) test.0 in
      let said = (turn_is (row_read consts) (SaysRow consts) (row_is consts) [] few.0 rows).0 few.2 in
      record {
        ds = ds.0;
        held = under (get_member (codes "operator") document) d.0 (array ds.0) (required_ok Operators (get_member (codes "operator") document) d.0 d.1)
            (array_is d.0 ds.0 (expected_ok Operators (as_array d.0) ds.0 ds.1));
        count = record { low = at_most 1 (items_len ds.0) parts.0; high = at_most (items_len ds.0) 32 parts.1 };
        each = subst (λ (items : Items). SayInTurn (SaysRow consts) [] items rows) (sym test.1) said;
      },
  λ s.
      let count = both_true (nat_le 1 (items_len s.ds)) (nat_le (items_len s.ds) 32) (le_true 1 (items_len s.ds) s.count.low) (le_true (items_len s.ds) 32 s.count.high) in
      bind_both (required_value Operators (get_member (codes "operator") document)) _ (array s.ds) rows (required_said Operators (get_member (codes "operator") document) (array s.ds) s.held)
      (bind_both (checked_value Operators (nat_le 1 (items_len s.ds) && nat_le (items_len s.ds) 32) s.ds) _ s.ds rows
      (checked_said Operators (nat_le 1 (items_len s.ds) && nat_le (items_len s.ds) 32) s.ds count)
      ((turn_is (row_read consts) (SaysRow consts) (row_is consts) [] s.ds rows).1 s.each)),
)
