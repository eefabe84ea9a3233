-- A row that is read has each of its values from its own key.
use Rattle.std.proofs.Common.{◌≡◌, ℕ, List, Ok, subst}
use Rattle.slice_table.proofs.Common.{Members, ConstsFields, RowFields, Place, at_field, number_of_key}
use Rattle.slice_table.specs.declared.plant_key.Field.TheVariants as field
use Rattle.slice_table.specs.declared.plant_key.Place.TheVariants as place
use Rattle.slice_table.specs.ReadRows.{name_at, slice_at, range_at, policy_at, modems_at, provisions_if, row_at}
use Rattle.slice_table.proofs.Parsed.{bind_ok, ok_same}

pub record AreRowParts (consts : ConstsFields) (rows : List RowFields) (operator : ℕ) (ms : Members) (row : RowFields) : Type 0 where
  pub name : name_at rows (place.Operator operator) ms ≡ Ok row.name
  pub slice : slice_at consts (place.Operator operator) ms ≡ Ok row.slice
  pub sfids : range_at (place.Operator operator) field.Sfids ms ≡ Ok row.sfids
  pub sids : range_at (place.Operator operator) field.Sids ms ≡ Ok row.sids
  pub flows : number_of_key (place.Operator operator) field.Flows ms ≡ Ok row.flows
  pub transactions : number_of_key (place.Operator operator) field.Transactions ms ≡ Ok row.transactions
  pub inbox : number_of_key (place.Operator operator) field.Inbox ms ≡ Ok row.inbox
  pub budget : number_of_key (place.Operator operator) field.Budget ms ≡ Ok row.budget
  pub elements : number_of_key (place.Operator operator) field.Elements ms ≡ Ok row.elements
  pub policy : policy_at (place.Operator operator) ms ≡ Ok row.policy
  pub modems : modems_at (place.Operator operator) ms ≡ Ok row.modems
  pub provisions : provisions_if consts operator row.modems (at_field field.Flow ms) ≡ Ok row.provisions

pub row_parts : (consts : ConstsFields) (rows : List RowFields) (operator : ℕ) (ms : Members) (row : RowFields) → row_at consts rows operator ms ≡ Ok row
    → AreRowParts consts rows operator ms row
unfolding row_at
row_parts consts rows operator ms row h =
    let place : Place = place.Operator operator in
    let name = bind_ok (name_at rows place ms) _ row h in
    let slice = bind_ok (slice_at consts place ms) _ row name.2 in
    let sfids = bind_ok (range_at place field.Sfids ms) _ row slice.2 in
    let sids = bind_ok (range_at place field.Sids ms) _ row sfids.2 in
    let flows = bind_ok (number_of_key place field.Flows ms) _ row sids.2 in
    let transactions = bind_ok (number_of_key place field.Transactions ms) _ row flows.2 in
    let inbox = bind_ok (number_of_key place field.Inbox ms) _ row transactions.2 in
    let budget = bind_ok (number_of_key place field.Budget ms) _ row inbox.2 in
    let elements = bind_ok (number_of_key place field.Elements ms) _ row budget.2 in
    let policy = bind_ok (policy_at place ms) _ row elements.2 in
    let modems = bind_ok (modems_at place ms) _ row policy.2 in
    let provisions = bind_ok (provisions_if consts operator modems.0 (at_field field.Flow ms)) _ row modems.2 in
    let made : RowFields = record {
      name = name.0;
      slice = slice.0;
      sfids = sfids.0;
      sids = sids.0;
      flows = flows.0;
      transactions = transactions.0;
      inbox = inbox.0;
      budget = budget.0;
      elements = elements.0;
      policy = policy.0;
      modems = modems.0;
      provisions = provisions.0;
    } in
    subst (AreRowParts consts rows operator ms) (ok_same made row provisions.2) (record {
      name = name.1;
      slice = slice.1;
      sfids = sfids.1;
      sids = sids.1;
      flows = flows.1;
      transactions = transactions.1;
      inbox = inbox.1;
      budget = budget.1;
      elements = elements.1;
      policy = policy.1;
      modems = modems.1;
      provisions = provisions.1;
    })
