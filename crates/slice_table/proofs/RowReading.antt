-- The rows that are read are those of a plant, but for what is asked of all keys together.
use Rattle.std.proofs.Common.{◌≡◌, ◌≢◌, ℕ, ◌+◌, ◌≤◌, nat_le, ◌&&◌, true, false, not, List, [], ◌∷◌, ◌++◌, length, get_or, All, AllPairs, Option, Some, None, Ok, IsSome, IsTrue, codes, subst, ap, ◌∙◌, arith}
use Rattle.slice_table.proofs.Common.{list_any, and_parts, not-true, All-push, all_pairs_push, Data, Members, get_member, as_array, Modem, Numbers, Minislots, ConstsFields, RowFields, Provision, Operators, Entry, Field, Place, sets_of_encoding, is_listed, IsFrom, IsRow, IsProvision, range_of, items_len, required_value, expected_value, checked_value, at_field, modem_at, number_of_key, pair_at, text_at, bytes_at, array_at, table_of}
use Rattle.slice_table.specs.declared.plant_key.Field.TheVariants as field
use Rattle.slice_table.specs.declared.plant_key.Place.TheVariants as place
use Rattle.plant.specs.Name.{is_operator_name}
use Rattle.slice_table.specs.ReadRows.{is_called, name_at, fits_frame, slice_at, range_at, modem_read, modems_at, own_modem_at, has_sets, HaveSets, provision_at, provision_read, provisions_in, provisions_if, row_at, row_read, rows_of}
use Rattle.slice_table.proofs.Parsed.{bind_ok, checked_ok, each_keeps, each_len}
use Rattle.slice_table.proofs.SaidKeys.{number_in_is, said_in_range, range_is}
use Rattle.slice_table.proofs.RowParts.{row_parts}
use Rattle.slice_table.proofs.Values.{none_passes, told_apart, at_most}

-- ---- one key

number_read : (place : Place) (f : Field) (ms : Members) (n : ℕ) → number_of_key place f ms ≡ Ok n → ((range_of f).low ≤ n) × (n ≤ (range_of f).high)
number_read place f ms n h = said_in_range ms f n ((number_in_is place f ms n).0 h)

name_read : (rows : List RowFields) (place : Place) (ms : Members) (name : List ℕ) → name_at rows place ms ≡ Ok name
    → list_any (is_called name) rows ≡ false
unfolding name_at
name_read rows place ms name h =
    let text = bind_ok (text_at place field.Name ms) _ name h in
    let test = checked_ok (Entry place field.Name) (is_operator_name text.0 && not (list_any (is_called text.0) rows)) text.0 name text.2 in
    let parts = and_parts (is_operator_name text.0) (not (list_any (is_called text.0) rows)) test.0 in
    subst (λ (n : List ℕ). list_any (is_called n) rows ≡ false) test.1 (not-true (list_any (is_called text.0) rows) parts.1)

-- minislots of a frame, behind its head
record IsSliceOf (consts : ConstsFields) (slice : Minislots) : Type 0 where
  pub behind_head : consts.channel.head ≤ slice.start
  pub within_frame : slice.start + slice.length ≤ consts.channel.frame_minislots

slice_read : (consts : ConstsFields) (place : Place) (ms : Members) (slice : Minislots) → slice_at consts place ms ≡ Ok slice → IsSliceOf consts slice
unfolding slice_at fits_frame
slice_read consts place ms slice h =
    let pair = bind_ok (pair_at place field.Slice ms) _ slice h in
    let made : Minislots = record { start = pair.0.0; length = pair.0.1 } in
    let test = checked_ok (Entry place field.Slice) (fits_frame consts pair.0.0 pair.0.1) made slice pair.2 in
    let parts = and_parts (nat_le consts.channel.head pair.0.0 && nat_le 1 pair.0.1) (nat_le (pair.0.0 + pair.0.1) consts.channel.frame_minislots) test.0 in
    let low = and_parts (nat_le consts.channel.head pair.0.0) (nat_le 1 pair.0.1) parts.0 in
    subst (IsSliceOf consts) test.1 (record {
      behind_head = at_most consts.channel.head pair.0.0 low.0;
      within_frame = at_most (pair.0.0 + pair.0.1) consts.channel.frame_minislots parts.1;
    })

range_read : (place : Place) (f : Field) (ms : Members) (range : Numbers) → range_at place f ms ≡ Ok range
    → ((range_of f).low ≤ range.first) × (range.last ≤ (range_of f).high)
range_read place f ms range h = let said = (range_is place f ms range).0 h in (said.low, said.most)

pub modems_read : (place : Place) (ms : Members) (modems : List Modem) → modems_at place ms ≡ Ok modems → IsFrom 1 1024 (length modems)
unfolding modems_at
modems_read place ms modems h =
    let ds = bind_ok (array_at place field.Modems ms) _ modems h in
    let few = bind_ok (checked_value (Entry place field.Modems) (nat_le 1 (items_len ds.0) && nat_le (items_len ds.0) 1024) ds.0) _ modems ds.2 in
    let test = checked_ok (Entry place field.Modems) (nat_le 1 (items_len ds.0) && nat_le (items_len ds.0) 1024) ds.0 few.0 few.1 in
    let parts = and_parts (nat_le 1 (items_len ds.0)) (nat_le (items_len ds.0) 1024) test.0 in
    let count : items_len ds.0 ≡ length modems = ap items_len test.1 ∙ (let e = each_len (modem_read place) [] few.0 modems few.2 in omega (arith, e)) in
    record { low = omega (arith, at_most 1 (items_len ds.0) parts.0, count); high = omega (arith, at_most (items_len ds.0) 1024 parts.1, count) }

-- ---- the provisioned flows

-- a flow of one of these modems, with sets
record IsOwn (consts : ConstsFields) (modems : List Modem) (p : Provision) : Type 0 where
  pub mine : IsTrue (is_listed p.modem modems)
  pub sets : IsSome (sets_of_encoding consts p.encoding)

sets_there : (consts : ConstsFields) (p : Provision) → has_sets consts p ≡ true → IsSome (sets_of_encoding consts p.encoding)
unfolding has_sets
sets_there consts p h = h

own_modem : (modems : List Modem) (place : Place) (ms : Members) (modem : Modem) → own_modem_at modems place ms ≡ Ok modem → is_listed modem modems ≡ true
unfolding own_modem_at
own_modem modems place ms modem h =
    let found = bind_ok (modem_at place field.Modem ms) _ modem h in
    let test = checked_ok (Entry place field.Modem) (is_listed found.0 modems) found.0 modem found.2 in
    subst (λ (m : Modem). is_listed m modems ≡ true) test.1 test.0

own_at : (consts : ConstsFields) (modems : List Modem) (place : Place) (ms : Members) (p : Provision) → provision_at consts modems place ms ≡ Ok p → IsOwn consts modems p
unfolding provision_at
own_at consts modems place ms p h =
    let modem = bind_ok (own_modem_at modems place ms) _ p h in
    let encoding = bind_ok (bytes_at place field.Encoding ms) _ p modem.2 in
    let made : Provision = record { modem = modem.0; encoding = encoding.0 } in
    let test = checked_ok (Entry place field.Encoding) (has_sets consts made) made p encoding.2 in
    subst (IsOwn consts modems) test.1 (record { mine = own_modem modems place ms modem.0 modem.1; sets = sets_there consts made test.0 })

own_read : (consts : ConstsFields) (operator : ℕ) (modems : List Modem) (done : List Provision) (d : Data) (p : Provision)
    → All (IsOwn consts modems) done → provision_read consts operator modems done d ≡ Ok p → All (IsOwn consts modems) (done ++ p ∷ [])
unfolding provision_read
own_read consts operator modems done d p held h =
    let table = bind_ok (table_of (place.Flow operator (length done)) d) _ p h in
    All-push (IsOwn consts modems) done p held (own_at consts modems (place.Flow operator (length done)) table.0 p table.2)

-- one more flow that is read has sets, as those before it
pub sets_read : (consts : ConstsFields) (operator : ℕ) (modems : List Modem) (done : List Provision) (d : Data) (p : Provision)
    → HaveSets consts done → provision_read consts operator modems done d ≡ Ok p → HaveSets consts (done ++ p ∷ [])
unfolding provision_read
sets_read consts operator modems done d p held h =
    let table = bind_ok (table_of (place.Flow operator (length done)) d) _ p h in
    All-push (λ q. IsSome (sets_of_encoding consts q.encoding)) done p held (own_at consts modems (place.Flow operator (length done)) table.0 p table.2).sets

provisions_there : (consts : ConstsFields) (operator : ℕ) (modems : List Modem) (d : Data) (ps : List Provision)
    → provisions_in consts operator modems d ≡ Ok ps → All (IsOwn consts modems) ps
unfolding provisions_in
provisions_there consts operator modems d ps h =
    let ds = bind_ok (expected_value (Entry (place.Operator operator) field.Flow) (as_array d)) _ ps h in
    each_keeps (All (IsOwn consts modems)) (provision_read consts operator modems) (own_read consts operator modems) [] ds.0 ps
    (λ k e lt. absurd (omega (arith, lt))) ds.2

provisions_read : (consts : ConstsFields) (operator : ℕ) (modems : List Modem) (o : Option Data) (ps : List Provision)
    → provisions_if consts operator modems o ≡ Ok ps → All (IsOwn consts modems) ps
provisions_read consts operator modems None ps h =
    let none : [] ≡ ps = cc in subst (All (IsOwn consts modems)) none (λ k e lt. absurd (omega (arith, lt)))
provisions_read consts operator modems (Some d) ps h = provisions_there consts operator modems d ps h

-- ---- a row

-- a row beside what all operators share, but for its budget and what its flows need
pub record IsReadRow (consts : ConstsFields) (row : RowFields) : Type 0 where
  pub keys : IsRow row
  pub behind_head : consts.channel.head ≤ row.slice.start
  pub within_frame : row.slice.start + row.slice.length ≤ consts.channel.frame_minislots
  pub provisions : All (IsProvision consts row) row.provisions

one_at : (consts : ConstsFields) (rows : List RowFields) (operator : ℕ) (ms : Members) (row : RowFields) → row_at consts rows operator ms ≡ Ok row
    → IsReadRow consts row × (list_any (is_called row.name) rows ≡ false)
one_at consts rows operator ms row h =
    let place : Place = place.Operator operator in
    let parts = row_parts consts rows operator ms row h in
    let sliced = slice_read consts place ms row.slice parts.slice in
    let sfids_in = range_read place field.Sfids ms row.sfids parts.sfids in
    let sids_in = range_read place field.Sids ms row.sids parts.sids in
    let flows_in = number_read place field.Flows ms row.flows parts.flows in
    let transactions_in = number_read place field.Transactions ms row.transactions parts.transactions in
    let inbox_in = number_read place field.Inbox ms row.inbox parts.inbox in
    let budget_in = number_read place field.Budget ms row.budget parts.budget in
    let elements_in = number_read place field.Elements ms row.elements parts.elements in
    let own = provisions_read consts operator row.modems (at_field field.Flow ms) row.provisions parts.provisions in (
      record {
        keys = record {
          sfids = sfids_in.0;
          sids_low = sids_in.0;
          sids_high = sids_in.1;
          flows = record { low = flows_in.0; high = flows_in.1 };
          transactions = record { low = transactions_in.0; high = transactions_in.1 };
          inbox = record { low = inbox_in.0; high = inbox_in.1 };
          budget = budget_in.1;
          elements = elements_in.1;
          modems = modems_read place ms row.modems parts.modems;
        };
        behind_head = sliced.behind_head;
        within_frame = sliced.within_frame;
        provisions = λ k e lt. record { mine = (own k e lt).mine; sets = (own k e lt).sets };
      },
      name_read rows place ms row.name parts.name,
    )

-- ---- all rows

abbrev pub AreReadRows : ConstsFields → List RowFields → Type 0
AreReadRows consts rows = All (IsReadRow consts) rows × AllPairs (λ a b. a.name ≢ b.name) rows

one_more : (consts : ConstsFields) (rows : List RowFields) (d : Data) (row : RowFields) → AreReadRows consts rows
    → row_read consts rows d ≡ Ok row → AreReadRows consts (rows ++ row ∷ [])
unfolding row_read
one_more consts rows d row held h =
    let table = bind_ok (table_of (place.Operator (length rows)) d) _ row h in
    let one = one_at consts rows (length rows) table.0 row table.2 in (
      All-push (IsReadRow consts) rows row held.0 one.0,
      all_pairs_push (λ a b. a.name ≢ b.name) rows row held.1 (λ k e lt.
          told_apart (get_or rows k e).name row.name (none_passes (is_called row.name) rows k e one.1 lt)),
    )

-- 1 to 32 rows, each as it is read, no two of one name
pub record AreRows (consts : ConstsFields) (rows : List RowFields) : Type 0 where
  pub some : 1 ≤ length rows
  pub few : length rows ≤ 32
  pub each : All (IsReadRow consts) rows
  pub names : AllPairs (λ a b. a.name ≢ b.name) rows

pub rows_read : (consts : ConstsFields) (ms : Members) (rows : List RowFields) → rows_of consts ms ≡ Ok rows → AreRows consts rows
unfolding rows_of
rows_read consts ms rows h =
    let d = bind_ok (required_value Operators (get_member (codes "operator") ms)) _ rows h in
    let ds = bind_ok (expected_value Operators (as_array d.0)) _ rows d.2 in
    let few = bind_ok (checked_value Operators (nat_le 1 (items_len ds.0) && nat_le (items_len ds.0) 32) ds.0) _ rows ds.2 in
    let test = checked_ok Operators (nat_le 1 (items_len ds.0) && nat_le (items_len ds.0) 32) ds.0 few.0 few.1 in
    let parts = and_parts (nat_le 1 (items_len ds.0)) (nat_le (items_len ds.0) 32) test.0 in
    let count : items_len ds.0 ≡ length rows = ap items_len test.1 ∙ (let e = each_len (row_read consts) [] few.0 rows few.2 in omega (arith, e)) in
    let kept = each_keeps (AreReadRows consts) (row_read consts) (one_more consts) [] few.0 rows
    (λ k e lt. absurd (omega (arith, lt)), λ i j e lt more. absurd (omega (arith, more))) few.2 in
    record {
      some = omega (arith, at_most 1 (items_len ds.0) parts.0, count);
      few = omega (arith, at_most (items_len ds.0) 32 parts.1, count);
      each = kept.0;
      names = kept.1;
    }
