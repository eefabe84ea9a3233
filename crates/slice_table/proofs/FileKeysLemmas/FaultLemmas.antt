-- A plant file is refused for the fault of the first key that is at fault.
use Rattle.std.proofs.Common.{◌≡◌, ◌⊎◌, ◌↔◌, codes, List, [], ◌∷◌, ◌++◌, inl, inr, Option, Some, None, Ok, Err, refl, sym, ap, ◌∙◌, subst}
use Rattle.slice_table.proofs.FileKeysLemmas.Common.{AllByRecursion, All-from_recursion, recursion_from_All, Data, Members, get_member, ◌>>=◌, ConstsFields, RowFields, PlantFault, Key, Classes, Operators, PlantResult, SaysConsts, SaysRows, ok_same, bind_ok, bind_both, consts_are, rows_are, IsFirst, items_in, value_of_key, keys_of, keys_at, plant_fields, in_turn, class_keys, operator_keys, IsMissing, IsWrong, IsAtFault, IsToldAs, IsOfTheFirstKey, IsOfAllKeys, HasNoFault}
use Rattle.plant.specs.declared.plant.PlantFields.{PlantFields}
use Rattle.slice_table.specs.declared.plant_key.Place.TheVariants as place
use Rattle.slice_table.specs.Checks.{rows_fault, unless}
use Rattle.slice_table.specs.ReadConsts.{plant_keys_of, classes_if, with_classes, consts_of}
use Rattle.slice_table.specs.ReadRows.{rows_of}
use Rattle.slice_table.specs.ReadPlant.{plant_of}
use Rattle.slice_table.proofs.FileKeysLemmas.ListLemmas.{first_one, none-first}
use Rattle.slice_table.proofs.FileKeysLemmas.FoundLemmas.{Found, found_bind, found_last}
use Rattle.slice_table.proofs.FileKeysLemmas.PlantLemmas.{found_plant}
use Rattle.slice_table.proofs.FileKeysLemmas.ClassLemmas.{found_classes}
use Rattle.slice_table.proofs.FileKeysLemmas.OperatorLemmas.{found_rows}

-- what all keys say
record Said : Type 0 where
  consts : ConstsFields
  rows : List RowFields

said_of : Members → PlantResult Said
said_of document = do
  consts ← consts_of document
  rows ← rows_of consts document
  Ok (record { consts = consts; rows = rows })

-- what is asked of all of them together
judged : Said → PlantResult PlantFields
judged said = unless (rows_fault said.consts said.rows) (record { consts = said.consts; rows = said.rows })

unless_err : {A : Type 0} (o : Option PlantFault) (x : A) (fault : PlantFault) → unless o x ≡ Err fault → o ≡ Some fault
unless_err None x fault h = cc
unless_err (Some other) x fault h = let same : other ≡ fault = cc in ap (λ (f : PlantFault). Some f) same

both_after : (r : PlantResult ConstsFields) (g : ConstsFields → PlantResult (List RowFields))
    → (r >>= λ consts. g consts >>= λ rows. unless (rows_fault consts rows) (record { consts = consts; rows = rows }))
    ≡ ((r >>= λ consts. g consts >>= λ rows. Ok (record { consts = consts; rows = rows })) >>= judged)
unfolding judged
both_after (Err fault) g = refl
both_after (Ok consts) g = by (g consts)
  where
    by : (s : PlantResult (List RowFields)) → (s >>= λ rows. unless (rows_fault consts rows) (record { consts = consts; rows = rows }))
        ≡ ((s >>= λ rows. Ok (record { consts = consts; rows = rows })) >>= judged)
    by (Err fault) = refl
    by (Ok rows) = refl

module _ (document : Members) where
  plant_is_judged : plant_of document ≡ (said_of document >>= judged)
  unfolding plant_of said_of
  plant_is_judged = both_after (consts_of document) (λ consts. rows_of consts document)

  found_consts : Found document (keys_at place.Plant plant_fields ++ (Classes ∷ []) ++ in_turn class_keys 0 (items_in (value_of_key document Classes))) (consts_of document)
  unfolding consts_of
  found_consts =
      found_bind document (keys_at place.Plant plant_fields) ((Classes ∷ []) ++ in_turn class_keys 0 (items_in (value_of_key document Classes))) (plant_keys_of document) _
      (found_plant document)
      (λ keys is. found_last document ((Classes ∷ []) ++ in_turn class_keys 0 (items_in (value_of_key document Classes))) (classes_if (get_member (codes "class") document)) (with_classes keys)
      (found_classes document))

  found_said : Found document (keys_of document) (said_of document)
  unfolding said_of
  found_said =
      found_bind document (keys_at place.Plant plant_fields ++ (Classes ∷ []) ++ in_turn class_keys 0 (items_in (value_of_key document Classes))) behind (consts_of document) _ found_consts
      (λ consts is. found_last document behind (rows_of consts document) _ (found_rows document consts ((consts_are document consts).0 is)))
    where
      behind : List Key
      behind = (Operators ∷ []) ++ in_turn (operator_keys document) 0 (items_in (value_of_key document Operators))

  says : (said : Said) → said_of document ≡ Ok said → SaysConsts document said.consts × SaysRows said.consts document said.rows
  unfolding said_of
  says said is =
      let consts = bind_ok (consts_of document) _ said is in
      let rows = bind_ok (rows_of consts.0 document) _ said consts.2 in
      let same : record { consts = consts.0; rows = rows.0 } ≡ said = ok_same (record { consts = consts.0; rows = rows.0 }) said rows.2 in
      subst (λ (s : Said). SaysConsts document s.consts × SaysRows s.consts document s.rows) same
      ((consts_are document consts.0).0 consts.1, (rows_are consts.0 document rows.0).0 rows.1)

  says_again : (consts : ConstsFields) (rows : List RowFields) → SaysConsts document consts → SaysRows consts document rows
      → said_of document ≡ Ok (record { consts = consts; rows = rows })
  unfolding said_of
  says_again consts rows says_consts says_rows =
      bind_both (consts_of document) _ consts _ ((consts_are document consts).1 says_consts) (bind_both (rows_of consts document) _ rows _ ((rows_are consts document rows).1 says_rows) refl)

  not_both : (key : Key) → IsMissing document key → IsWrong document key → ⊥
  not_both key missing wrong = let e : ◌≡◌ {A = Option Data} None (Some wrong.0) = sym missing.0 ∙ wrong.1 in cc

  -- a key is told in one way
  told_one : (key : Key) (a b : PlantFault) → IsToldAs document key a → IsToldAs document key b → a ≡ b
  told_one key a b (inl one) (inl two) = one.1 ∙ sym two.1
  told_one key a b (inr one) (inr two) = one.1 ∙ sym two.1
  told_one key a b (inl one) (inr two) = absurd (not_both key one.0 two.0)
  told_one key a b (inr one) (inl two) = absurd (not_both key two.0 one.0)

  right : AllByRecursion (λ key. ¬ IsAtFault document key) (keys_of document) → HasNoFault document
  right none = All-from_recursion (λ (key : Key). ¬ IsAtFault document key) (keys_of document) none

  not_first : (key : Key) → HasNoFault document → IsFirst (IsAtFault document) (keys_of document) key → ⊥
  not_first key all first =
      none-first (IsAtFault document) (keys_of document) key (recursion_from_All (λ (other : Key). ¬ IsAtFault document other) (keys_of document) all) first

  fault_by : (r : PlantResult Said) → said_of document ≡ r → Found document (keys_of document) r → (fault : PlantFault)
      → ((r >>= judged) ≡ Err fault) ↔ (IsOfTheFirstKey document fault ⊎ IsOfAllKeys document fault)
  unfolding judged
  fault_by (Err other) is found fault = (
    (λ h.
        let same : other ≡ fault = cc in
        inl (record { key = found.0; first = found.1; told = subst (IsToldAs document found.0) same found.2 })),
    (λ told. elim told [
      | inl of_first ↦
          let key : found.0 ≡ of_first.key = first_one (IsAtFault document) (keys_of document) found.0 of_first.key found.1 of_first.first in
          let same : other ≡ fault = told_one of_first.key other fault (subst (λ (k : Key). IsToldAs document k other) key found.2) of_first.told in
          ap (λ (f : PlantFault). Err f) same
      | inr of_all ↦ absurd (not_first found.0 of_all.right found.1)
    ]),
  )
  fault_by (Ok said) is none fault = (
    (λ h.
        let parts = says said is in
        inr (record {
          consts = said.consts;
          rows = said.rows;
          right = right none;
          says_consts = parts.0;
          says_rows = parts.1;
          told = unless_err (rows_fault said.consts said.rows) _ fault h;
        })),
    (λ told. elim told [
      | inl of_first ↦ absurd (not_first of_first.key (right none) of_first.first)
      | inr of_all ↦
          let other : Said = record { consts = of_all.consts; rows = of_all.rows } in
          let same : other ≡ said = ok_same other said (sym (says_again of_all.consts of_all.rows of_all.says_consts of_all.says_rows) ∙ is) in
          let fault_is : rows_fault said.consts said.rows ≡ Some fault = subst (λ (s : Said). rows_fault s.consts s.rows ≡ Some fault) same of_all.told in
          ap (λ (o : Option PlantFault). unless o (record { consts = said.consts; rows = said.rows })) fault_is
    ]),
  )

  pub fault_is : (fault : PlantFault) → (plant_of document ≡ Err fault) ↔ (IsOfTheFirstKey document fault ⊎ IsOfAllKeys document fault)
  fault_is fault =
      let both = fault_by (said_of document) refl found_said fault in
      ((λ h. both.0 (sym plant_is_judged ∙ h)), (λ told. plant_is_judged ∙ both.1 told))

  right_by : (r : PlantResult Said) → Found document (keys_of document) r → (plant : PlantFields) → (r >>= judged) ≡ Ok plant → HasNoFault document
  right_by (Err fault) found plant h = cc
  right_by (Ok said) none plant h = right none

  pub read_is_right : (plant : PlantFields) → plant_of document ≡ Ok plant → HasNoFault document
  read_is_right plant h = right_by (said_of document) found_said plant (sym plant_is_judged ∙ h)

  said_by : (r : PlantResult Said) → said_of document ≡ r → Found document (keys_of document) r → HasNoFault document
      → (consts : ConstsFields) × (rows : List RowFields) × SaysConsts document consts × SaysRows consts document rows
  said_by (Err fault) is found all = absurd (not_first found.0 all found.1)
  said_by (Ok said) is found all = let parts = says said is in (said.consts, said.rows, parts.0, parts.1)

  pub right_is_said : HasNoFault document
      ↔ ((consts : ConstsFields) × (rows : List RowFields) × SaysConsts document consts × SaysRows consts document rows)
  right_is_said = (
    (λ all. said_by (said_of document) refl found_said all),
    (λ said. right (subst (Found document (keys_of document)) (says_again said.0 said.1 said.2 said.3) found_said)),
  )
