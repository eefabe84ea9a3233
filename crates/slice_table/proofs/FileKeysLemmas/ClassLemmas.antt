-- The reading of the classes.
use Rattle.std.proofs.Common.{◌≡◌, ℕ, suc, ◌+◌, ◌<◌, ◌≤◌, nat_le, ◌&&◌, Bool, true, false, not, codes, List, [], ◌∷◌, ◌++◌, length, length-append, get_or, Option, Some, None, Result, Ok, Err, refl, sym, ap, ◌∙◌, subst, arith}
use Rattle.slice_table.proofs.FileKeysLemmas.Common.{below_more, list_any, true≢false, get_or_append_left, get_or_push, Data, string, array, table, Items, Members, get_member, get_item, as_array, ◌>>=◌, BadValue, Key, Classes, Table, Entry, Place, each, items_len, expected_value, checked_value, at_field, text_at, bytes_at, table_of, ok_same, bind_ok, at_most, le_true, array_is, text_said, bytes_is, table_said, under, class_name_is, encoding_is, item_in, items_or_none, items_in, standing_at, value_of_key, in_turn, class_keys, IsValueOfKey}
use Rattle.tlv24.specs.Flow.{flow_of}
use Rattle.tlv24.specs.declared.fields.FlowFields.{FlowFields}
use Rattle.tlv24.specs.declared.fault.FlowFault.{FlowFault}
use Rattle.plant.specs.declared.class_table.Class.{Class}
use Rattle.slice_table.specs.declared.plant_key.Field.TheVariants as field
use Rattle.slice_table.specs.declared.plant_key.Place.TheVariants as place
use Rattle.plant.specs.Classes.{is_class_named}
use Rattle.slice_table.specs.ReadConsts.{is_class_name, class_name_at, states_parameters, parameters_in, class_encoding_at, class_read, classes_in, classes_if}
use Rattle.slice_table.proofs.FileKeysLemmas.ListLemmas.{some_same, one_of}
use Rattle.slice_table.proofs.FileKeysLemmas.FoundLemmas.{blame, Blames, blames_bind, blames_checked, Found, found_behind, found_bind, found_before, found_key, found_each, judged_required, refused}
use Rattle.slice_table.proofs.FileKeysLemmas.KeyLemmas.{held_in, found_table, blames_text, blames_bytes}

-- ---- what is read of a class

blames_parameters : (key : Key) (o : Option Data) (d : Data) (read : Result FlowFields FlowFault) → o ≡ Some d → Blames key o (parameters_in key read)
blames_parameters key o d (Ok flow) at other h = blames_checked key o d (states_parameters flow) flow at other h
blames_parameters key o d (Err fault) at other h = let same : other ≡ BadValue key = cc in same ∙ sym (ap (blame key) at)

module _ (document : Members) where
  -- ---- the keys of a class

  -- the names of those before it are what stands in the document
  abbrev Names : List Class → Type 0
  Names classes = (k : ℕ) (d : Class) → k < length classes → value_of_key document (Entry (place.Class k) field.Name) ≡ Some (string (get_or classes k d).name)

  found_name : (classes : List Class) (ms : Members) → standing_at document (place.Class (length classes)) ≡ Some (table ms) → Names classes
      → Found document (Entry (place.Class (length classes)) field.Name ∷ []) (class_name_at classes (place.Class (length classes)) ms)
  unfolding class_name_at
  found_name classes ms at names =
      found_key document key (at_field field.Name ms) (class_name_at classes whose ms) (held_in document whose field.Name ms at)
      (judged_required document key (at_field field.Name ms) (class_name_at classes whose ms) tt blames said again)
    where
      whose : Place
      whose = place.Class (length classes)

      key : Key
      key = Entry whose field.Name

      blames : Blames key (at_field field.Name ms) (class_name_at classes whose ms)
      blames =
          blames_bind key (at_field field.Name ms) (text_at whose field.Name ms) _ (blames_text whose field.Name ms)
          (λ text is. blames_checked key (at_field field.Name ms) (string text) (is_class_name text && not (list_any (is_class_named text) classes)) text
          (text_said whose field.Name ms text is))

      said : (name : List ℕ) → class_name_at classes whose ms ≡ Ok name → (d : Data) × (at_field field.Name ms ≡ Some d) × IsValueOfKey document key d
      said name is =
          let says = (class_name_is classes whose ms name).0 is in (
            string name,
            says.held,
            (
              name,
              refl,
              says.some,
              says.few,
              says.letters,
              λ k lt same.
                  let class : Class = one_of classes k lt in
                  let text : string (get_or classes k class).name ≡ string name = some_same (string (get_or classes k class).name) (string name) (sym (names k class lt) ∙ same) in
                  let one : (get_or classes k class).name ≡ name = cc in
                  says.new k class lt one,
            ),
          )

      again : (d : Data) → at_field field.Name ms ≡ Some d → IsValueOfKey document key d → (name : List ℕ) × (class_name_at classes whose ms ≡ Ok name)
      again d holds may = (
        may.0,
        (class_name_is classes whose ms may.0).1 (record {
          held = holds ∙ ap (λ (e : Data). Some e) may.1;
          some = may.2;
          few = may.3;
          letters = may.4;
          new = λ k class lt same. may.5 k lt (names k class lt ∙ ap (λ (text : List ℕ). Some (string text)) same ∙ ap (λ (e : Data). Some e) (sym may.1));
        }),
      )

  found_encoding : (class : ℕ) (ms : Members) → standing_at document (place.Class class) ≡ Some (table ms)
      → Found document (Entry (place.Class class) field.Encoding ∷ []) (class_encoding_at (place.Class class) ms)
  unfolding class_encoding_at
  found_encoding class ms at =
      found_key document key (at_field field.Encoding ms) (class_encoding_at whose ms) (held_in document whose field.Encoding ms at)
      (judged_required document key (at_field field.Encoding ms) (class_encoding_at whose ms) tt blames said again)
    where
      whose : Place
      whose = place.Class class

      key : Key
      key = Entry whose field.Encoding

      blames : Blames key (at_field field.Encoding ms) (class_encoding_at whose ms)
      blames =
          blames_bind key (at_field field.Encoding ms) (bytes_at whose field.Encoding ms) _ (blames_bytes whose field.Encoding ms)
          (λ bytes is. let s = (bytes_is whose field.Encoding ms bytes).0 is in blames_parameters key (at_field field.Encoding ms) (string s.0) (flow_of bytes) s.1)

      said : (flow : FlowFields) → class_encoding_at whose ms ≡ Ok flow → (d : Data) × (at_field field.Encoding ms ≡ Some d) × IsValueOfKey document key d
      said flow is =
          let says = (encoding_is whose ms flow).0 is in
          (string says.held.0, says.held.1, (says.bytes, flow, (says.held.0, refl, says.held.2), says.stated, says.parameters))

      again : (d : Data) → at_field field.Encoding ms ≡ Some d → IsValueOfKey document key d → (flow : FlowFields) × (class_encoding_at whose ms ≡ Ok flow)
      again d holds may = (
        may.1,
        (encoding_is whose ms may.1).1 (record {
          bytes = may.0;
          held = (may.2.0, holds ∙ ap (λ (e : Data). Some e) may.2.1, may.2.2);
          stated = may.3;
          parameters = may.4;
        }),
      )

  found_class : (classes : List Class) (d : Data) → standing_at document (place.Class (length classes)) ≡ Some d → Names classes
      → Found document (class_keys (length classes)) (class_read classes d)
  unfolding class_read
  found_class classes d at names =
      let class : Place = place.Class (length classes) in
      found_bind document (Table class ∷ []) (Entry class field.Name ∷ Entry class field.Encoding ∷ []) (table_of class d) _ (found_table document class d at)
      (λ ms is.
      let stands : standing_at document class ≡ Some (table ms) = under (standing_at document class) d (table ms) at (table_said class d ms is) in
      found_bind document (Entry class field.Name ∷ []) (Entry class field.Encoding ∷ []) (class_name_at classes class ms) _ (found_name classes ms stands names)
      (λ name is_name. found_bind document (Entry class field.Encoding ∷ []) [] (class_encoding_at class ms) _ (found_encoding (length classes) ms stands)
      (λ encoding is_encoding. tt)))

  -- ---- one after the other

  -- its name stands in the document
  name_stands : (classes : List Class) (d : Data) (class : Class) → standing_at document (place.Class (length classes)) ≡ Some d → class_read classes d ≡ Ok class
      → value_of_key document (Entry (place.Class (length classes)) field.Name) ≡ Some (string class.name)
  unfolding class_read
  name_stands classes d class at is =
      let whose : Place = place.Class (length classes) in
      let ms = bind_ok (table_of whose d) _ class is in
      let name = bind_ok (class_name_at classes whose ms.0) _ class ms.2 in
      let encoding = bind_ok (class_encoding_at whose ms.0) _ class name.2 in
      let made : Class = record { name = name.0; encoding = encoding.0 } in
      let stands : standing_at document whose ≡ Some (table ms.0) = under (standing_at document whose) d (table ms.0) at (table_said whose d ms.0 ms.1) in
      let same : made ≡ class = ok_same made class encoding.2 in
      held_in document whose field.Name ms.0 stands ∙ ((class_name_is classes whose ms.0 name.0).0 name.1).held ∙ ap (λ (c : Class). Some (string c.name)) same

  abbrev Inv : ℕ → List Class → Type 0
  Inv n classes = (length classes ≡ n) × Names classes

  more_names : (classes : List Class) (class : Class) → Names classes → value_of_key document (Entry (place.Class (length classes)) field.Name) ≡ Some (string class.name)
      → Names (classes ++ class ∷ [])
  more_names classes class names stands k d lt =
      below_more (λ (m : ℕ). (e : Class) → value_of_key document (Entry (place.Class m) field.Name) ≡ Some (string (get_or (classes ++ class ∷ []) m e).name)) (length classes)
      (λ m less e. names m e less ∙ ap (λ (c : Class). Some (string c.name)) (sym (get_or_append_left classes (class ∷ []) e m less)))
      (λ e. stands ∙ ap (λ (c : Class). Some (string c.name)) (sym (get_or_push classes class e (length classes) refl)))
      k (omega (arith, lt, length-append classes (class ∷ []))) d

  module _ (all : Items) (held_all : get_member (codes "class") document ≡ Some (array all)) where
    -- the place of an item
    stands_at : (n : ℕ) (d : Data) → get_item n all ≡ Some d → standing_at document (place.Class n) ≡ Some d
    stands_at n d at = ap (item_in n) held_all ∙ at

    step : (n : ℕ) (classes : List Class) (d : Data) → Inv n classes → get_item n all ≡ Some d → Found document (class_keys n) (class_read classes d)
    step n classes d inv at =
        let here : standing_at document (place.Class (length classes)) ≡ Some d = stands_at (length classes) d (subst (λ (m : ℕ). get_item m all ≡ Some d) (sym inv.0) at) in
        subst (λ (m : ℕ). Found document (class_keys m) (class_read classes d)) inv.0 (found_class classes d here inv.1)

    keep : (n : ℕ) (classes : List Class) (d : Data) (class : Class) → Inv n classes → get_item n all ≡ Some d → class_read classes d ≡ Ok class → Inv (suc n) (classes ++ class ∷ [])
    keep n classes d class inv at is =
        let here : standing_at document (place.Class (length classes)) ≡ Some d = stands_at (length classes) d (subst (λ (m : ℕ). get_item m all ≡ Some d) (sym inv.0) at) in
        (omega (arith, inv.0, length-append classes (class ∷ [])), more_names classes class inv.1 (name_stands classes d class here is))

    found_all : Found document (in_turn class_keys 0 all) (each class_read [] all)
    found_all = found_each document class_read class_keys Inv all step keep 0 [] all (λ k. ap (λ (m : ℕ). get_item m all) (let e : k ≡ 0 + k = omega arith in e)) (refl, λ k d lt. absurd (omega (arith, lt)))

  -- ---- the array

  by_count : (d : Data) (ds : Items) (few : Bool) → get_member (codes "class") document ≡ Some d → d ≡ array ds → nat_le (items_len ds) 64 ≡ few
      → Found document ((Classes ∷ []) ++ in_turn class_keys 0 ds) (checked_value Classes few ds >>= each class_read [])
  by_count d ds true at is few =
      found_behind document (Classes ∷ []) (in_turn class_keys 0 ds) (each class_read [] ds)
      (found_key document {A = Items} Classes (Some d) (Ok ds) at (ds, is, (let e : 0 ≤ items_len ds = omega arith in e), at_most (items_len ds) 64 few))
      (found_all ds (under (get_member (codes "class") document) d (array ds) at is))
  by_count d ds false at is many =
      found_before document (List Class) (Classes ∷ []) (in_turn class_keys 0 ds) (BadValue Classes) (refused Items (BadValue Classes)) refl
      (found_key document {A = Items} Classes (Some d) (Err (BadValue Classes)) at (
        (λ may.
            let same : ds ≡ may.0 = let e : array ds ≡ array may.0 = sym is ∙ may.1 in cc in
            true≢false (sym (le_true (items_len ds) 64 (subst (λ (es : Items). items_len es ≤ 64) (sym same) may.3)) ∙ many)),
        refl,
      ))

  by_array : (d : Data) (o : Option Items) → get_member (codes "class") document ≡ Some d → as_array d ≡ o
      → Found document ((Classes ∷ []) ++ in_turn class_keys 0 (items_or_none o))
      (expected_value Classes o >>= λ ds. checked_value Classes (nat_le (items_len ds) 64) ds >>= λ few. each class_read [] few)
  by_array d None at is =
      found_key document {A = List Class} Classes (Some d) (Err (BadValue Classes)) at
      ((λ may. let e : ◌≡◌ {A = Option Items} None (Some may.0) = sym is ∙ ap as_array may.1 in cc), refl)
  by_array d (Some ds) at is = by_count d ds (nat_le (items_len ds) 64) at (array_is d ds is) refl

  by_classes : (o : Option Data) → get_member (codes "class") document ≡ o → Found document ((Classes ∷ []) ++ in_turn class_keys 0 (items_in o)) (classes_if o)
  unfolding classes_in
  by_classes None at = found_key document {A = List Class} Classes None (Ok []) at (λ h. h)
  by_classes (Some d) at = by_array d (as_array d) at refl

  pub found_classes : Found document ((Classes ∷ []) ++ in_turn class_keys 0 (items_in (value_of_key document Classes))) (classes_if (get_member (codes "class") document))
  found_classes = by_classes (get_member (codes "class") document) refl
