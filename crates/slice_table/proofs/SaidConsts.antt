-- A reading of what all operators share answers it exactly where the keys say it.
use Rattle.std.proofs.Common.{◌≡◌, ℕ, ◌≤◌, ◌↔◌, inl, inr, nat_le, ◌&&◌, true, false, not, List, [], length, get_or, Option, Some, None, Result, Ok, Err, codes, refl, sym, subst, ap, ◌∙◌}
use Rattle.slice_table.proofs.Common.{is_ascii_alphanumeric, list_all, list_any, and_parts, not-true, list_any_none, Data, array, table, Items, Members, get_member, as_array, flow_of, FlowFields, FlowFault, Class, ConstsFields, Key, Classes, Entry, Place, is_class_named, StatesParameters, items_len, required_value, expected_value, checked_value, number_at, number_of_key, text_at, bytes_at, table_of, SayInTurn, SaysUnits, SaysBackoffs, SaysTimers, SaysKeys, SaysClassName, SaysParameters, SaysClass, SaysClasses, SaysConsts}
use Rattle.param_sets.specs.Units.{UnitSizes}
use Rattle.transactions.specs.Waits.{Waits}
use Rattle.plant.specs.declared.consts.Backoffs.{Backoffs}
use Rattle.slice_table.specs.declared.read_consts.PlantKeys.{PlantKeys}
use Rattle.slice_table.specs.declared.plant_key.Field.TheVariants as field
use Rattle.slice_table.specs.declared.plant_key.Place.TheVariants as place
use Rattle.slice_table.specs.ReadConsts.{units_at, backoffs_at, timers_at, plant_keys_at, plant_keys_of, is_class_name, class_name_at, states_parameters, parameters_in, class_encoding_at, class_read, classes_in, classes_if, with_classes, consts_of}
use Rattle.slice_table.proofs.Parsed.{ok_same, bind_ok, required_ok, expected_ok, checked_ok}
use Rattle.slice_table.proofs.Values.{at_most, none_passes, told_apart}
use Rattle.slice_table.proofs.ClassReading.{parameters}
use Rattle.slice_table.proofs.SaidKeys.{bind_both, required_said, checked_said, both_true, le_true, array_is, under, number_is, number_in_is, text_said, text_again, bytes_is, turn_is, table_said, table_again}
use Rattle.slice_table.proofs.SaidRows.{differ, not_again}

-- ---- the table `plant`

units_are : (ms : Members) (units : UnitSizes) → (units_at ms ≡ Ok units) ↔ SaysUnits ms units
unfolding units_at
units_are ms units = (
  λ h.
      let frame_us = bind_ok (number_of_key place.Plant field.FrameUs ms) _ units h in
      let bytes = bind_ok (number_of_key place.Plant field.BytesPerMinislot ms) _ units frame_us.2 in
      let made : UnitSizes = record { frame_us = frame_us.0; bytes_per_minislot = bytes.0 } in
      subst (SaysUnits ms) (ok_same made units bytes.2) (record {
        frame_us = (number_in_is place.Plant field.FrameUs ms frame_us.0).0 frame_us.1;
        bytes_per_minislot = (number_in_is place.Plant field.BytesPerMinislot ms bytes.0).0 bytes.1;
      }),
  λ s.
      bind_both (number_of_key place.Plant field.FrameUs ms) _ units.frame_us units ((number_in_is place.Plant field.FrameUs ms units.frame_us).1 s.frame_us)
      (bind_both (number_of_key place.Plant field.BytesPerMinislot ms) _ units.bytes_per_minislot units ((number_in_is place.Plant field.BytesPerMinislot ms units.bytes_per_minislot).1 s.bytes_per_minislot) refl),
)

backoffs_are : (ms : Members) (backoffs : Backoffs) → (backoffs_at ms ≡ Ok backoffs) ↔ SaysBackoffs ms backoffs
unfolding backoffs_at
backoffs_are ms backoffs = (
  λ h.
      let one = bind_ok (number_of_key place.Plant field.RangingStart ms) _ backoffs h in
      let two = bind_ok (number_of_key place.Plant field.RangingEnd ms) _ backoffs one.2 in
      let three = bind_ok (number_of_key place.Plant field.DataStart ms) _ backoffs two.2 in
      let four = bind_ok (number_of_key place.Plant field.DataEnd ms) _ backoffs three.2 in
      let made : Backoffs = record { ranging_start = one.0; ranging_end = two.0; data_start = three.0; data_end = four.0 } in
      subst (SaysBackoffs ms) (ok_same made backoffs four.2) (record {
        ranging_start = (number_in_is place.Plant field.RangingStart ms one.0).0 one.1;
        ranging_end = (number_in_is place.Plant field.RangingEnd ms two.0).0 two.1;
        data_start = (number_in_is place.Plant field.DataStart ms three.0).0 three.1;
        data_end = (number_in_is place.Plant field.DataEnd ms four.0).0 four.1;
      }),
  λ s.
      bind_both (number_of_key place.Plant field.RangingStart ms) _ backoffs.ranging_start backoffs ((number_in_is place.Plant field.RangingStart ms backoffs.ranging_start).1 s.ranging_start)
      (bind_both (number_of_key place.Plant field.RangingEnd ms) _ backoffs.ranging_end backoffs ((number_in_is place.Plant field.RangingEnd ms backoffs.ranging_end).1 s.ranging_end)
      (bind_both (number_of_key place.Plant field.DataStart ms) _ backoffs.data_start backoffs ((number_in_is place.Plant field.DataStart ms backoffs.data_start).1 s.data_start)
      (bind_both (number_of_key place.Plant field.DataEnd ms) _ backoffs.data_end backoffs ((number_in_is place.Plant field.DataEnd ms backoffs.data_end).1 s.data_end) refl))),
)

timers_are : (ms : Members) (timers : Waits) → (timers_at ms ≡ Ok timers) ↔ SaysTimers ms timers
unfolding timers_at
timers_are ms timers = (
  λ h.
      let one = bind_ok (number_of_key place.Plant field.AckWait ms) _ timers h in
      let two = bind_ok (number_of_key place.Plant field.Resends ms) _ timers one.2 in
      let three = bind_ok (number_of_key place.Plant field.Hold ms) _ timers two.2 in
      let made : Waits = record { ack_wait = one.0; resends = two.0; hold = three.0 } in
      subst (SaysTimers ms) (ok_same made timers three.2) (record {
        ack_wait = (number_in_is place.Plant field.AckWait ms one.0).0 one.1;
        resends = (number_in_is place.Plant field.Resends ms two.0).0 two.1;
        hold = (number_in_is place.Plant field.Hold ms three.0).0 three.1;
      }),
  λ s.
      bind_both (number_of_key place.Plant field.AckWait ms) _ timers.ack_wait timers ((number_in_is place.Plant field.AckWait ms timers.ack_wait).1 s.ack_wait)
      (bind_both (number_of_key place.Plant field.Resends ms) _ timers.resends timers ((number_in_is place.Plant field.Resends ms timers.resends).1 s.resends)
      (bind_both (number_of_key place.Plant field.Hold ms) _ timers.hold timers ((number_in_is place.Plant field.Hold ms timers.hold).1 s.hold) refl)),
)

-- the keys, whatever the classes are
keys_said : (ms : Members) (keys : PlantKeys) (classes : List Class) → plant_keys_at ms ≡ Ok keys → SaysKeys ms (with_classes keys classes)
unfolding plant_keys_at
keys_said ms keys classes h =
    let frame = bind_ok (number_of_key place.Plant field.FrameMinislots ms) _ keys h in
    let head = bind_ok (number_at place.Plant field.Head 0 frame.0 ms) _ keys frame.2 in
    let units = bind_ok (units_at ms) _ keys head.2 in
    let short_max = bind_ok (number_of_key place.Plant field.ShortMax ms) _ keys units.2 in
    let id = bind_ok (number_of_key place.Plant field.Channel ms) _ keys short_max.2 in
    let ucd_count = bind_ok (number_of_key place.Plant field.UcdCount ms) _ keys id.2 in
    let backoffs = bind_ok (backoffs_at ms) _ keys ucd_count.2 in
    let timers = bind_ok (timers_at ms) _ keys backoffs.2 in
    let first_frame = bind_ok (number_of_key place.Plant field.FirstFrame ms) _ keys timers.2 in
    let made : PlantKeys = record {
      channel = record { frame_minislots = frame.0; head = head.0; id = id.0; ucd_count = ucd_count.0; backoffs = backoffs.0; first_frame = first_frame.0 };
      units = units.0;
      short_max = short_max.0;
      timers = timers.0;
    } in
    subst (λ (k : PlantKeys). SaysKeys ms (with_classes k classes)) (ok_same made keys first_frame.2) (record {
      frame_minislots = (number_in_is place.Plant field.FrameMinislots ms frame.0).0 frame.1;
      head = (number_is place.Plant field.Head 0 frame.0 ms head.0).0 head.1;
      units = (units_are ms units.0).0 units.1;
      short_max = (number_in_is place.Plant field.ShortMax ms short_max.0).0 short_max.1;
      id = (number_in_is place.Plant field.Channel ms id.0).0 id.1;
      ucd_count = (number_in_is place.Plant field.UcdCount ms ucd_count.0).0 ucd_count.1;
      backoffs = (backoffs_are ms backoffs.0).0 backoffs.1;
      timers = (timers_are ms timers.0).0 timers.1;
      first_frame = (number_in_is place.Plant field.FirstFrame ms first_frame.0).0 first_frame.1;
    })

keys_again : (ms : Members) (consts : ConstsFields) (keys : PlantKeys) → with_classes keys consts.classes ≡ consts → SaysKeys ms (with_classes keys consts.classes) → plant_keys_at ms ≡ Ok keys
unfolding plant_keys_at
keys_again ms consts keys is s =
    bind_both (number_of_key place.Plant field.FrameMinislots ms) _ keys.channel.frame_minislots keys ((number_in_is place.Plant field.FrameMinislots ms keys.channel.frame_minislots).1 s.frame_minislots)
    (bind_both (number_at place.Plant field.Head 0 keys.channel.frame_minislots ms) _ keys.channel.head keys ((number_is place.Plant field.Head 0 keys.channel.frame_minislots ms keys.channel.head).1 s.head)
    (bind_both (units_at ms) _ keys.units keys ((units_are ms keys.units).1 s.units)
    (bind_both (number_of_key place.Plant field.ShortMax ms) _ keys.short_max keys ((number_in_is place.Plant field.ShortMax ms keys.short_max).1 s.short_max)
    (bind_both (number_of_key place.Plant field.Channel ms) _ keys.channel.id keys ((number_in_is place.Plant field.Channel ms keys.channel.id).1 s.id)
    (bind_both (number_of_key place.Plant field.UcdCount ms) _ keys.channel.ucd_count keys ((number_in_is place.Plant field.UcdCount ms keys.channel.ucd_count).1 s.ucd_count)
    (bind_both (backoffs_at ms) _ keys.channel.backoffs keys ((backoffs_are ms keys.channel.backoffs).1 s.backoffs)
    (bind_both (timers_at ms) _ keys.timers keys ((timers_are ms keys.timers).1 s.timers)
    (bind_both (number_of_key place.Plant field.FirstFrame ms) _ keys.channel.first_frame keys ((number_in_is place.Plant field.FirstFrame ms keys.channel.first_frame).1 s.first_frame) refl))))))))

keys_of_said : (document : Members) (keys : PlantKeys) (classes : List Class) → plant_keys_of document ≡ Ok keys
    → (ms : Members) × (get_member (codes "plant") document ≡ Some (table ms)) × SaysKeys ms (with_classes keys classes)
unfolding plant_keys_of
keys_of_said document keys classes h =
    let d = bind_ok (required_value (Entry place.Plant field.FrameMinislots) (get_member (codes "plant") document)) _ keys h in
    let ms = bind_ok (table_of place.Plant d.0) _ keys d.2 in (
      ms.0,
      under (get_member (codes "plant") document) d.0 (table ms.0) (required_ok (Entry place.Plant field.FrameMinislots) (get_member (codes "plant") document) d.0 d.1) (table_said place.Plant d.0 ms.0 ms.1),
      keys_said ms.0 keys classes ms.2,
    )

keys_of_again : (document ms : Members) (consts : ConstsFields) (keys : PlantKeys) → get_member (codes "plant") document ≡ Some (table ms)
    → plant_keys_at ms ≡ Ok keys → plant_keys_of document ≡ Ok keys
unfolding plant_keys_of
keys_of_again document ms consts keys held h =
    bind_both (required_value (Entry place.Plant field.FrameMinislots) (get_member (codes "plant") document)) _ (table ms) keys
    (required_said (Entry place.Plant field.FrameMinislots) (get_member (codes "plant") document) (table ms) held)
    (bind_both (table_of place.Plant (table ms)) _ ms keys (table_again place.Plant (table ms) ms refl) h)

-- ---- the classes

pub class_name_is : (classes : List Class) (place : Place) (ms : Members) (name : List ℕ) → (class_name_at classes place ms ≡ Ok name) ↔ SaysClassName classes ms name
unfolding class_name_at is_class_name
class_name_is classes place ms name = (
  λ h.
      let text = bind_ok (text_at place field.Name ms) _ name h in
      let test = checked_ok (Entry place field.Name) (is_class_name text.0 && not (list_any (is_class_named text.0) classes)) text.0 name text.2 in
      let parts = and_parts (is_class_name text.0) (not (list_any (is_class_named text.0) classes)) test.0 in
      let valid = and_parts (nat_le 1 (length text.0) && nat_le (length text.0) 15) (list_all is_ascii_alphanumeric text.0) parts.0 in
      let sizes = and_parts (nat_le 1 (length text.0)) (nat_le (length text.0) 15) valid.0 in
      subst (SaysClassName classes ms) test.1 (record {
        held = text_said place field.Name ms text.0 text.1;
        some = at_most 1 (length text.0) sizes.0;
        few = at_most (length text.0) 15 sizes.1;
        letters = valid.1;
        new = λ k d lt. told_apart (get_or classes k d).name text.0 (none_passes (is_class_named text.0) classes k d (not-true (list_any (is_class_named text.0) classes) parts.1) lt);
      }),
  λ s.
      let new : list_any (is_class_named name) classes ≡ false = list_any_none (is_class_named name) classes (λ k d lt. differ (get_or classes k d).name name (s.new k d lt)) in
      let valid = both_true (nat_le 1 (length name) && nat_le (length name) 15) (list_all is_ascii_alphanumeric name)
      (both_true (nat_le 1 (length name)) (nat_le (length name) 15) (le_true 1 (length name) s.some) (le_true (length name) 15 s.few)) s.letters in
      bind_both (text_at place field.Name ms) _ name name (text_again place field.Name ms name s.held)
      (checked_said (Entry place field.Name) (is_class_name name && not (list_any (is_class_named name) classes)) name
      (both_true (is_class_name name) (not (list_any (is_class_named name) classes)) valid (not_again (list_any (is_class_named name) classes) new))),
)

pub parameters_again : (flow : FlowFields) → StatesParameters flow → states_parameters flow ≡ true
unfolding states_parameters
parameters_again flow h = rw (h.reference, h.sfid, h.sid, h.class_name, h.errored, h.set_type) refl

pub stated_said : (key : Key) (read : Result FlowFields FlowFault) (flow : FlowFields) → parameters_in key read ≡ Ok flow → (read ≡ Ok flow) × StatesParameters flow
stated_said key (Ok x) flow h =
    let test = checked_ok key (states_parameters x) x flow h in
    (ap (λ (f : FlowFields). Ok f) test.1, subst StatesParameters test.1 (parameters x test.0))
stated_said key (Err fault) flow h = cc

pub encoding_is : (place : Place) (ms : Members) (flow : FlowFields) → (class_encoding_at place ms ≡ Ok flow) ↔ SaysParameters ms flow
unfolding class_encoding_at
encoding_is place ms flow = (
  λ h.
      let bytes = bind_ok (bytes_at place field.Encoding ms) (λ b. parameters_in (Entry place field.Encoding) (flow_of b)) flow h in
      let said = stated_said (Entry place field.Encoding) (flow_of bytes.0) flow bytes.2 in
      record { bytes = bytes.0; held = (bytes_is place field.Encoding ms bytes.0).0 bytes.1; stated = said.0; parameters = said.1 },
  λ s.
      bind_both (bytes_at place field.Encoding ms) (λ b. parameters_in (Entry place field.Encoding) (flow_of b)) s.bytes flow ((bytes_is place field.Encoding ms s.bytes).1 s.held)
      (ap (parameters_in (Entry place field.Encoding)) s.stated ∙ checked_said (Entry place field.Encoding) (states_parameters flow) flow (parameters_again flow s.parameters)),
)

class_is : (classes : List Class) (d : Data) (class : Class) → (class_read classes d ≡ Ok class) ↔ SaysClass classes d class
unfolding class_read
class_is classes d class = (
  λ h.
      let place : Place = place.Class (length classes) in
      let ms = bind_ok (table_of place d) _ class h in
      let name = bind_ok (class_name_at classes place ms.0) _ class ms.2 in
      let encoding = bind_ok (class_encoding_at place ms.0) _ class name.2 in
      let made : Class = record { name = name.0; encoding = encoding.0 } in
      subst (SaysClass classes d) (ok_same made class encoding.2) (record {
        ms = ms.0;
        is = table_said place d ms.0 ms.1;
        name = (class_name_is classes place ms.0 name.0).0 name.1;
        encoding = (encoding_is place ms.0 encoding.0).0 encoding.1;
      }),
  λ s.
      let place : Place = place.Class (length classes) in
      bind_both (table_of place d) _ s.ms class (table_again place d s.ms s.is)
      (bind_both (class_name_at classes place s.ms) _ class.name class ((class_name_is classes place s.ms class.name).1 s.name)
      (bind_both (class_encoding_at place s.ms) _ class.encoding class ((encoding_is place s.ms class.encoding).1 s.encoding) refl)),
)

classes_said : (d : Data) (classes : List Class) → classes_in d ≡ Ok classes → (ds : Items) × (d ≡ array ds) × (items_len ds ≤ 64) × SayInTurn SaysClass [] ds classes
unfolding classes_in
classes_said d classes h =
    let ds = bind_ok (expected_value Classes (as_array d)) _ classes h in
    let few = bind_ok (checked_value Classes (nat_le (items_len ds.0) 64) ds.0) _ classes ds.2 in
    let test = checked_ok Classes (nat_le (items_len ds.0) 64) ds.0 few.0 few.1 in (
      ds.0,
      array_is d ds.0 (expected_ok Classes (as_array d) ds.0 ds.1),
      at_most (items_len ds.0) 64 test.0,
      subst (λ (items : Items). SayInTurn SaysClass [] items classes) (sym test.1) ((turn_is class_read SaysClass class_is [] few.0 classes).0 few.2),
    )

classes_again : (ds : Items) (classes : List Class) → items_len ds ≤ 64 → SayInTurn SaysClass [] ds classes → classes_in (array ds) ≡ Ok classes
unfolding classes_in
classes_again ds classes few h =
    bind_both (checked_value Classes (nat_le (items_len ds) 64) ds) _ ds classes (checked_said Classes (nat_le (items_len ds) 64) ds (le_true (items_len ds) 64 few))
    ((turn_is class_read SaysClass class_is [] ds classes).1 h)

classes_if_said : (document : Members) (o : Option Data) (classes : List Class) → get_member (codes "class") document ≡ o → classes_if o ≡ Ok classes → SaysClasses document classes
classes_if_said document None classes at h = inl (at, ok_same [] classes h)
classes_if_said document (Some d) classes at h =
    let said = classes_said d classes h in
    inr (said.0, under (get_member (codes "class") document) d (array said.0) at said.1, said.2, said.3)

pub classes_are : (document : Members) (classes : List Class) → (classes_if (get_member (codes "class") document) ≡ Ok classes) ↔ SaysClasses document classes
classes_are document classes = (
  λ h. classes_if_said document (get_member (codes "class") document) classes refl h,
  λ s. elim s [
    | inl none ↦ ap classes_if none.0 ∙ ap (λ (cs : List Class). Ok cs) none.1
    | inr some ↦ ap classes_if some.1 ∙ classes_again some.0 classes some.2 some.3
  ],
)

-- ---- what all operators share

-- the keys of the table `plant` among all of them
keys_among : ConstsFields → PlantKeys
keys_among consts = record {
  channel = consts.channel;
  units = consts.units;
  short_max = consts.short_max;
  timers = consts.timers;
}

pub consts_are : (document : Members) (consts : ConstsFields) → (consts_of document ≡ Ok consts) ↔ SaysConsts document consts
unfolding consts_of keys_among
consts_are document consts = (
  λ h.
      let keys = bind_ok (plant_keys_of document) _ consts h in
      let classes = bind_ok (classes_if (get_member (codes "class") document)) _ consts keys.2 in
      let said = keys_of_said document keys.0 classes.0 keys.1 in
      subst (SaysConsts document) (ok_same (with_classes keys.0 classes.0) consts classes.2)
      (record { ms = said.0; held = said.1; keys = said.2; classes = (classes_are document classes.0).0 classes.1 }),
  λ s.
      bind_both (plant_keys_of document) _ (keys_among consts) consts (keys_of_again document s.ms consts (keys_among consts) s.held (keys_again s.ms consts (keys_among consts) refl s.keys))
      (bind_both (classes_if (get_member (codes "class") document)) _ consts.classes consts ((classes_are document consts.classes).1 s.classes) refl),
)
