-- A document is read as a plant exactly where its keys say it and it is valid.
use Rattle.std.proofs.Common.{◌≡◌, ◌≢◌, ℕ, zero, suc, ◌-◌, ◌≤◌, ◌↔◌, nat_le, nat_lt, ◌&&◌, Bool, true, false, not, List, [], ◌∷◌, ◌++◌, append_assoc, length, length-append, get_or, All, AllPairs, find, option_map, Option, Some, None, Ok, codes, refl, sym, subst, ap, ◌∙◌, arith}
use Rattle.slice_table.proofs.Common.{false_from_ne_true, get_or_append_left, get_or-append_right, list_any_none, Members, get_member, Modem, Apart, Slices, Sids, Sfids, ConstsFields, RowFields, PlantFields, PlantFault, AreConsts, is_listed, same_modem, DoesFit, count_of, IsPlant, all_modems, most_elements, consts_of, rows_of, SaysConsts, SaysPlant, same_is_equal}
use Rattle.slice_table.specs.declared.plant_key.Field.TheVariants as field
use Rattle.slice_table.specs.Checks.{meets, first_pair, first_meeting, first_again, is_over_slice, is_overfull, sids_needed, minislots_needed, provision_elements, counts_fit, needs_fit, do_fit, meeting_fault, twice_fault, elements_fault, budget_fault, provisioned_fault, late_fault, rows_fault, unless}
use Rattle.slice_table.specs.ReadPlant.{plant_of}
use Rattle.slice_table.proofs.Parsed.{ok_same, bind_ok}
use Rattle.slice_table.proofs.ClassReading.{classes_read}
use Rattle.slice_table.proofs.RowReading.{rows_read}
use Rattle.slice_table.proofs.PlantReading.{valid, no_fault}
use Rattle.slice_table.proofs.SaidKeys.{bind_both, both_true, le_true, said_in_range}
use Rattle.slice_table.proofs.SaidRows.{rows_are}
use Rattle.slice_table.proofs.SaidConsts.{consts_are, classes_are}

-- ---- a valid plant has no fault

nowhere : {A : Type 0} (test : A → Bool) (xs : List A) → All (λ x. test x ≡ false) xs → find test xs ≡ None
nowhere test [] h = refl
nowhere test (x ∷ xs) h = rw (h 0 x (omega arith)) (nowhere test xs (λ k d lt. h (suc k) d (omega (arith, lt))))

apart_pairs : {A : Type 0} (test : A → A → Bool) (xs : List A) → AllPairs (λ a b. test a b ≡ false) xs → first_pair test xs ≡ None
apart_pairs test [] h = refl
apart_pairs test (x ∷ xs) h =
    let none : find (test x) xs ≡ None = nowhere (test x) xs (λ k d lt. h zero (suc k) d (omega arith) (omega (arith, lt))) in
    rw none (apart_pairs test xs (λ i j d lt more. h (suc i) (suc j) d (omega (arith, lt)) (omega (arith, more))))

apart_again : (apart : Apart) (rows : List RowFields) → AllPairs (λ a b. meets apart a b ≡ false) rows → first_meeting apart rows ≡ None
unfolding first_meeting
apart_again apart rows h = ap (option_map (λ pair. (pair.0.name, pair.1.name))) (apart_pairs (meets apart) rows h)

told_again : (a b : Modem) → a ≢ b → same_modem a b ≡ false
told_again a b h = false_from_ne_true (same_modem a b) (λ e. h (same_is_equal a b e))

-- an address behind others differs from each of them
pub is_new : (before ms : List Modem) (m : Modem) → AllPairs (λ a b. a ≢ b) (before ++ m ∷ ms) → is_listed m before ≡ false
is_new before ms m h = list_any_none (λ x. same_modem x m) before (λ k d lt.
    let here : get_or (before ++ m ∷ ms) k d ≡ get_or before k d = get_or_append_left before (m ∷ ms) d k lt in
    let zeroth : length before - length before ≡ 0 = omega arith in
    let there : get_or (before ++ m ∷ ms) (length before) d ≡ m =
    get_or-append_right before (m ∷ ms) (length before) (length before) d refl (omega arith) ∙ ap (λ (i : ℕ). get_or (m ∷ ms) i d) zeroth in
    told_again (get_or before k d) m (λ e. h k (length before) d lt (omega (arith, length-append before (m ∷ ms))) (here ∙ e ∙ sym there)))

pub none_again : (before ms : List Modem) → AllPairs (λ a b. a ≢ b) (before ++ ms) → first_again before ms ≡ None
none_again before [] h = refl
none_again before (m ∷ ms) h =
    rw (is_new before ms m h) (none_again (before ++ m ∷ []) ms (subst (AllPairs (λ a b. a ≢ b)) (sym (append_assoc before (m ∷ []) ms)) h))

fits_again : (consts : ConstsFields) (row : RowFields) → DoesFit consts row → do_fit consts row ≡ true
unfolding do_fit counts_fit needs_fit sids_needed minislots_needed provision_elements
fits_again consts row h =
    both_true (counts_fit row) (needs_fit consts row)
    (both_true (nat_le (length row.provisions) row.flows) (nat_le (length row.provisions) (count_of row.sfids))
    (le_true (length row.provisions) row.flows h.flows) (le_true (length row.provisions) (count_of row.sfids) h.sfids))
    (both_true (nat_le (sids_needed consts row.provisions) (count_of row.sids) && nat_le (minislots_needed consts row.provisions) row.budget) (nat_le (provision_elements consts row.provisions) row.elements)
    (both_true (nat_le (sids_needed consts row.provisions) (count_of row.sids)) (nat_le (minislots_needed consts row.provisions) row.budget)
    (le_true (sids_needed consts row.provisions) (count_of row.sids) h.sids) (le_true (minislots_needed consts row.provisions) row.budget h.minislots))
    (le_true (provision_elements consts row.provisions) row.elements h.elements))

not_over : (a b : ℕ) → b ≤ a → nat_lt a b ≡ false
not_over a b h = grind arith

none_meet_again : (rows : List RowFields) → first_meeting Slices rows ≡ None → first_meeting Sids rows ≡ None → first_meeting Sfids rows ≡ None → meeting_fault rows ≡ None
unfolding meeting_fault
none_meet_again rows a b c = rw (a, b, c) refl

late_none : (consts : ConstsFields) (rows : List RowFields) → IsPlant (record { consts = consts; rows = rows }) → late_fault consts rows ≡ None
unfolding late_fault elements_fault budget_fault provisioned_fault
late_none consts rows h =
    let few : nat_le (most_elements rows) 240 ≡ true = le_true (most_elements rows) 240 h.elements in
    let over : find is_over_slice rows ≡ None = nowhere is_over_slice rows (λ k d lt. not_over (get_or rows k d).slice.length (get_or rows k d).budget (h.rows k d lt).budget) in
    let full : find (is_overfull consts) rows ≡ None = nowhere (is_overfull consts) rows (λ k d lt. ap not (fits_again consts (get_or rows k d) (h.rows k d lt).fits)) in
    rw (few, over, full) refl

valid_again : (consts : ConstsFields) (rows : List RowFields) → IsPlant (record { consts = consts; rows = rows }) → rows_fault consts rows ≡ None
unfolding rows_fault twice_fault
valid_again consts rows h =
    let meet : meeting_fault rows ≡ None = none_meet_again rows (apart_again Slices rows h.slices) (apart_again Sids rows h.sids) (apart_again Sfids rows h.sfids) in
    let twice : first_again [] (all_modems rows) ≡ None = none_again [] (all_modems rows) h.modems in
    rw (meet, twice, late_none consts rows h) refl

-- ---- the plant

consts_valid : (document : Members) (consts : ConstsFields) → SaysConsts document consts → AreConsts consts
consts_valid document consts s =
    let keys = s.keys in
    let backoffs = keys.backoffs in
    record {
      channel = record {
        some_frame = (said_in_range s.ms field.FrameMinislots consts.channel.frame_minislots keys.frame_minislots).0;
        frame = (said_in_range s.ms field.FrameMinislots consts.channel.frame_minislots keys.frame_minislots).1;
        head = keys.head.high_enough;
        backoffs = record {
          ranging_start = (said_in_range s.ms field.RangingStart consts.channel.backoffs.ranging_start backoffs.ranging_start).1;
          ranging_end = (said_in_range s.ms field.RangingEnd consts.channel.backoffs.ranging_end backoffs.ranging_end).1;
          data_start = (said_in_range s.ms field.DataStart consts.channel.backoffs.data_start backoffs.data_start).1;
          data_end = (said_in_range s.ms field.DataEnd consts.channel.backoffs.data_end backoffs.data_end).1;
        };
      };
      short_max = (said_in_range s.ms field.ShortMax consts.short_max keys.short_max).1;
      classes = classes_read (get_member (codes "class") document) consts.classes ((classes_are document consts.classes).1 s.classes);
    }

unless_is : {A : Type 0} (o : Option PlantFault) (x y : A) → unless o x ≡ Ok y → x ≡ y
unless_is None x y h = ok_same x y h
unless_is (Some fault) x y h = cc

pub plant_is : (document : Members) (plant : PlantFields) → (plant_of document ≡ Ok plant) ↔ SaysPlant document plant
unfolding plant_of
plant_is document plant = (
  λ h.
      let consts = bind_ok (consts_of document) _ plant h in
      let rows = bind_ok (rows_of consts.0 document) _ plant consts.2 in
      let made : PlantFields = record { consts = consts.0; rows = rows.0 } in
      let none : rows_fault consts.0 rows.0 ≡ None = no_fault (rows_fault consts.0 rows.0) made plant rows.2 in
      let said = (consts_are document consts.0).0 consts.1 in
      let is : made ≡ plant = unless_is (rows_fault consts.0 rows.0) made plant rows.2 in
      subst (SaysPlant document) is (record {
        consts = said;
        rows = (rows_are consts.0 document rows.0).0 rows.1;
        valid = valid consts.0 rows.0 (consts_valid document consts.0 said) (rows_read consts.0 document rows.0 rows.1) none;
      }),
  λ s.
      bind_both (consts_of document) _ plant.consts plant ((consts_are document plant.consts).1 s.consts)
      (bind_both (rows_of plant.consts document) _ plant.rows plant ((rows_are plant.consts document plant.rows).1 s.rows)
      (ap (λ (o : Option PlantFault). unless o plant) (valid_again plant.consts plant.rows s.valid))),
)
