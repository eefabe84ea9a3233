-- A map of modems beside the addresses that were put into it.
use Rattle.std.proofs.Common.{◌≡◌, ℕ, ◌+◌, ◌<◌, Bool, true, false, cond, ◌||◌, List, [], ◌∷◌, ◌++◌, length, get_or, take, drop, append_assoc, append-nil, Ok, Option, Some, None, is_some, option_copied, if◌then◌else◌, Bor, inl, inr, refl, sym, ap, subst, ◌∙◌, arith}
use Rattle.slice_table.proofs.Common.{option_or, position_from, false≢true, cases_Bool, take_more, drop_more, length-take, Modem, RowFields, same_modem, is_listed, all_modems, Places, place_of, holder, Finds, Lists, Adds, PlantFault, NoMemory, ModemTwice, same_is_equal, or_false, listed_append, some_holder, Fails, PlantResult, plant_cause, first_again, modem_twice_fault, unless}
use Rattle.std.proofs.lemmas.List.Concat.{flat_map-append}

pub copied_none : (o : Option (Bor ℕ)) → is_some o ≡ false → option_copied o ≡ None
copied_none None h = refl
copied_none (Some x) h = absurd (false≢true (sym h))

listed_push : (m : Modem) (xs : List Modem) (y : Modem) → is_listed m (xs ++ y ∷ []) ≡ (is_listed m xs || same_modem y m)
listed_push m xs y = listed_append m xs (y ∷ []) ∙ ap (λ (b : Bool). is_listed m xs || b) (or_false (same_modem y m))

-- one more modem at its place, where none was there
pick_new : (old mid : Option ℕ) (place : ℕ) (listed : Bool) → mid ≡ option_or old (if listed then Some place else None) → mid ≡ None
    → (other : Bool) → Some place ≡ option_or old (if listed || true then Some place else None)
pick_new None mid place true h none other = refl
pick_new None mid place false h none other = refl
pick_new (Some n) mid place listed h none other = let e : Some n ≡ None = sym h ∙ none in cc

pub adds_one : (old mid new : Places) (place : ℕ) (ms : List Modem) (m : Modem) → Adds old place ms mid → place_of mid m ≡ None
    → ((q : Modem) → place_of new q ≡ cond (same_modem m q) (Some place) (place_of mid q)) → Adds old place (ms ++ m ∷ []) new
adds_one old mid new place ms m added absent updated q =
    updated q ∙ rw (listed_push q ms m) (elim (cases_Bool (same_modem m q)) [
      | inl same ↦
          let is : m ≡ q = same_is_equal m q same in
          let none : place_of mid q ≡ None = subst (λ (k : Modem). place_of mid k ≡ None) is absent in
          rw same (pick_new (place_of old q) (place_of mid q) place (is_listed q ms) (added q) none true)
      | inr other ↦ rw (other, or_false (is_listed q ms)) (added q)
    ])

some_or : (old : Option ℕ) (place : ℕ) (b : Bool) → is_some (option_or old (if b then Some place else None)) ≡ (is_some old || b)
some_or None place true = refl
some_or None place false = refl
some_or (Some n) place b = refl

-- what was there and what was added
pub lists_added : (old new : Places) (place : ℕ) (before ms : List Modem) → Lists old before → Adds old place ms new → Lists new (before ++ ms)
lists_added old new place before ms there added q =
    ap (is_some {T = ℕ}) (added q) ∙ some_or (place_of old q) place (is_listed q ms)
    ∙ ap (λ (b : Bool). b || is_listed q ms) (there q) ∙ sym (listed_append q before ms)

some_cond : (b : Bool) (place : ℕ) (o : Option ℕ) → is_some (cond b (Some place) o) ≡ (is_some o || b)
some_cond true place None = refl
some_cond true place (Some n) = refl
some_cond false place None = refl
some_cond false place (Some n) = refl

-- one more modem, whether or not it was there
pub lists_one : (old new : Places) (place : ℕ) (ms : List Modem) (m : Modem) → Lists old ms
    → ((q : Modem) → place_of new q ≡ cond (same_modem m q) (Some place) (place_of old q)) → Lists new (ms ++ m ∷ [])
lists_one old new place ms m there updated q =
    ap (is_some {T = ℕ}) (updated q) ∙ some_cond (same_modem m q) place (place_of old q)
    ∙ ap (λ (b : Bool). b || same_modem m q) (there q) ∙ sym (listed_push q ms m)

-- an address that is new is passed
pub again_more : (before ms : List Modem) (i : ℕ) (d : Modem) → i < length ms → is_listed (get_or ms i d) (before ++ take i ms) ≡ false
    → first_again (before ++ take (i + 1) ms) (drop (i + 1) ms) ≡ first_again (before ++ take i ms) (drop i ms)
again_more before ms i d lt new =
    rw (take_more ms i d lt, drop_more ms i d lt, new, append_assoc before (take i ms) (get_or ms i d ∷ [])) refl

-- ---- over all rows

again_append : (before xs ys : List Modem) → first_again before (xs ++ ys) ≡ option_or (first_again before xs) (first_again (before ++ xs) ys)
again_append before [] ys = ap (λ (front : List Modem). first_again front ys) (sym (append-nil before))
again_append before (x ∷ xs) ys = elim (cases_Bool (is_listed x before)) [
  | inl known ↦ rw known refl
  | inr new ↦ rw new (again_append (before ++ x ∷ []) xs ys ∙ ap (λ (front : List Modem). option_or (first_again (before ++ x ∷ []) xs) (first_again front ys)) (append_assoc before (x ∷ []) xs))
]

-- the addresses of one row more
pub modems_more : (rows : List RowFields) (i : ℕ) (d : RowFields) → i < length rows
    → all_modems (take (i + 1) rows) ≡ all_modems (take i rows) ++ (get_or rows i d).modems
modems_more rows i d lt = ap all_modems (take_more rows i d lt)
    ∙ flat_map-append (λ row. row.modems) (take i rows) (get_or rows i d ∷ [])
    ∙ ap (λ (ms : List Modem). all_modems (take i rows) ++ ms) (append-nil (get_or rows i d).modems)

-- the first that is listed again: in this row, or behind it
pub again_row : (rows : List RowFields) (i : ℕ) (d : RowFields) → i < length rows
    → first_again (all_modems (take i rows)) (all_modems (drop i rows))
    ≡ option_or (first_again (all_modems (take i rows)) (get_or rows i d).modems) (first_again (all_modems (take (i + 1) rows)) (all_modems (drop (i + 1) rows)))
again_row rows i d lt = rw (drop_more rows i d lt, modems_more rows i d lt)
    (again_append (all_modems (take i rows)) (get_or rows i d).modems (all_modems (drop (i + 1) rows)))

position_push : (t : RowFields → Bool) (n : ℕ) (rows : List RowFields) (row : RowFields)
    → position_from t n (rows ++ row ∷ []) ≡ option_or (position_from t n rows) (if t row then Some (n + length rows) else None)
position_push t n [] row = rw (let e : n + 0 ≡ n = omega arith in e) refl
position_push t n (x ∷ rows) row = elim (cases_Bool (t x)) [
  | inl passes ↦ rw passes refl
  | inr other ↦ rw other (position_push t (n + 1) rows row ∙ ap (λ (k : ℕ). option_or (position_from t (n + 1) rows) (if t row then Some k else None)) (let e : (n + 1) + length rows ≡ n + length (x ∷ rows) = omega arith in e))
]

-- the map with one row more
pub finds_more : (rows : List RowFields) (i : ℕ) (d : RowFields) (old new : Places) → i < length rows → Finds (take i rows) old
    → Adds old i (get_or rows i d).modems new → Finds (take (i + 1) rows) new
finds_more rows i d old new lt found added m =
    added m ∙ ap (λ (o : Option ℕ). option_or o (if is_listed m (get_or rows i d).modems then Some i else None)) (found m)
    ∙ sym (ap (λ (rs : List RowFields). holder rs m) (take_more rows i d lt)
    ∙ position_push (λ row. is_listed m row.modems) 0 (take i rows) (get_or rows i d)
    ∙ ap (λ (k : ℕ). option_or (holder (take i rows) m) (if is_listed m (get_or rows i d).modems then Some k else None))
    (let e : 0 + length (take i rows) ≡ i = omega (arith, length-take i rows) in e))

pub lists_found : (rows : List RowFields) (places : Places) → Finds rows places → Lists places (all_modems rows)
lists_found rows places found m = ap (is_some {T = ℕ}) (found m) ∙ some_holder m 0 rows

-- ---- the fault

pub none_again : (o : Option Modem) → unless (modem_twice_fault o) (tt {0}) ≡ Ok (tt {0}) → o ≡ None
none_again None h = refl
none_again (Some m) h = cc

no_fault : {A B : Type 0} (fault : PlantFault) (x : A) (read : PlantResult B) → Fails {B = A} (plant_cause fault) (Ok x) → Fails (plant_cause fault) read
no_fault NoMemory x read h = tt
no_fault fault x read h = cc

fault_same : {A B : Type 0} (fault other : PlantFault) (y : B) (x : A) → Fails {B = B} (plant_cause fault) (unless (Some other) y) → Fails {B = A} (plant_cause fault) (unless (Some other) x)
fault_same NoMemory other y x h = tt
fault_same fault other y x h = cc

pub fault_kept : {A : Type 0} (fault : PlantFault) (o rest whole : Option Modem) (x : A) → Fails {B = Unit {0}} (plant_cause fault) (unless (modem_twice_fault o) (tt {0})) → whole ≡ option_or o rest
    → Fails (plant_cause fault) (unless (modem_twice_fault whole) x)
fault_kept fault None rest whole x h e = no_fault fault (tt {0}) (unless (modem_twice_fault whole) x) h
fault_kept fault (Some m) rest whole x h e = rw e (fault_same fault (ModemTwice m) (tt {0}) x h)
