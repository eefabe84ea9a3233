-- A reading of one key answers a value exactly where the key says it.
use Rattle.std.proofs.Common.{◌≡◌, ℕ, pos, negsuc, ◌+◌, ◌≤◌, ◌↔◌, inl, inr, nat_le, le-leb, ◌&&◌, Bool, true, List, [], ◌∷◌, ◌++◌, Option, Some, None, Result, Ok, Err, codes, refl, sym, subst, ap, ◌∙◌, arith}
use Rattle.slice_table.proofs.Common.{bytes_eq, and_parts, cases_Bool, bytes_eq-Decides, Data, string, integer, float, boolean, datetime, array, table, Items, no_items, item, Members, as_str, as_array, as_table, ◌>>=◌, Modem, Numbers, Minislots, ConstsFields, Field, Place, Key, Table, Entry, range_of, default_of, SaysNumber, SaysNumberIn, two, SaysBytes, IsAddress, SayInTurn, SaysSlice, SaysRange, SaysPolicy}
use Rattle.hex.specs.Hex.{decode_of, decode_sized}
use Rattle.hex.specs.declared.error.FromHexError.{FromHexError}
use Rattle.grant_policy.specs.declared.policy.Policy.{Policy}
use Rattle.grant_policy.specs.declared.policy.Policy.TheVariants.{Strict, Aged, Short}
use Rattle.slice_table.specs.declared.plant_key.Field.TheVariants as field
use Rattle.slice_table.specs.Tree.{PlantResult, each, required_value, expected_value, checked_value, at_field, natural, number_of, number_if, number_at, number_of_key, both, pair_in, array_at, pair_at, text_at, bytes_if_decoded, bytes_at, modem_in, modem_of, table_of}
use Rattle.slice_table.specs.ReadRows.{fits_frame, slice_at, is_range, range_at, aged_at, policy_named, policy_at}
use Rattle.slice_table.proofs.Parsed.{ok_same, bind_ok, required_ok, expected_ok, checked_ok}
use Rattle.slice_table.proofs.Values.{at_most}

-- ---- the parts of a reading

pub bind_both : {A B : Type 0} (r : PlantResult A) (f : A → PlantResult B) (x : A) (y : B) → r ≡ Ok x → f x ≡ Ok y → (r >>= f) ≡ Ok y
bind_both r f x y h k = subst (λ (q : PlantResult _). (q >>= f) ≡ Ok y) (sym h) k

pub required_said : {A : Type 0} (key : Key) (o : Option A) (x : A) → o ≡ Some x → required_value key o ≡ Ok x
required_said key o x h = ap (required_value key) h

pub expected_said : {A : Type 0} (key : Key) (o : Option A) (x : A) → o ≡ Some x → expected_value key o ≡ Ok x
expected_said key o x h = ap (expected_value key) h

pub checked_said : {A : Type 0} (key : Key) (b : Bool) (x : A) → b ≡ true → checked_value key b x ≡ Ok x
checked_said key b x h = ap (λ (c : Bool). checked_value key c x) h

pub both_true : (a b : Bool) → a ≡ true → b ≡ true → (a && b) ≡ true
both_true a b h k = rw (h, k) refl

pub le_true : (a b : ℕ) → a ≤ b → nat_le a b ≡ true
le_true a b h = le-leb a b h

-- ---- what a value is

pub natural_is : (d : Data) (n : ℕ) → natural d ≡ Some n → d ≡ integer (pos n)
natural_is (string s) n h = cc
natural_is (integer (pos m)) n h = let e : m ≡ n = cc in ap (λ (k : ℕ). integer (pos k)) e
natural_is (integer (negsuc m)) n h = cc
natural_is (float x) n h = cc
natural_is (boolean b) n h = cc
natural_is (datetime t) n h = cc
natural_is (array ds) n h = cc
natural_is (table ms) n h = cc

pub string_is : (d : Data) (s : List ℕ) → as_str d ≡ Some s → d ≡ string s
string_is (string t) s h = let e : t ≡ s = cc in ap string e
string_is (integer z) s h = cc
string_is (float x) s h = cc
string_is (boolean b) s h = cc
string_is (datetime t) s h = cc
string_is (array ds) s h = cc
string_is (table ms) s h = cc

pub array_is : (d : Data) (ds : Items) → as_array d ≡ Some ds → d ≡ array ds
array_is (string s) ds h = cc
array_is (integer z) ds h = cc
array_is (float x) ds h = cc
array_is (boolean b) ds h = cc
array_is (datetime t) ds h = cc
array_is (array es) ds h = let e : es ≡ ds = cc in ap array e
array_is (table ms) ds h = cc

pub table_is : (d : Data) (ms : Members) → as_table d ≡ Some ms → d ≡ table ms
table_is (string s) ms h = cc
table_is (integer z) ms h = cc
table_is (float x) ms h = cc
table_is (boolean b) ms h = cc
table_is (datetime t) ms h = cc
table_is (array ds) ms h = cc
table_is (table ns) ms h = let e : ns ≡ ms = cc in ap table e

both_parts : (o p : Option ℕ) (a b : ℕ) → both o p ≡ Some (a, b) → (o ≡ Some a) × (p ≡ Some b)
both_parts None p a b h = cc
both_parts (Some m) None a b h = cc
both_parts (Some m) (Some n) a b h =
    let e : (m, n) ≡ (a, b) = cc in (ap (λ (q : ℕ × ℕ). Some q.0) e, ap (λ (q : ℕ × ℕ). Some q.1) e)

pub pair_is : (ds : Items) (a b : ℕ) → pair_in ds ≡ Some (a, b) → ds ≡ item (integer (pos a)) (item (integer (pos b)) no_items)
pair_is no_items a b h = cc
pair_is (item d no_items) a b h = cc
pair_is (item d (item e no_items)) a b h =
    let parts = both_parts (natural d) (natural e) a b h in
    ap (λ (x : Data). item x (item e no_items)) (natural_is d a parts.0) ∙ ap (λ (y : Data). item (integer (pos a)) (item y no_items)) (natural_is e b parts.1)
pair_is (item d (item e (item f fs))) a b h = cc

-- what stands under a key: by what it is
pub under : (o : Option Data) (d e : Data) → o ≡ Some d → d ≡ e → o ≡ Some e
under o d e h k = h ∙ ap (λ (x : Data). Some x) k

-- ---- numbers

number_said : (key : Key) (low high : ℕ) (d : Data) (n : ℕ) → number_of key low high d ≡ Ok n → (d ≡ integer (pos n)) × (low ≤ n) × (n ≤ high)
unfolding number_of
number_said key low high d n h =
    let m = bind_ok (expected_value key (natural d)) _ n h in
    let test = checked_ok key (nat_le low m.0 && nat_le m.0 high) m.0 n m.2 in
    let parts = and_parts (nat_le low m.0) (nat_le m.0 high) test.0 in
    subst (λ (k : ℕ). (d ≡ integer (pos k)) × (low ≤ k) × (k ≤ high)) test.1
    (natural_is d m.0 (expected_ok key (natural d) m.0 m.1), at_most low m.0 parts.0, at_most m.0 high parts.1)

number_again : (key : Key) (low high n : ℕ) → low ≤ n → n ≤ high → number_of key low high (integer (pos n)) ≡ Ok n
unfolding number_of
number_again key low high n l h = checked_said key (nat_le low n && nat_le n high) n (both_true (nat_le low n) (nat_le n high) (le_true low n l) (le_true n high h))

pub number_is : (place : Place) (f : Field) (low high : ℕ) (ms : Members) (n : ℕ) → (number_at place f low high ms ≡ Ok n) ↔ SaysNumber ms f low high n
unfolding number_at
number_is place f low high ms n = (
  λ h.
      let d = bind_ok (required_value (Entry place f) (at_field f ms)) _ n h in
      let said = number_said (Entry place f) low high d.0 n d.2 in
      record { held = under (at_field f ms) d.0 (integer (pos n)) (required_ok (Entry place f) (at_field f ms) d.0 d.1) said.0; low_enough = said.1; high_enough = said.2 },
  λ s. bind_both (required_value (Entry place f) (at_field f ms)) _ (integer (pos n)) n (required_said (Entry place f) (at_field f ms) (integer (pos n)) s.held)
      (number_again (Entry place f) low high n s.low_enough s.high_enough),
)

number_if_said : (place : Place) (f : Field) (ms : Members) (o : Option Data) (n : ℕ) → at_field f ms ≡ o
    → number_if (Entry place f) (range_of f) (default_of f) o ≡ Ok n → SaysNumberIn ms f n
number_if_said place f ms None n at h = inl (at, required_ok (Entry place f) (default_of f) n h)
number_if_said place f ms (Some d) n at h =
    let said = number_said (Entry place f) (range_of f).low (range_of f).high d n h in
    inr (record { held = under (at_field f ms) d (integer (pos n)) at said.0; low_enough = said.1; high_enough = said.2 })

pub number_in_is : (place : Place) (f : Field) (ms : Members) (n : ℕ) → (number_of_key place f ms ≡ Ok n) ↔ SaysNumberIn ms f n
unfolding number_of_key
number_in_is place f ms n = (
  λ h. number_if_said place f ms (at_field f ms) n refl h,
  λ s. elim s [
    | inl none ↦ ap (number_if (Entry place f) (range_of f) (default_of f)) none.0 ∙ required_said (Entry place f) (default_of f) n none.1
    | inr some ↦
        ap (number_if (Entry place f) (range_of f) (default_of f)) some.held
        ∙ number_again (Entry place f) (range_of f).low (range_of f).high n some.low_enough some.high_enough
  ],
)

-- a default is of its key's range
default_in_range : (f : Field) (n : ℕ) → default_of f ≡ Some n → ((range_of f).low ≤ n) × (n ≤ (range_of f).high)
default_in_range field.RangingStart n h = let e : 0 ≡ n = cc in (omega (arith, e), omega (arith, e))
default_in_range field.RangingEnd n h = let e : 0 ≡ n = cc in (omega (arith, e), omega (arith, e))
default_in_range field.DataStart n h = let e : 0 ≡ n = cc in (omega (arith, e), omega (arith, e))
default_in_range field.DataEnd n h = let e : 0 ≡ n = cc in (omega (arith, e), omega (arith, e))
default_in_range field.AckWait n h = let e : 150 ≡ n = cc in (omega (arith, e), omega (arith, e))
default_in_range field.Resends n h = let e : 3 ≡ n = cc in (omega (arith, e), omega (arith, e))
default_in_range field.Hold n h = let e : 1500 ≡ n = cc in (omega (arith, e), omega (arith, e))
default_in_range field.FirstFrame n h = let e : 0 ≡ n = cc in (omega (arith, e), omega (arith, e))
default_in_range other n h = let e : ◌≡◌ {A = Option ℕ} None (Some n) = h in cc

pub said_in_range : (ms : Members) (f : Field) (n : ℕ) → SaysNumberIn ms f n → ((range_of f).low ≤ n) × (n ≤ (range_of f).high)
said_in_range ms f n s = elim s [
  | inl none ↦ default_in_range f n none.1
  | inr some ↦ (some.low_enough, some.high_enough)
]

-- ---- pairs, slices and ranges

pair_said : (place : Place) (f : Field) (ms : Members) (a b : ℕ) → pair_at place f ms ≡ Ok (a, b) → at_field f ms ≡ Some (two a b)
unfolding pair_at array_at
pair_said place f ms a b h =
    let ds = bind_ok (array_at place f ms) _ (a, b) h in
    let d = bind_ok (required_value (Entry place f) (at_field f ms)) _ ds.0 ds.1 in
    let is = array_is d.0 ds.0 (expected_ok (Entry place f) (as_array d.0) ds.0 d.2) in
    let items = pair_is ds.0 a b (expected_ok (Entry place f) (pair_in ds.0) (a, b) ds.2) in
    under (at_field f ms) d.0 (two a b) (required_ok (Entry place f) (at_field f ms) d.0 d.1) (is ∙ ap array items)

pair_again : (place : Place) (f : Field) (ms : Members) (a b : ℕ) → at_field f ms ≡ Some (two a b) → pair_at place f ms ≡ Ok (a, b)
unfolding pair_at array_at
pair_again place f ms a b h =
    bind_both (array_at place f ms) _ (item (integer (pos a)) (item (integer (pos b)) no_items)) (a, b)
    (bind_both (required_value (Entry place f) (at_field f ms)) _ (two a b) (item (integer (pos a)) (item (integer (pos b)) no_items)) (required_said (Entry place f) (at_field f ms) (two a b) h) refl) refl

pub slice_is : (consts : ConstsFields) (place : Place) (ms : Members) (slice : Minislots) → (slice_at consts place ms ≡ Ok slice) ↔ SaysSlice consts ms slice
unfolding slice_at fits_frame
slice_is consts place ms slice = (
  λ h.
      let pair = bind_ok (pair_at place field.Slice ms) _ slice h in
      let made : Minislots = record { start = pair.0.0; length = pair.0.1 } in
      let test = checked_ok (Entry place field.Slice) (fits_frame consts pair.0.0 pair.0.1) made slice pair.2 in
      let parts = and_parts (nat_le consts.channel.head pair.0.0 && nat_le 1 pair.0.1) (nat_le (pair.0.0 + pair.0.1) consts.channel.frame_minislots) test.0 in
      let low = and_parts (nat_le consts.channel.head pair.0.0) (nat_le 1 pair.0.1) parts.0 in
      subst (SaysSlice consts ms) test.1 (record {
        held = pair_said place field.Slice ms pair.0.0 pair.0.1 pair.1;
        behind_head = at_most consts.channel.head pair.0.0 low.0;
        some = at_most 1 pair.0.1 low.1;
        within_frame = at_most (pair.0.0 + pair.0.1) consts.channel.frame_minislots parts.1;
      }),
  λ s.
      let low = both_true (nat_le consts.channel.head slice.start) (nat_le 1 slice.length) (le_true consts.channel.head slice.start s.behind_head) (le_true 1 slice.length s.some) in
      bind_both (pair_at place field.Slice ms) _ (slice.start, slice.length) slice (pair_again place field.Slice ms slice.start slice.length s.held)
      (checked_said (Entry place field.Slice) (fits_frame consts slice.start slice.length) slice
      (both_true (nat_le consts.channel.head slice.start && nat_le 1 slice.length) (nat_le (slice.start + slice.length) consts.channel.frame_minislots) low
      (le_true (slice.start + slice.length) consts.channel.frame_minislots s.within_frame))),
)

pub range_is : (place : Place) (f : Field) (ms : Members) (range : Numbers) → (range_at place f ms ≡ Ok range) ↔ SaysRange ms f range
unfolding range_at is_range
range_is place f ms range = (
  λ h.
      let pair = bind_ok (pair_at place f ms) _ range h in
      let made : Numbers = record { first = pair.0.0; last = pair.0.1 } in
      let test = checked_ok (Entry place f) (is_range (range_of f) pair.0.0 pair.0.1) made range pair.2 in
      let parts = and_parts (nat_le (range_of f).low pair.0.0 && nat_le pair.0.0 pair.0.1) (nat_le pair.0.1 (range_of f).high) test.0 in
      let low = and_parts (nat_le (range_of f).low pair.0.0) (nat_le pair.0.0 pair.0.1) parts.0 in
      subst (SaysRange ms f) test.1 (record {
        held = pair_said place f ms pair.0.0 pair.0.1 pair.1;
        low = at_most (range_of f).low pair.0.0 low.0;
        ordered = at_most pair.0.0 pair.0.1 low.1;
        most = at_most pair.0.1 (range_of f).high parts.1;
      }),
  λ s.
      let low = both_true (nat_le (range_of f).low range.first) (nat_le range.first range.last) (le_true (range_of f).low range.first s.low) (le_true range.first range.last s.ordered) in
      bind_both (pair_at place f ms) _ (range.first, range.last) range (pair_again place f ms range.first range.last s.held)
      (checked_said (Entry place f) (is_range (range_of f) range.first range.last) range
      (both_true (nat_le (range_of f).low range.first && nat_le range.first range.last) (nat_le range.last (range_of f).high) low (le_true range.last (range_of f).high s.most))),
)

-- ---- texts

pub text_said : (place : Place) (f : Field) (ms : Members) (s : List ℕ) → text_at place f ms ≡ Ok s → at_field f ms ≡ Some (string s)
unfolding text_at
text_said place f ms s h =
    let d = bind_ok (required_value (Entry place f) (at_field f ms)) _ s h in
    under (at_field f ms) d.0 (string s) (required_ok (Entry place f) (at_field f ms) d.0 d.1) (string_is d.0 s (expected_ok (Entry place f) (as_str d.0) s d.2))

pub text_again : (place : Place) (f : Field) (ms : Members) (s : List ℕ) → at_field f ms ≡ Some (string s) → text_at place f ms ≡ Ok s
unfolding text_at
text_again place f ms s h = bind_both (required_value (Entry place f) (at_field f ms)) _ (string s) s (required_said (Entry place f) (at_field f ms) (string s) h) refl

decoded_is : (r : Result (List ℕ) FromHexError) (bytes : List ℕ) → bytes_if_decoded r ≡ Some bytes → r ≡ Ok bytes
decoded_is (Ok x) bytes h = let e : x ≡ bytes = cc in ap (λ (b : List ℕ). Ok b) e
decoded_is (Err e) bytes h = cc

pub bytes_is : (place : Place) (f : Field) (ms : Members) (bytes : List ℕ) → (bytes_at place f ms ≡ Ok bytes) ↔ SaysBytes ms f bytes
unfolding bytes_at
bytes_is place f ms bytes = (
  λ h.
      let text = bind_ok (text_at place f ms) _ bytes h in
      (text.0, text_said place f ms text.0 text.1, decoded_is (decode_of text.0) bytes (expected_ok (Entry place f) (bytes_if_decoded (decode_of text.0)) bytes text.2)),
  λ s. bind_both (text_at place f ms) _ s.0 bytes (text_again place f ms s.0 s.1) (expected_said (Entry place f) (bytes_if_decoded (decode_of s.0)) bytes (ap bytes_if_decoded s.2)),
)

modem_decoded : (r : Result (List ℕ) FromHexError) (modem : Modem) → modem_in r ≡ Some modem → r ≡ Ok modem.0
modem_decoded (Ok x) modem h = let made : Modem = record { 0 = x } in let e : made ≡ modem = cc in ap (λ (m : Modem). Ok m.0) e
modem_decoded (Err e) modem h = cc

pub address_is : (key : Key) (d : Data) (modem : Modem) → (modem_of key d ≡ Ok modem) ↔ IsAddress d modem
unfolding modem_of
address_is key d modem = (
  λ h.
      let text = bind_ok (expected_value key (as_str d)) _ modem h in
      (text.0, string_is d text.0 (expected_ok key (as_str d) text.0 text.1), modem_decoded (decode_sized text.0 6) modem (expected_ok key (modem_in (decode_sized text.0 6)) modem text.2)),
  λ s. bind_both (expected_value key (as_str d)) _ s.0 modem (expected_said key (as_str d) s.0 (ap as_str s.1)) (expected_said key (modem_in (decode_sized s.0 6)) modem (ap modem_in s.2)),
)

-- ---- the policy

aged_said : (place : Place) (ms : Members) (policy : Policy) → aged_at place ms ≡ Ok policy → (step : ℕ) × (policy ≡ Aged step) × SaysNumberIn ms field.Step step
unfolding aged_at
aged_said place ms policy h =
    let step = bind_ok (number_of_key place field.Step ms) _ policy h in
    (step.0, sym (ok_same (Aged step.0) policy step.2), (number_in_is place field.Step ms step.0).0 step.1)

aged_again : (place : Place) (ms : Members) (step : ℕ) → SaysNumberIn ms field.Step step → aged_at place ms ≡ Ok (Aged step)
unfolding aged_at
aged_again place ms step s = bind_both (number_of_key place field.Step ms) _ step (Aged step) ((number_in_is place field.Step ms step).1 s) refl

same_text : (a b : List ℕ) → bytes_eq a b ≡ true → a ≡ b
same_text a b h = (bytes_eq-Decides a b).0 h

policy_said : (place : Place) (ms : Members) (text : List ℕ) (policy : Policy) → at_field field.Policy ms ≡ Some (string text)
    → policy_named text place ms ≡ Ok policy → SaysPolicy ms policy
unfolding policy_named
policy_said place ms text policy held h = elim (cases_Bool (bytes_eq text (codes "strict"))) [
  | inl strict ↦
      let is : Strict ≡ policy = ok_same Strict policy (rw strict at h) in
      subst (SaysPolicy ms) is (under (at_field field.Policy ms) (string text) (string (codes "strict")) held (ap string (same_text text (codes "strict") strict)))
  | inr other ↦ elim (cases_Bool (bytes_eq text (codes "aged"))) [
    | inl aged ↦
        let said = aged_said place ms policy (rw (other, aged) at h) in
        subst (SaysPolicy ms) (sym said.1) (under (at_field field.Policy ms) (string text) (string (codes "aged")) held (ap string (same_text text (codes "aged") aged)), said.2)
    | inr another ↦ elim (cases_Bool (bytes_eq text (codes "short"))) [
      | inl short ↦
          let is : Short ≡ policy = ok_same Short policy (rw (other, another, short) at h) in
          subst (SaysPolicy ms) is (under (at_field field.Policy ms) (string text) (string (codes "short")) held (ap string (same_text text (codes "short") short)))
      | inr none ↦ let e = rw (other, another, none) at h in cc
    ]
  ]
]

policy_again : (place : Place) (ms : Members) (policy : Policy) → SaysPolicy ms policy → policy_at place ms ≡ Ok policy
unfolding policy_at policy_named
policy_again place ms Strict s = bind_both (text_at place field.Policy ms) _ (codes "strict") Strict (text_again place field.Policy ms (codes "strict") s) refl
policy_again place ms (Aged step) s = bind_both (text_at place field.Policy ms) _ (codes "aged") (Aged step) (text_again place field.Policy ms (codes "aged") s.0) (aged_again place ms step s.1)
policy_again place ms Short s = bind_both (text_at place field.Policy ms) _ (codes "short") Short (text_again place field.Policy ms (codes "short") s) refl

pub policy_is : (place : Place) (ms : Members) (policy : Policy) → (policy_at place ms ≡ Ok policy) ↔ SaysPolicy ms policy
unfolding policy_at
policy_is place ms policy = (
  λ h.
      let text = bind_ok (text_at place field.Policy ms) _ policy h in
      policy_said place ms text.0 policy (text_said place field.Policy ms text.0 text.1) text.2,
  policy_again place ms policy,
)

-- ---- arrays

turn_said : {A : Type 0} (read : List A → Data → PlantResult A) (Says : List A → Data → A → Type 0)
    → ((done : List A) (d : Data) (x : A) → read done d ≡ Ok x → Says done d x)
    → (done : List A) (ds : Items) (xs : List A) → each read done ds ≡ Ok xs → SayInTurn Says done ds xs
turn_said read Says one done no_items xs h = ok_same done xs h
turn_said read Says one done (item d ds) xs h =
    let x = bind_ok (read done d) (λ x. each read (done ++ x ∷ []) ds) xs h in
    (x.0, one done d x.0 x.1, turn_said read Says one (done ++ x.0 ∷ []) ds xs x.2)

turn_again : {A : Type 0} (read : List A → Data → PlantResult A) (Says : List A → Data → A → Type 0)
    → ((done : List A) (d : Data) (x : A) → Says done d x → read done d ≡ Ok x)
    → (done : List A) (ds : Items) (xs : List A) → SayInTurn Says done ds xs → each read done ds ≡ Ok xs
turn_again read Says one done no_items xs h = ap (λ (ys : List _). Ok ys) h
turn_again read Says one done (item d ds) xs h =
    bind_both (read done d) (λ x. each read (done ++ x ∷ []) ds) h.0 xs (one done d h.0 h.1) (turn_again read Says one (done ++ h.0 ∷ []) ds xs h.2)

pub turn_is : {A : Type 0} (read : List A → Data → PlantResult A) (Says : List A → Data → A → Type 0)
    → ((done : List A) (d : Data) (x : A) → (read done d ≡ Ok x) ↔ Says done d x)
    → (done : List A) (ds : Items) (xs : List A) → (each read done ds ≡ Ok xs) ↔ SayInTurn Says done ds xs
turn_is read Says one done ds xs = (turn_said read Says (λ p d x. (one p d x).0) done ds xs, turn_again read Says (λ p d x. (one p d x).1) done ds xs)

pub array_said : (place : Place) (f : Field) (ms : Members) (ds : Items) → array_at place f ms ≡ Ok ds → at_field f ms ≡ Some (array ds)
unfolding array_at
array_said place f ms ds h =
    let d = bind_ok (required_value (Entry place f) (at_field f ms)) _ ds h in
    under (at_field f ms) d.0 (array ds) (required_ok (Entry place f) (at_field f ms) d.0 d.1) (array_is d.0 ds (expected_ok (Entry place f) (as_array d.0) ds d.2))

pub array_again : (place : Place) (f : Field) (ms : Members) (ds : Items) → at_field f ms ≡ Some (array ds) → array_at place f ms ≡ Ok ds
unfolding array_at
array_again place f ms ds h = bind_both (required_value (Entry place f) (at_field f ms)) _ (array ds) ds (required_said (Entry place f) (at_field f ms) (array ds) h) refl

pub table_said : (place : Place) (d : Data) (ms : Members) → table_of place d ≡ Ok ms → d ≡ table ms
unfolding table_of
table_said place d ms h = table_is d ms (expected_ok (Table place) (as_table d) ms h)

pub table_again : (place : Place) (d : Data) (ms : Members) → d ≡ table ms → table_of place d ≡ Ok ms
unfolding table_of
table_again place d ms h = expected_said (Table place) (as_table d) ms (ap as_table h)
