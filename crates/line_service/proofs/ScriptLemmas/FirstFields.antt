-- The sender in a line's first field, and what stands behind it.
use Rattle.std.proofs.Common.{◌≡◌, ℕ, suc, ◌<◌, ◌≤◌, ◌==◌, inl, inr, true, false, List, [], ◌∷◌, length, take, drop, slice_index, Option, Some, None, Result, Ok, Err, refl, sym, ap, ◌∙◌, arith}
use Rattle.line_service.proofs.ScriptLemmas.Common.{cases_lt, get_or-take, length-take, take_all, decode_sized, FromHexError, decode_sized-ok, ◌>>=◌, PlantFields, FieldError, FieldCount, Address, Hexadecimal, FieldResult, required_field, short_in, message_bytes, bytes_in, parts_of, sender_first, address_error, one_error, two_error, three_error}
use Rattle.std.proofs.Common.{eq-eqb}
use Rattle.operator_model.specs.declared.heard.Heard.{Heard}
use Rattle.operator_model.specs.declared.heard.Heard.TheVariants.{Message, Request}
use Rattle.line_service.specs.declared.script.fields.NumberName.TheVariants.{Sid, Minislots}
use Rattle.line_service.specs.declared.script.script.Sender.{Sender}
use Rattle.line_service.specs.script.Script.{sender_at, sender_in, heard_steps, message_steps, request_in, request_steps}
use Rattle.line_service.proofs.ScriptLemmas.Splits.{field_first, whole_of}
use Rattle.line_service.proofs.ScriptLemmas.Spaces.{NoSpace, IsFirstSpace, bytes_spaceless, short_spaceless, sized_spaceless, first_space, fields_at}

same_error : {A : Type 0} (a b : FieldError) → ◌≡◌ {A = FieldResult A} (Err a) (Err b) → a ≡ b
same_error a b e = cc

-- ---- one field

sender_other : (plant : PlantFields) (field : List ℕ) → (length field ≡ 12 → ⊥) → sender_in plant field ≡ Err Address
unfolding sender_in
sender_other plant field other = cases (decode_sized field 6) refl where
  cases : (r : Result (List ℕ) FromHexError) → decode_sized field 6 ≡ r → sender_at plant.rows r ≡ Err Address
  cases (Ok address) e = let len = decode_sized-ok field 6 address e in absurd (other (omega arith))
  cases (Err fault) e = refl

-- a field with a space in it
sender_spaced : (plant : PlantFields) (field : List ℕ) (k : ℕ) → k < length field → (slice_index field k == 32) ≡ true → sender_in plant field ≡ Err Address
unfolding sender_in
sender_spaced plant field k lt hit = cases (decode_sized field 6) refl where
  cases : (r : Result (List ℕ) FromHexError) → decode_sized field 6 ≡ r → sender_at plant.rows r ≡ Err Address
  cases (Ok address) e = absurd (sized_spaceless field 6 address e k (omega arith) lt hit)
  cases (Err fault) e = refl

sender_spaceless : (plant : PlantFields) (field : List ℕ) (sender : Sender) → sender_in plant field ≡ Ok sender → NoSpace field
unfolding sender_in
sender_spaceless plant field sender h = cases (decode_sized field 6) refl h where
  cases : (r : Result (List ℕ) FromHexError) → decode_sized field 6 ≡ r → sender_at plant.rows r ≡ Ok sender → NoSpace field
  cases (Ok address) e is = sized_spaceless field 6 address e
  cases (Err fault) e is = absurd cc

-- ---- the first field of a line

abbrev before_fields : List (List ℕ) → Sender → FieldResult (Sender × List (List ℕ))
before_fields fields sender = Ok (sender, fields)

some_behind : (plant : PlantFields) (first a : List ℕ) (fields more : List (List ℕ)) → fields ≡ a ∷ more
    → sender_first plant (first ∷ fields) ≡ (sender_in plant first >>= λ sender. Ok (sender, fields))
some_behind plant first a fields more e = rw e refl

first_at : (plant : PlantFields) (line : List ℕ) (place : ℕ) → IsFirstSpace line place
    → sender_first plant (parts_of 32 line) ≡ (sender_in plant (take place line) >>= λ sender. Ok (sender, parts_of 32 (drop (suc place) line)))
first_at plant line place is =
    let more = field_first (drop (suc place) line) in
    ap (sender_first plant) (fields_at line place is) ∙ some_behind plant (take place line) more.0 (parts_of 32 (drop (suc place) line)) more.1 more.2

refused_at : (plant : PlantFields) (line : List ℕ) (place : ℕ) (error : FieldError) → IsFirstSpace line place → sender_in plant (take place line) ≡ Err error
    → sender_first plant (parts_of 32 line) ≡ Err error
refused_at plant line place error is none =
    first_at plant line place is ∙ ap (λ (r : FieldResult Sender). r >>= λ sender. Ok (sender, parts_of 32 (drop (suc place) line))) none

other_place : (plant : PlantFields) (line : List ℕ) (place : ℕ) → IsFirstSpace line place → (place ≡ 12 → ⊥) → sender_first plant (parts_of 32 line) ≡ Err Address
other_place plant line place is other =
    let lt : place < length line = is.0.high in
    refused_at plant line place Address is (sender_other plant (take place line) (λ e. other (omega (arith, length-take place line))))

-- a line of more fields than one
pub address_more : (fields : List (List ℕ)) (first rest : List ℕ) → fields ≡ first ∷ parts_of 32 rest → address_error fields ≡ Address
address_more fields first rest e = let more = field_first rest in rw (e, more.2) refl

pub one_more : (fields : List (List ℕ)) (first rest : List ℕ) (error : FieldError) → fields ≡ first ∷ parts_of 32 rest → one_error fields error ≡ FieldCount
one_more fields first rest error e = let more = field_first rest in rw (e, more.2) refl

address_at : (line : List ℕ) (place : ℕ) → IsFirstSpace line place → address_error (parts_of 32 line) ≡ Address
address_at line place is = address_more (parts_of 32 line) (take place line) (drop (suc place) line) (fields_at line place is)

-- no space is behind 12 bytes
misplaced : (plant : PlantFields) (line : List ℕ) → ((place : ℕ) → IsFirstSpace line place → place ≡ 12 → ⊥)
    → sender_first plant (parts_of 32 line) ≡ Err (address_error (parts_of 32 line))
misplaced plant line other =
    elim (first_space line) [
      | inl none ↦ rw (whole_of line none) refl
      | inr some ↦ other_place plant line some.0 some.1 (other some.0 some.1) ∙ ap Err (sym (address_at line some.0 some.1))
    ]

pub sender_lacks : (plant : PlantFields) (line : List ℕ) → length line < 13 → sender_first plant (parts_of 32 line) ≡ Err (address_error (parts_of 32 line))
sender_lacks plant line short = misplaced plant line (λ place is e. let lt : place < length line = is.0.high in absurd (omega (arith, e, lt)))

pub sender_unseparated : (plant : PlantFields) (line : List ℕ) → (slice_index line 12 == 32) ≡ false
    → sender_first plant (parts_of 32 line) ≡ Err (address_error (parts_of 32 line))
sender_unseparated plant line other =
    misplaced plant line (λ place is e. let here = is.1 in let there = ap (λ (n : ℕ). slice_index line n == 32) e in cc)

module _ (plant : PlantFields) (line : List ℕ) (long : 12 < length line) (space : (slice_index line 12 == 32) ≡ true) where
  -- the first 12 bytes are not a sender, whether they are the first field or not
  pub sender_unknown : (error : FieldError) → sender_in plant (take 12 line) ≡ Err error → sender_first plant (parts_of 32 line) ≡ Err error
  sender_unknown error none =
      elim (first_space line) [
        | inl nowhere ↦ absurd (nowhere 12 (omega arith) long space)
        | inr some ↦
            elim (cases_lt some.0 12) [
              | inl lt ↦
                  let hit = ap (λ (b : ℕ). b == 32) (get_or-take 12 line some.0 0 lt) ∙ some.1.1 in
                  other_place plant line some.0 some.1 (λ e. absurd (omega (arith, e, lt)))
                  ∙ ap Err (same_error Address error (sym (sender_spaced plant (take 12 line) some.0 (omega (arith, lt, length-take 12 line)) hit) ∙ none))
              | inr le ↦
                  elim (cases_lt 12 some.0) [
                    | inl lt ↦ absurd (some.1.0.before 12 (omega arith) lt space)
                    | inr ge ↦
                        let same : some.0 ≡ 12 = omega (arith, le, ge) in
                        refused_at plant line some.0 error some.1 (ap (λ (n : ℕ). sender_in plant (take n line)) same ∙ none)
                  ]
            ]
      ]

  pub sender_known : (sender : Sender) → sender_in plant (take 12 line) ≡ Ok sender → sender_first plant (parts_of 32 line) ≡ Ok (sender, parts_of 32 (drop 13 line))
  sender_known sender known =
      first_at plant line 12 (record { low = omega arith; high = long; before = before }, space)
      ∙ ap (λ (r : FieldResult Sender). r >>= λ sender. Ok (sender, parts_of 32 (drop 13 line))) known where
        before : (k : ℕ) → 0 ≤ k → k < 12 → (slice_index line k == 32) ≡ true → ⊥
        before k low high hit =
            sender_spaceless plant (take 12 line) sender known k low (omega (arith, length-take 12 line)) (ap (λ (b : ℕ). b == 32) (get_or-take 12 line k 0 high) ∙ hit)

-- the first 12 bytes, and what stands behind the space
module _ (plant : PlantFields) (line address behind : List ℕ) (long : 12 < length line) (space : slice_index line 12 ≡ 32) (front : address ≡ drop 0 (take 12 line)) where
  pub address_unknown : (error : FieldError) → sender_in plant address ≡ Err error → sender_first plant (parts_of 32 line) ≡ Err error
  address_unknown error none = sender_unknown plant line long (eq-eqb (slice_index line 12) 32 space) error (ap (sender_in plant) (sym front) ∙ none)

  pub address_known : behind ≡ drop 13 (take (length line) line) → (sender : Sender) → sender_in plant address ≡ Ok sender
      → sender_first plant (parts_of 32 line) ≡ Ok (sender, parts_of 32 behind)
  address_known left sender known =
      let rest : behind ≡ drop 13 line = left ∙ ap (drop 13) (take_all (length line) line (omega arith)) in
      sender_known plant line long (eq-eqb (slice_index line 12) 32 space) sender (ap (sender_in plant) (sym front) ∙ known)
      ∙ ap (λ (x : List ℕ). before_fields (parts_of 32 x) sender) (sym rest)

-- ---- the steps of a line by what stands behind its sender

-- what is read as a request has no space in its last field
request_spaceless : (sid minislots : List ℕ) (request : Heard) → request_in sid minislots ≡ Ok request → NoSpace minislots
request_spaceless sid minislots request h = cases (short_in 2 Sid sid) (short_in 3 Minislots minislots) refl h where
  cases : (a b : FieldResult ℕ) → short_in 3 Minislots minislots ≡ b → (a >>= λ sid. b >>= λ minislots. Ok (Request sid minislots)) ≡ Ok request → NoSpace minislots
  cases (Ok sid) (Ok value) e is = short_spaceless 3 Minislots minislots value e
  cases (Ok sid) (Err error) e is = absurd cc
  cases (Err error) b e is = absurd cc

first_parts : (plant : PlantFields) (fields : List (List ℕ)) (sender : Sender) (others : List (List ℕ)) → sender_first plant fields ≡ Ok (sender, others)
    → (first : List ℕ) × (fields ≡ first ∷ others) × (sender_in plant first ≡ Ok sender)
first_parts plant [] sender others h = absurd cc
first_parts plant (field ∷ []) sender others h = absurd cc
first_parts plant (field ∷ other ∷ fields) sender others h = cases (sender_in plant field) refl h where
  cases : (r : FieldResult Sender) → sender_in plant field ≡ r → (r >>= before_fields (other ∷ fields)) ≡ Ok (sender, others)
      → (first : List ℕ) × (field ∷ other ∷ fields ≡ first ∷ others) × (sender_in plant first ≡ Ok sender)
  cases (Ok known) e is =
      let who : known ≡ sender = ap (λ (r : FieldResult (Sender × List (List ℕ))). elim r [ Ok p ↦ p.0 | Err fault ↦ known ]) is in
      let rest : other ∷ fields ≡ others = ap (λ (r : FieldResult (Sender × List (List ℕ))). elim r [ Ok p ↦ p.1 | Err fault ↦ others ]) is in
      (field, ap (λ (x : List (List ℕ)). field ∷ x) rest, e ∙ ap Ok who)
  cases (Err fault) e is = absurd cc

module _ (plant : PlantFields) (number : ℕ) (line rest : List ℕ) (sender : Sender)
    (known : sender_first plant (parts_of 32 line) ≡ Ok (sender, parts_of 32 rest)) where
  start : (first : List ℕ) × (parts_of 32 line ≡ first ∷ parts_of 32 rest) × (sender_in plant first ≡ Ok sender)
  start = first_parts plant (parts_of 32 line) sender (parts_of 32 rest) known

  -- the steps, by the fields behind the sender
  message_by : (others : List (List ℕ)) → parts_of 32 rest ≡ others → message_steps plant number (parts_of 32 line) ≡ message_steps plant number (start.0 ∷ others)
  message_by others e = ap (message_steps plant number) (start.1 ∙ ap (λ (x : List (List ℕ)). start.0 ∷ x) e)

  message_alone : (field : List ℕ)
      → message_steps plant number (start.0 ∷ field ∷ []) ≡ (bytes_in field >>= λ bytes. Ok (heard_steps number sender (Message bytes)))
  unfolding message_steps
  message_alone field = ap (λ (r : FieldResult Sender). r >>= λ sender. bytes_in field >>= λ bytes. Ok (heard_steps number sender (Message bytes))) start.2

  message_more : (a b : List ℕ) (more : List (List ℕ)) → message_steps plant number (start.0 ∷ a ∷ b ∷ more) ≡ Err FieldCount
  unfolding message_steps
  message_more a b more = refl

  pub message_read : (bytes : List ℕ) → message_bytes rest ≡ Some bytes → message_steps plant number (parts_of 32 line) ≡ Ok (heard_steps number sender (Message bytes))
  message_read bytes e =
      message_by (rest ∷ []) (whole_of rest (bytes_spaceless rest bytes e)) ∙ message_alone rest
      ∙ ap (λ (o : Option (List ℕ)). required_field Hexadecimal o >>= λ bytes. Ok (heard_steps number sender (Message bytes))) e

  pub message_unread : message_bytes rest ≡ None → message_steps plant number (parts_of 32 line) ≡ Err (one_error (parts_of 32 rest) Hexadecimal)
  message_unread e =
      elim (first_space rest) [
        | inl none ↦
            let one = whole_of rest none in
            message_by (rest ∷ []) one ∙ message_alone rest
            ∙ ap (λ (o : Option (List ℕ)). required_field Hexadecimal o >>= λ bytes. Ok (heard_steps number sender (Message bytes))) e
            ∙ ap (λ (x : List (List ℕ)). Err (one_error x Hexadecimal)) (sym one)
        | inr some ↦
            let more = field_first (drop (suc some.0) rest) in
            let parts = fields_at rest some.0 some.1 ∙ ap (λ (x : List (List ℕ)). take some.0 rest ∷ x) more.2 in
            message_by (take some.0 rest ∷ more.0 ∷ more.1) parts
            ∙ message_more (take some.0 rest) more.0 more.1
            ∙ ap (λ (x : List (List ℕ)). Err (one_error x Hexadecimal)) (sym parts)
      ]

  request_by : (others : List (List ℕ)) → parts_of 32 rest ≡ others → request_steps plant number (parts_of 32 line) ≡ request_steps plant number (start.0 ∷ others)
  request_by others e = ap (request_steps plant number) (start.1 ∙ ap (λ (x : List (List ℕ)). start.0 ∷ x) e)

  request_two : (sid minislots : List ℕ) → request_steps plant number (start.0 ∷ sid ∷ minislots ∷ [])
      ≡ (request_in sid minislots >>= λ request. Ok (heard_steps number sender request))
  unfolding request_steps
  request_two sid minislots =
      ap (λ (r : FieldResult Sender). r >>= λ sender. request_in sid minislots >>= λ request. Ok (heard_steps number sender request)) start.2

  request_one : (a : List ℕ) → request_steps plant number (start.0 ∷ a ∷ []) ≡ Err FieldCount
  unfolding request_steps
  request_one a = refl

  request_more : (a b c : List ℕ) (more : List (List ℕ)) → request_steps plant number (start.0 ∷ a ∷ b ∷ c ∷ more) ≡ Err FieldCount
  unfolding request_steps
  request_more a b c more = refl

  pub request_alone : parts_of 32 rest ≡ rest ∷ [] → request_steps plant number (parts_of 32 line) ≡ Err FieldCount
  request_alone e = request_by (rest ∷ []) e ∙ request_one rest

  -- two numbers behind it
  module _ (sid minislots : List ℕ) (two : parts_of 32 rest ≡ sid ∷ parts_of 32 minislots) where
    request_whole : NoSpace minislots → (r : FieldResult Heard) → request_in sid minislots ≡ r
        → request_steps plant number (parts_of 32 line) ≡ (r >>= λ request. Ok (heard_steps number sender request))
    request_whole none r e =
        request_by (sid ∷ minislots ∷ []) (two ∙ ap (λ (x : List (List ℕ)). sid ∷ x) (whole_of minislots none)) ∙ request_two sid minislots
        ∙ ap (λ (r : FieldResult Heard). r >>= λ request. Ok (heard_steps number sender request)) e

    pub request_read : (request : Heard) → request_in sid minislots ≡ Ok request → request_steps plant number (parts_of 32 line) ≡ Ok (heard_steps number sender request)
    request_read request e = request_whole (request_spaceless sid minislots request e) (Ok request) e

    pub request_unread : (error : FieldError) → request_in sid minislots ≡ Err error
        → request_steps plant number (parts_of 32 line) ≡ Err (one_error (parts_of 32 minislots) error)
    request_unread error e =
        elim (first_space minislots) [
          | inl none ↦ request_whole none (Err error) e ∙ ap (λ (x : List (List ℕ)). Err (one_error x error)) (sym (whole_of minislots none))
          | inr some ↦
              let more = field_first (drop (suc some.0) minislots) in
              let parts = fields_at minislots some.0 some.1 ∙ ap (λ (x : List (List ℕ)). take some.0 minislots ∷ x) more.2 in
              request_by (sid ∷ take some.0 minislots ∷ more.0 ∷ more.1) (two ∙ ap (λ (x : List (List ℕ)). sid ∷ x) parts)
              ∙ request_more sid (take some.0 minislots) more.0 more.1
              ∙ ap (λ (x : List (List ℕ)). Err (one_error x error)) (sym parts)
        ]

-- ---- a line with no sender

no_sender : (plant : PlantFields) (first a : List ℕ) (more : List (List ℕ)) (error : FieldError) → sender_first plant (first ∷ a ∷ more) ≡ Err error
    → sender_in plant first ≡ Err error
no_sender plant first a more error h = cases (sender_in plant first) refl h where
  cases : (r : FieldResult Sender) → sender_in plant first ≡ r → (r >>= before_fields (a ∷ more)) ≡ Err error → sender_in plant first ≡ Err error
  cases (Ok sender) e is = absurd cc
  cases (Err other) e is = e ∙ ap Err (same_error other error is)

pub message_stop : (plant : PlantFields) (number : ℕ) (fields : List (List ℕ)) (error : FieldError) → sender_first plant fields ≡ Err error
    → message_steps plant number fields ≡ Err (two_error fields error)
unfolding message_steps
message_stop plant number [] error h = refl
message_stop plant number (a ∷ []) error h = refl
message_stop plant number (a ∷ b ∷ c ∷ more) error h = refl
message_stop plant number (a ∷ b ∷ []) error h =
    ap (λ (r : FieldResult Sender). r >>= λ sender. bytes_in b >>= λ bytes. Ok (heard_steps number sender (Message bytes))) (no_sender plant a b [] error h)

pub request_stop : (plant : PlantFields) (number : ℕ) (fields : List (List ℕ)) (error : FieldError) → sender_first plant fields ≡ Err error
    → request_steps plant number fields ≡ Err (three_error fields error)
unfolding request_steps
request_stop plant number [] error h = refl
request_stop plant number (a ∷ []) error h = refl
request_stop plant number (a ∷ b ∷ []) error h = refl
request_stop plant number (a ∷ b ∷ c ∷ d ∷ more) error h = refl
request_stop plant number (a ∷ b ∷ c ∷ []) error h =
    ap (λ (r : FieldResult Sender). r >>= λ sender. request_in b c >>= λ request. Ok (heard_steps number sender request)) (no_sender plant a b (c ∷ []) error h)
