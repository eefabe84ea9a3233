-- Lines of a script, one after the other.
use Rattle.std.proofs.Common.{◌≡◌, ℕ, zero, suc, ◌+◌, ◌<◌, List, [], ◌∷◌, ◌++◌, length, drop, Bool, true, false, ◌||◌, if◌then◌else◌, codes, Ok, Err, refl, sym, ap, ◌∙◌, add-one, arith}
use Rattle.line_service.proofs.ScriptLemmas.Common.{bytes_eq, bytes_eq-Decides, ◌>>=◌, Fails, parts_of, PlantFields, SliceRow, FieldError, UnknownCommand, FieldCount, FieldFault, Invalid, NoMemory, alone_error, LineStep, FieldResult, field_cause, behind}
use Rattle.line_service.proofs.ScriptLemmas.Splits.{field_first}
use Rattle.plant.specs.declared.operator_row.RowFields.{RowFields}
use Rattle.line_service.specs.script.Script.{tick_steps, all_ticks, message_steps, request_steps, ticked_steps, resliced_steps, steps_in, share_in, shares_after, line_steps, steps_after}

-- an element stands at each place
next_at : {A : Type 0} (xs : List A) (k : ℕ) → k < length xs → (x : A) × (drop k xs ≡ x ∷ drop (suc k) xs)
next_at [] k lt = absurd (omega arith)
next_at (x ∷ xs) zero lt = (x, refl)
next_at (x ∷ xs) (suc k) lt = next_at xs k (omega arith)

-- the ticks from a place on
pub ticks_at : (number : ℕ) (rows : List RowFields) (op : ℕ) → op < length rows
    → all_ticks number (drop op rows) op ≡ tick_steps number op ++ all_ticks number (drop (op + 1) rows) (op + 1)
ticks_at number rows op lt =
    ap (λ (x : List RowFields). all_ticks number x op) (next_at rows op lt).1
    ∙ ap (λ (n : ℕ). tick_steps number op ++ all_ticks number (drop n rows) (op + 1)) (sym (add-one op))

-- one share more
pub shares_more : (rows : List SliceRow) (text : List ℕ) (fields : List (List ℕ)) (row : SliceRow) → share_in (length rows + 2) text ≡ Ok row
    → shares_after rows (text ∷ fields) ≡ shares_after (rows ++ row ∷ []) fields
shares_more rows text fields row e = ap (λ (r : FieldResult SliceRow). r >>= λ row. shares_after (rows ++ row ∷ []) fields) e

pub shares_fail : (rows : List SliceRow) (text : List ℕ) (fields : List (List ℕ)) (error : FieldError) → share_in (length rows + 2) text ≡ Err error
    → shares_after rows (text ∷ fields) ≡ Err error
shares_fail rows text fields error e = ap (λ (r : FieldResult SliceRow). r >>= λ row. shares_after (rows ++ row ∷ []) fields) e

pub shares_stop : (fault : FieldFault) (rows : List SliceRow) (text : List ℕ) (fields all : List (List ℕ)) → shares_after rows (text ∷ fields) ≡ shares_after [] all
    → Fails (field_cause fault) (share_in (length rows + 2) text) → Fails (field_cause fault) (shares_after [] all)
shares_stop NoMemory rows text fields all e f = tt
shares_stop (Invalid error) rows text fields all e f = sym e ∙ shares_fail rows text fields error f

-- one line more
steps_by : (plant : PlantFields) (number : ℕ) (steps : List LineStep) (line : List ℕ) (lines : List (List ℕ)) (said : FieldResult (List LineStep)) → line_steps plant number line ≡ said
    → steps_after plant number steps (line ∷ lines) ≡ elim said [ Ok more ↦ steps_after plant (number + 1) (steps ++ more) lines | Err error ↦ Err number ]
steps_by plant number steps line lines said e =
    ap (λ (r : FieldResult (List LineStep)). elim r [ Ok more ↦ steps_after plant (number + 1) (steps ++ more) lines | Err error ↦ Err number ]) e

pub same_steps : (a b : List LineStep) → ◌≡◌ {A = FieldResult (List LineStep)} (Ok a) (Ok b) → a ≡ b
same_steps a b e = cc

pub steps_more : (plant : PlantFields) (number : ℕ) (steps new : List LineStep) (line : List ℕ) (lines : List (List ℕ)) (said : FieldResult (List LineStep)) → line_steps plant number line ≡ said
    → behind steps said ≡ Ok new → steps_after plant number steps (line ∷ lines) ≡ steps_after plant (number + 1) new lines
steps_more plant number steps new line lines (Ok more) e h =
    steps_by plant number steps line lines (Ok more) e ∙ ap (λ (x : List LineStep). steps_after plant (number + 1) x lines) (same_steps (steps ++ more) new h)
steps_more plant number steps new line lines (Err fault) e h = absurd cc

pub steps_fail : (plant : PlantFields) (number : ℕ) (steps : List LineStep) (line : List ℕ) (lines : List (List ℕ)) (error : FieldError) (said : FieldResult (List LineStep)) → line_steps plant number line ≡ said
    → behind steps said ≡ Err error → steps_after plant number steps (line ∷ lines) ≡ Err number
steps_fail plant number steps line lines error (Ok more) e h = absurd cc
steps_fail plant number steps line lines error (Err other) e h = steps_by plant number steps line lines (Err other) e

-- ---- a line by its fields

-- a line of one field, other than `T`
pub alone : (plant : PlantFields) (number : ℕ) (word : List ℕ) → bytes_eq word (codes "T") ≡ false → steps_in plant number (word ∷ []) ≡ Err (alone_error word)
unfolding steps_in message_steps request_steps resliced_steps
alone plant number word e = rw e (cases (bytes_eq word (codes "M")) (bytes_eq word (codes "Q")) (bytes_eq word (codes "Z"))) where
  cases : (m q z : Bool) → ◌≡◌ {A = FieldResult (List LineStep)} (if m then Err FieldCount else (if q then Err FieldCount else (if z then Err FieldCount else Err UnknownCommand)))
      (Err (if m || (q || z) then FieldCount else UnknownCommand))
  cases true q z = refl
  cases false true z = refl
  cases false false true = refl
  cases false false false = refl

ticks_alone : (plant : PlantFields) (number : ℕ) → steps_in plant number (codes "T" ∷ []) ≡ Ok (all_ticks number plant.rows 0)
unfolding steps_in ticked_steps
ticks_alone plant number = refl

pub alone_ticks : (plant : PlantFields) (number : ℕ) (word : List ℕ) → bytes_eq word (codes "T") ≡ true → steps_in plant number (word ∷ []) ≡ Ok (all_ticks number plant.rows 0)
alone_ticks plant number word e =
    ap (λ (w : List ℕ). steps_in plant number (w ∷ [])) ((bytes_eq-Decides word (codes "T")).0 e) ∙ ticks_alone plant number

-- more fields than one
pub ticked_more : (plant : PlantFields) (number : ℕ) (second rest : List ℕ) (fields : List (List ℕ)) → fields ≡ second ∷ parts_of 32 rest → ticked_steps plant number fields ≡ Err FieldCount
unfolding ticked_steps
ticked_more plant number second rest fields e = let more = field_first rest in rw (e, more.2) refl
