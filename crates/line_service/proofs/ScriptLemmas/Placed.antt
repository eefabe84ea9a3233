-- What arrives is placed at the operator that lists its modem.
use Rattle.std.proofs.Common.{◌≡◌, ℕ, ◌+◌, ◌==◌, Bool, true, false, if◌then◌else◌, List, [], ◌∷◌, ◌++◌, length, Option, Some, None, Result, Ok, Err, IfOk, refl, ap, subst, codes}
use Rattle.std.specs.Global.{Vec}
use Rattle.std.proofs.lemmas.List.Elements.{All-nil, All-cons, All-append}
use Rattle.lists.specs.Results.{◌>>=◌}
use Rattle.dsx_messages.specs.declared.modem.Modem.{Modem}
use Rattle.hex.specs.Hex.{decode_sized}
use Rattle.hex.specs.declared.error.FromHexError.{FromHexError}
use Rattle.plant.specs.declared.operator_row.RowFields.{RowFields}
use Rattle.plant.specs.Roster.{holder}
use Rattle.operator_model.specs.declared.heard.Heard.{Heard}
use Rattle.operator_model.specs.declared.heard.Heard.TheVariants.{Message}
use Rattle.run_model.specs.declared.step.Step.{Step}
use Rattle.run_model.specs.declared.step.Step.TheVariants.{Arrive, Work, Tick, Collect, Reslice}
use Rattle.run_model.specs.Placed.{IsPlaced}
use Rattle.line_service.proofs.ScriptLemmas.Common.{bytes_eq, PlantFields, FieldResult, UnknownCommand, LineStep, tick_steps, all_ticks, bytes_in, line_fields, steps_after}
use Rattle.line_service.proofs.ScriptLemmas.Scripts.{same_steps}
use Rattle.line_service.specs.script.Fields.{two_of, three_of, number_in}
use Rattle.line_service.specs.script.GivesSteps.{GivesSteps}
use Rattle.line_service.specs.declared.script.fields.FieldError.TheVariants.{FieldCount}
use Rattle.line_service.specs.declared.script.fields.NumberName.TheVariants.{Frame}
use Rattle.line_service.specs.declared.script.lines.LineFault.{LineFault}
use Rattle.line_service.specs.declared.script.script.Sender.{Sender}
use Rattle.line_service.specs.script.Script.{ArePlaced, sender_at, sender_of, sender_in, operator_in, heard_steps, message_steps, request_in, request_steps, ticked_steps, shares_in, resliced_steps, steps_in, line_steps}

-- ---- one step

none_placed : (plant : PlantFields) (step : Step) → IsPlaced plant step None
none_placed plant step op modem heard is same = absurd cc

placed_at : (plant : PlantFields) (sender : Sender) (heard : Heard) → holder plant.rows sender.modem ≡ Some sender.op
    → IsPlaced plant (Arrive sender.modem heard) (Some sender.op)
placed_at plant sender heard holds op modem other is same =
    let at : sender.op ≡ op = cc in
    let who : sender.modem ≡ modem = cc in
    subst (λ (m : Modem). holder plant.rows m ≡ Some op) who (subst (λ (n : ℕ). holder plant.rows sender.modem ≡ Some n) at holds)

abbrev Placed : PlantFields → LineStep → Type 0
Placed plant line = IsPlaced plant line.step line.place

one_placed : (plant : PlantFields) (number : ℕ) (step : Step) → ArePlaced plant (record { number = number; step = step; place = None } ∷ [])
one_placed plant number step = All-cons (Placed plant) _ [] (none_placed plant step) (All-nil (Placed plant))

heard_placed : (plant : PlantFields) (number : ℕ) (sender : Sender) (heard : Heard) → holder plant.rows sender.modem ≡ Some sender.op
    → ArePlaced plant (heard_steps number sender heard)
heard_placed plant number sender heard holds =
    All-cons (Placed plant) _ (record { number = number; step = Work sender.op; place = None } ∷ []) (placed_at plant sender heard holds)
    (one_placed plant number (Work sender.op))

ticks_placed : (plant : PlantFields) (number op : ℕ) → ArePlaced plant (tick_steps number op)
ticks_placed plant number op =
    All-cons (Placed plant) _ (record { number = number; step = Collect op; place = None } ∷ []) (none_placed plant (Tick op)) (one_placed plant number (Collect op))

all_ticks_placed : (plant : PlantFields) (number : ℕ) (rows : List RowFields) (op : ℕ) → ArePlaced plant (all_ticks number rows op)
all_ticks_placed plant number [] op = All-nil (Placed plant)
all_ticks_placed plant number (row ∷ rows) op =
    All-append (Placed plant) (tick_steps number op) (all_ticks number rows (op + 1)) (ticks_placed plant number op) (all_ticks_placed plant number rows (op + 1))

-- ---- the sender of a line

sender_holds : (plant : PlantFields) (field : List ℕ) (sender : Sender) → sender_in plant field ≡ Ok sender → holder plant.rows sender.modem ≡ Some sender.op
unfolding sender_in
sender_holds plant field sender h = cases (decode_sized field 6) h where
  found : (modem : Modem) (op : Option ℕ) → holder plant.rows modem ≡ op → sender_of modem op ≡ Ok sender → holder plant.rows sender.modem ≡ Some sender.op
  found modem None e is = absurd cc
  found modem (Some op) e is =
      let who : modem ≡ sender.modem = ap (λ (r : FieldResult Sender). elim r [ Ok s ↦ s.modem | Err fault ↦ modem ]) is in
      let at : op ≡ sender.op = ap (λ (r : FieldResult Sender). elim r [ Ok s ↦ s.op | Err fault ↦ op ]) is in
      subst (λ (m : Modem). holder plant.rows m ≡ Some sender.op) who (subst (λ (n : ℕ). holder plant.rows modem ≡ Some n) at e)

  cases : (r : Result (List ℕ) FromHexError) → sender_at plant.rows r ≡ Ok sender → holder plant.rows sender.modem ≡ Some sender.op
  cases (Ok address) is = found (record { 0 = address }) (holder plant.rows (record { 0 = address })) refl is
  cases (Err fault) is = absurd cc

-- ---- the steps of a line

then_ok : {A B : Type 0} (r : FieldResult A) (f : A → FieldResult B) (b : B) → (r >>= f) ≡ Ok b → (a : A) × (r ≡ Ok a) × (f a ≡ Ok b)
then_ok (Ok a) f b h = (a, refl, h)
then_ok (Err error) f b h = absurd cc

message_placed : (plant : PlantFields) (number : ℕ) (fields : List (List ℕ)) (steps : List LineStep) → message_steps plant number fields ≡ Ok steps → ArePlaced plant steps
unfolding message_steps
message_placed plant number fields steps h =
    let two = then_ok (two_of fields) _ steps h in
    let sender = then_ok (sender_in plant two.0.0) _ steps two.2 in
    let bytes = then_ok (bytes_in two.0.1) _ steps sender.2 in
    subst (ArePlaced plant) (same_steps _ steps bytes.2) (heard_placed plant number sender.0 (Message bytes.0) (sender_holds plant two.0.0 sender.0 sender.1))

request_placed : (plant : PlantFields) (number : ℕ) (fields : List (List ℕ)) (steps : List LineStep) → request_steps plant number fields ≡ Ok steps → ArePlaced plant steps
unfolding request_steps
request_placed plant number fields steps h =
    let three = then_ok (three_of FieldCount fields) _ steps h in
    let sender = then_ok (sender_in plant three.0.0) _ steps three.2 in
    let request = then_ok (request_in three.0.1 three.0.2) _ steps sender.2 in
    subst (ArePlaced plant) (same_steps _ steps request.2) (heard_placed plant number sender.0 request.0 (sender_holds plant three.0.0 sender.0 sender.1))

ticked_placed : (plant : PlantFields) (number : ℕ) (fields : List (List ℕ)) (steps : List LineStep) → ticked_steps plant number fields ≡ Ok steps → ArePlaced plant steps
unfolding ticked_steps
ticked_placed plant number [] steps h = subst (ArePlaced plant) (same_steps _ steps h) (all_ticks_placed plant number plant.rows 0)
ticked_placed plant number (name ∷ []) steps h =
    let op = then_ok (operator_in plant name) _ steps h in
    subst (ArePlaced plant) (same_steps _ steps op.2) (ticks_placed plant number op.0)
ticked_placed plant number (name ∷ other ∷ fields) steps h = absurd cc

resliced_placed : (plant : PlantFields) (number : ℕ) (fields : List (List ℕ)) (steps : List LineStep) → resliced_steps plant number fields ≡ Ok steps → ArePlaced plant steps
unfolding resliced_steps
resliced_placed plant number [] steps h = absurd cc
resliced_placed plant number (first ∷ fields) steps h =
    let from = then_ok (number_in 1 Frame 10 4294967295 first) _ steps h in
    let rows = then_ok (shares_in plant fields) _ steps from.2 in
    subst (ArePlaced plant) (same_steps _ steps rows.2) (one_placed plant number (Reslice from.0 rows.0))

word_placed : (plant : PlantFields) (number : ℕ) (fields : List (List ℕ)) (steps : List LineStep) → steps_in plant number fields ≡ Ok steps → ArePlaced plant steps
unfolding steps_in
word_placed plant number [] steps h = absurd cc
word_placed plant number (word ∷ fields) steps h =
    cases (bytes_eq word (codes "M")) (bytes_eq word (codes "Q")) (bytes_eq word (codes "T")) (bytes_eq word (codes "Z")) h where
      cases : (m q t z : Bool)
          → (if m then message_steps plant number fields else (if q then request_steps plant number fields else (if t then ticked_steps plant number fields else
          (if z then resliced_steps plant number fields else Err UnknownCommand)))) ≡ Ok steps → ArePlaced plant steps
      cases true q t z is = message_placed plant number fields steps is
      cases false true t z is = request_placed plant number fields steps is
      cases false false true z is = ticked_placed plant number fields steps is
      cases false false false true is = resliced_placed plant number fields steps is
      cases false false false false is = absurd cc

pub line_placed : (plant : PlantFields) (number : ℕ) (line : List ℕ) (steps : List LineStep) → line_steps plant number line ≡ Ok steps → ArePlaced plant steps
unfolding line_steps
line_placed plant number line steps h = cases (length line == 0) h where
  cases : (empty : Bool) → (if empty then Ok [] else steps_in plant number (line_fields line)) ≡ Ok steps → ArePlaced plant steps
  cases true is = subst (ArePlaced plant) (same_steps [] steps is) (All-nil (Placed plant))
  cases false is = word_placed plant number (line_fields line) steps is

-- ---- the steps of a script

after_placed : (plant : PlantFields) (lines : List (List ℕ)) (number : ℕ) (before steps : List LineStep) → ArePlaced plant before
    → steps_after plant number before lines ≡ Ok steps → ArePlaced plant steps
after_placed plant [] number before steps placed h =
    subst (ArePlaced plant) (ap (λ (r : Result (List LineStep) ℕ). elim r [ Ok s ↦ s | Err n ↦ before ]) h) placed
after_placed plant (line ∷ lines) number before steps placed h =
    cases (λ next next_placed is. after_placed plant lines (number + 1) next steps next_placed is) (line_steps plant number line) refl h where
      cases : ((next : List LineStep) → ArePlaced plant next → steps_after plant (number + 1) next lines ≡ Ok steps → ArePlaced plant steps)
          → (said : FieldResult (List LineStep)) → line_steps plant number line ≡ said
          → ◌≡◌ {A = Result (List LineStep) ℕ} (elim said [ Ok more ↦ steps_after plant (number + 1) (before ++ more) lines | Err error ↦ Err number ]) (Ok steps)
          → ArePlaced plant steps
      cases then_placed (Ok more) e is = then_placed (before ++ more) (All-append (Placed plant) before more placed (line_placed plant number line more e)) is
      cases then_placed (Err error) e is = absurd cc

pub placed_if : (plant : PlantFields) (lines : List (List ℕ)) (result : Result (Vec LineStep) LineFault) → GivesSteps result (steps_after plant 1 [] lines)
    → IfOk result (λ steps. ArePlaced plant steps.items)
placed_if plant lines (Ok steps) h = after_placed plant lines 1 [] steps.items (All-nil (Placed plant)) h
placed_if plant lines (Err fault) h = tt
