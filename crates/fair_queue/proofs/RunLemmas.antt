-- Where lines of an operator are chosen.
use Rattle.std.proofs.Common.{◌≡◌, ◌∙◌, refl, sym, ap, subst, arith, ℕ, ◌+◌, ◌-◌, ◌<◌, ◌≤◌, ◌⊎◌, inl, inr, suc, zero, List, [], ◌∷◌, ◌++◌, length, take, drop, Bool, true, false, append-nil}
use Rattle.std.specs.Prelude.{min, if◌then◌else◌}
use Rattle.std.proofs.lemmas.List.{append_assoc}
use Rattle.std.proofs.Math.Seq.{take-nil, drop-nil, take-append_seam}
use Rattle.fair_queue.specs.declared.line.Item.{Item}
use Rattle.fair_queue.specs.declared.line.Item.TheVariants as items
use Rattle.fair_queue.specs.Items.{QueueView, as_items, own_lines}
use Rattle.fair_queue.specs.Runs.{QueueEvent, came, went, QueueSteps, IsQueueRun, IsTaken, IsPassed, arrivals, choices}
use Rattle.fair_queue.specs.Laws.{placement, PlacesAreOwn, LinesAreKept, RunsAgree}
use Rattle.fair_queue.proofs.ItemLemmas.{own-append, same_lines}

-- n - 0 and such compute by cases of a - (suc b)
less_one : (limit chosen : ℕ) → chosen < limit → limit - chosen ≡ suc (limit - (chosen + 1))
less_one limit chosen less = omega (arith, less)

-- lines that are put first are held
held_first : (limit chosen : ℕ) (held more : List (List ℕ)) (rest : List Item) → placement limit chosen held (as_items more ++ rest) ≡ placement limit chosen (held ++ more) rest
held_first limit chosen held [] rest = ap (λ h. placement limit chosen h rest) (sym (append-nil held))
held_first limit chosen held (line ∷ more) rest =
    held_first limit chosen (held ++ line ∷ []) more rest ∙ ap (λ h. placement limit chosen h rest) (append_assoc held (line ∷ []) more)

-- the first line that is held is chosen
first_placed : (limit chosen : ℕ) (line : List ℕ) (held : List (List ℕ)) (rest : List Item) → chosen < limit
    → placement limit chosen (line ∷ held) rest ≡ items.Line line ∷ placement limit (chosen + 1) held rest
first_placed limit chosen line held [] less = ap (λ n. as_items (take n (line ∷ held))) (less_one limit chosen less)
first_placed limit chosen line held (items.Line next ∷ rest) less = first_placed limit chosen line (held ++ next ∷ []) rest less
first_placed limit chosen line held (items.Owner tick ∷ rest) less =
    let n : limit - chosen ≡ suc (limit - (chosen + 1)) = less_one limit chosen less in
    let m : chosen + min (limit - chosen) (suc (length held)) ≡ chosen + 1 + min (limit - (chosen + 1)) (length held) = omega (arith, less) in
    rw (m, n) refl

none_placed : (limit chosen : ℕ) (tick : Bool) (rest : List Item)
    → placement limit chosen [] (items.Owner tick ∷ rest) ≡ items.Owner tick ∷ placement limit (if tick then 0 else chosen) [] rest
none_placed limit chosen tick rest =
    let m : chosen + min (limit - chosen) 0 ≡ chosen = omega arith in
    let t : take {A = List ℕ} (limit - chosen) [] ≡ [] = take-nil (limit - chosen) in
    let d : drop {A = List ℕ} (limit - chosen) [] ≡ [] = drop-nil (limit - chosen) in
    rw (m, t, d) refl

-- a line of the owner is chosen, behind lines that the limit holds back, or none
passed_placed : (limit chosen : ℕ) (tick : Bool) (held : List (List ℕ)) (rest : List Item) → (held ≡ []) ⊎ (limit ≤ chosen)
    → placement limit chosen held (items.Owner tick ∷ rest) ≡ items.Owner tick ∷ placement limit (if tick then 0 else chosen) held rest
passed_placed limit chosen tick held rest (inl none) = rw none (none_placed limit chosen tick rest)
passed_placed limit chosen tick held rest (inr full) =
    let n : limit - chosen ≡ 0 = omega (arith, full) in
    let m : chosen + min 0 (length held) ≡ chosen = omega arith in rw (n, m) refl

-- ---- one step after the other

abbrev Goes : List QueueEvent → QueueView → QueueView → List Item → Type 0
Goes events u v later = placement u.limit u.chosen [] (u.items ++ (arrivals events ++ later)) ≡ choices events ++ placement u.limit v.chosen [] (v.items ++ later)

came_goes : (item : Item) (events : List QueueEvent) (u mid v : QueueView) (later : List Item) → mid ≡ record u { items = u.items ++ item ∷ [] }
    → Goes events mid v later → Goes (came item ∷ events) u v later
came_goes item events u mid v later is goes =
    subst (λ (m : QueueView). Goes events m v later → Goes (came item ∷ events) u v later) (sym is)
    (λ goes. ap (λ l. placement u.limit u.chosen [] l) (sym (append_assoc u.items (item ∷ []) (arrivals events ++ later))) ∙ goes) goes

taken_goes : (line : List ℕ) (events : List QueueEvent) (u mid v : QueueView) (later : List Item) → IsTaken line u mid
    → Goes events mid v later → Goes (went (items.Line line) ∷ events) u v later
taken_goes line events u mid v later is goes =
    let after : placement u.limit (u.chosen + 1) [] (mid.items ++ (arrivals events ++ later)) ≡ choices events ++ placement u.limit v.chosen [] (v.items ++ later) =
    subst (λ (m : QueueView). placement m.limit m.chosen [] (mid.items ++ (arrivals events ++ later)) ≡ choices events ++ placement m.limit v.chosen [] (v.items ++ later)) is.new_is goes in
    ap (λ l. placement u.limit u.chosen [] (l ++ (arrivals events ++ later))) is.first
    ∙ (first_placed u.limit u.chosen line [] (mid.items ++ (arrivals events ++ later)) is.allowed ∙ ap (λ l. items.Line line ∷ l) after)

passed_goes : (tick : Bool) (events : List QueueEvent) (u mid v : QueueView) (later : List Item) → IsPassed tick u mid
    → Goes events mid v later → Goes (went (items.Owner tick) ∷ events) u v later
passed_goes tick events u mid v later is goes =
    let cut = is.items_are in
    let more : List Item = arrivals events ++ later in
    let c : ℕ = if tick then 0 else u.chosen in
    let after : placement u.limit c [] (mid.items ++ more) ≡ choices events ++ placement u.limit v.chosen [] (v.items ++ later) =
    subst (λ (m : QueueView). placement m.limit m.chosen [] (mid.items ++ more) ≡ choices events ++ placement m.limit v.chosen [] (v.items ++ later)) is.new_is goes in
    ap (λ l. placement u.limit u.chosen [] (l ++ more)) cut.old_is
    ∙ (ap (λ l. placement u.limit u.chosen [] l) (append_assoc (as_items cut.held) (items.Owner tick ∷ cut.rest) more)
    ∙ (held_first u.limit u.chosen [] cut.held (items.Owner tick ∷ cut.rest ++ more)
    ∙ (passed_placed u.limit u.chosen tick cut.held (cut.rest ++ more) is.none_left
    ∙ ap (λ l. items.Owner tick ∷ l)
    (sym (held_first u.limit c [] cut.held (cut.rest ++ more))
    ∙ (ap (λ l. placement u.limit c [] l) (sym (append_assoc (as_items cut.held) cut.rest more))
    ∙ (ap (λ l. placement u.limit c [] (l ++ more)) (sym cut.new_is) ∙ after))))))

run_goes : (events : List QueueEvent) (u v : QueueView) (later : List Item) → IsQueueRun events u v → Goes events u v later
run_goes [] u v later run = ap (λ (m : QueueView). placement u.limit m.chosen [] (m.items ++ later)) (sym run)
run_goes (came item ∷ events) u v later run = came_goes item events u run.0 v later run.1 (run_goes events run.0 v later run.2)
run_goes (went (items.Line line) ∷ events) u v later run = taken_goes line events u run.0 v later run.1 (run_goes events run.0 v later run.2)
run_goes (went (items.Owner tick) ∷ events) u v later run = passed_goes tick events u run.0 v later run.1 (run_goes events run.0 v later run.2)

pub places_are_own : PlacesAreOwn
places_are_own events u v later empty run =
    ap (λ l. placement u.limit u.chosen [] (l ++ (arrivals events ++ later))) (sym empty) ∙ run_goes events u v later run

-- ---- two runs

same_beginning : {A : Type 0} (xs ys r s : List A) → xs ++ r ≡ ys ++ s → length xs ≡ length ys → xs ≡ ys
same_beginning xs ys r s same n =
    sym (take-append_seam xs r) ∙ (ap (λ l. take (length xs) l) same ∙ (ap (λ k. take k (ys ++ s)) n ∙ take-append_seam ys s))

pub runs_agree : RunsAgree
runs_agree a b t u v w x y empty empty' limits counts run run' same n =
    same_beginning (choices a) (choices b) _ _
    (sym (places_are_own a t v x empty run)
    ∙ (ap (λ l. placement t.limit t.chosen [] l) same
    ∙ (ap (λ k. placement k t.chosen [] (arrivals b ++ y)) limits
    ∙ (ap (λ k. placement u.limit k [] (arrivals b ++ y)) counts ∙ places_are_own b u w y empty' run')))) n

-- ---- each line once

run_keeps : (events : List QueueEvent) (u v : QueueView) → IsQueueRun events u v → own_lines u.items ++ own_lines (arrivals events) ≡ own_lines (choices events) ++ own_lines v.items
run_keeps [] u v run = append-nil (own_lines u.items) ∙ ap (λ (m : QueueView). own_lines m.items) (sym run)
run_keeps (came item ∷ events) u v run =
    let mid : own_lines run.0.items ≡ own_lines u.items ++ own_lines (item ∷ []) = ap (λ (m : QueueView). own_lines m.items) run.1 ∙ own-append u.items (item ∷ []) in
    let joined : own_lines (item ∷ arrivals events) ≡ own_lines (item ∷ []) ++ own_lines (arrivals events) = own-append (item ∷ []) (arrivals events) in
    ap (λ l. own_lines u.items ++ l) joined
    ∙ (sym (append_assoc (own_lines u.items) (own_lines (item ∷ [])) (own_lines (arrivals events)))
    ∙ (ap (λ l. l ++ own_lines (arrivals events)) (sym mid) ∙ run_keeps events run.0 v run.2))
run_keeps (went (items.Line line) ∷ events) u v run =
    ap (λ l. own_lines l ++ own_lines (arrivals events)) run.1.first ∙ ap (λ l. line ∷ l) (run_keeps events run.0 v run.2)
run_keeps (went (items.Owner tick) ∷ events) u v run =
    ap (λ l. l ++ own_lines (arrivals events)) (sym (same_lines tick u.items run.0.items run.1.items_are)) ∙ run_keeps events run.0 v run.2

pub lines_are_kept : LinesAreKept
lines_are_kept events u v empty run = ap (λ l. own_lines l ++ own_lines (arrivals events)) (sym empty) ∙ run_keeps events u v run
