-- Items of a queue.
use Rattle.std.proofs.Common.{◌≡◌, ◌∙◌, refl, sym, ap, arith, ℕ, ◌+◌, ◌<◌, ◌≤◌, ◌⊎◌, inl, inr, suc, zero, List, [], ◌∷◌, ◌++◌, length, drop, Bool, true, false, Option, Some, None}
use Rattle.std.specs.Prelude.{slice_get, slice_index_or, if◌then◌else◌}
use Rattle.std.specs.List.{remove}
use Rattle.fair_queue.specs.declared.line.Item.{Item}
use Rattle.fair_queue.specs.declared.line.Item.TheVariants as items
use Rattle.fair_queue.specs.declared.line.OwnerLine.{OwnerLine}
use Rattle.fair_queue.specs.Items.{item_bytes, waiting_bytes, own_lines, is_line, owner_place, owner_places, as_items, IsCutOut, QueueView, MayChoose, begins_with_line, owner_bytes}
use Rattle.fair_queue.specs.Runs.{IsPassed, IsTaken}

pub bytes_more : (xs ys : List Item) → waiting_bytes (xs ++ ys) ≡ waiting_bytes xs + waiting_bytes ys
bytes_more [] ys = omega arith
bytes_more (x ∷ xs) ys = omega (arith, bytes_more xs ys)

pub own-append : (xs ys : List Item) → own_lines (xs ++ ys) ≡ own_lines xs ++ own_lines ys
own-append [] ys = refl
own-append (items.Line line ∷ xs) ys = ap (λ l. line ∷ l) (own-append xs ys)
own-append (items.Owner tick ∷ xs) ys = own-append xs ys

pub own_again : (lines : List (List ℕ)) (rest : List Item) → own_lines (as_items lines ++ rest) ≡ lines ++ own_lines rest
own_again [] rest = refl
own_again (line ∷ lines) rest = ap (λ l. line ∷ l) (own_again lines rest)

pub same_lines : (tick : Bool) (xs ys : List Item) → IsCutOut tick xs ys → own_lines ys ≡ own_lines xs
same_lines tick xs ys cut =
    ap own_lines cut.new_is ∙ (own_again cut.held cut.rest ∙ (sym (own_again cut.held (items.Owner tick ∷ cut.rest)) ∙ ap own_lines (sym cut.old_is)))

-- how many lines wait
pub lines_more : (xs ys : List Item) → length (own_lines (xs ++ ys)) ≡ length (own_lines xs) + length (own_lines ys)
lines_more [] ys = omega arith
lines_more (items.Line line ∷ xs) ys = omega (arith, lines_more xs ys)
lines_more (items.Owner tick ∷ xs) ys = lines_more xs ys

-- each line counts for a byte at least
pub lines_few : (xs : List Item) → length (own_lines xs) ≤ waiting_bytes xs
lines_few [] = omega arith
lines_few (items.Line line ∷ xs) = omega (arith, lines_few xs)
lines_few (items.Owner tick ∷ xs) = omega (arith, lines_few xs)

pub same_count : (tick : Bool) (xs ys : List Item) → IsCutOut tick xs ys → length (own_lines ys) ≡ length (own_lines xs)
same_count tick xs ys cut = ap (λ (l : List (List ℕ)). length l) (same_lines tick xs ys cut)

pub count_few : (tick : Bool) (chosen limit : ℕ) → chosen ≤ limit → (if tick then 0 else chosen) ≤ limit
count_few true chosen limit few = omega arith
count_few false chosen limit few = few

pub owner_bytes_more : (xs ys : List OwnerLine) → owner_bytes (xs ++ ys) ≡ owner_bytes xs + owner_bytes ys
owner_bytes_more [] ys = omega arith
owner_bytes_more (x ∷ xs) ys = omega (arith, owner_bytes_more xs ys)

pub owner_there : (xs : List Item) (tick : Bool) → slice_get (owner_places xs) 0 ≡ Some tick → owner_place xs < length xs
owner_there [] tick first = let wrong : ◌≡◌ {A = Option Bool} None (Some tick) = first in cc
owner_there (items.Line line ∷ xs) tick first = omega (arith, owner_there xs tick first)
owner_there (items.Owner is_tick ∷ xs) tick first = omega arith

pub owner_cut : (xs : List Item) (tick : Bool) → slice_get (owner_places xs) 0 ≡ Some tick → IsCutOut tick xs (remove xs (owner_place xs))
owner_cut [] tick first = let wrong : ◌≡◌ {A = Option Bool} None (Some tick) = first in cc
owner_cut (items.Line line ∷ xs) tick first =
    let cut = owner_cut xs tick first in
    record { held = line ∷ cut.held; rest = cut.rest; old_is = ap (λ l. items.Line line ∷ l) cut.old_is; new_is = ap (λ l. items.Line line ∷ l) cut.new_is }
owner_cut (items.Owner is_tick ∷ xs) tick first =
    let same : ◌≡◌ {A = Option Bool} (Some is_tick) (Some tick) = first in
    let flag : is_tick ≡ tick = cc in
    record { held = []; rest = xs; old_is = rw flag refl; new_is = refl }

pub same_bytes : (tick : Bool) (xs ys : List Item) → IsCutOut tick xs ys → waiting_bytes ys ≡ waiting_bytes xs
same_bytes tick xs ys cut = rw (cut.old_is, cut.new_is) (omega (arith, bytes_more (as_items cut.held) cut.rest, bytes_more (as_items cut.held) (items.Owner tick ∷ cut.rest)))

not_less : (a b : ℕ) → (a < b → ⊥) → b ≤ a
not_less a b never = omega (arith, never)

none_left : (xs : List Item) (chosen limit : ℕ) (held : List (List ℕ)) (tick : Bool) (rest : List Item)
    → ((begins_with_line xs ≡ true) × (chosen < limit) → ⊥) → xs ≡ as_items held ++ items.Owner tick ∷ rest → (held ≡ []) ⊎ (limit ≤ chosen)
none_left xs chosen limit [] tick rest never is = inl refl
none_left xs chosen limit (line ∷ held) tick rest never is = inr (not_less chosen limit (λ less. never (ap begins_with_line is, less)))

pub passed : (tick : Bool) (old new : QueueView) → (MayChoose old → ⊥) → IsCutOut tick old.items new.items
    → new ≡ record old { items = new.items; chosen = if tick then 0 else old.chosen } → IsPassed tick old new
passed tick old new never cut is = record { items_are = cut; none_left = none_left old.items old.chosen old.limit cut.held tick cut.rest never cut.old_is; new_is = is }

pub taken_places : (line : List ℕ) (was is : QueueView) → IsTaken line was is → owner_places is.items ≡ owner_places was.items
taken_places line was is taken = sym (ap owner_places taken.first)
