-- The last part of a frame, and the parts of that frame.
use Rattle.std.proofs.Common.{◌≡◌, ℕ, zero, suc, ◌-◌, ◌+◌, ◌<◌, ◌≤◌, List, [], ◌∷◌, ◌++◌, length, map, take, drop, get_or, Bool, true, false, cond, ◌&&◌, ◌⊎◌, inl, inr, refl, sym, ap, ◌∙◌, arith, ltb, leb, length-append}
use Rattle.map_assembly.proofs.Common.{AllByRecursion, slice_set, slice_index, set_split, take_rest, lt-ltb, and_parts, and_from, both_ways, eq-eqb, ne_eqb, cases_eq, cases_Bool, Minislots, ElementsFields, insert_by_key, sorted_by, numbers_from, sorted_order, in_slice_order, queue_of, with_part, is_whole, fronts, front_or, part_at}
use Rattle.std.proofs.lemmas.List.Folds.{list_all-append}
use Rattle.map_assembly.proofs.OrderLemmas.{sorted-map, sorted-all}

abbrev some_part : List ElementsFields → Bool
some_part queue = ltb 0 (length queue)

some-cons : (p : ElementsFields) (ps : List ElementsFields) → some_part (p ∷ ps) ≡ true
some-cons p ps = lt-ltb 0 (length (p ∷ ps)) (omega arith)

-- ---- whether it is the last one

pub whole_with_part : (queues : List (List ElementsFields)) (op : ℕ) (part : ElementsFields) → op < length queues → is_whole (with_part queues op part) ≡ (is_whole (take op queues) && is_whole (drop (suc op) queues))
whole_with_part queues op part lt =
    let some : ltb 0 (length (queue_of queues op ++ part ∷ [])) ≡ true = lt-ltb 0 (length (queue_of queues op ++ part ∷ [])) (omega (arith, length-append (queue_of queues op) (part ∷ []))) in
    ap is_whole (set_split queues op (queue_of queues op ++ part ∷ []) lt)
    ∙ (list_all-append some_part (take op queues) ((queue_of queues op ++ part ∷ []) ∷ drop (suc op) queues)
    ∙ ap (λ (b : Bool). is_whole (take op queues) && (b && is_whole (drop (suc op) queues))) some)

pub last_is : (queues : List (List ElementsFields)) (op : ℕ) (part : ElementsFields) (a b : Bool) → op < length queues → a ≡ is_whole (take op queues) → a ≡ true
    → b ≡ is_whole (take (length queues - (op + 1)) (drop (op + 1) queues)) → b ≡ is_whole (with_part queues op part)
last_is queues op part a b lt first whole second =
    let next : op + 1 ≡ suc op = omega arith in
    let rest : take (length queues - (op + 1)) (drop (op + 1) queues) ≡ drop (suc op) queues = take_rest queues (op + 1) ∙ ap (λ (i : ℕ). drop i queues) next in
    let front : is_whole (take op queues) ≡ true = sym first ∙ whole in
    second ∙ (ap is_whole rest ∙ sym (whole_with_part queues op part lt ∙ ap (λ (c : Bool). c && is_whole (drop (suc op) queues)) front))

pub not_last : (queues : List (List ElementsFields)) (op : ℕ) (part : ElementsFields) (a : Bool) → op < length queues → a ≡ is_whole (take op queues) → a ≡ false → a ≡ is_whole (with_part queues op part)
not_last queues op part a lt first n =
    let front : is_whole (take op queues) ≡ false = sym first ∙ n in
    n ∙ sym (whole_with_part queues op part lt ∙ ap (λ (c : Bool). c && is_whole (drop (suc op) queues)) front)

-- where others have put a part and not all have, this operator has put none
pub empty_before_last : (queues : List (List ElementsFields)) (op : ℕ) (part : ElementsFields) → op < length queues → is_whole queues ≡ false → is_whole (with_part queues op part) ≡ true → queue_of queues op ≡ []
empty_before_last [] op part lt waits whole = absurd (omega arith)
empty_before_last (q ∷ queues) zero part lt waits whole = by q waits (and_parts (some_part (q ++ part ∷ [])) (is_whole queues) whole)
  where
    by : (q : List ElementsFields) → is_whole (q ∷ queues) ≡ false → (some_part (q ++ part ∷ []) ≡ true) × (is_whole queues ≡ true) → q ≡ []
    by [] w p = refl
    by (x ∷ xs) w p = absurd (both_ways (is_whole ((x ∷ xs) ∷ queues)) w (and_from (some_part (x ∷ xs)) (is_whole queues) (some-cons x xs) p.1))
empty_before_last (q ∷ queues) (suc op) part lt waits whole =
    let p : (some_part q ≡ true) × (is_whole (with_part queues op part) ≡ true) = and_parts (some_part q) (is_whole (with_part queues op part)) whole in
    empty_before_last queues op part (omega arith) (at (cases_Bool (is_whole queues)) p.0) p.1
  where
    at : (is_whole queues ≡ true) ⊎ (is_whole queues ≡ false) → some_part q ≡ true → is_whole queues ≡ false
    at (inl t) some = absurd (both_ways (is_whole (q ∷ queues)) waits (and_from (some_part q) (is_whole queues) some t))
    at (inr f) some = f

-- ---- the parts of the frame by their places

pub length-fronts : (queues : List (List ElementsFields)) → is_whole queues ≡ true → length (fronts queues) ≡ length queues
length-fronts [] h = refl
length-fronts ([] ∷ queues) h = let wrong : false ≡ true = h in absurd (cc)
length-fronts ((p ∷ ps) ∷ queues) h = omega (arith, length-fronts queues (and_parts (some_part (p ∷ ps)) (is_whole queues) h).1)

fronts_at : (queues : List (List ElementsFields)) (d : ElementsFields) (k : ℕ) → is_whole queues ≡ true → get_or (fronts queues) k d ≡ front_or d (queue_of queues k)
fronts_at [] d k h = refl
fronts_at ([] ∷ queues) d k h = let wrong : false ≡ true = h in absurd (cc)
fronts_at ((p ∷ ps) ∷ queues) d zero h = refl
fronts_at ((p ∷ ps) ∷ queues) d (suc k) h = fronts_at queues d k (and_parts (some_part (p ∷ ps)) (is_whole queues) h).1

queue-set : (queues : List (List ElementsFields)) (op k : ℕ) (q : List ElementsFields) → (k ≡ op → ⊥) → queue_of (slice_set queues op q) k ≡ queue_of queues k
queue-set [] op k q ne = refl
queue-set (x ∷ queues) zero zero q ne = absurd (ne refl)
queue-set (x ∷ queues) zero (suc k) q ne = refl
queue-set (x ∷ queues) (suc op) zero q ne = refl
queue-set (x ∷ queues) (suc op) (suc k) q ne = queue-set queues op k q (λ e. ne (ap suc e))

queue-set_same : (queues : List (List ElementsFields)) (op : ℕ) (q : List ElementsFields) → op < length queues → queue_of (slice_set queues op q) op ≡ q
queue-set_same [] op q lt = absurd (omega arith)
queue-set_same (x ∷ queues) zero q lt = refl
queue-set_same (x ∷ queues) (suc op) q lt = queue-set_same queues op q (omega arith)

pub part_at_is : (queues : List (List ElementsFields)) (op : ℕ) (part : ElementsFields) → op < length queues → queue_of queues op ≡ [] → is_whole (with_part queues op part) ≡ true
    → (k : ℕ) → part_at queues op part k ≡ get_or (fronts (with_part queues op part)) k part
part_at_is queues op part lt none whole k = by (cases_eq k op)
  where
    by : (k ≡ op) ⊎ (k ≡ op → ⊥) → part_at queues op part k ≡ get_or (fronts (with_part queues op part)) k part
    by (inl e) =
        ap (λ (b : Bool). cond b part (front_or part (queue_of queues k))) (eq-eqb k op e)
        ∙ sym (fronts_at (with_part queues op part) part k whole
        ∙ ap (λ (q : List ElementsFields). front_or part q)
        (ap (λ (i : ℕ). queue_of (with_part queues op part) i) e ∙ (queue-set_same queues op (queue_of queues op ++ part ∷ []) lt ∙ ap (λ (q : List ElementsFields). q ++ part ∷ []) none)))
    by (inr ne) =
        ap (λ (b : Bool). cond b part (front_or part (queue_of queues k))) (ne_eqb k op ne)
        ∙ sym (fronts_at (with_part queues op part) part k whole ∙ ap (λ (q : List ElementsFields). front_or part q) (queue-set queues op k (queue_of queues op ++ part ∷ []) ne))

-- ---- the order of the operators is that of their parts

numbers-suc : (n count : ℕ) → numbers_from (suc n) count ≡ map suc (numbers_from n count)
numbers-suc n zero = refl
numbers-suc n (suc count) = ap (λ (xs : List ℕ). suc n ∷ xs) (numbers-suc (suc n) count)

map-map : {X Y Z : Type 0} (f : Y → Z) (g : X → Y) (xs : List X) → map f (map g xs) ≡ map (λ x. f (g x)) xs
map-map f g [] = refl
map-map {X} {Y} {Z} f g (x ∷ xs) = ap (λ (zs : List Z). f (g x) ∷ zs) (map-map f g xs)

all_places : (xs : List ElementsFields) (d : ElementsFields) → map (λ k. get_or xs k d) (numbers_from 0 (length xs)) ≡ xs
all_places [] d = refl
all_places (x ∷ xs) d =
    ap (λ (zs : List ElementsFields). x ∷ zs)
    (ap (λ (ks : List ℕ). map (λ (k : ℕ). get_or (x ∷ xs) k d) ks) (numbers-suc 0 (length xs))
    ∙ (map-map (λ (k : ℕ). get_or (x ∷ xs) k d) suc (numbers_from 0 (length xs)) ∙ all_places xs d))

placed-agree : (f g : ℕ → ℕ) (x : ℕ) (ys : List ℕ) → f x ≡ g x → AllByRecursion (λ y. f y ≡ g y) ys → insert_by_key f x ys ≡ insert_by_key g x ys
placed-agree f g x [] e h = refl
placed-agree f g x (y ∷ ys) e h =
    ap (λ (b : Bool). cond b (x ∷ y ∷ ys) (y ∷ insert_by_key f x ys)) (ap (λ (n : ℕ). leb n (f y)) e ∙ ap (λ (n : ℕ). leb (g x) n) h.0)
    ∙ ap (λ (zs : List ℕ). cond (leb (g x) (g y)) (x ∷ y ∷ ys) (y ∷ zs)) (placed-agree f g x ys e h.1)

sorted-agree : (f g : ℕ → ℕ) (xs : List ℕ) → AllByRecursion (λ y. f y ≡ g y) xs → sorted_by f xs ≡ sorted_by g xs
sorted-agree f g [] h = refl
sorted-agree f g (x ∷ xs) h =
    placed-agree f g x (sorted_by f xs) h.0 (sorted-all (λ (y : ℕ). f y ≡ g y) f xs h.1) ∙ ap (λ (zs : List ℕ). insert_by_key g x zs) (sorted-agree f g xs h.1)

agree_below : (f g : ℕ → ℕ) (n count m : ℕ) → n + count ≤ m → ((k : ℕ) → k < m → f k ≡ g k) → AllByRecursion (λ y. f y ≡ g y) (numbers_from n count)
agree_below f g n zero m le h = tt
agree_below f g n (suc count) m le h = (h n (omega arith), agree_below f g (suc n) count m (omega arith) h)

start_at : (parts : List ElementsFields) (d : ElementsFields) (k : ℕ) → k < length parts → slice_index (map (λ p. p.slice.start) parts) k ≡ (get_or parts k d).slice.start
start_at [] d k lt = absurd (omega arith)
start_at (p ∷ parts) d zero lt = refl
start_at (p ∷ parts) d (suc k) lt = start_at parts d k (omega arith)

length-starts : (parts : List ElementsFields) → length (map (λ p. p.slice.start) parts) ≡ length parts
length-starts [] = refl
length-starts (p ∷ parts) = ap suc (length-starts parts)

starts-slices : (parts : List ElementsFields) → map (λ m. m.start) (map (λ p. p.slice) parts) ≡ map (λ p. p.slice.start) parts
starts-slices [] = refl
starts-slices (p ∷ parts) = ap (λ (xs : List ℕ). p.slice.start ∷ xs) (starts-slices parts)

-- the parts in the order of the operators' slices
pub ordered_parts : (parts : List ElementsFields) (slices : List Minislots) (f : ℕ → ElementsFields) (d : ElementsFields) → map (λ p. p.slice) parts ≡ slices → ((k : ℕ) → f k ≡ get_or parts k d)
    → map f (sorted_order (map (λ slice. slice.start) slices)) ≡ in_slice_order parts
ordered_parts parts slices f d are at =
    let starts : List ℕ = map (λ (p : ElementsFields). p.slice.start) parts in
    let key : ℕ → ℕ = λ (k : ℕ). (get_or parts k d).slice.start in
    ap (λ (ms : List Minislots). map f (sorted_order (map (λ (m : Minislots). m.start) ms))) (sym are)
    ∙ (ap (λ (ns : List ℕ). map f (sorted_order ns)) (starts-slices parts)
    ∙ (ap (λ (n : ℕ). map f (sorted_by (λ (k : ℕ). slice_index starts k) (numbers_from 0 n))) (length-starts parts)
    ∙ (ap (λ (ks : List ℕ). map f ks) (sorted-agree (λ (k : ℕ). slice_index starts k) key (numbers_from 0 (length parts))
    (agree_below (λ (k : ℕ). slice_index starts k) key 0 (length parts) (length parts) (omega arith) (λ k lt. start_at parts d k lt)))
    ∙ (ap (λ (g : ℕ → ElementsFields). map g (sorted_by key (numbers_from 0 (length parts)))) (λ i k. at k i)
    ∙ (sorted-map (λ (p : ElementsFields). p.slice.start) (λ (k : ℕ). get_or parts k d) (numbers_from 0 (length parts))
    ∙ ap (λ (ps : List ElementsFields). in_slice_order ps) (all_places parts d))))))
