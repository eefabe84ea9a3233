-- Histories that begin one another, the places of a pass's entries, and lists of views.
use Rattle.std.proofs.Common.{◌≡◌, ◌≢◌, ℕ, zero, suc, ◌+◌, ◌<◌, ◌≤◌, eqb, Bool, true, false, cond, ◌⊎◌, List, [], ◌∷◌, ◌++◌, length, set, sym, refl, ap, ◌∙◌, inl, inr, ⊎_elim, arith, append_assoc, append-nil, length-append, ne_eqb, eq-eqb}
use Rattle.plant_passes.proofs.Common.{map-append, cond_both, ltb-true, ltb-false, some, some-injective, some-ne-none, get_elem?, set_else, Entry, MarkedEntry, Knowledge, mark_entry, mark_entries, entries, places_from, places, StartsWith, StartsWithAll, longer, passes_of, no_pass}

pub begins_self : (log : List MarkedEntry) → StartsWith log log
begins_self log = ([], sym (append-nil log))

pub begins_more : (log ext seen : List MarkedEntry) → StartsWith log seen → StartsWith (log ++ ext) seen
begins_more log ext seen h = (h.0 ++ ext, ap (λ l. l ++ ext) h.1 ∙ append_assoc seen h.0 ext)

pub begins_all_more : (log ext : List MarkedEntry) (ls : List (List MarkedEntry)) → StartsWithAll log ls → StartsWithAll (log ++ ext) ls
begins_all_more log ext [] h = tt
begins_all_more log ext (l ∷ ls) h = (begins_more log ext l h.0, begins_all_more log ext ls h.1)

whole_at : (log seen rest : List MarkedEntry) → log ≡ seen ++ rest → length log ≤ length seen → seen ≡ log
whole_at log seen [] e h = sym (e ∙ append-nil seen)
whole_at log seen (x ∷ rest) e h = absurd (omega (arith, ap length e, length-append seen (x ∷ rest)))

pub begins_whole : (log seen : List MarkedEntry) → StartsWith log seen → length log ≤ length seen → seen ≡ log
begins_whole log seen h le = whole_at log seen h.0 h.1 le

pub begins_length : (log seen : List MarkedEntry) → StartsWith log seen → length seen ≤ length log
begins_length log seen h = omega (arith, ap length h.1, length-append seen h.0)

pub longer_begins : (log a b : List MarkedEntry) → StartsWith log a → StartsWith log b → StartsWith log (longer a b)
longer_begins log a b p q = cond_both _ b a (StartsWith log) (λ _. q) (λ _. p)

-- where one of the two is the whole log, so is the longer
pub longer_whole_left : (log a b : List MarkedEntry) → a ≡ log → StartsWith log b → longer a b ≡ log
longer_whole_left log a b e q = cond_both _ b a (λ l. l ≡ log) (λ t. absurd (omega (arith, ltb-true _ _ t, begins_length log b q, ap length e))) (λ _. e)

pub longer_whole_right : (log a b : List MarkedEntry) → StartsWith log a → b ≡ log → longer a b ≡ log
longer_whole_right log a b p e = cond_both _ b a (λ l. l ≡ log) (λ _. e) (λ f. begins_whole log a p (omega (arith, ltb-false _ _ f, ap length e)))

cond_append : (c : Bool) (n : ℕ) (a b t : List ℕ) → a ≡ b ++ t → cond c (n ∷ a) a ≡ cond c (n ∷ b) b ++ t
cond_append true n a b t e = ap (λ l. n ∷ l) e
cond_append false n a b t e = e

places_push : (by n : ℕ) (log : List MarkedEntry) (m : MarkedEntry) → places_from by n (log ++ m ∷ []) ≡ places_from by n log ++ places_from by (n + length log) (m ∷ [])
places_push by n [] m = ap (λ (k : ℕ). places_from by k (m ∷ [])) (let e : n ≡ n + 0 = omega arith in e)
places_push by n (x ∷ log) m = cond_append (eqb x.by by) n _ _ _ (places_push by (n + 1) log m ∙ ap (λ (k : ℕ). places_from by (n + 1) log ++ places_from by k (m ∷ [])) (let e : (n + 1) + length log ≡ n + length (x ∷ log) = omega arith in e))

pub places_other : (by : ℕ) (log : List MarkedEntry) (m : MarkedEntry) → m.by ≢ by → places by (log ++ m ∷ []) ≡ places by log
places_other by log m ne = places_push by 0 log m ∙ (ap (λ (c : Bool). places by log ++ cond c ((0 + length log) ∷ []) []) (ne_eqb m.by by ne) ∙ append-nil (places by log))

pub places_own : (by : ℕ) (log : List MarkedEntry) (e : Entry) → places by (log ++ mark_entry by e ∷ []) ≡ places by log ++ length log ∷ []
places_own by log e = places_push by 0 log (mark_entry by e) ∙ (ap (λ (c : Bool). places by log ++ cond c ((0 + length log) ∷ []) []) (eq-eqb by by refl) ∙ ap (λ (k : ℕ). places by log ++ k ∷ []) (let e : 0 + length log ≡ length log = omega arith in e))

pub places_past : (by n : ℕ) (l : List Entry) → 0 < by → places_from by n (mark_entries 0 l) ≡ []
places_past by n [] h = refl
places_past by n (e ∷ l) h = ap (λ (c : Bool). cond c (n ∷ places_from by (n + 1) (mark_entries 0 l)) (places_from by (n + 1) (mark_entries 0 l))) (ne_eqb 0 by (λ is. omega arith)) ∙ places_past by (n + 1) l h

pub entries_push : (log : List MarkedEntry) (by : ℕ) (e : Entry) → entries (log ++ mark_entry by e ∷ []) ≡ entries log ++ e ∷ []
entries_push log by e = map-append (λ (m : MarkedEntry). m.entry) log (mark_entry by e ∷ [])

pub entries_marks : (by : ℕ) (l : List Entry) → entries (mark_entries by l) ≡ l
entries_marks by [] = refl
entries_marks by (e ∷ l) = ap (λ (t : List Entry). e ∷ t) (entries_marks by l)

pub length_marks : (by : ℕ) (l : List Entry) → length (mark_entries by l) ≡ length l
length_marks by [] = refl
length_marks by (e ∷ l) = ap suc (length_marks by l)

-- lists of what seats know

pub passes_set : {X : Type 0} (vs : List (Knowledge X)) (j : ℕ) (v w : Knowledge X) → get_elem? vs j ≡ some v → passes_of (set vs j w) + v.passes ≡ passes_of vs + w.passes
passes_set [] j v w e = absurd (some-ne-none v (sym e))
passes_set (x ∷ xs) zero v w e = let is : x.passes ≡ v.passes = ap (λ u. u.passes) (some-injective x v e) in omega arith
passes_set (x ∷ xs) (suc j) v w e = let h : passes_of (set xs j w) + v.passes ≡ passes_of xs + w.passes = passes_set xs j v w e in omega arith

pub passes_append : {X : Type 0} (vs : List (Knowledge X)) (w : Knowledge X) → passes_of (vs ++ w ∷ []) ≡ passes_of vs + w.passes
passes_append [] w = omega arith
passes_append (x ∷ xs) w = let h : passes_of (xs ++ w ∷ []) ≡ passes_of xs + w.passes = passes_append xs w in omega arith

passes_one : {X : Type 0} (vs : List (Knowledge X)) (j : ℕ) (v : Knowledge X) → get_elem? vs j ≡ some v → v.passes ≤ passes_of vs
passes_one vs j v e = omega (arith, passes_set vs j v no_pass e)

pub set_at : {A : Type 0} (l : List A) (i : ℕ) (a b : A) → get_elem? l i ≡ some a → get_elem? (set l i b) i ≡ some b
set_at [] i a b e = absurd (some-ne-none a (sym e))
set_at (x ∷ xs) zero a b e = refl
set_at (x ∷ xs) (suc i) a b e = set_at xs i a b e

pub at_one : {A : Type 0} (l : List A) (i : ℕ) (a b : A) → get_elem? l i ≡ some a → get_elem? l i ≡ some b → a ≡ b
at_one l i a b p q = some-injective a b (sym p ∙ q)

pub at_end : {A : Type 0} (l : List A) (a b : A) (j : ℕ) → get_elem? (l ++ a ∷ []) j ≡ some b → (get_elem? l j ≡ some b) ⊎ ((j ≡ length l) × (a ≡ b))
at_end [] a b zero e = inr (refl, some-injective a b e)
at_end [] a b (suc j) e = absurd (some-ne-none b (sym e))
at_end (x ∷ xs) a b zero e = inl e
at_end (x ∷ xs) a b (suc j) e = ⊎_elim (λ t. inl t) (λ t. inr (ap suc t.0, t.1)) (at_end xs a b j e)

-- two seats count for no more passes than all
pub passes_two : {X : Type 0} (vs : List (Knowledge X)) (j k : ℕ) (v w : Knowledge X) → j ≢ k → get_elem? vs j ≡ some v → get_elem? vs k ≡ some w → v.passes + w.passes ≤ passes_of vs
passes_two vs j k v w ne p q = let h = passes_set vs j v no_pass p in let o : w.passes ≤ passes_of (set vs j no_pass) = passes_one (set vs j no_pass) k w (set_else vs j k no_pass (λ e. ne (sym e)) ∙ q) in omega arith
