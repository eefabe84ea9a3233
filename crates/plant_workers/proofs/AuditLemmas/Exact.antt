-- What is found decides what is told.
use Rattle.std.proofs.Common.{◌≡◌, ◌↔◌, ℕ, zero, suc, ◌<◌, List, [], ◌∷◌, map, take, Result, Err, inl, inr, refl, sym, ap, ◌∙◌, subst, arith}
use Rattle.plant_workers.proofs.AuditLemmas.Common.{slice_get, RowFields, PlantFields, BookView, actions_of, Step, own_steps, IsBookAfter, same_at, RunFault, Placing, AssemblyView, puts_of, due_of, DifferFirst, AreOwnRuns, IsOfAnother, HistoryStraysAt, IsStrayHistory, ArePut, IsPutStray, IsMapStray, IsFound}
use Rattle.plant_workers.specs.declared.receipts.run_fault.RunFault.TheVariants.{Strayed, Short, Core, NoMemory, MapStrayed, ResliceRefused}

get_take : {A : Type 0} (xs : List A) (k n : ℕ) → k < n → slice_get (take n xs) k ≡ slice_get xs k
get_take xs k zero lt = absurd (omega (arith, lt))
get_take [] k (suc n) lt = refl
get_take (x ∷ xs) zero (suc n) lt = refl
get_take (x ∷ xs) (suc k) (suc n) lt = get_take xs k n (omega (arith, lt))

same_below : {A : Type 0} (xs ys : List A) (k n : ℕ) → k < n → take n xs ≡ take n ys → slice_get xs k ≡ slice_get ys k
same_below {A} xs ys k n lt e = sym (get_take xs k n lt) ∙ (ap (λ (zs : List A). slice_get zs k) e ∙ get_take ys k n lt)

-- of two numbers, where neither is less
neither_less : (a b : ℕ) → (a < b → ⊥) → (b < a → ⊥) → a ≡ b
neither_less zero zero p q = refl
neither_less zero (suc b) p q = absurd (p (omega arith))
neither_less (suc a) zero p q = absurd (q (omega arith))
neither_less (suc a) (suc b) p q = ap suc (neither_less a b (λ lt. p (omega (arith, lt))) (λ lt. q (omega (arith, lt))))

differ_once : {A : Type 0} (xs ys : List A) (a b : ℕ) → DifferFirst xs ys a → DifferFirst xs ys b → a ≡ b
differ_once xs ys a b p q = neither_less a b (λ lt. p.there (same_below xs ys a b lt q.before)) (λ lt. q.there (same_below xs ys b a lt p.before))

-- ---- histories

module _ (plant : PlantFields) (steps : List Step) where
  not_after : (i : ℕ) (row : RowFields) (book : BookView) (index : ℕ) → HistoryStraysAt plant steps i row book index → IsBookAfter plant steps i row book → ⊥
  not_after i row book index (inl (another, first)) after = by another
    where
      by : IsOfAnother plant row book → ⊥
      by (inl row_not) = row_not after.row_is
      by (inr consts_not) = consts_not after.consts_are
  not_after i row book index (inr told) after = told.2.there (ap (λ actions. slice_get actions index) after.actions_are)

  one_place : (i : ℕ) (row : RowFields) (book : BookView) (a b : ℕ) → HistoryStraysAt plant steps i row book a → HistoryStraysAt plant steps i row book b → a ≡ b
  one_place i row book a b (inl p) (inl q) = p.1 ∙ sym q.1
  one_place i row book a b (inl p) (inr q) = absurd (not_another p.0 q.0 q.1)
    where
      not_another : IsOfAnother plant row book → book.row ≡ row → book.consts ≡ plant.consts → ⊥
      not_another (inl row_not) e f = row_not e
      not_another (inr consts_not) e f = consts_not f
  one_place i row book a b (inr p) (inl q) = absurd (not_another q.0 p.0 p.1)
    where
      not_another : IsOfAnother plant row book → book.row ≡ row → book.consts ≡ plant.consts → ⊥
      not_another (inl row_not) e f = row_not e
      not_another (inr consts_not) e f = consts_not f
  one_place i row book a b (inr p) (inr q) = differ_once (actions_of book.history) (own_steps row i steps) a b p.2 q.2

  module _ (books : List BookView) where
    pub none_stray : (op index : ℕ) → AreOwnRuns plant steps books → IsStrayHistory plant steps books op index → ⊥
    none_stray op index own stray = not_after op stray.row stray.book index stray.strays (own op stray.row stray.book stray.row_is stray.book_is)

    one_operator : (op other index place : ℕ) → IsStrayHistory plant steps books op index → IsStrayHistory plant steps books other place → op < other → ⊥
    one_operator op other index place p q lt = not_after op p.row p.book index p.strays (q.before op p.row p.book lt p.row_is p.book_is)

    one_stray : (op other index place : ℕ) → IsStrayHistory plant steps books op index → IsStrayHistory plant steps books other place → (op ≡ other) × (index ≡ place)
    one_stray op other index place p q =
        let same : op ≡ other = neither_less op other (one_operator op other index place p q) (one_operator other op place index q p) in
        let row : p.row ≡ q.row = same_at plant.rows op p.row q.row p.row_is (ap (slice_get plant.rows) same ∙ q.row_is) in
        let book : p.book ≡ q.book = same_at books op p.book q.book p.book_is (ap (slice_get books) same ∙ q.book_is) in
        let there : HistoryStraysAt plant steps op p.row p.book place =
        subst (λ (b : BookView). HistoryStraysAt plant steps op p.row b place) (sym book)
        (subst (λ (r : RowFields). HistoryStraysAt plant steps op r q.book place) (sym row)
        (subst (λ (k : ℕ). HistoryStraysAt plant steps k q.row q.book place) (sym same) q.strays)) in
        (same, one_place op p.row p.book index place p.strays there)

    -- ---- assemblies

    one_frame : (first : ℕ) (placings : List Placing) (a b : ℕ) → IsPutStray first steps books placings a → IsPutStray first steps books placings b → a ≡ b
    one_frame first placings a b p q =
        let same : p.place ≡ q.place = neither_less p.place q.place
        (λ lt. p.there (same_below (puts_of p.op placings) (due_of steps p.op p.book) p.place q.place lt (q.before p.op p.book p.book_is)))
        (λ lt. q.there (same_below (puts_of q.op placings) (due_of steps q.op q.book) q.place p.place lt (p.before q.op q.book q.book_is))) in
        omega (arith, same, p.frame_is, q.frame_is)

    module _ (assembly : AssemblyView) where
      one_map_stray : (a b : ℕ) → IsMapStray plant steps books assembly a → IsMapStray plant steps books assembly b → a ≡ b
      one_map_stray a b (inl p) (inl q) = p.1 ∙ sym q.1
      one_map_stray a b (inl p) (inr q) = absurd (p.0 q.0)
      one_map_stray a b (inr p) (inl q) = absurd (q.0 p.0)
      one_map_stray a b (inr p) (inr q) = one_frame plant.consts.channel.first_frame assembly.placings a b p.1 q.1

      pub none_map_stray : (frame : ℕ) → assembly.plant ≡ plant → ArePut steps books assembly.placings → IsMapStray plant steps books assembly frame → ⊥
      none_map_stray frame same put (inl p) = p.0 same
      none_map_stray frame same put (inr p) = p.1.there (ap (λ fs. slice_get fs p.1.place) (put p.1.op p.1.book p.1.book_is))

      -- ---- what is told

      module _ {T : Type 0} where
        abbrev Told : RunFault → Result T RunFault
        Told fault = Err fault

        same_fault : (a b : RunFault) → Told a ≡ Told b → a ≡ b
        same_fault a b e = cc

        pub strayed_is : (fault : RunFault) → IsFound plant steps books assembly fault → (op index : ℕ) → (Told fault ≡ Told (Strayed op index)) ↔ IsStrayHistory plant steps books op index
        strayed_is fault found op index =
            (λ e. subst (IsFound plant steps books assembly) (same_fault fault (Strayed op index) e) found, back fault found)
          where
            back : (f : RunFault) → IsFound plant steps books assembly f → IsStrayHistory plant steps books op index → Told f ≡ Told (Strayed op index)
            back (Strayed other place) stray this =
                let same = one_stray other op place index stray this in
                λ n. Err (Strayed (same.0 n) (same.1 n))
            back (Short k) wrong this = absurd wrong
            back (Core k) wrong this = absurd wrong
            back NoMemory wrong this = absurd wrong
            back (MapStrayed frame) own this = absurd (none_stray op index own.0 this)
            back (ResliceRefused at k) wrong this = absurd wrong

        pub map_strayed_is : (fault : RunFault) → IsFound plant steps books assembly fault → (frame : ℕ) → (Told fault ≡ Told (MapStrayed frame)) ↔ IsFound plant steps books assembly (MapStrayed frame)
        map_strayed_is fault found frame =
            (λ e. subst (IsFound plant steps books assembly) (same_fault fault (MapStrayed frame) e) found, back fault found)
          where
            back : (f : RunFault) → IsFound plant steps books assembly f → IsFound plant steps books assembly (MapStrayed frame) → Told f ≡ Told (MapStrayed frame)
            back (Strayed other place) stray this = absurd (none_stray other place this.0 stray)
            back (Short k) wrong this = absurd wrong
            back (Core k) wrong this = absurd wrong
            back NoMemory wrong this = absurd wrong
            back (MapStrayed other) found' this = ap (λ (n : ℕ). Told (MapStrayed n)) (one_map_stray other frame found'.1 this.1)
            back (ResliceRefused at k) wrong this = absurd wrong

-- ---- of books that are held elsewhere

module _ {X : Type 0} (f : X → BookView) (xs ys : List X) (same_list : xs ≡ ys) (plant : PlantFields) (steps : List Step) (assembly : AssemblyView) where
  pub no_stray_of_these : AreOwnRuns plant steps (map f xs) → (op index : ℕ) → IsStrayHistory plant steps (map f ys) op index → ⊥
  no_stray_of_these own op index stray = none_stray plant steps (map f ys) op index (subst (λ (zs : List X). AreOwnRuns plant steps (map f zs)) same_list own) stray

  pub no_map_stray_of_these : assembly.plant ≡ plant → ArePut steps (map f xs) assembly.placings → (frame : ℕ) → IsMapStray plant steps (map f ys) assembly frame → ⊥
  no_map_stray_of_these same put frame stray =
      none_map_stray plant steps (map f ys) assembly frame same (subst (λ (zs : List X). ArePut steps (map f zs) assembly.placings) same_list put) stray

  pub put_of_these : ArePut steps (map f xs) assembly.placings → ArePut steps (map f ys) assembly.placings
  put_of_these put = subst (λ (zs : List X). ArePut steps (map f zs) assembly.placings) same_list put
