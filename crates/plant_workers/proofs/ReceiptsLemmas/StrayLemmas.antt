-- Receipts that stray, and those that stand.
use Rattle.std.proofs.Common.{◌≡◌, ℕ, zero, suc, ◌+◌, ◌<◌, ◌≤◌, List, [], ◌∷◌, length, get_or, map, drop, All, ◌⊎◌, inl, inr, ⊎_elim, Option, Some, None, sym, ap, ◌∙◌, subst, arith}
use Rattle.plant_workers.proofs.ReceiptsLemmas.Common.{slice_index, MatchOption, drop_more, drop_of_length-le, All-nil, All-cons, All-head, All-tail, Entry, Receipt, Stands, IndicesAscend, lesser, IsLeastOr, IsGreater, IsStray, StraysBehind, StandBehind, Strays, AllStand}
use Rattle.std.specs.List.Sorted.{IsStrictlyIncreasing}
use Rattle.plant_workers.proofs.ReceiptsLemmas.LeastLemmas.{lesser_assoc, least_both, least_alone}

increasing-tail : (n m : ℕ) (ns : List ℕ) → IsStrictlyIncreasing (n ∷ m ∷ ns) → IsStrictlyIncreasing (m ∷ ns)
increasing-tail n m ns up = λ k lt.
    let next : suc k + 1 ≡ suc (k + 1) = omega arith in
    subst (λ j. slice_index (m ∷ ns) k < slice_index (n ∷ m ∷ ns) j) next (up (suc k) (omega (arith, lt)))

increasing-cons : (n m : ℕ) (ns : List ℕ) → n < m → IsStrictlyIncreasing (m ∷ ns) → IsStrictlyIncreasing (n ∷ m ∷ ns)
increasing-cons n m ns lt up = by
  where
    by : (k : ℕ) → k + 1 < length (n ∷ m ∷ ns) → slice_index (n ∷ m ∷ ns) k < slice_index (n ∷ m ∷ ns) (k + 1)
    by zero within = lt
    by (suc k) within =
        let next : suc (k + 1) ≡ suc k + 1 = omega arith in
        subst (λ j. slice_index (m ∷ ns) k < slice_index (n ∷ m ∷ ns) j) next (up k (omega (arith, within)))

module _ (history : List Entry) where
  not_stray : (before : Option ℕ) (r : Receipt) → Stands history r × IsGreater before r.index → ¬ IsStray history before r
  not_stray before r fine (inl ne) = ne fine.0
  not_stray before r fine (inr ne) = ne fine.1

  -- ---- of one caller

  pub none_behind : (before : Option ℕ) (receipts : List Receipt) → StandBehind history before receipts → (k : ℕ) → ¬ StraysBehind history before receipts k
  none_behind before [] fine k h = h
  none_behind before (r ∷ later) fine k h = ⊎_elim (λ here. not_stray before r (fine.0, fine.1) here.1) (none_behind (Some r.index) later fine.2 k) h

  caller_cons : (before : Option ℕ) (r : Receipt) (later : List Receipt) (here rest : Option ℕ)
      → MatchOption here (Stands history r × IsGreater before r.index) (λ index. (r.index ≡ index) × IsStray history before r)
      → IsLeastOr (StraysBehind history (Some r.index) later) (StandBehind history (Some r.index) later) rest
      → IsLeastOr (StraysBehind history before (r ∷ later)) (StandBehind history before (r ∷ later)) (lesser here rest)
  caller_cons before r later here rest first others =
      flat (lesser here rest)
      (least_both (λ k. (r.index ≡ k) × IsStray history before r) (StraysBehind history (Some r.index) later)
      (Stands history r × IsGreater before r.index) (StandBehind history (Some r.index) later) here rest
      (least_alone r.index (IsStray history before r) (Stands history r × IsGreater before r.index) here (not_stray before r) first) others)
    where
      flat : (o : Option ℕ)
          → IsLeastOr (λ k. ((r.index ≡ k) × IsStray history before r) ⊎ StraysBehind history (Some r.index) later k)
          ((Stands history r × IsGreater before r.index) × StandBehind history (Some r.index) later) o
          → IsLeastOr (StraysBehind history before (r ∷ later)) (StandBehind history before (r ∷ later)) o
      flat None h = ((h.0.0.0, h.0.0.1, h.0.1), h.1)
      flat (Some least) h = h

  pub caller_more : (all : ℕ → Type 0) (well : Type 0) (before : Option ℕ) (receipts : List Receipt) (i : ℕ) (r : Receipt) (here least : Option ℕ)
      → i < length receipts → r ≡ get_or receipts i r
      → MatchOption here (Stands history r × IsGreater before r.index) (λ index. (r.index ≡ index) × IsStray history before r)
      → ((o : Option ℕ) → IsLeastOr (StraysBehind history before (drop i receipts)) (StandBehind history before (drop i receipts)) o → IsLeastOr all well (lesser least o))
      → (o : Option ℕ) → IsLeastOr (StraysBehind history (Some r.index) (drop (i + 1) receipts)) (StandBehind history (Some r.index) (drop (i + 1) receipts)) o
      → IsLeastOr all well (lesser (lesser least here) o)
  caller_more all well before receipts i r here least lt is first so_far o rest =
      let split : drop i receipts ≡ r ∷ drop (i + 1) receipts = drop_more receipts i r lt ∙ ap (λ (x : Receipt). x ∷ drop (i + 1) receipts) (sym is) in
      subst (IsLeastOr all well) (sym (lesser_assoc least here o))
      (so_far (lesser here o)
      (subst (λ (rs : List Receipt). IsLeastOr (StraysBehind history before rs) (StandBehind history before rs) (lesser here o)) (sym split)
      (caller_cons before r (drop (i + 1) receipts) here o first rest)))

  pub caller_end : (all : ℕ → Type 0) (well : Type 0) (before : Option ℕ) (receipts : List Receipt) (i : ℕ) (least : Option ℕ) → length receipts ≤ i
      → ((o : Option ℕ) → IsLeastOr (StraysBehind history before (drop i receipts)) (StandBehind history before (drop i receipts)) o → IsLeastOr all well (lesser least o))
      → IsLeastOr all well (lesser least None)
  caller_end all well before receipts i least past so_far =
      so_far None
      (subst (λ (rs : List Receipt). IsLeastOr (StraysBehind history before rs) (StandBehind history before rs) None) (sym (drop_of_length-le receipts past)) (tt, λ k h. h))

  -- ---- of all callers

  pub none_strays : (callers : List (List Receipt)) → AllStand history callers → (k : ℕ) → ¬ Strays history callers k
  none_strays [] fine k h = h
  none_strays (receipts ∷ callers) fine k h = ⊎_elim (none_behind None receipts fine.0 k) (none_strays callers fine.1 k) h

  pub callers_more : (all : ℕ → Type 0) (well : Type 0) (callers : List (List Receipt)) (i : ℕ) (receipts : List Receipt) (here least : Option ℕ)
      → i < length callers → receipts ≡ get_or callers i receipts
      → IsLeastOr (StraysBehind history None receipts) (StandBehind history None receipts) here
      → ((o : Option ℕ) → IsLeastOr (Strays history (drop i callers)) (AllStand history (drop i callers)) o → IsLeastOr all well (lesser least o))
      → (o : Option ℕ) → IsLeastOr (Strays history (drop (i + 1) callers)) (AllStand history (drop (i + 1) callers)) o
      → IsLeastOr all well (lesser (lesser least here) o)
  callers_more all well callers i receipts here least lt is first so_far o rest =
      let split : drop i callers ≡ receipts ∷ drop (i + 1) callers = drop_more callers i receipts lt ∙ ap (λ (x : List Receipt). x ∷ drop (i + 1) callers) (sym is) in
      subst (IsLeastOr all well) (sym (lesser_assoc least here o))
      (so_far (lesser here o)
      (subst (λ (cs : List (List Receipt)). IsLeastOr (Strays history cs) (AllStand history cs) (lesser here o)) (sym split)
      (least_both (StraysBehind history None receipts) (Strays history (drop (i + 1) callers)) (StandBehind history None receipts) (AllStand history (drop (i + 1) callers)) here o first rest)))

  pub callers_end : (all : ℕ → Type 0) (well : Type 0) (callers : List (List Receipt)) (i : ℕ) (least : Option ℕ) → length callers ≤ i
      → ((o : Option ℕ) → IsLeastOr (Strays history (drop i callers)) (AllStand history (drop i callers)) o → IsLeastOr all well (lesser least o))
      → IsLeastOr all well (lesser least None)
  callers_end all well callers i least past so_far =
      so_far None
      (subst (λ (cs : List (List Receipt)). IsLeastOr (Strays history cs) (AllStand history cs) None) (sym (drop_of_length-le callers past)) (tt, λ k h. h))

  -- ---- in std's words

  -- each stands
  pub all_stand : (before : Option ℕ) (receipts : List Receipt) → StandBehind history before receipts → All (Stands history) receipts
  all_stand before [] fine = All-nil (Stands history)
  all_stand before (r ∷ later) fine = All-cons (Stands history) r later fine.0 (all_stand (Some r.index) later fine.2)

  indices_more : (n : ℕ) (receipts : List Receipt) → StandBehind history (Some n) receipts → IsStrictlyIncreasing (n ∷ map (λ r. r.index) receipts)
  indices_more n [] fine = λ k lt. absurd (omega (arith, lt))
  indices_more n (r ∷ later) fine = increasing-cons n r.index (map (λ (x : Receipt). x.index) later) fine.1 (indices_more r.index later fine.2)

  pub ascending : (receipts : List Receipt) → StandBehind history None receipts → IndicesAscend receipts
  ascending [] fine = λ k lt. absurd (omega arith)
  ascending (r ∷ later) fine = indices_more r.index later fine.2

  stand_more : (n : ℕ) (receipts : List Receipt) → All (Stands history) receipts → IsStrictlyIncreasing (n ∷ map (λ r. r.index) receipts) → StandBehind history (Some n) receipts
  stand_more n [] all up = tt
  stand_more n (r ∷ later) all up =
      (All-head (Stands history) r later all, up 0 (omega arith), stand_more r.index later (All-tail (Stands history) r later all) (increasing-tail n r.index (map (λ (x : Receipt). x.index) later) up))

  pub stand_all : (receipts : List Receipt) → All (Stands history) receipts → IndicesAscend receipts → StandBehind history None receipts
  stand_all [] all up = tt
  stand_all (r ∷ later) all up = (All-head (Stands history) r later all, tt, stand_more r.index later (All-tail (Stands history) r later all) up)

  pub callers_stand : (callers : List (List Receipt)) → AllStand history callers → All (λ receipts. All (Stands history) receipts) callers
  callers_stand [] fine = All-nil (λ (receipts : List Receipt). All (Stands history) receipts)
  callers_stand (receipts ∷ callers) fine = All-cons (λ (receipts : List Receipt). All (Stands history) receipts) receipts callers (all_stand None receipts fine.0) (callers_stand callers fine.1)

  pub callers_ascend : (callers : List (List Receipt)) → AllStand history callers → All IndicesAscend callers
  callers_ascend [] fine = All-nil IndicesAscend
  callers_ascend (receipts ∷ callers) fine = All-cons IndicesAscend receipts callers (ascending receipts fine.0) (callers_ascend callers fine.1)

  pub stand_callers : (callers : List (List Receipt)) → All (λ receipts. All (Stands history) receipts) callers → All IndicesAscend callers → AllStand history callers
  stand_callers [] all up = tt
  stand_callers (receipts ∷ callers) all up = (
    stand_all receipts (All-head (λ (receipts : List Receipt). All (Stands history) receipts) receipts callers all) (All-head IndicesAscend receipts callers up),
    stand_callers callers (All-tail (λ (receipts : List Receipt). All (Stands history) receipts) receipts callers all) (All-tail IndicesAscend receipts callers up),
  )
