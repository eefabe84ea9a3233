-- How far an operator has come, step by step.
use Rattle.std.proofs.Common.{◌≡◌, ℕ, zero, suc, ◌+◌, ◌<◌, ◌≤◌, Bool, true, false, cond, List, [], ◌∷◌, ◌++◌, length, take, count_by, Option, Some, None, ◌⊎◌, inl, inr, refl, sym, ap, ◌∙◌, subst, arith, zero-add}
use Rattle.plant_workers.proofs.PlanLemmas.Common.{slice_get, filter_map, cases_eq, false≢true, length-append, length-take-le, take-append-le, sum_by-append, count_by-le-length, same_Some, slice_get_within, RowFields, Tick, Step, action_of, own_steps, is_collect, Course, IsTickAt, IsCourse}
use Rattle.operator_model.specs.declared.action.Action.{Action}
use Rattle.operator_model.specs.Frames.{is_tick}
use Rattle.plant_workers.proofs.AuditLemmas.Differing.{gives_none, gives_some, more_none, more_some}
use Rattle.plant_workers.proofs.PlanLemmas.Counts.{one_more, no_more}

-- ---- lists
module _ {X : Type 0} where
  pub get_front : (xs ys : List X) (i : ℕ) → i < length xs → slice_get (xs ++ ys) i ≡ slice_get xs i
  get_front [] ys i lt = absurd (omega arith)
  get_front (x ∷ xs) ys zero lt = refl
  get_front (x ∷ xs) ys (suc i) lt = get_front xs ys i (omega arith)

  pub get_last : (xs : List X) (x : X) (i : ℕ) → i ≡ length xs → slice_get (xs ++ x ∷ []) i ≡ Some x
  get_last [] x zero e = refl
  get_last [] x (suc i) e = absurd (omega arith)
  get_last (y ∷ xs) x zero e = absurd (omega arith)
  get_last (y ∷ xs) x (suc i) e = get_last xs x i (omega arith)

  take_end : (xs ys : List X) (i : ℕ) → i ≡ length xs → take i (xs ++ ys) ≡ xs
  take_end [] ys zero e = refl
  take_end [] ys (suc i) e = absurd (omega arith)
  take_end (x ∷ xs) ys zero e = absurd (omega arith)
  take_end (x ∷ xs) ys (suc i) e = ap (λ (zs : List X). x ∷ zs) (take_end xs ys i (omega arith))

  pub length_end : (xs : List X) (x : X) → length (xs ++ x ∷ []) ≡ length xs + 1
  length_end xs x = length-append xs (x ∷ [])

-- ---- a Tick, in one action more
module _ (own : List Action) (a : Action) (count place : ℕ) (at : IsTickAt (own ++ a ∷ []) count place) where
  earlier : place < length own → IsTickAt own count place
  earlier lt = record {
    tick = sym (get_front own (a ∷ []) place lt) ∙ at.tick;
    counted = sym (ap (λ (done : List Action). count_by is_tick done) (take-append-le place own (a ∷ []) (omega arith))) ∙ at.counted;
  }

  is_last : (place ≡ length own) → (a ≡ Tick) × (count ≡ count_by is_tick own)
  is_last e = (
    same_Some a Tick (sym (get_last own a place e) ∙ at.tick),
    sym at.counted ∙ ap (λ (done : List Action). count_by is_tick done) (take_end own (a ∷ []) place e),
  )

  one_of : (place < length own) ⊎ (place ≡ length own)
  one_of = by (cases_eq place (length own))
    where
      by : (place ≡ length own) ⊎ (place ≡ length own → ⊥) → (place < length own) ⊎ (place ≡ length own)
      by (inl e) = inr e
      by (inr ne) =
          let within = slice_get_within (own ++ a ∷ []) place Tick at.tick in
          let long = length_end own a in
          inl (omega (arith, within, long, ne))

-- ---- one step more
module _ (row : RowFields) (op : ℕ) (all : List Step) (at : ℕ) (step : Step) (here : slice_get all at ≡ Some step) where
  module _ (c : Course) (is : IsCourse row op (take at all) c) where
    pub course_none : action_of row op step ≡ None → is_collect op step ≡ false → IsCourse row op (take (at + 1) all) c
    course_none e not_so = record {
      actions = is.actions ∙ ap (λ (done : List Action). length done) (sym (more_none (action_of row op) all at step here e));
      collects = is.collects ∙ sym (no_more (is_collect op) all at step here not_so);
      many = is.many ∙ ap (λ (done : List Action). count_by is_tick done) (sym (more_none (action_of row op) all at step here e));
      ticks = λ count place t. is.ticks count place (subst (λ (done : List Action). IsTickAt done count place) (more_none (action_of row op) all at step here e) t);
    }

    pub course_collects : action_of row op step ≡ None → is_collect op step ≡ true → IsCourse row op (take (at + 1) all) (record c { collects = c.collects + 1 })
    course_collects e is_so = record {
      actions = is.actions ∙ ap (λ (done : List Action). length done) (sym (more_none (action_of row op) all at step here e));
      collects = ap (λ (n : ℕ). n + 1) is.collects ∙ sym (one_more (is_collect op) all at step here is_so);
      many = is.many ∙ ap (λ (done : List Action). count_by is_tick done) (sym (more_none (action_of row op) all at step here e));
      ticks = λ count place t. is.ticks count place (subst (λ (done : List Action). IsTickAt done count place) (more_none (action_of row op) all at step here e) t);
    }

    module _ (a : Action) (e : action_of row op step ≡ Some a) (not_so : is_collect op step ≡ false) where
      grown : length (own_steps row op (take (at + 1) all)) ≡ length (own_steps row op (take at all)) + 1
      grown = ap (λ (done : List Action). length done) (more_some (action_of row op) all at step here a e) ∙ length_end (own_steps row op (take at all)) a

      counted : count_by is_tick (own_steps row op (take (at + 1) all)) ≡ count_by is_tick (own_steps row op (take at all)) + cond (is_tick a) 1 0
      counted =
          ap (λ (done : List Action). count_by is_tick done) (more_some (action_of row op) all at step here a e)
          ∙ (sum_by-append (λ (x : Action). cond (is_tick x) 1 0) (own_steps row op (take at all)) (a ∷ [])
          ∙ ap (λ (n : ℕ). count_by is_tick (own_steps row op (take at all)) + n) (zero-add (cond (is_tick a) 1 0)))

      pub course_acts : is_tick a ≡ false → IsCourse row op (take (at + 1) all) (record c { actions = c.actions + 1 })
      course_acts other = record {
        actions = ap (λ (n : ℕ). n + 1) is.actions ∙ sym grown;
        collects = is.collects ∙ sym (no_more (is_collect op) all at step here not_so);
        many = let none : cond {A = ℕ} (is_tick a) 1 0 ≡ 0 = ap (λ (b : Bool). cond b 1 0) other in omega (arith, is.many, counted, none);
        ticks = λ count place t.
            let there : IsTickAt (own_steps row op (take at all) ++ a ∷ []) count place = subst (λ (done : List Action). IsTickAt done count place) (more_some (action_of row op) all at step here a e) t in
            by count place there (one_of (own_steps row op (take at all)) a count place there);
      }
        where
          by : (count place : ℕ) → IsTickAt (own_steps row op (take at all) ++ a ∷ []) count place → (place < length (own_steps row op (take at all))) ⊎ (place ≡ length (own_steps row op (take at all)))
              → slice_get c.behind.items count ≡ Some (place + 1)
          by count place there (inl lt) = is.ticks count place (earlier (own_steps row op (take at all)) a count place there lt)
          by count place there (inr end) =
              absurd (false≢true (sym other ∙ ap is_tick (is_last (own_steps row op (take at all)) a count place there end).0))

      pub course_ticks : is_tick a ≡ true → (d : Course) → d.actions ≡ c.actions + 1 → d.collects ≡ c.collects → d.behind.items ≡ c.behind.items ++ (c.actions + 1) ∷ [] → IsCourse row op (take (at + 1) all) d
      course_ticks is_so d actions collects behind = record {
        actions = actions ∙ (ap (λ (n : ℕ). n + 1) is.actions ∙ sym grown);
        collects = collects ∙ (is.collects ∙ sym (no_more (is_collect op) all at step here not_so));
        many =
            ap (λ (ns : List ℕ). length ns) behind
            ∙ (length_end c.behind.items (c.actions + 1)
            ∙ (let one : cond {A = ℕ} (is_tick a) 1 0 ≡ 1 = ap (λ (b : Bool). cond b 1 0) is_so in omega (arith, is.many, counted, one)));
        ticks = λ count place t.
            let there : IsTickAt (own_steps row op (take at all) ++ a ∷ []) count place = subst (λ (done : List Action). IsTickAt done count place) (more_some (action_of row op) all at step here a e) t in
            ap (λ (ns : List ℕ). slice_get ns count) behind ∙ by count place there (one_of (own_steps row op (take at all)) a count place there);
      }
        where
          by : (count place : ℕ) → IsTickAt (own_steps row op (take at all) ++ a ∷ []) count place → (place < length (own_steps row op (take at all))) ⊎ (place ≡ length (own_steps row op (take at all)))
              → slice_get (c.behind.items ++ (c.actions + 1) ∷ []) count ≡ Some (place + 1)
          by count place there (inl lt) =
              let was = is.ticks count place (earlier (own_steps row op (take at all)) a count place there lt) in
              get_front c.behind.items ((c.actions + 1) ∷ []) count (slice_get_within c.behind.items count (place + 1) was) ∙ was
          by count place there (inr end) =
              let last = is_last (own_steps row op (take at all)) a count place there end in
              get_last c.behind.items (c.actions + 1) count (last.1 ∙ sym is.many)
              ∙ ap (λ (n : ℕ). Some (n + 1)) (is.actions ∙ sym end)

-- ---- how much there can be
module _ {X Y : Type 0} (f : X → Option Y) where
  one_longer : (x : X) (xs : List X) → length (filter_map f xs) ≤ length xs → (o : Option Y) → f x ≡ o → length (filter_map f (x ∷ xs)) ≤ length (x ∷ xs)
  one_longer x xs rest None e = let same = ap (λ (ys : List Y). length ys) (gives_none f x xs e) in omega (arith, rest, same)
  one_longer x xs rest (Some y) e = let same = ap (λ (ys : List Y). length ys) (gives_some f x xs y e) in omega (arith, rest, same)

  length-filter_map : (xs : List X) → length (filter_map f xs) ≤ length xs
  length-filter_map [] = omega arith
  length-filter_map (x ∷ xs) = one_longer x xs (length-filter_map xs) (f x) refl

module _ (row : RowFields) (op : ℕ) (all : List Step) (at : ℕ) (within : at < length all) (c : Course) (is : IsCourse row op (take at all) c) where
  pub few_actions : c.actions ≤ at
  few_actions =
      let few = length-filter_map (action_of row op) (take at all) in
      let long = length-take-le at all (omega (arith, within)) in
      omega (arith, few, long, is.actions)

  pub few_collects : c.collects ≤ at
  few_collects =
      let few = count_by-le-length (is_collect op) (take at all) in
      let long = length-take-le at all (omega (arith, within)) in
      omega (arith, few, long, is.collects)
