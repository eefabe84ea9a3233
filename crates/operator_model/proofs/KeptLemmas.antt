-- The kept entries: each that waits has a flow of its own.
use Rattle.std.proofs.Common.{◌≡◌, ◌≢◌, ◌==◌, ◌&&◌, Option, Some, None, IsSome, IfSome, is_some, ℕ, suc, Bool, true, false, cond, List, [], ◌∷◌, get_or, All, AllPairs, find, map, filter, refl, sym, ap, subst, ◌∙◌, arith}
use Rattle.operator_model.proofs.Common.{AllByRecursion, and_parts, true≢false, All-head, All-tail, All-cons, All-map, All-weaker, AllPairs-cons, none-some, same_Some, Kind, Dsa, Dsc, Dsd, KeptEntry, GivenUp, is_waiting, is_response_due, is_given_up, given_up_of, given_up_in, Flow, flow_at, IsWaitingOf, HasItsFlow, HaveOwnFlows}

-- ---- pairs

pub pairs-head : {X : Type 0} (R : X → X → Type 0) (x : X) (xs : List X) → AllPairs R (x ∷ xs) → All (R x) xs
pairs-head R x xs pairs k d lt = pairs 0 (suc k) d (omega arith) (omega arith)

pub pairs-tail : {X : Type 0} (R : X → X → Type 0) (x : X) (xs : List X) → AllPairs R (x ∷ xs) → AllPairs R xs
pairs-tail R x xs pairs i j d lt within = pairs (suc i) (suc j) d (omega arith) (omega arith)

-- where both wait, they have flows of their own
abbrev pub AreApart : KeptEntry → KeptEntry → Type 0
AreApart a b = is_waiting a ≡ true → is_waiting b ≡ true → a.sfid ≢ b.sfid

-- ---- what is given up

-- the flow of what is given up is there, and waits
abbrev pub HasFlow : List (ℕ × Flow) → GivenUp → Type 0
HasFlow flows g = IsSome (flow_at g.sfid flows) × IfSome (flow_at g.sfid flows) (IsWaitingOf g.kind)

-- of all that is given up, each a flow of its own
abbrev pub HaveFlows : List (ℕ × Flow) → List GivenUp → Type 0
HaveFlows flows [] = Unit {0}
HaveFlows flows (g ∷ given_up) = HasFlow flows g × AllByRecursion (λ (h : GivenUp). g.sfid ≢ h.sfid) given_up × HaveFlows flows given_up

pub given_up_waits : (e : KeptEntry) → is_given_up e ≡ true → is_waiting e ≡ true
given_up_waits e given_up = (and_parts (is_response_due e) (is_waiting e) (and_parts (is_response_due e && is_waiting e) (e.resends_left == 0) given_up).0).1

-- an SFID that no waiting entry has is none of what is given up
pub none_given_up : (n : ℕ) (kept : List KeptEntry) → All (λ e. is_waiting e ≡ true → n ≢ e.sfid) kept → AllByRecursion (λ (h : GivenUp). n ≢ h.sfid) (given_up_in kept)
none_given_up n [] a = tt
none_given_up n (e ∷ kept) a = by (is_given_up e) refl (none_given_up n kept (All-tail Other e kept a))
  where
    Other : KeptEntry → Type 0
    Other e = is_waiting e ≡ true → n ≢ e.sfid

    by : (b : Bool) → is_given_up e ≡ b → AllByRecursion (λ (h : GivenUp). n ≢ h.sfid) (given_up_in kept) → AllByRecursion (λ (h : GivenUp). n ≢ h.sfid) (map given_up_of (cond b (e ∷ filter is_given_up kept) (filter is_given_up kept)))
    by true is rest = (All-head Other e kept a (given_up_waits e is), rest)
    by false is rest = rest

pub given_up-HaveFlows : (flows : List (ℕ × Flow)) (kept : List KeptEntry) → All (HasItsFlow flows) kept → HaveOwnFlows kept → HaveFlows flows (given_up_in kept)
given_up-HaveFlows flows [] has own = tt
given_up-HaveFlows flows (e ∷ kept) has own =
    by (is_given_up e) refl (given_up-HaveFlows flows kept (All-tail (HasItsFlow flows) e kept has) (pairs-tail AreApart e kept own))
  where
    by : (b : Bool) → is_given_up e ≡ b → HaveFlows flows (given_up_in kept) → HaveFlows flows (map given_up_of (cond b (e ∷ filter is_given_up kept) (filter is_given_up kept)))
    by true is rest =
        let waits = given_up_waits e is in
        (All-head (HasItsFlow flows) e kept has waits, none_given_up e.sfid kept (λ k d lt. pairs-head AreApart e kept own k d lt waits), rest)
    by false is rest = rest

-- ---- what a change of the flows leaves

-- the flow of each that waits stands as before
pub still-waiting : (flows after : List (ℕ × Flow)) (kept : List KeptEntry) → All (HasItsFlow flows) kept → All (λ e. is_waiting e ≡ true → flow_at e.sfid after ≡ flow_at e.sfid flows) kept → All (HasItsFlow after) kept
still-waiting flows after kept has same k d lt waits =
    subst (λ (o : Option Flow). IsSome o × IfSome o (IsWaitingOf (get_or kept k d).kind)) (sym (same k d lt waits)) (has k d lt waits)

-- no flow waits under this SFID
abbrev pub IsIdle : List (ℕ × Flow) → ℕ → Type 0
IsIdle flows sfid = IfSome (flow_at sfid flows) (λ flow. flow.pending ≡ None)

waiting-pending : (kind : Kind) (flow : Flow) → IsWaitingOf kind flow → IsSome flow.pending
waiting-pending Dsa flow waits = waits.0
waiting-pending Dsc flow waits = waits
waiting-pending Dsd flow waits = absurd waits

-- none that waits has it
pub idle-apart : (flows : List (ℕ × Flow)) (k : ℕ) (kept : List KeptEntry) → IsIdle flows k → All (HasItsFlow flows) kept → All (λ e. is_waiting e ≡ true → e.sfid ≢ k) kept
idle-apart flows k kept idle = All-weaker (HasItsFlow flows) (λ e. is_waiting e ≡ true → e.sfid ≢ k) (λ e has waits same.
    let h = has waits in
    by e.kind (flow_at e.sfid flows) h.0 h.1 (subst (λ (n : ℕ). IfSome (flow_at n flows) (λ (flow : Flow). flow.pending ≡ None)) (sym same) idle)) kept
  where
    by : (kind : Kind) (o : Option Flow) → IsSome o → IfSome o (IsWaitingOf kind) → IfSome o (λ (flow : Flow). flow.pending ≡ None) → ⊥
    by kind None some waits none = true≢false (sym some)
    by kind (Some flow) some waits none = true≢false (sym (waiting-pending kind flow waits) ∙ ap is_some none)

-- ---- pairs of a list that is mapped

pub pairs-map : {X Y : Type 0} (R : X → X → Type 0) (S : Y → Y → Type 0) (f : X → Y) → ((a b : X) → R a b → S (f a) (f b)) → (xs : List X) → AllPairs R xs → AllPairs S (map f xs)
pairs-map R S f step [] pairs = λ i j d lt within. absurd (omega arith)
pairs-map R S f step (x ∷ xs) pairs =
    AllPairs-cons S (f x) (map f xs) (All-map (S (f x)) f xs (All-weaker (R x) (λ y. S (f x) (f y)) (λ y r. step x y r) xs (pairs-head R x xs pairs)))
    (pairs-map R S f step xs (pairs-tail R x xs pairs))

-- ---- an entry that is found

pub All-find : {X : Type 0} (P : X → Type 0) (p : X → Bool) (xs : List X) (x : X) → All P xs → find p xs ≡ Some x → P x
All-find P p [] x a found = absurd (none-some x found)
All-find P p (y ∷ xs) x a found = by (All-find P p xs x (All-tail P y xs a)) (p y) found
  where
    by : (find p xs ≡ Some x → P x) → (b : Bool) → cond b (Some y) (find p xs) ≡ Some x → P x
    by more true here = subst P (same_Some y x here) (All-head P y xs a)
    by more false there = more there

pub passes-find : {X : Type 0} (p : X → Bool) (xs : List X) (x : X) → find p xs ≡ Some x → p x ≡ true
passes-find p [] x found = absurd (none-some x found)
passes-find p (y ∷ xs) x found = by (passes-find p xs x) (p y) refl found
  where
    by : (find p xs ≡ Some x → p x ≡ true) → (b : Bool) → p y ≡ b → cond b (Some y) (find p xs) ≡ Some x → p x ≡ true
    by more true is here = ap p (sym (same_Some y x here)) ∙ is
    by more false is there = more there

-- the others that wait have other flows than the first that passes a test, where only what waits passes it
pub find-apart : (p : KeptEntry → Bool) → ((e : KeptEntry) → p e ≡ true → is_waiting e ≡ true) → (kept : List KeptEntry) (x : KeptEntry) → HaveOwnFlows kept → find p kept ≡ Some x
    → All (λ e. p e ≡ false → is_waiting e ≡ true → e.sfid ≢ x.sfid) kept
find-apart p waits [] x own found = absurd (none-some x found)
find-apart p waits (y ∷ kept) x own found = by (find-apart p waits kept x (pairs-tail AreApart y kept own)) (p y) refl found
  where
    Apart : KeptEntry → Type 0
    Apart e = p e ≡ false → is_waiting e ≡ true → e.sfid ≢ x.sfid

    by : (find p kept ≡ Some x → All Apart kept) → (b : Bool) → p y ≡ b → cond b (Some y) (find p kept) ≡ Some x → All Apart (y ∷ kept)
    by more true is here =
        let same : y ≡ x = same_Some y x here in
        All-cons Apart y kept (λ fails. absurd (true≢false (sym is ∙ fails)))
        (λ k d lt fails waiting equal. pairs-head AreApart y kept own k d lt (waits y is) waiting (ap (λ (e : KeptEntry). e.sfid) same ∙ sym equal))
    by more false is there =
        All-cons Apart y kept (λ fails waiting. All-find (AreApart y) p kept x (pairs-head AreApart y kept own) there waiting (waits x (passes-find p kept x there)))
        (more there)
