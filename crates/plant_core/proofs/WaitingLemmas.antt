-- Frames that wait.
use Rattle.std.proofs.Common.{◌≡◌, ℕ, zero, suc, ◌+◌, ◌<◌, ◌≤◌, List, [], ◌∷◌, ◌++◌, length, get_or, drop, All, Result, Ok, Err, OnErr, Some, None, IsSome, refl, sym, ap, subst, ◌∙◌, append-nil, arith}
use Rattle.plant_core.proofs.Common.{slice_get, slice_index_or, flat_map, drop-append-le, drop_more, filter_map-append, ElementsFields, ConstsFields, RowFields, Action, Entry, Output, own_step, BookView, AreTold, IsReplay, book_after_action, frame_with_number, frames_of}
use Rattle.std.proofs.lemmas.List.Concat.{flat_map-append}
use Rattle.operator_model.specs.State.{OperatorState, operator}
use Rattle.plant_core.proofs.LiveLemmas.FrameLemmas.{first_none, first_alone, one_frame}
use Rattle.plant_core.specs.Waiting.{frames_in, waiting_in, IsOneFrame}

frames_append : (xs ys : List Entry) → frames_in (xs ++ ys) ≡ frames_in xs ++ frames_in ys
frames_append xs ys =
    ap frames_of (flat_map-append (λ (entry : Entry). entry.outputs) xs ys)
    ∙ filter_map-append frame_with_number (flat_map (λ (entry : Entry). entry.outputs) xs) (flat_map (λ (entry : Entry). entry.outputs) ys)

frames_one : (entry : Entry) → frames_in (entry ∷ []) ≡ frames_of entry.outputs
frames_one entry = ap frames_of (append-nil entry.outputs)

-- what an action puts out waits behind what waited
pub waiting_acted : (book : BookView) (action : Action) (place : ℕ) → place ≤ length book.history
    → waiting_in (book_after_action book action).history place ≡ waiting_in book.history place ++ frames_of (own_step (operator book.consts book.row book.state) action).outputs
waiting_acted book action place within =
    let entry : Entry = record { action = action; outputs = (own_step (operator book.consts book.row book.state) action).outputs } in
    ap frames_in (drop-append-le place book.history (entry ∷ []) within)
    ∙ (frames_append (drop place book.history) (entry ∷ [])
    ∙ ap (λ (fs : List (ℕ × ElementsFields)). waiting_in book.history place ++ fs) (frames_one entry))

-- the frames from one entry more on
pub waiting_more : (history : List Entry) (place : ℕ) (d : Entry) → place < length history
    → waiting_in history place ≡ frames_of (get_or history place d).outputs ++ waiting_in history (place + 1)
waiting_more history place d lt =
    ap frames_in (drop_more history place d lt)
    ∙ filter_map-append frame_with_number (get_or history place d).outputs (flat_map (λ (entry : Entry). entry.outputs) (drop (place + 1) history))

pub none_here : (history : List Entry) (place : ℕ) (d : Entry) → place < length history → slice_get (frames_of (get_or history place d).outputs) 0 ≡ None
    → waiting_in history (place + 1) ≡ waiting_in history place
none_here history place d lt none =
    sym (waiting_more history place d lt ∙ ap (λ (fs : List (ℕ × ElementsFields)). fs ++ waiting_in history (place + 1)) (first_none (frames_of (get_or history place d).outputs) none))

pub one_here : (history : List Entry) (place : ℕ) (d : Entry) (frame : ℕ × ElementsFields) → place < length history → IsOneFrame (get_or history place d)
    → slice_get (frames_of (get_or history place d).outputs) 0 ≡ Some frame → waiting_in history place ≡ frame ∷ waiting_in history (place + 1)
one_here history place d frame lt one some =
    waiting_more history place d lt
    ∙ ap (λ (fs : List (ℕ × ElementsFields)). fs ++ waiting_in history (place + 1)) (first_alone (frames_of (get_or history place d).outputs) frame some one)

some_front : {X : Type 0} (xs ys : List X) → IsSome (slice_get xs 0) → IsSome (slice_get (xs ++ ys) 0)
some_front [] ys h = cc
some_front (x ∷ xs) ys h = refl

pub some_here : (history : List Entry) (place : ℕ) (d : Entry) (from : ℕ) (outputs : List Output) → place < length history → waiting_in history place ≡ waiting_in history from
    → outputs ≡ (get_or history place d).outputs → IsSome (slice_get (frames_of outputs) 0) → IsSome (slice_get (waiting_in history from) 0)
some_here history place d from outputs lt here is some =
    subst (λ (fs : List (ℕ × ElementsFields)). IsSome (slice_get fs 0)) (sym (waiting_more history place d lt) ∙ here)
    (some_front (frames_of (get_or history place d).outputs) (waiting_in history (place + 1))
    (subst (λ (os : List Output). IsSome (slice_get (frames_of os) 0)) is some))

pub on_err : {T E : Type 0} {P : Type 0} (r : Result T E) → P → OnErr r P
on_err (Ok x) p = tt
on_err (Err y) p = p

all_more : (entry : Entry) (history : List Entry) → IsOneFrame entry → All IsOneFrame history → (k : ℕ) (d : Entry) → k < length (entry ∷ history)
    → IsOneFrame (slice_index_or (entry ∷ history) k d)
all_more entry history one others zero d lt = one
all_more entry history one others (suc k) d lt = others k d (omega (arith, lt))

all_one : (consts : ConstsFields) (row : RowFields) (state : OperatorState) (history : List Entry) → AreTold (operator consts row state) history → All IsOneFrame history
all_one consts row state [] told = λ k d lt. absurd (omega (arith, lt))
all_one consts row state (entry ∷ history) told =
    all_more entry history
    (subst (λ (outputs : List Output). length (frames_of outputs) ≤ 1) (sym told.1) (one_frame consts row state entry.action))
    (all_one consts row (own_step (operator consts row state) entry.action).state history told.2)

pub replay_one : (book : BookView) → IsReplay book.consts book.row book.history book.state → All IsOneFrame book.history
replay_one book replay = all_one book.consts book.row _ book.history replay.told
