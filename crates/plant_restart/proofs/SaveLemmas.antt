-- The states of a core's operators, as they are saved.
use Rattle.std.proofs.Common.{◌≡◌, ℕ, zero, suc, ◌+◌, ◌≤◌, List, [], ◌∷◌, ◌++◌, map, take, Option, Some, None, option_map, sym, ap, ap₂, ◌∙◌, add-one}
use Rattle.plant_restart.proofs.Common.{slice_get, length-map, map-append, none-some, same_Some, slice_get-map, OperatorState, Operator, BookView, CoreView, SavedOperator, state_of, saved_state, Rests, over_map, map_is, state_of_book, states_by_name, saved_book, saved_by_name}
use Rattle.snapshot_format.proofs.StateLemmas.{state_is}
use Rattle.plant_core.specs.live.DeskView.{book_of}

-- ---- one operator after the other

take_one : (books : List BookView) (op : ℕ) (book : BookView) → slice_get books op ≡ Some book → take (suc op) books ≡ take op books ++ book ∷ []
take_one [] op book e = let f : ◌≡◌ {A = Option BookView} None (Some book) = e in absurd (none-some book f)
take_one (b ∷ books) zero book e = ap (λ (x : BookView). x ∷ []) (same_Some b book e)
take_one (b ∷ books) (suc op) book e = ap (λ (xs : List BookView). b ∷ xs) (take_one books op book e)

pub saved_more : (books : List BookView) (op : ℕ) (o : Operator) (saved more : List SavedOperator) (one : SavedOperator) → slice_get books op ≡ Some (book_of o) → one ≡ saved_state o.row.name o.state → more ≡ saved ++ one ∷ []
    → saved ≡ map saved_book (take op books) → more ≡ map saved_book (take (op + 1) books)
saved_more books op o saved more one here is grows so_far =
    grows
    ∙ (ap₂ (λ (xs : List SavedOperator) (x : SavedOperator). xs ++ x ∷ []) so_far is
    ∙ (sym (map-append saved_book (take op books) (book_of o ∷ []))
    ∙ ap (map saved_book) (sym (take_one books op (book_of o) here) ∙ ap (λ (n : ℕ). take n books) (sym (add-one op)))))

-- ---- the states

one_state : (frame : ℕ) (book : BookView) → book.state.frame ≡ frame → state_of_book book ≡ saved_by_name frame (saved_book book)
one_state frame book at = ap (λ (s : OperatorState). (book.row.name, s)) (sym (ap (λ (n : ℕ). state_of n (saved_state book.row.name book.state)) (sym at) ∙ state_is book.row.name book.state))

pub states_saved : (live : CoreView) (frame : ℕ) (operators : List SavedOperator) → operators ≡ map saved_book live.books → Rests live frame → map (saved_by_name frame) operators ≡ states_by_name live
states_saved live frame operators are rests =
    ap (map (saved_by_name frame)) are
    ∙ (over_map (saved_by_name frame) saved_book live.books
    ∙ map_is (λ (book : BookView). saved_by_name frame (saved_book book)) live.books (states_by_name live) (sym (length-map live.books state_of_book))
    (λ i book here.
    slice_get-map state_of_book live.books i
    ∙ (ap (option_map state_of_book) here ∙ ap (λ (s : List ℕ × OperatorState). let o : Option (List ℕ × OperatorState) = Some s in o) (one_state frame book (rests.before i book here)))))
