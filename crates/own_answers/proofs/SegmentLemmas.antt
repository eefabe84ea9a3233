-- Texts one after the other in segments.
use Rattle.std.proofs.Common.{◌≡◌, ◌∙◌, refl, sym, ap, subst, arith, ℕ, ◌+◌, ◌<◌, ◌≤◌, ◌⊎◌, inl, inr, List, [], ◌∷◌, ◌++◌, length, map, Result, Ok, Err, OnOk, append-nil}
use Rattle.std.specs.Prelude.{Vec}
use Rattle.std.specs.declared.alloc.Global.{Global}
use Rattle.std.proofs.lemmas.List.{append_assoc, map-append}
use Rattle.own_answers.specs.Segments.{concatenation, IsTextPut, AreTextsPut, IsAlone, FitsSegment, AllFitSegments, AreSegments, TextsAreWhole}
use Rattle.own_answers.specs.Writing.{byte_lists}

joined-append : {A : Type 0} (xs ys : List (List A)) → concatenation (xs ++ ys) ≡ concatenation xs ++ concatenation ys
joined-append [] ys = refl
joined-append (x ∷ xs) ys = ap (λ l. x ++ l) (joined-append xs ys) ∙ sym (append_assoc x (concatenation xs) (concatenation ys))

-- a text more
joined_more : {A : Type 0} (texts : List (List A)) (text : List A) → concatenation (texts ++ text ∷ []) ≡ concatenation texts ++ text
joined_more texts text = joined-append texts (text ∷ []) ∙ ap (λ l. concatenation texts ++ l) (append-nil text)

length-append : {A : Type 0} (xs ys : List A) → length (xs ++ ys) ≡ length xs + length ys
length-append [] ys = omega arith
length-append (x ∷ xs) ys = omega (arith, length-append xs ys)

length_more : (texts : List (List ℕ)) (text : List ℕ) → length (concatenation (texts ++ text ∷ [])) ≡ length (concatenation texts) + length text
length_more texts text = ap (λ (l : List ℕ). length l) (joined_more texts text) ∙ length-append (concatenation texts) text

alone : (most : ℕ) (texts : List (List ℕ)) (text : List ℕ) → concatenation texts ≡ [] → FitsSegment most (texts ++ text ∷ [])
alone most texts text none = inr (text, record { before = texts; after = []; are = refl; none_before = none; none_after = refl })

-- an empty text changes nothing
fits_empty : (most : ℕ) (texts : List (List ℕ)) → FitsSegment most texts → FitsSegment most (texts ++ [] ∷ [])
fits_empty most texts (inl few) = inl (omega (arith, few, length_more texts []))
fits_empty most texts (inr (text, is)) =
    inr (
      text,
      record {
        before = is.before;
        after = is.after ++ [] ∷ [];
        are = ap (λ l. l ++ [] ∷ []) is.are ∙ append_assoc is.before (text ∷ is.after) ([] ∷ []);
        none_before = is.none_before;
        none_after = joined_more is.after [] ∙ (append-nil (concatenation is.after) ∙ is.none_after);
      },
    )

fits_more : (most : ℕ) (texts : List (List ℕ)) (text current : List ℕ) → current ≡ concatenation texts → FitsSegment most texts
    → (0 < length text → 0 < length current → length current + length text ≤ most) → FitsSegment most (texts ++ text ∷ [])
fits_more most texts [] current is fits few = fits_empty most texts fits
fits_more most texts (byte ∷ text) [] is fits few = alone most texts (byte ∷ text) (sym is)
fits_more most texts (byte ∷ text) (first ∷ current) is fits few =
    let same : length (first ∷ current) ≡ length (concatenation texts) = ap (λ (l : List ℕ). length l) is in
    inl (omega (arith, few (omega arith) (omega arith), same, length_more texts (byte ∷ text)))

all_fit_more : (most : ℕ) (groups : List (List (List ℕ))) (texts : List (List ℕ)) → AllFitSegments most groups → FitsSegment most texts → AllFitSegments most (groups ++ texts ∷ [])
all_fit_more most [] texts all fits = (fits, tt)
all_fit_more most (group ∷ groups) texts all fits = (all.0, all_fit_more most groups texts all.1 fits)

one_more : (most : ℕ) (before : List (List ℕ)) (text : List ℕ) (closed : List (List ℕ)) (current : List ℕ) (closed' : List (List ℕ)) (current' : List ℕ)
    → AreSegments most before closed current → IsTextPut most text closed current closed' current' → AreSegments most (before ++ text ∷ []) closed' current'
one_more most before text closed current closed' current' so (inl put) = record {
  groups = so.groups;
  last = so.last ++ text ∷ [];
  all = ap (λ l. l ++ text ∷ []) so.all ∙ append_assoc (concatenation so.groups) so.last (text ∷ []);
  closed_are = put.0 ∙ so.closed_are;
  current_is = put.1 ∙ (ap (λ l. l ++ text) so.current_is ∙ sym (joined_more so.last text));
  closed_fit = so.closed_fit;
  current_fits = fits_more most so.last text current so.current_is so.current_fits put.2;
}
one_more most before text closed current closed' current' so (inr put) = record {
  groups = so.groups ++ so.last ∷ [];
  last = text ∷ [];
  all = ap (λ l. l ++ text ∷ []) (so.all ∙ sym (joined_more so.groups so.last));
  closed_are = put.0 ∙ (ap (λ l. l ++ current ∷ []) so.closed_are
      ∙ (ap (λ x. map concatenation so.groups ++ x ∷ []) so.current_is ∙ sym (map-append concatenation so.groups (so.last ∷ []))));
  current_is = put.1 ∙ sym (append-nil text);
  closed_fit = all_fit_more most so.groups so.last so.closed_fit so.current_fits;
  current_fits = alone most [] text refl;
}

texts_more : (most : ℕ) (before texts : List (List ℕ)) (closed : List (List ℕ)) (current : List ℕ) (closed' : List (List ℕ)) (current' : List ℕ)
    → AreSegments most before closed current → AreTextsPut most texts closed current closed' current' → AreSegments most (before ++ texts) closed' current'
texts_more most before [] closed current closed' current' so put =
    subst (λ (t : List (List ℕ)). AreSegments most t closed' current') (sym (append-nil before))
    (subst (λ (c : List (List ℕ)). AreSegments most before c current') (sym put.0) (subst (λ (c : List ℕ). AreSegments most before closed c) (sym put.1) so))
texts_more most before (text ∷ texts) closed current closed' current' so put =
    subst (λ (t : List (List ℕ)). AreSegments most t closed' current') (append_assoc before (text ∷ []) texts)
    (texts_more most (before ++ text ∷ []) texts put.0 put.1 closed' current' (one_more most before text closed current put.0 put.1 so put.2) put.3)

pub texts_are_whole : TextsAreWhole
texts_are_whole most texts closed current put =
    texts_more most [] texts [] [] closed current
    (record { groups = []; last = []; all = refl; closed_are = refl; current_is = refl; closed_fit = tt; current_fits = inl (omega arith) }) put

-- ---- one text

pub put_here : (most size : ℕ) (text : List ℕ) (closed : List (List ℕ)) (current : List ℕ) (closed' : List (List ℕ)) (current' : List ℕ)
    → closed' ≡ closed → current' ≡ current ++ text → size ≡ length current → (0 < length text → 0 < size → size + length text ≤ most)
    → IsTextPut most text closed current closed' current'
put_here most size text closed current closed' current' closed_are current_is size_is few =
    inl (closed_are, current_is, subst (λ (n : ℕ). 0 < length text → 0 < n → n + length text ≤ most) size_is few)

pub size_here : (size : ℕ) (text current current' : List ℕ) → current' ≡ current ++ text → size ≡ length current → size + length text ≡ length current'
size_here size text current current' current_is size_is =
    let same : length current' ≡ length (current ++ text) = ap (λ (l : List ℕ). length l) current_is in
    omega (arith, same, size_is, length-append current text)

pub put_there : {T E : Type 0} (r : Result T E) (most : ℕ) (text : List ℕ) (closed : List (List ℕ)) (current : List ℕ) (closed' : List (List ℕ)) (current' : List ℕ)
    → OnOk r ((closed' ≡ closed ++ current ∷ []) × (current' ≡ text)) → OnOk r (IsTextPut most text closed current closed' current')
put_there (Ok x) most text closed current closed' current' put = inr put
put_there (Err e) most text closed current closed' current' put = tt

pub next_is : (none text current' : List ℕ) → none ≡ [] → current' ≡ none ++ text → current' ≡ text
next_is none text current' is current_is = current_is ∙ ap (λ (l : List ℕ). l ++ text) is

-- ---- segments in memory

pub closed_more : (segments segments' : List (Vec ℕ Global)) (copy : Vec ℕ Global) (bytes : List ℕ) → segments' ≡ segments ++ copy ∷ [] → copy.items ≡ bytes
    → byte_lists segments' ≡ byte_lists segments ++ bytes ∷ []
closed_more segments segments' copy bytes are is =
    ap byte_lists are ∙ (map-append (λ (v : Vec ℕ Global). v.items) segments (copy ∷ []) ∙ ap (λ (l : List ℕ). byte_lists segments ++ l ∷ []) is)
