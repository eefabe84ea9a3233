-- Lines that are taken of an input, a byte at a time.
use Rattle.std.proofs.Common.{◌≡◌, ◌≢◌, ◌<◌, ◌≤◌, ℕ, zero, suc, ◌==◌, Bool, true, false, List, [], ◌∷◌, ◌++◌, length, take, drop, map, Vec, Option, Some, None, IfSome, ⊎_elim, refl, sym, ap, subst, ◌∙◌, arith, append_assoc, take-append-drop}
use Rattle.state_service.proofs.Common.{Global, Keeps, DropsConsumable, map-append, drop-append-le, parts_from, WhereKnown, texts, BatchEnd, kept_line, line_at_end, AreTaken, AreAllTaken, AreTakenToEnd, AreTakenSoFar, IsAfterBatch}
use Rattle.std.specs.Io.{StartsWith}
use Rattle.std.proofs.lemmas.Bool.Decides.{nat_tests}

-- ---- the first bytes of a line

abbrev pub no_bytes : List ℕ
no_bytes = []

pub take_nil : (n : ℕ) → take n no_bytes ≡ []
take_nil zero = refl
take_nil (suc n) = refl

kept_more : (n : ℕ) (line : List ℕ) (b : ℕ) → length (take n line) < n → take n (line ++ b ∷ []) ≡ take n line ++ b ∷ []
kept_more zero line b less = absurd (omega (arith, less))
kept_more (suc n) [] b less = ap (λ (t : List ℕ). b ∷ t) (take_nil n)
kept_more (suc n) (x ∷ line) b less = ap (λ (t : List ℕ). x ∷ t) (kept_more n line b (omega (arith, less)))

kept_full : (n : ℕ) (line : List ℕ) (b : ℕ) → n ≤ length (take n line) → take n (line ++ b ∷ []) ≡ take n line
kept_full zero line b full = refl
kept_full (suc n) [] b full = absurd (omega (arith, full))
kept_full (suc n) (x ∷ line) b full = ap (λ (t : List ℕ). x ∷ t) (kept_full n line b (omega (arith, full)))

-- ---- a byte

pub texts_more : (lines new : List (Vec ℕ Global)) (line : Vec ℕ Global) → new ≡ lines ++ line ∷ [] → texts new ≡ texts lines ++ line.items ∷ []
texts_more lines new line is = ap (λ (ls : List (Vec ℕ Global)). texts ls) is ∙ map-append (λ (v : Vec ℕ Global). v.items) lines (line ∷ [])

within : (byte : ℕ) (part rest : List ℕ) → (byte == 10) ≡ false → parts_from 10 part (byte ∷ rest) ≡ parts_from 10 (part ++ byte ∷ []) rest
within byte part rest other = ap (λ (t : Bool). elim t [ true ↦ part ∷ parts_from 10 [] rest | false ↦ parts_from 10 (part ++ byte ∷ []) rest ]) other

module _ (input rest : List ℕ) (byte : ℕ) (taken : List (List ℕ)) (part : List ℕ) (so_far : AreTaken input (byte ∷ rest) taken part) where
  -- it ends the line
  pub line_ended : byte ≡ 10 → (lines : List (List ℕ)) → lines ≡ taken ++ part ∷ [] → AreTaken input rest lines []
  line_ended is lines are = record {
    whole = so_far.whole ++ so_far.begun ∷ [];
    begun = [];
    lines_are = so_far.lines_are ∙ ap (λ (b : ℕ). so_far.whole ++ parts_from 10 so_far.begun (b ∷ rest)) is ∙ sym (append_assoc so_far.whole (so_far.begun ∷ []) (parts_from 10 [] rest));
    taken_are = are ∙ ap (λ (ls : List (List ℕ)). ls ++ part ∷ []) so_far.taken_are ∙ ap (λ (l : List ℕ). map kept_line so_far.whole ++ l ∷ []) so_far.part_is
        ∙ sym (map-append kept_line so_far.whole (so_far.begun ∷ []));
    part_is = sym (take_nil 4097);
  }

  pub byte_added : byte ≢ 10 → length part < 4097 → (new : List ℕ) → new ≡ part ++ byte ∷ [] → AreTaken input rest taken new
  byte_added other less new is = record {
    whole = so_far.whole;
    begun = so_far.begun ++ byte ∷ [];
    lines_are = so_far.lines_are ∙ ap (λ (ls : List (List ℕ)). so_far.whole ++ ls) (within byte so_far.begun rest (grind (arith, nat_tests, other)));
    taken_are = so_far.taken_are;
    part_is = is ∙ ap (λ (p : List ℕ). p ++ byte ∷ []) so_far.part_is ∙ sym (kept_more 4097 so_far.begun byte (subst (λ (p : List ℕ). length p < 4097) so_far.part_is less));
  }

  pub byte_dropped : byte ≢ 10 → 4097 ≤ length part → AreTaken input rest taken part
  byte_dropped other full = record {
    whole = so_far.whole;
    begun = so_far.begun ++ byte ∷ [];
    lines_are = so_far.lines_are ∙ ap (λ (ls : List (List ℕ)). so_far.whole ++ ls) (within byte so_far.begun rest (grind (arith, nat_tests, other)));
    taken_are = so_far.taken_are;
    part_is = so_far.part_is ∙ sym (kept_full 4097 so_far.begun byte (subst (λ (p : List ℕ). 4097 ≤ length p) so_far.part_is full));
  }

-- ---- the end of an input

taken_none : (n : ℕ) (line : List ℕ) → 0 < n → take n line ≡ [] → line ≡ []
taken_none zero line some none = absurd (omega (arith, some))
taken_none (suc n) [] some none = refl
taken_none (suc n) (x ∷ line) some none = absurd (omega (arith, ap (λ (l : List ℕ). length l) none))

-- a line that is not empty is the one at the end
whole_at_end : (line : List ℕ) → line ≢ [] → line_at_end line ≡ line ∷ []
whole_at_end [] some = absurd (some refl)
whole_at_end (b ∷ line) some = refl

module _ (input part : List ℕ) (before : List (List ℕ)) where
  -- what follows it is a line
  pub ended_line : AreTakenSoFar input [] before part → part ≢ [] → AreAllTaken input (before ++ part ∷ [])
  ended_line so_far some = ⊎_elim by (λ (end : AreTakenToEnd input [] before part). absurd (some end.no_part)) so_far
    where
      by : AreTaken input [] before part → AreAllTaken input (before ++ part ∷ [])
      by taken =
          let there : taken.begun ≢ [] = λ none. some (taken.part_is ∙ (ap kept_line none ∙ take_nil 4097)) in
          record {
            whole = taken.whole;
            last = taken.begun;
            lines_are = taken.lines_are;
            taken_are =
                ap (λ (ls : List (List ℕ)). ls ++ part ∷ []) taken.taken_are ∙ ap (λ (l : List ℕ). map kept_line taken.whole ++ l ∷ []) taken.part_is
                ∙ sym (map-append kept_line taken.whole (taken.begun ∷ [])) ∙ ap (λ (ls : List (List ℕ)). map kept_line (taken.whole ++ ls)) (sym (whole_at_end taken.begun there));
          }

-- ---- a read

-- bytes that a reader shows, of which so many are taken
module _ (part next : List ℕ) (before more : List (List ℕ)) (shown : List ℕ) (n : ℕ) (within : n ≤ length shown) (some : shown ≢ [])
    (takes : (input rest : List ℕ) → AreTaken input (shown ++ rest) before part → AreTaken input (drop n shown ++ rest) (before ++ more) next) where
  split : (bytes : List ℕ) → StartsWith bytes shown → shown ++ drop (length shown) bytes ≡ bytes
  split bytes front = ap (λ (l : List ℕ). l ++ drop (length shown) bytes) (sym front) ∙ take-append-drop (length shown) bytes

  there : (input bytes : List ℕ) → StartsWith bytes shown → AreTakenSoFar input bytes before part → AreTaken input bytes before part
  there input bytes front so_far = ⊎_elim (λ (taken : AreTaken input bytes before part). taken) (λ (end : AreTakenToEnd input bytes before part). absurd (none (sym front ∙ ap (take (length shown)) end.none_left))) so_far
    where
      none : shown ≡ take (length shown) [] → ⊥
      none is = some (is ∙ take_nil (length shown))

  left : (bytes : List ℕ) → StartsWith bytes shown → drop n shown ++ drop (length shown) bytes ≡ drop n bytes
  left bytes front = sym (drop-append-le n shown (drop (length shown) bytes) within) ∙ ap (λ (l : List ℕ). drop n l) (split bytes front)

  taken_of : (input bytes : List ℕ) → StartsWith bytes shown → AreTakenSoFar input bytes before part → AreTaken input (drop n bytes) (before ++ more) next
  taken_of input bytes front so_far =
      subst (λ (l : List ℕ). AreTaken input l (before ++ more) next) (left bytes front)
      (takes input (drop (length shown) bytes) (subst (λ (l : List ℕ). AreTaken input l before part) (sym (split bytes front)) (there input bytes front so_far)))

  pub batch_taken : (known a b c : Option (List ℕ)) (buffered : Option ℕ) → IfSome a (λ bytes. StartsWith bytes shown) → Keeps a b
      → IfSome a (λ _. IfSome buffered (λ most. length shown ≤ most)) → DropsConsumable b c buffered n
      → WhereKnown known a (λ input rest. AreTakenSoFar input rest before part) → WhereKnown known c (λ input rest. AreTaken input rest (before ++ more) next)
  batch_taken None a b c buffered front keeps fits drops so_far = tt
  batch_taken (Some input) None b c buffered front keeps fits drops so_far = absurd so_far
  batch_taken (Some input) (Some bytes) None c buffered front keeps fits drops so_far = absurd keeps
  batch_taken (Some input) (Some bytes) (Some kept) c buffered front keeps fits drops so_far =
      let now : c ≡ Some (drop n bytes) = drops (fitting buffered fits) ∙ ap (λ (l : List ℕ). let o : Option (List ℕ) = Some (drop n l) in o) keeps in
      subst (λ (o : Option (List ℕ)). WhereKnown (Some input) o (λ input rest. AreTaken input rest (before ++ more) next)) (sym now) (taken_of input bytes front so_far)
    where
      fitting : (most : Option ℕ) → IfSome most (λ m. length shown ≤ m) → IfSome most (λ m. n ≤ m)
      fitting None fits = tt
      fitting (Some m) fits = omega (arith, fits, within)

-- a read at the end
pub end_read : (part next : List ℕ) (before lines : List (List ℕ)) (end : BatchEnd) (known a b : Option (List ℕ)) → IfSome a (λ bytes. bytes ≡ []) → Keeps a b
    → ((input : List ℕ) → AreTakenSoFar input [] before part → IsAfterBatch end input [] (before ++ lines) next)
    → WhereKnown known a (λ input rest. AreTakenSoFar input rest before part) → WhereKnown known b (λ input rest. IsAfterBatch end input rest (before ++ lines) next)
end_read part next before lines end None a b none keeps takes so_far = tt
end_read part next before lines end (Some input) None b none keeps takes so_far = absurd so_far
end_read part next before lines end (Some input) (Some bytes) None none keeps takes so_far = absurd keeps
end_read part next before lines end (Some input) (Some bytes) (Some kept) none keeps takes so_far =
    subst (λ (l : List ℕ). IsAfterBatch end input l (before ++ lines) next) (sym (keeps ∙ none))
    (takes input (subst (λ (l : List ℕ). AreTakenSoFar input l before part) none so_far))

pub known_turned : (known a : Option (List ℕ)) (P Q : List ℕ → List ℕ → Type 0) → ((input rest : List ℕ) → P input rest → Q input rest) → WhereKnown known a P → WhereKnown known a Q
known_turned None a P Q on h = tt
known_turned (Some input) None P Q on h = absurd h
known_turned (Some input) (Some rest) P Q on h = on input rest h
