-- The first bytes of an input, by which a snapshot is known.
use Rattle.std.proofs.Common.{◌≡◌, ◌≢◌, ◌<◌, ◌≤◌, ℕ, ◌+◌, ◌==◌, ◌&&◌, Bool, true, false, List, [], ◌∷◌, ◌++◌, Option, Some, None, length, take, drop, refl, sym, ap, subst, ◌∙◌, append_assoc, append-nil, arith, get_or, codes}
use Rattle.std.proofs.lemmas.List.{drop_more, drop_all}
use Rattle.std.proofs.lemmas.Bool.Decides.{nat_tests}
use Rattle.std.specs.Str.{bytes_eq}
use Rattle.program_runner.proofs.Common.{Takes, WhereKnown, is_snapshot_head, IsHeadRead}

-- a text begins with these bytes
pub begins_with : List ℕ → List ℕ → Bool
begins_with [] text = true
begins_with (byte ∷ bytes) [] = false
begins_with (byte ∷ bytes) (first ∷ text) = (first == byte) && begins_with bytes text

begins_is : (bytes text : List ℕ) → bytes_eq (take (length bytes) text) bytes ≡ begins_with bytes text
unfolding begins_with
begins_is [] text = refl
begins_is (byte ∷ bytes) [] = refl
begins_is (byte ∷ bytes) (first ∷ text) = ap (λ (b : Bool). (first == byte) && b) (begins_is bytes text)

-- these first bytes of an input are read, and it begins as a snapshot does if the rest begins with these bytes
pub record IsHeadSoFar (input rest head left : List ℕ) : Type 0 where
  pub input_is : input ≡ head ++ rest
  pub shows : (text : List ℕ) → is_snapshot_head (head ++ text) ≡ begins_with left text

abbrev pub snapshot_head : List ℕ
snapshot_head = codes "melfjits-snapshot "

-- nothing is read
pub known_start : (known : Option (List ℕ)) (head : List ℕ) → head ≡ [] → WhereKnown known known (λ input rest. IsHeadSoFar input rest head snapshot_head)
known_start None head none = tt
known_start (Some input) head none =
    subst (λ (bytes : List ℕ). IsHeadSoFar input input bytes snapshot_head) (sym none) (record { input_is = refl; shows = λ text. begins_is snapshot_head text })

joined : (head rest : List ℕ) (byte : ℕ) → head ++ byte ∷ rest ≡ (head ++ byte ∷ []) ++ rest
joined head rest byte = sym (append_assoc head (byte ∷ []) rest)

-- the next byte is as in a snapshot
same_byte : (input rest head left : List ℕ) (byte : ℕ) → IsHeadSoFar input (byte ∷ rest) head (byte ∷ left) → IsHeadSoFar input rest (head ++ byte ∷ []) left
unfolding begins_with
same_byte input rest head left byte so_far = record {
  input_is = so_far.input_is ∙ joined head rest byte;
  shows = λ text. ap is_snapshot_head (sym (joined head text byte)) ∙ (so_far.shows (byte ∷ text) ∙ same text);
} where
  same : (text : List ℕ) → begins_with (byte ∷ left) (byte ∷ text) ≡ begins_with left text
  same text = let one : (byte == byte) ≡ true = grind (arith, nat_tests) in ap (λ (b : Bool). b && begins_with left text) one

-- it is another one
other_byte : (input rest head left : List ℕ) (byte expected : ℕ) → byte ≢ expected → IsHeadSoFar input (byte ∷ rest) head (expected ∷ left) → IsHeadRead input rest (head ++ byte ∷ [])
unfolding begins_with
other_byte input rest head left byte expected differs so_far = record {
  input_is = so_far.input_is ∙ joined head rest byte;
  shows = ap is_snapshot_head so_far.input_is ∙ (so_far.shows (byte ∷ rest) ∙ (none rest ∙ sym (so_far.shows (byte ∷ []) ∙ none [])));
} where
  none : (text : List ℕ) → begins_with (expected ∷ left) (byte ∷ text) ≡ false
  none text = let one : (byte == expected) ≡ false = grind (arith, nat_tests, differs) in ap (λ (b : Bool). b && begins_with left text) one

-- there is none
no_byte : (input head left : List ℕ) → IsHeadSoFar input [] head left → IsHeadRead input [] head
no_byte input head left so_far = record { input_is = so_far.input_is; shows = ap is_snapshot_head (so_far.input_is ∙ append-nil head) }

-- none is left to compare
all_bytes : (input rest head : List ℕ) → IsHeadSoFar input rest head [] → IsHeadRead input rest head
unfolding begins_with
all_bytes input rest head so_far = record {
  input_is = so_far.input_is;
  shows = ap is_snapshot_head so_far.input_is ∙ (so_far.shows rest ∙ sym (ap is_snapshot_head (sym (append-nil head)) ∙ so_far.shows []));
}

-- ---- where the reader's bytes are known

-- so many bytes are compared
abbrev pub IsHeadUpTo : ℕ → List ℕ → List ℕ → List ℕ → Type 0
IsHeadUpTo i head input rest = IsHeadSoFar input rest head (drop i snapshot_head)

module _ (head : List ℕ) (i : ℕ) where
  one_more : (input rest : List ℕ) → i < length snapshot_head → IsHeadUpTo i head input rest → IsHeadSoFar input rest head (get_or snapshot_head i 0 ∷ drop (i + 1) snapshot_head)
  one_more input rest within so_far = subst (λ (left : List ℕ). IsHeadSoFar input rest head left) (drop_more snapshot_head i 0 within) so_far

  pub known_same : (a b d : Option (List ℕ)) (byte : ℕ) → i < length snapshot_head → byte ≡ get_or snapshot_head i 0 → WhereKnown a b (IsHeadUpTo i head) → Takes b d (Some byte)
      → WhereKnown a d (IsHeadUpTo (i + 1) (head ++ byte ∷ []))
  known_same None b d byte within is so_far took = tt
  known_same (Some input) None d byte within is so_far took = absurd so_far
  known_same (Some input) (Some bytes) None byte within is so_far took = absurd took
  known_same (Some input) (Some bytes) (Some rest) byte within is so_far took =
      let here = subst (λ (r : List ℕ). IsHeadUpTo i head input r) took so_far in
      same_byte input rest head (drop (i + 1) snapshot_head) byte
      (subst (λ (e : ℕ). IsHeadSoFar input (byte ∷ rest) head (e ∷ drop (i + 1) snapshot_head)) (sym is) (one_more input (byte ∷ rest) within here))

  pub known_other : (a b d : Option (List ℕ)) (byte : ℕ) → i < length snapshot_head → byte ≢ get_or snapshot_head i 0 → WhereKnown a b (IsHeadUpTo i head) → Takes b d (Some byte)
      → WhereKnown a d (λ input rest. IsHeadRead input rest (head ++ byte ∷ []))
  known_other None b d byte within differs so_far took = tt
  known_other (Some input) None d byte within differs so_far took = absurd so_far
  known_other (Some input) (Some bytes) None byte within differs so_far took = absurd took
  known_other (Some input) (Some bytes) (Some rest) byte within differs so_far took =
      let here = subst (λ (r : List ℕ). IsHeadUpTo i head input r) took so_far in
      other_byte input rest head (drop (i + 1) snapshot_head) byte (get_or snapshot_head i 0) differs (one_more input (byte ∷ rest) within here)

  pub known_end : (a b d : Option (List ℕ)) → WhereKnown a b (IsHeadUpTo i head) → Takes b d None → WhereKnown a d (λ input rest. IsHeadRead input rest head)
  known_end None b d so_far took = tt
  known_end (Some input) None d so_far took = absurd so_far
  known_end (Some input) (Some bytes) None so_far took = absurd took
  known_end (Some input) (Some bytes) (Some rest) so_far took =
      subst (λ (r : List ℕ). IsHeadRead input r head) (sym took.1) (no_byte input head (drop i snapshot_head) (subst (λ (r : List ℕ). IsHeadUpTo i head input r) took.0 so_far))

  pub known_all : (a b : Option (List ℕ)) → length snapshot_head ≤ i → WhereKnown a b (IsHeadUpTo i head) → WhereKnown a b (λ input rest. IsHeadRead input rest head)
  known_all None b past so_far = tt
  known_all (Some input) None past so_far = absurd so_far
  known_all (Some input) (Some rest) past so_far = all_bytes input rest head (subst (λ (left : List ℕ). IsHeadSoFar input rest head left) (drop_all i snapshot_head past) so_far)
