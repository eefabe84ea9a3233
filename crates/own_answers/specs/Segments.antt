-- Segments, each of which has whole texts (implementation-specific).
use Rattle.std.specs.Prelude.{ℕ, ◌+◌, ◌≡◌, ◌<◌, ◌≤◌, ◌⊎◌, List, [], ◌∷◌, ◌++◌, length, map, ⊤}

-- the items of these lists, in order
abbrev pub concatenation : {A : Type 0} → List (List A) → List A
concatenation [] = []
concatenation (xs ∷ more) = xs ++ concatenation more

-- A text is put whole into one segment: at the end of the current one, if one of both is empty or they have at most so many bytes
-- together, or else into the next one.
abbrev pub IsTextPut : ℕ → List ℕ → List (List ℕ) → List ℕ → List (List ℕ) → List ℕ → Type 0
IsTextPut most text closed current closed' current' =
    ((closed' ≡ closed) × (current' ≡ current ++ text) × (0 < length text → 0 < length current → length current + length text ≤ most))
    ⊎ ((closed' ≡ closed ++ current ∷ []) × (current' ≡ text))

-- these texts are put one after the other
abbrev pub AreTextsPut : ℕ → List (List ℕ) → List (List ℕ) → List ℕ → List (List ℕ) → List ℕ → Type 0
AreTextsPut most [] closed current closed' current' = (closed' ≡ closed) × (current' ≡ current)
AreTextsPut most (text ∷ texts) closed current closed' current' =
    (mid : List (List ℕ)) × (now : List ℕ) × IsTextPut most text closed current mid now × AreTextsPut most texts mid now closed' current'

-- all bytes of these texts are those of this one: the texts before it and after it are empty
pub record IsAlone (text : List ℕ) (texts : List (List ℕ)) : Type 0 where
  pub before : List (List ℕ)
  pub after : List (List ℕ)
  pub are : texts ≡ before ++ text ∷ after
  pub none_before : concatenation before ≡ []
  pub none_after : concatenation after ≡ []

-- these texts have at most so many bytes, or one of them alone has all their bytes
abbrev pub FitsSegment : ℕ → List (List ℕ) → Type 0
FitsSegment most texts = (length (concatenation texts) ≤ most) ⊎ ((text : List ℕ) × IsAlone text texts)

-- each of these lists of texts fits
abbrev pub AllFitSegments : ℕ → List (List (List ℕ)) → Type 0
AllFitSegments most [] = ⊤
AllFitSegments most (texts ∷ more) = FitsSegment most texts × AllFitSegments most more

-- The segments have these texts in order, each of them whole in one segment. A segment has at most so many bytes, or one text alone.
pub record AreSegments (most : ℕ) (texts : List (List ℕ)) (closed : List (List ℕ)) (current : List ℕ) : Type 0 where
  pub groups : List (List (List ℕ))
  pub last : List (List ℕ)
  pub all : texts ≡ concatenation groups ++ last
  pub closed_are : closed ≡ map concatenation groups
  pub current_is : current ≡ concatenation last
  pub closed_fit : AllFitSegments most groups
  pub current_fits : FitsSegment most last

-- Texts that are put one after the other into no segments are in segments as above: none is split over two.
abbrev pub TextsAreWhole : Type 0
TextsAreWhole = (most : ℕ) (texts : List (List ℕ)) (closed : List (List ℕ)) (current : List ℕ)
    → AreTextsPut most texts [] [] closed current → AreSegments most texts closed current
