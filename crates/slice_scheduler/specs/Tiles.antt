-- Spans that are the minislots of a slice, each in exactly one (implementation-specific).
use Rattle.std.specs.Prelude.{◌≡◌, ℕ, ◌+◌, ◌<◌, List, [], ◌∷◌}
use Rattle.slice_scheduler.specs.declared.span.Span.{Span}
use Rattle.slice_scheduler.specs.declared.elements.ElementsFields.{ElementsFields}

-- the spans go from `start` to `end`, one after the other, each of at least one minislot
abbrev pub Tiles : ℕ → ℕ → List Span → Type 0
Tiles start end [] = start ≡ end
Tiles start end (span ∷ others) = (span.start ≡ start) × (0 < span.len) × Tiles (start + span.len) end others

-- the spans are the minislots of the slice, each in exactly one; the type `Elements` keeps it
pub record IsTiled (elements : ElementsFields) : Type 0 where
  pub tiles : Tiles elements.slice.start (elements.slice.start + elements.slice.length) elements.spans
