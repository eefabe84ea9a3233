-- What an operator may put into a MAP (implementation-specific).
use Rattle.std.specs.Prelude.{◌≡◌, ℕ, ◌+◌, nat_le, ◌==◌, ◌&&◌, ◌||◌, Bool, true, List, [], ◌∷◌, length}
use Rattle.std.specs.List.{list_all}
use Rattle.admission.specs.Free.{Numbers}
use Rattle.slice_scheduler.specs.Minislots.{Minislots}
use Rattle.slice_scheduler.specs.Tiles.{IsTiled}
use Rattle.slice_scheduler.specs.declared.elements.ElementsFields.{ElementsFields}
use Rattle.plant.specs.declared.operator_row.RowFields.{RowFields}
use Rattle.map_assembly.specs.declared.quota.Quota.{Quota}
use Rattle.map_assembly.specs.Wire.{nobodys_sid}

-- the quota of a row's operator
abbrev pub quota_of : RowFields → Quota
quota_of row = record { sids = row.sids; elements = row.elements }

-- a number of the range
abbrev pub is_within : Numbers → ℕ → Bool
is_within range n = nat_le range.first n && nat_le n range.last

-- a SID that is nobody's, or of the range
abbrev pub is_mine : Numbers → ℕ → Bool
is_mine range sid = sid == nobodys_sid || is_within range sid

-- the two slices are the same
abbrev pub is_slice : Minislots → Minislots → Bool
is_slice slice other = slice.start == other.start && slice.length == other.length

-- elements that an operator may put where this slice is its own: of that slice, with its own SIDs or nobody's, and no more
-- than its quota and one, idle spans and grants pending included
abbrev pub is_fitting : Quota → Minislots → ElementsFields → Bool
is_fitting quota slice part =
    is_slice part.slice slice
    && list_all (λ span. is_mine quota.sids span.sid) part.spans
    && list_all (λ sid. is_mine quota.sids sid) part.pending
    && nat_le (length part.spans + length part.pending) (quota.elements + 1)

-- the part of a frame's MAP of an operator
pub record IsPartOf (quota : Quota) (slice : Minislots) (part : ElementsFields) : Type 0 where
  pub fits : is_fitting quota slice part ≡ true
  pub tiled : IsTiled part

-- the parts of all operators, in the plant's order
abbrev pub ArePartsOf : List Quota → List Minislots → List ElementsFields → Type 0
ArePartsOf [] [] [] = Unit {0}
ArePartsOf (quota ∷ quotas) (slice ∷ slices) (part ∷ parts) = IsPartOf quota slice part × ArePartsOf quotas slices parts
ArePartsOf quotas slices parts = ⊥
