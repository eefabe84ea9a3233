-- The elements of an operator's part of a MAP, and the grants to backlogs (implementation-specific).
use Rattle.std.specs.Prelude.{ℕ, zero, suc, ◌-◌, ◌+◌, ◌==◌, nat_lt, if◌then◌else◌, List, [], ◌∷◌, ◌++◌, map, filter, sum_by}
use Rattle.std.specs.List.{flat_map}
use Rattle.grant_policy.specs.declared.policy.Policy.{Policy}
use Rattle.slice_scheduler.specs.declared.span.Iuc.TheVariants.{Long}
use Rattle.slice_scheduler.specs.declared.span.Span.{Span}
use Rattle.slice_scheduler.specs.declared.piece.Piece.{Piece}
use Rattle.slice_scheduler.specs.declared.award.Award.{Award}
use Rattle.slice_scheduler.specs.declared.elements.ElementsFields.{ElementsFields}
use Rattle.slice_scheduler.specs.declared.flowing.AtFields.{AtFields}
use Rattle.slice_scheduler.specs.declared.flowing.Flowing.{Flowing}
use Rattle.slice_scheduler.specs.Due.{due_pieces, iuc_of}
use Rattle.slice_scheduler.specs.Awards.{awards_of}

-- those of a rank below n: the greater rank first, and within a rank as they exist
unfoldable pub ranked_below : {X : Type 0} → (X → ℕ) → ℕ → List X → List X
ranked_below rank zero xs = []
ranked_below rank (suc r) xs = filter (λ x. rank x == r) xs ++ ranked_below rank r xs

-- the awards in the order in which they are served: ranks are 0 to 63, and awards are sorted by SFID
abbrev pub by_rank : List Award → List Award
by_rank awards = ranked_below (λ a. a.rank) 64 awards

-- an award as a grant, where it is more than none
abbrev pub award_pieces : AtFields → Award → List Piece
award_pieces at a = if a.grant == 0 then [] else record { sid = a.sid; iuc = iuc_of at a.grant; len = a.grant } ∷ []

-- the grants of a frame in their order: what is due by SFID, then the awards as they are served
abbrev pub pieces_of : Policy → AtFields → List Flowing → List Piece
pieces_of policy at flows = flat_map (due_pieces at) flows ++ flat_map (award_pieces at) (by_rank (awards_of policy at flows))

-- what is left, as a grant to nobody
abbrev pub idle : ℕ → List Piece
idle minislots = if minislots == 0 then [] else record { sid = 0; iuc = Long; len = minislots } ∷ []

-- the grants one after the other, from this minislot on
abbrev pub spans_from : ℕ → List Piece → List Span
spans_from start [] = []
spans_from start (piece ∷ pieces) = record { sid = piece.sid; iuc = piece.iuc; start = start; len = piece.len } ∷ spans_from (start + piece.len) pieces

-- the minislots of these grants
abbrev pub minislots_in : List Piece → ℕ
minislots_in pieces = sum_by (λ piece. piece.len) pieces

-- the whole slice: the grants, then what is left
abbrev pub spans_of : Policy → AtFields → List Flowing → List Span
spans_of policy at flows = spans_from at.slice.start (pieces_of policy at flows ++ idle (at.slice.length - minislots_in (pieces_of policy at flows)))

-- the SIDs of those that asked for more than they are granted, in the order in which they are served
abbrev pub pending_of : Policy → AtFields → List Flowing → List ℕ
pending_of policy at flows = map (λ a. a.sid) (filter (λ a. nat_lt a.grant a.backlog) (by_rank (awards_of policy at flows)))

-- the elements that the schedule of a frame gives an operator: its slice, its spans and its grants pending
abbrev pub elements_of : Policy → AtFields → List Flowing → ElementsFields
elements_of policy at flows = record { slice = at.slice; spans = spans_of policy at flows; pending = pending_of policy at flows }

-- the SFID and the minislots of each award that is more than none, by SFID
abbrev pub granted_of : Policy → AtFields → List Flowing → List (ℕ × ℕ)
granted_of policy at flows = map (λ a. (a.sfid, a.grant)) (filter (λ a. nat_lt 0 a.grant) (awards_of policy at flows))
