-- That a MAP gives no minislot twice, and each operator its own (implementation-specific).
use Rattle.std.specs.Prelude.{◌≡◌, ℕ, ◌+◌, ◌<◌, ◌≤◌, nat_lt, nat_le, ◌&&◌, Bool, true, not, ◌==◌, List, map, All, count_by, filter, slice_get, Some}
use Rattle.admission.specs.Free.{Numbers}
use Rattle.slice_scheduler.specs.Minislots.{Minislots}
use Rattle.map_assembly.specs.declared.quota.Quota.{Quota}
use Rattle.map_assembly.specs.declared.view.MapSpan.{MapSpan}
use Rattle.map_assembly.specs.declared.view.MapView.{MapView}
use Rattle.slice_scheduler.specs.declared.elements.ElementsFields.{ElementsFields}
use Rattle.map_assembly.specs.Wire.{nobodys_sid}
use Rattle.map_assembly.specs.Map.{map_span}
use Rattle.map_assembly.specs.Part.{is_within}

-- the minislot is one of the span
abbrev pub holds : ℕ → MapSpan → Bool
holds m span = nat_le span.start m && nat_lt m (span.start + span.len)

-- a minislot of the slice is one of the span
abbrev pub touches : Minislots → MapSpan → Bool
touches slice span = nat_lt span.start (slice.start + slice.length) && nat_lt slice.start (span.start + span.len)

-- the span lies in the slice
pub record LiesIn (slice : Minislots) (span : MapSpan) : Type 0 where
  pub behind : slice.start ≤ span.start
  pub before : span.start + span.len ≤ slice.start + slice.length

-- a span with a SID of the range lies in the slice
abbrev pub IsOwn : Numbers → Minislots → MapSpan → Type 0
IsOwn range slice span = is_within range span.sid ≡ true → LiesIn slice span

-- each minislot of a frame is one of exactly one span, a span with a SID of an operator lies in that operator's slice, and
-- no span touches two slices
pub record GivesNoMinislotTwice (frame_minislots : ℕ) (quotas : List Quota) (slices : List Minislots) (spans : List MapSpan) : Type 0 where
  pub once : (m : ℕ) → m < frame_minislots → count_by (holds m) spans ≡ 1
  pub own : (k : ℕ) (quota : Quota) (slice : Minislots) → slice_get quotas k ≡ Some quota → slice_get slices k ≡ Some slice → All (IsOwn quota.sids slice) spans
  pub apart : All (λ span. count_by (λ slice. touches slice span) slices ≤ 1) spans

-- ---- an operator's part of a MAP

-- the spans of an operator and its grants pending
pub record MapPart : Type 0 where
  pub spans : List MapSpan
  pub pending : List ℕ

-- the spans and the grants pending with a SID of the range
abbrev pub part_of : Numbers → MapView → MapPart
part_of range view = record { spans = filter (λ span. is_within range span.sid) view.spans; pending = filter (λ sid. is_within range sid) view.pending }

-- what an operator put, as its part of the MAP: the spans with a SID, and the grants pending with one
abbrev pub own_part : ElementsFields → MapPart
own_part part = record {
  spans = map map_span (filter (λ span. not (span.sid == nobodys_sid)) part.spans);
  pending = filter (λ sid. not (sid == nobodys_sid)) part.pending;
}
