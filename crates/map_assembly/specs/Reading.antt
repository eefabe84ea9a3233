-- What the bytes of a MAP say (implementation-specific layout, after CM-SP-MULPIv3.1, 6.4.4).
use Rattle.std.specs.Prelude.{◌≡◌, ◌≢◌, ℕ, ◌+◌, ◌*◌, ◌<◌, ◌≤◌, Bool, true, false, ◌==◌, ◌&&◌, ◌||◌, List, [], ◌∷◌, ◌++◌, length, map, drop, slice_index, slice_range, Result, Ok, Err}
use Rattle.std.specs.List.{AllByRecursion}
use Rattle.std.specs.Int.{w32, from_be_bytes}
use Rattle.map_assembly.specs.declared.element.MapElement.{MapElement}
use Rattle.map_assembly.specs.declared.view.MapHeader.{MapHeader}
use Rattle.map_assembly.specs.declared.view.MapSpan.{MapSpan}
use Rattle.map_assembly.specs.declared.view.MapView.{MapView}
use Rattle.map_assembly.specs.declared.view.MapFault.{MapFault}
use Rattle.map_assembly.specs.declared.view.MapFault.TheVariants.{Short, Count, Backward, NoNull, AfterNull, NoMemory}
use Rattle.map_assembly.specs.Wire.{channel_place, ucd_count_place, count_place, alloc_start_place, ack_time_place, ranging_start_place, ranging_end_place, data_start_place, data_end_place, header_bytes, element_bytes, nobodys_sid, short_iuc, long_iuc, null_iuc}
use Rattle.map_assembly.specs.Element.{is_null, elements_in}

-- ---- the elements

-- a span as an element: its length is not there
abbrev pub element_of_span : MapSpan → MapElement
element_of_span s = record { sid = s.sid; iuc = s.iuc; offset = s.start }

-- the Null at this offset
abbrev pub null_at : ℕ → MapElement
null_at end = record { sid = nobodys_sid; iuc = null_iuc; offset = end }

-- where the first of these spans begins: at `end` where there is none
abbrev pub first_offset : ℕ → List MapSpan → ℕ
first_offset end [] = end
first_offset end (s ∷ spans) = s.start

-- each span has at least one minislot and goes up to the next one, the last up to `end`
abbrev pub AreJoined : ℕ → List MapSpan → Type 0
AreJoined end [] = Unit {0}
AreJoined end (s ∷ spans) = (0 < s.len) × (s.start + s.len ≡ first_offset end spans) × AreJoined end spans

-- a grant pending: the IUC of a short or of a long grant, at the Null's offset
abbrev pub is_pending : ℕ → MapElement → Bool
is_pending end e = (e.iuc == short_iuc || e.iuc == long_iuc) && e.offset == end

-- elements say these spans and these SIDs of grants pending: first the spans, none of which is the Null and each of which ends where the
-- next begins, then the Null at the end of the last, and after it the grants pending
pub record ElementsSay (elements : List MapElement) (spans : List MapSpan) (sids : List ℕ) : Type 0 where
  pub end : ℕ
  pub behind : List MapElement
  pub split : elements ≡ map element_of_span spans ++ null_at end ∷ behind
  pub joined : AreJoined end spans
  pub no_null : AllByRecursion (λ s. is_null (element_of_span s) ≡ false) spans
  pub grants : AllByRecursion (λ e. is_pending end e ≡ true) behind
  pub pending : sids ≡ map (λ e. e.sid) behind

-- ---- the header

-- the bytes of a header: the reserved one is not read
abbrev pub header_in : List ℕ → MapHeader
header_in bytes = record {
  channel = slice_index bytes channel_place;
  ucd_count = slice_index bytes ucd_count_place;
  elements = slice_index bytes count_place;
  alloc_start = from_be_bytes w32 (slice_range bytes alloc_start_place ack_time_place);
  ack_time = from_be_bytes w32 (slice_range bytes ack_time_place ranging_start_place);
  backoffs = record {
    ranging_start = slice_index bytes ranging_start_place;
    ranging_end = slice_index bytes ranging_end_place;
    data_start = slice_index bytes data_start_place;
    data_end = slice_index bytes data_end_place;
  };
}

-- the elements behind a header
abbrev pub elements_behind : List ℕ → List MapElement
elements_behind bytes = elements_in (drop header_bytes bytes)

-- how many bytes a header and the elements that it counts have
abbrev pub counted_bytes : List ℕ → ℕ
counted_bytes bytes = header_bytes + element_bytes * slice_index bytes count_place

-- the bytes are a header and as many elements as it counts
abbrev pub IsCounted : List ℕ → Type 0
IsCounted bytes = length bytes ≡ counted_bytes bytes

-- the bytes are a header and as many elements as it counts, and these say the view: its header, its spans and its grants pending
pub record MapReads (bytes : List ℕ) (view : MapView) : Type 0 where
  pub counted : IsCounted bytes
  pub header : view.header ≡ header_in bytes
  pub elements : ElementsSay (elements_behind bytes) view.spans view.pending

-- ---- what is wrong with bytes that say nothing

-- the elements ascend: the first is not before `least`, each further one after the one before, and none is the Null
abbrev pub AreAscending : ℕ → List MapElement → Type 0
AreAscending least [] = Unit {0}
AreAscending least (e ∷ elements) = (least ≤ e.offset) × (is_null e ≡ false) × AreAscending (e.offset + 1) elements

-- the least offset of an element after these
abbrev pub least_behind : ℕ → List MapElement → ℕ
least_behind least [] = least
least_behind least (e ∷ elements) = least_behind (e.offset + 1) elements

-- the element at this place is the first that does not ascend; the Null is not before it
pub record GoesBackward (least : ℕ) (elements : List MapElement) (at : ℕ) : Type 0 where
  pub before : List MapElement
  pub element : MapElement
  pub after : List MapElement
  pub split : elements ≡ before ++ element ∷ after
  pub place : length before ≡ at
  pub ascending : AreAscending least before
  pub backward : element.offset < least_behind least before

-- of the elements behind a Null at `end`, the one at this place is the first that is not a grant pending
pub record IsNoGrant (end : ℕ) (behind : List MapElement) (at : ℕ) : Type 0 where
  pub before : List MapElement
  pub element : MapElement
  pub after : List MapElement
  pub split : behind ≡ before ++ element ∷ after
  pub place : length before ≡ at
  pub grants : AllByRecursion (λ e. is_pending end e ≡ true) before
  pub no_grant : is_pending end element ≡ false

-- the elements ascend up to the Null, and the element at this place is the first after it that is not a grant pending
pub record FollowsNull (least : ℕ) (elements : List MapElement) (at : ℕ) : Type 0 where
  pub before : List MapElement
  pub null : MapElement
  pub behind : List MapElement
  pub place : ℕ
  pub split : elements ≡ before ++ null ∷ behind
  pub ascending : AreAscending least before
  pub ascends : least_behind least before ≤ null.offset
  pub is_the_null : is_null null ≡ true
  pub no_grant : IsNoGrant null.offset behind place
  pub behind_them : at ≡ length before + 1 + place

-- the first fault of elements
abbrev pub ElementsFault : List MapElement → MapFault → Type 0
ElementsFault elements (Backward at) = GoesBackward 0 elements at
ElementsFault elements NoNull = AreAscending 0 elements
ElementsFault elements (AfterNull at) = FollowsNull 0 elements at
ElementsFault elements fault = ⊥

-- what is wrong with bytes that say no MAP: their first fault
abbrev pub IsFirstMapFault : List ℕ → MapFault → Type 0
IsFirstMapFault bytes Short = length bytes < header_bytes
IsFirstMapFault bytes Count = (header_bytes ≤ length bytes) × (length bytes ≢ counted_bytes bytes)
IsFirstMapFault bytes NoMemory = ⊥
IsFirstMapFault bytes fault = IsCounted bytes × ElementsFault (elements_behind bytes) fault

-- this view, unless memory ran out
abbrev pub MapIsRead : Result MapView MapFault → MapView → Type 0
MapIsRead (Ok read) view = read ≡ view
MapIsRead (Err fault) view = fault ≡ NoMemory
