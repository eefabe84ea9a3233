-- What the MAP of a frame says (implementation-specific layout, after CM-SP-MULPIv3.1, 6.4.4).
use Rattle.std.specs.Prelude.{ℕ, ◌+◌, ◌-◌, ◌*◌, ◌%◌, ◌^◌, ◌==◌, nat_lt, if◌then◌else◌, List, [], ◌∷◌, ◌++◌, length, map}
use Rattle.std.specs.List.{flat_map}
use Rattle.slice_scheduler.specs.Iuc.{iuc_number}
use Rattle.slice_scheduler.specs.declared.span.Span.{Span}
use Rattle.slice_scheduler.specs.declared.elements.ElementsFields.{ElementsFields}
use Rattle.map_assembly.specs.declared.element.MapElement.{MapElement}
use Rattle.plant.specs.declared.consts.Channel.{Channel}
use Rattle.map_assembly.specs.declared.view.MapHeader.{MapHeader}
use Rattle.map_assembly.specs.declared.view.MapSpan.{MapSpan}
use Rattle.map_assembly.specs.declared.view.MapView.{MapView}
use Rattle.map_assembly.specs.Wire.{time_bits, nobodys_sid, broadcast_sid, request_iuc, short_iuc, long_iuc}
use Rattle.map_assembly.specs.Reading.{element_of_span, null_at}
use Rattle.map_assembly.specs.Sorted.{sorted_by}

-- ---- the spans

-- the minislots from one up to another, granted to nobody: none where there are none
abbrev pub idle_span : ℕ → ℕ → List MapSpan
idle_span from to =
    if nat_lt from to then record { sid = nobodys_sid; iuc = long_iuc; start = from; len = to - from } ∷ [] else []

-- the head of a frame, in which every modem may ask
abbrev pub head_span : ℕ → List MapSpan
head_span head = if head == 0 then [] else record { sid = broadcast_sid; iuc = request_iuc; start = 0; len = head } ∷ []

-- a span of an operator's part
abbrev pub map_span : Span → MapSpan
map_span s = record { sid = s.sid; iuc = iuc_number s.iuc; start = s.start; len = s.len }

-- the minislots from `from` up to `end`: the spans of these parts, and one idle span for each run of minislots before,
-- between and after them
abbrev pub spans_with_idle : ℕ → ℕ → List ElementsFields → List MapSpan
spans_with_idle from end [] = idle_span from end
spans_with_idle from end (part ∷ parts) =
    idle_span from part.slice.start ++ (map map_span part.spans ++ spans_with_idle (part.slice.start + part.slice.length) end parts)

-- the spans of a frame with these parts, in the order of their slices
abbrev pub map_spans : Channel → List ElementsFields → List MapSpan
map_spans channel parts = head_span channel.head ++ spans_with_idle channel.head channel.frame_minislots parts

-- ---- the header

-- when a frame begins: the minislots before it, as the low bits that a time has
abbrev pub frame_start : Channel → ℕ → ℕ
frame_start channel frame = frame * channel.frame_minislots % 2 ^ time_bits

-- the header of a frame's MAP with so many elements: it answers the requests up to its own beginning
abbrev pub map_header : Channel → ℕ → ℕ → MapHeader
map_header channel frame count = record {
  channel = channel.id;
  ucd_count = channel.ucd_count;
  elements = count;
  alloc_start = frame_start channel frame;
  ack_time = frame_start channel frame;
  backoffs = channel.backoffs;
}

-- ---- the whole

-- the SIDs of grants pending, part after part
abbrev pub map_pending : List ElementsFields → List ℕ
map_pending parts = flat_map (λ part. part.pending) parts

-- the parts of a frame in the order of their slices
abbrev pub in_slice_order : List ElementsFields → List ElementsFields
in_slice_order parts = sorted_by (λ part. part.slice.start) parts

-- the view of a frame's MAP with these parts in the order of their slices; its elements are the spans, the Null and the
-- grants pending
abbrev pub ordered_map : Channel → ℕ → List ElementsFields → MapView
ordered_map channel frame parts = record {
  header = map_header channel frame (length (map_spans channel parts) + 1 + length (map_pending parts));
  spans = map_spans channel parts;
  pending = map_pending parts;
}

-- what the MAP of a frame says, given the part of each operator: the header, the head, the spans of the parts in the order of their slices,
-- with one idle span for each run of minislots between parts, and the grants pending
abbrev pub map_of : Channel → ℕ → List ElementsFields → MapView
map_of channel frame parts = ordered_map channel frame (in_slice_order parts)

-- ---- its elements

-- a grant pending: the IUC of a short grant, at the Null's offset
abbrev pub pending_element : ℕ → ℕ → MapElement
pending_element end sid = record { sid = sid; iuc = short_iuc; offset = end }

-- the elements that say these spans and grants pending
abbrev pub elements_of_map : ℕ → List MapSpan → List ℕ → List MapElement
elements_of_map end spans sids = map element_of_span spans ++ null_at end ∷ map (pending_element end) sids

-- the elements of a frame's MAP, given the part of each operator
abbrev pub map_elements_of : Channel → List ElementsFields → List MapElement
map_elements_of channel parts =
    elements_of_map channel.frame_minislots (map_spans channel (in_slice_order parts)) (map_pending (in_slice_order parts))
