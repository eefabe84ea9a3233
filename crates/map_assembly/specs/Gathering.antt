-- Parts gathered to MAPs (implementation-specific).
use Rattle.std.specs.Prelude.{◌≡◌, ℕ, ◌+◌, ◌<◌, ◌≤◌, ◌==◌, nat_lt, nat_le, if◌then◌else◌, Bool, false, List, [], ◌∷◌, ◌++◌, length, map, drop, reverse, replicate, filter_map, find, All, slice_get, slice_index_or, slice_set, Option, Some, None}
use Rattle.std.specs.List.{list_all}
use Rattle.slice_scheduler.specs.Minislots.{Minislots}
use Rattle.slice_scheduler.specs.declared.elements.ElementsFields.{ElementsFields}
use Rattle.plant.specs.declared.plant.PlantFields.{PlantFields}
use Rattle.plant.specs.declared.consts.Channel.{Channel}
use Rattle.map_assembly.specs.declared.quota.Quota.{Quota}
use Rattle.map_assembly.specs.declared.slicing.Reslicing.{Reslicing}
use Rattle.map_assembly.specs.declared.refused.GatherFault.{GatherFault}
use Rattle.map_assembly.specs.declared.refused.GatherFault.TheVariants.{Stranger, Old, PutTwice, Early, WrongSlice}
use Rattle.map_assembly.specs.Part.{quota_of, is_fitting, IsPartOf}
use Rattle.map_assembly.specs.Plan.{AreQuotas, AreSlices}
use Rattle.plant.specs.Consts.{IsChannel}

-- what contracts see of a `Gather`: what the MAPs have in common, what each operator may put, the plant's slices and the later ones, for
-- each operator the parts that it put and that are in no MAP yet, frame by frame, and the frame whose MAP comes next
pub record Gathering : Type 0 where
  pub channel : Channel
  pub quotas : List Quota
  pub slices : List Minislots
  pub reslicings : List Reslicing
  pub queues : List (List ElementsFields)
  pub next : ℕ

-- what is gathered for a plant of which nothing is put
abbrev pub gathering_of : PlantFields → Gathering
gathering_of plant = record {
  channel = plant.consts.channel;
  quotas = map quota_of plant.rows;
  slices = map (λ row. row.slice) plant.rows;
  reslicings = [];
  queues = replicate (length plant.rows) [];
  next = plant.consts.channel.first_frame;
}

-- no part is put of the frames from this one on, and these slices are in force
abbrev pub gathering_at : PlantFields → ℕ → List Minislots → Gathering
gathering_at plant frame slices = record {
  channel = plant.consts.channel;
  quotas = map quota_of plant.rows;
  slices = slices;
  reslicings = [];
  queues = replicate (length plant.rows) [];
  next = frame;
}

-- ---- the slices of a frame

-- the slices of a slice change, else these
abbrev pub slices_or : List Minislots → Option Reslicing → List Minislots
slices_or first None = first
slices_or first (Some reslicing) = reslicing.slicing

-- the slices of a frame: those of the newest slice change that is not from a later frame on, at first the plant's
abbrev pub slices_at : List Minislots → List Reslicing → ℕ → List Minislots
slices_at first reslicings frame = slices_or first (find (λ r. nat_le r.from frame) (reverse reslicings))

-- the slices of a frame, by what is gathered
abbrev pub frame_slices : Gathering → ℕ → List Minislots
frame_slices g frame = slices_at g.slices g.reslicings frame

-- ---- putting a part

-- the parts of an operator that are in no MAP yet
abbrev pub queue_of : List (List ElementsFields) → ℕ → List ElementsFields
queue_of queues op = slice_index_or queues op []

-- the frame of which an operator's part comes next
abbrev pub next_of : Gathering → ℕ → ℕ
next_of g op = g.next + length (queue_of g.queues op)

-- whether an operator with this quota may put this part for this slice, where there is such an operator
abbrev pub fits_at : Option Quota → Option Minislots → ElementsFields → Bool
fits_at (Some quota) (Some slice) part = is_fitting quota slice part
fits_at quota slice part = false

-- whether an operator may put this part for a frame
abbrev pub is_part : Gathering → ℕ → ℕ → ElementsFields → Bool
is_part g op frame part = fits_at (slice_get g.quotas op) (slice_get (frame_slices g frame) op) part

-- why a part is refused, in the order in which this is tried: there is no such operator; the frame has its MAP, or is before
-- the first one; the operator has put it; parts of it for earlier frames are missing; it is not a part for that frame
abbrev pub put_fault : Gathering → ℕ → ℕ → ElementsFields → Option GatherFault
put_fault g op frame part =
    if nat_le (length g.quotas) op then Some Stranger else
    if nat_lt frame g.next then Some (Old frame) else
    if nat_lt frame (next_of g op) then Some PutTwice else
    if nat_lt (next_of g op) frame then Some (Early frame) else
    if is_part g op frame part then None else
    Some WrongSlice

-- the parts with one more of this operator
abbrev pub with_part : List (List ElementsFields) → ℕ → ElementsFields → List (List ElementsFields)
with_part queues op part = slice_set queues op (queue_of queues op ++ part ∷ [])

-- each operator has put a part
abbrev pub is_whole : List (List ElementsFields) → Bool
is_whole queues = list_all (λ queue. nat_lt 0 (length queue)) queues

-- the first part of each operator
abbrev pub fronts : List (List ElementsFields) → List ElementsFields
fronts queues = filter_map (λ queue. slice_get queue 0) queues

-- whether this part is the last one of its frame
abbrev pub is_last : Gathering → ℕ → ElementsFields → Bool
is_last g op part = is_whole (with_part g.queues op part)

-- the parts of the frame whose MAP comes next, once this one is put
abbrev pub frame_parts : Gathering → ℕ → ElementsFields → List ElementsFields
frame_parts g op part = fronts (with_part g.queues op part)

-- once a part is put: where it is the last one of its frame, that frame's parts go into its MAP
abbrev pub after_put : Gathering → ℕ → ElementsFields → Gathering
after_put g op part =
    if is_last g op part
    then record g { queues = map (λ queue. drop 1 queue) (with_part g.queues op part); next = g.next + 1 }
    else record g { queues = with_part g.queues op part }

-- the first part of each operator is out, once the MAP of this frame is made
abbrev pub frame_out : Gathering → ℕ → Gathering
frame_out g frame = record g { queues = map (λ queue. drop 1 queue) g.queues; next = frame + 1 }

-- ---- what always holds

-- the part is one of the operator for this frame
pub record IsPartAt (slice : Option Minislots) (quota : Quota) (part : ElementsFields) : Type 0 where
  pub minislots : Minislots
  pub slice_is : slice ≡ Some minislots
  pub part_is : IsPartOf quota minislots part

-- these are parts of an operator for the frames from n on
abbrev pub AreQueued : (ℕ → Option Minislots) → Quota → ℕ → List ElementsFields → Type 0
AreQueued slice_at quota n [] = Unit {0}
AreQueued slice_at quota n (part ∷ parts) = IsPartAt (slice_at n) quota part × AreQueued slice_at quota (n + 1) parts

-- each operator's parts are for the frames from the next one on
abbrev pub AreAllQueued : List Minislots → List Reslicing → List Quota → List (List ElementsFields) → ℕ → Type 0
AreAllQueued slices reslicings quotas queues next =
    (k : ℕ) (quota : Quota) (queue : List ElementsFields) → slice_get quotas k ≡ Some quota → slice_get queues k ≡ Some queue
    → AreQueued (λ n. slice_get (slices_at slices reslicings n) k) quota next queue

-- what is always true of a `Gather`: its quotas and slices are valid, somebody's part of the next frame is missing, and each operator's
-- parts are for the frames from that one on
pub record IsGathering (g : Gathering) : Type 0 where
  pub channel_is : IsChannel g.channel
  pub quotas_are : AreQuotas g.quotas
  pub slices_are : AreSlices g.channel (length g.quotas) g.slices
  pub reslicings_are : All (λ r. AreSlices g.channel (length g.quotas) r.slicing) g.reslicings
  pub one_each : length g.queues ≡ length g.quotas
  pub waiting : is_whole g.queues ≡ false
  pub started : g.channel.first_frame ≤ g.next
  pub queued : AreAllQueued g.slices g.reslicings g.quotas g.queues g.next

-- ---- new slices from a frame on

-- an operator with these parts has put none yet, or none of this frame or a later one
abbrev pub HasPutNoneFrom : Gathering → ℕ → List ElementsFields → Type 0
HasPutNoneFrom g from queue = g.channel.first_frame < g.next + length queue → g.next + length queue ≤ from

-- new slices may be given from a frame on: they are valid, each earlier slice change is from an earlier frame on, and each
-- part put is of an earlier frame
pub record MayReslice (g : Gathering) (from : ℕ) (slices : List Minislots) : Type 0 where
  pub slices_are : AreSlices g.channel (length g.quotas) slices
  pub later : All (λ r. r.from < from) g.reslicings
  pub past : All (HasPutNoneFrom g from) g.queues

-- a slice change: the frames from this one on have these slices, and earlier frames keep theirs
abbrev pub gathering_after_reslice : Gathering → ℕ → List Minislots → Gathering
gathering_after_reslice g from slices = record g { reslicings = g.reslicings ++ record { from = from; slicing = slices } ∷ [] }

-- ---- the parts by their places

-- the first part, else this one
abbrev pub front_or : ElementsFields → List ElementsFields → ElementsFields
front_or part [] = part
front_or part (first ∷ rest) = first

-- an operator's part of the frame whose last part is this one of `op`
abbrev pub part_at : List (List ElementsFields) → ℕ → ElementsFields → ℕ → ElementsFields
part_at queues op part k = if k == op then part else front_or part (queue_of queues k)
