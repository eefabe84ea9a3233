-- The numbers of a MAP's layout (implementation-specific layout, after CM-SP-MULPIv3.1, 6.4.4, where no other section is named).
use Rattle.std.specs.Prelude.{ℕ}
use Rattle.slice_scheduler.specs.Iuc.{iuc_number}
use Rattle.slice_scheduler.specs.declared.span.Iuc.TheVariants.{Request, Short, Long}

-- ---- the header: at which of its bytes each field begins, and how many bytes it has

-- the Upstream Channel ID, one byte
abbrev pub channel_place : ℕ
channel_place = 0

-- the UCD Count, one byte
abbrev pub ucd_count_place : ℕ
ucd_count_place = 1

-- the Number of Elements, one byte: the Null and those after it included
abbrev pub count_place : ℕ
count_place = 2

-- the Alloc Start Time, four bytes
abbrev pub alloc_start_place : ℕ
alloc_start_place = 4

-- the Ack Time, four bytes
abbrev pub ack_time_place : ℕ
ack_time_place = 8

-- the Ranging Backoff Start, one byte
abbrev pub ranging_start_place : ℕ
ranging_start_place = 12

-- the Ranging Backoff End, one byte
abbrev pub ranging_end_place : ℕ
ranging_end_place = 13

-- the Data Backoff Start, one byte
abbrev pub data_start_place : ℕ
data_start_place = 14

-- the Data Backoff End, one byte
abbrev pub data_end_place : ℕ
data_end_place = 15

-- how many bytes a header has
abbrev pub header_bytes : ℕ
header_bytes = 16

-- what the reserved byte of a header is written as; it is the fourth
abbrev pub reserved_byte : ℕ
reserved_byte = 0

-- the bits of the Alloc Start Time and of the Ack Time
abbrev pub time_bits : ℕ
time_bits = 32

-- ---- an element (6.4.4.2): its bytes, and the bits of its fields

-- how many bytes an element has
abbrev pub element_bytes : ℕ
element_bytes = 4

-- the bits of the SID, which come first
abbrev pub sid_bits : ℕ
sid_bits = 14

-- the bits of the IUC
abbrev pub iuc_bits : ℕ
iuc_bits = 4

-- the bits of the offset, which come last
abbrev pub offset_bits : ℕ
offset_bits = 14

-- ---- to whom (Annex A, A.2)

-- the SID of minislots that are granted to nobody, and of the Null
abbrev pub nobodys_sid : ℕ
nobodys_sid = 0

-- the last SID that a single flow may have: 0x1FFF
abbrev pub last_unicast_sid : ℕ
last_unicast_sid = 8191

-- the SID of all modems: 0x3FFF
abbrev pub broadcast_sid : ℕ
broadcast_sid = 16383

-- ---- for what use: Interval Usage Codes

-- a region for requests: 1
abbrev pub request_iuc : ℕ
request_iuc = iuc_number Request

-- a grant of few minislots: 5
abbrev pub short_iuc : ℕ
short_iuc = iuc_number Short

-- a grant of more: 6
abbrev pub long_iuc : ℕ
long_iuc = iuc_number Long

-- the Null: 7
abbrev pub null_iuc : ℕ
null_iuc = 7

-- ---- limits

-- the most elements of a MAP
abbrev pub element_limit : ℕ
element_limit = 240
