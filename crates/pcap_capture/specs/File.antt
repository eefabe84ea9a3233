-- A capture file, as Wireshark reads it (implementation-specific: pcap 2.4, low byte first).
use Rattle.std.specs.Prelude.{ℕ, ◌+◌, ◌*◌, ◌/◌, ◌%◌, List, [], ◌∷◌, ◌++◌, length, Option, Some, None}
use Rattle.std.specs.Int.{w16, w32, to_le_bytes}
use Rattle.pcap_capture.specs.declared.clock.Clock.{Clock}
use Rattle.pcap_capture.specs.declared.packet.Packet.{Packet}
use Rattle.pcap_capture.specs.declared.packet.Packet.TheVariants.{Map}
use Rattle.pcap_capture.specs.Frames.{frame_of}

-- ---- times

-- the frame at whose begin a packet exists: a MAP's own, else that whose MAP comes next
abbrev pub packet_frame : ℕ → Packet → ℕ
packet_frame next (Map frame bytes) = frame
packet_frame next packet = next

-- the frame whose MAP comes next after a packet
abbrev pub next_after : ℕ → Packet → ℕ
next_after next (Map frame bytes) = frame + 1
next_after next packet = next

-- ---- records

-- 32 bits, the low byte first
unfoldable pub word_bytes : ℕ → List ℕ
word_bytes n = to_le_bytes w32 n

-- a record: seconds (their low 32 bits), microseconds, how many bytes are kept and how many there were, and the frame
abbrev pub record_of : ℕ → Option (List ℕ) → List ℕ
record_of microseconds None = []
record_of microseconds (Some frame) =
    word_bytes (microseconds / 1000000 % 4294967296) ++ (word_bytes (microseconds % 1000000) ++ (word_bytes (length frame) ++ (word_bytes (length frame) ++ frame)))

-- the records of packets, the first of which is before the MAP of the frame `next`, in frames of so many microseconds
abbrev pub records_from : ℕ → ℕ → List Packet → List ℕ
records_from frame_us next [] = []
records_from frame_us next (packet ∷ packets) =
    record_of (packet_frame next packet * frame_us) (frame_of packet) ++ records_from frame_us (next_after next packet) packets

-- ---- the file

-- pcap 2.4, times in microseconds of no time zone, packets of up to 65,541 bytes, link type 143 (DOCSIS)
abbrev pub file_header : List ℕ
file_header =
    to_le_bytes w32 2712847316 ++ (to_le_bytes w16 2 ++ (to_le_bytes w16 4 ++ (to_le_bytes w32 0 ++ (to_le_bytes w32 0
    ++ (to_le_bytes w32 65541 ++ to_le_bytes w32 143)))))

-- the capture of packets
abbrev pub file_of : Clock → List Packet → List ℕ
file_of clock packets = file_header ++ records_from clock.frame_us clock.first_frame packets
