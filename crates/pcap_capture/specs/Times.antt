-- Times by counting MAPs: where MAPs come from the first frame on, each once and in order, a packet is at the begin of the
-- frame after as many frames as there were MAPs before it (implementation-specific).
use Rattle.std.specs.Prelude.{ℕ, ◌+◌, ◌*◌, List, [], ◌∷◌, ◌++◌}
use Rattle.pcap_capture.specs.declared.packet.Packet.{Packet}
use Rattle.pcap_capture.specs.declared.packet.Packet.TheVariants.{Map}
use Rattle.pcap_capture.specs.Frames.{frame_of}
use Rattle.pcap_capture.specs.File.{record_of}

-- how many MAPs have come after a packet, of which so many came before it
abbrev pub frame_time_after : ℕ → Packet → ℕ
frame_time_after count (Map frame bytes) = count + 1
frame_time_after count packet = count

-- the records of packets with their times by a count of MAPs, so many MAPs having come before them
abbrev pub counted_from : ℕ → ℕ → ℕ → List Packet → List ℕ
counted_from frame_us first_frame count [] = []
counted_from frame_us first_frame count (packet ∷ packets) =
    record_of ((first_frame + count) * frame_us) (frame_of packet) ++ counted_from frame_us first_frame (frame_time_after count packet) packets
