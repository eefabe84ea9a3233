-- That the check sequences are those of X.25 and of Ethernet, and that a frame holds its message (implementation-specific).
use Rattle.std.specs.Prelude.{◌≡◌, ℕ, ◌+◌, List, take, drop, slice_index, length, codes, Some, Contains}
use Rattle.std.specs.List.{filter_map}
use Rattle.pcap_capture.specs.declared.packet.Packet.{Packet}
use Rattle.pcap_capture.specs.declared.packet.Packet.TheVariants.{Sent, Reply, Map}
use Rattle.pcap_capture.specs.Checks.{crc_x25, crc_32}
use Rattle.pcap_capture.specs.Management.{ManagementMessage}
use Rattle.pcap_capture.specs.Packets.{managed_of}
use Rattle.pcap_capture.specs.Frames.{frame_of}
use Rattle.pcap_capture.specs.Reading.{frames_of_file}

-- the check values of both: what they make of the digits 1 to 9
pub record AreCheckValues : Type 0 where
  pub x25 : crc_x25 (codes "123456789") ≡ 36974
  pub ethernet : crc_32 (codes "123456789") ≡ 3421780262

-- an address has six bytes
abbrev pub IsAddressed : Packet → Type 0
IsAddressed (Sent modem bytes) = length modem.0 ≡ 6
IsAddressed (Reply modem bytes) = length modem.0 ≡ 6
IsAddressed (Map frame bytes) = Unit {0}

-- a reader finds each part of a message in its frame, by its place
pub record FrameHolds (frame : List ℕ) (m : ManagementMessage) : Type 0 where
  pub to : take 6 (drop 6 frame) ≡ m.to
  pub from : take 6 (drop 12 frame) ≡ m.from
  pub version : slice_index frame 23 ≡ m.version
  pub kind : slice_index frame 24 ≡ m.kind
  pub payload : take (length m.payload) (drop 26 frame) ≡ m.payload
  pub whole : length frame ≡ 30 + length m.payload

-- the frame holds the packet's management message, each part at its place
pub record HoldsPacket (frame : List ℕ) (packet : Packet) : Type 0 where
  pub message : ManagementMessage
  pub message_is : managed_of packet ≡ Some message
  pub held : FrameHolds frame message

-- A reader who goes through the bytes from record to record finds the frames of these packets, in order, and nothing else. Each
-- frame holds its packet's message.
pub record AreRead (packets : List Packet) (bytes : List ℕ) : Type 0 where
  pub frames_are : frames_of_file (length packets) bytes ≡ filter_map frame_of packets
  pub held : (packet : Packet) (frame : List ℕ) → Contains packets packet → frame_of packet ≡ Some frame → HoldsPacket frame packet
