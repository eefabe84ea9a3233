-- The frame of a packet.
use Rattle.std.specs.Prelude.{ℕ, List, Option, Some, None}
use Rattle.pcap_capture.specs.declared.packet.Packet.{Packet}
use Rattle.pcap_capture.specs.Management.{ManagementMessage, mac_frame}
use Rattle.pcap_capture.specs.Packets.{managed_of}

-- the MAC frame of a management message, if there is one
abbrev pub frame_of_managed : Option ManagementMessage → Option (List ℕ)
frame_of_managed None = None
frame_of_managed (Some m) = Some (mac_frame m)

-- the frame of a packet; none for a message without a type, or too long for a MAC header
abbrev pub frame_of : Packet → Option (List ℕ)
frame_of packet = frame_of_managed (managed_of packet)
