-- Packets of a capture as management messages (CM-SP-MULPIv3.1, 6.4.1, 6.4.4 and 6.4.12 on; the CMTS's address is implementation-specific).
use Rattle.std.specs.Prelude.{ℕ, ◌&&◌, List, [], ◌∷◌, length, nat_le, Option, Some, None, if◌then◌else◌}
use Rattle.dsx_messages.specs.MessageType.{dsa_req, dsd_rsp}
use Rattle.pcap_capture.specs.declared.packet.Packet.{Packet}
use Rattle.pcap_capture.specs.declared.packet.Packet.TheVariants.{Sent, Reply, Map}
use Rattle.pcap_capture.specs.Management.{ManagementMessage}

-- 02:00:00:00:00:00
abbrev pub cmts : List ℕ
cmts = 2 ∷ 0 ∷ 0 ∷ 0 ∷ 0 ∷ 0 ∷ []

-- 01:E0:2F:00:00:01, all modems
abbrev pub all_modems_address : List ℕ
all_modems_address = 1 ∷ 224 ∷ 47 ∷ 0 ∷ 0 ∷ 1 ∷ []

-- the version of a dynamic service message is 2, of any other type 1
abbrev pub version_of : ℕ → ℕ
version_of kind = if nat_le dsa_req kind && nat_le kind dsd_rsp then 2 else 1

-- the message, where its frame is no longer than a MAC header can say
abbrev pub if_fits : ManagementMessage → Option ManagementMessage
if_fits m = if nat_le (length m.payload) 65511 then Some m else None

-- one byte of message type and the payload; nothing where there is no such byte
abbrev pub packet_message : List ℕ → List ℕ → List ℕ → Option ManagementMessage
packet_message to from [] = None
packet_message to from (kind ∷ payload) =
    if_fits (record { to = to; from = from; version = version_of kind; kind = kind; payload = payload })

-- the message type of a MAP
abbrev pub map_type : ℕ
map_type = 3

-- a MAP goes to all modems
abbrev pub map_message : List ℕ → Option ManagementMessage
map_message body = if_fits (record { to = all_modems_address; from = cmts; version = 1; kind = map_type; payload = body })

-- the management message of a packet: a modem's goes to the CMTS, a reply to the modem, a MAP to all modems; there is none if the packet
-- has no message type, or is too long
abbrev pub managed_of : Packet → Option ManagementMessage
managed_of (Sent modem bytes) = packet_message cmts modem.0 bytes
managed_of (Reply modem bytes) = packet_message modem.0 cmts bytes
managed_of (Map frame bytes) = map_message bytes
