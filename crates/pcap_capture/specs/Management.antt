-- MAC management messages in their frames (CM-SP-MULPIv3.1, 6.2.1 and 6.4.1).
use Rattle.std.specs.Prelude.{ℕ, ◌+◌, List, [], ◌∷◌, ◌++◌, length}
use Rattle.std.specs.Int.{w16, to_be_bytes}
use Rattle.pcap_capture.specs.Checks.{header_check, frame_check}

-- a management message: to whom, from whom, its version and type, and its payload
pub record ManagementMessage : Type 0 where
  pub to : List ℕ
  pub from : List ℕ
  pub version : ℕ
  pub kind : ℕ
  pub payload : List ℕ

-- the body of a frame, which is the management header and the payload: the addresses, the length of what follows it, DSAP and SSAP 0,
-- control 3, version, type, and a reserved byte
abbrev pub body_of : ManagementMessage → List ℕ
body_of m =
    m.to ++ (m.from ++ (to_be_bytes w16 (6 + length m.payload) ++ ((0 ∷ 0 ∷ 3 ∷ m.version ∷ m.kind ∷ 0 ∷ []) ++ m.payload)))

-- the MAC header before its check: a management frame with no extended header, and how many bytes follow the header
abbrev pub mac_header : ℕ → List ℕ
mac_header count = (194 ∷ 0 ∷ []) ++ to_be_bytes w16 count

-- after the MAC header the management header and the payload, which take 20 bytes and those of the payload, and their check
abbrev pub mac_frame : ManagementMessage → List ℕ
mac_frame m =
    mac_header (24 + length m.payload) ++ (header_check (mac_header (24 + length m.payload)) ++ (body_of m ++ frame_check (body_of m)))
