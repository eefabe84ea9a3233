use Rattle.pcap_capture.proofs.Common.{◌≡◌, ℕ, ◌+◌, List, [], ◌∷◌, length, Bool, true, false, Option, Some, None, if◌then◌else◌, nat_le, IfSome, ◌≤◌, ◌<◌, ◌^◌, refl, leb-true, take-append_seam, Packet, Sent, Reply, Map, frame_of, frame_of_managed, FrameHolds, HoldsPacket, IsAddressed}
use Rattle.std.proofs.Common.{arith, sym, ◌∙◌, ap, subst, length-append}
use Rattle.pcap_capture.specs.Management.{ManagementMessage, mac_frame}
use Rattle.pcap_capture.specs.Packets.{managed_of, packet_message, if_fits}

-- an address by its bytes
record Six (xs : List ℕ) : Type 0 where
  pub a : ℕ
  pub b : ℕ
  pub c : ℕ
  pub d : ℕ
  pub e : ℕ
  pub f : ℕ
  pub is : xs ≡ a ∷ b ∷ c ∷ d ∷ e ∷ f ∷ []

six : (xs : List ℕ) → length xs ≡ 6 → Six xs
six [] h = absurd (omega arith)
six (a ∷ []) h = absurd (omega arith)
six (a ∷ b ∷ []) h = absurd (omega arith)
six (a ∷ b ∷ c ∷ []) h = absurd (omega arith)
six (a ∷ b ∷ c ∷ d ∷ []) h = absurd (omega arith)
six (a ∷ b ∷ c ∷ d ∷ e ∷ []) h = absurd (omega arith)
six (a ∷ b ∷ c ∷ d ∷ e ∷ f ∷ []) h = record { a = a; b = b; c = c; d = d; e = e; f = f; is = refl }
six (a ∷ b ∷ c ∷ d ∷ e ∷ f ∷ g ∷ rest) h = absurd (omega arith)

whole_of : (m : ManagementMessage) → length m.to ≡ 6 → length m.from ≡ 6 → length (mac_frame m) ≡ 30 + length m.payload
whole_of m to from = simp length-append (omega (arith, to, from))

held_by_bytes : (m : ManagementMessage) (a b c d e f a' b' c' d' e' f' : ℕ) → m.to ≡ a ∷ b ∷ c ∷ d ∷ e ∷ f ∷ []
    → m.from ≡ a' ∷ b' ∷ c' ∷ d' ∷ e' ∷ f' ∷ [] → length (mac_frame m) ≡ 30 + length m.payload → FrameHolds (mac_frame m) m
held_by_bytes m a b c d e f a' b' c' d' e' f' to from whole = rw (to, from) (record {
  to = refl;
  from = refl;
  version = refl;
  kind = refl;
  payload = take-append_seam _ _;
  whole = rw (to, from) at whole;
})

held : (m : ManagementMessage) → length m.to ≡ 6 → length m.from ≡ 6 → FrameHolds (mac_frame m) m
held m to from =
    let t : Six m.to = six m.to to in
    let f : Six m.from = six m.from from in
    held_by_bytes m t.a t.b t.c t.d t.e t.f f.a f.b f.c f.d f.e f.f t.is f.is (whole_of m to from)

frame_of_some : (packet : Packet) (m : ManagementMessage) (frame : List ℕ) → managed_of packet ≡ Some m → frame_of packet ≡ Some frame → mac_frame m ≡ frame
frame_of_some packet m frame is h =
    let e : frame_of_managed (Some m) ≡ Some frame = sym (ap frame_of_managed is) ∙ h in cc

picked : (b : Bool) (n m : ManagementMessage) → (if b then Some n else None) ≡ Some m → n ≡ m
picked true n m e = cc
picked false n m e = cc

-- the message of an address to another: both have six bytes
between : (to from bytes : List ℕ) (m : ManagementMessage) → length to ≡ 6 → length from ≡ 6 → packet_message to from bytes ≡ Some m
    → (length m.to ≡ 6) × (length m.from ≡ 6)
between to from [] m t f is = cc
between to from (kind ∷ payload) m t f is =
    let e = picked _ _ m is in
    (sym (ap (λ (x : ManagementMessage). length x.to) e) ∙ t, sym (ap (λ (x : ManagementMessage). length x.from) e) ∙ f)

addresses : (packet : Packet) (m : ManagementMessage) → IsAddressed packet → managed_of packet ≡ Some m → (length m.to ≡ 6) × (length m.from ≡ 6)
addresses (Sent modem bytes) m six is = between _ _ bytes m refl six is
addresses (Reply modem bytes) m six is = between _ _ bytes m six refl is
addresses (Map frame bytes) m six is =
    let e = picked _ _ m is in
    (sym (ap (λ (x : ManagementMessage). length x.to) e), sym (ap (λ (x : ManagementMessage). length x.from) e))

in_frame : (packet : Packet) (frame : List ℕ) (message : Option ManagementMessage) → IsAddressed packet → managed_of packet ≡ message
    → frame_of packet ≡ Some frame → HoldsPacket frame packet
in_frame packet frame None six is h = let e : frame_of_managed None ≡ Some frame = sym (ap frame_of_managed is) ∙ h in cc
in_frame packet frame (Some m) six is h =
    let a = addresses packet m six is in
    let P : List ℕ → Type 0 = λ bytes. FrameHolds bytes m in
    record { message = m; message_is = is; held = subst P (frame_of_some packet m frame is h) (held m a.0 a.1) }

pub frame_holds : (packet : Packet) (frame : List ℕ) → IsAddressed packet → frame_of packet ≡ Some frame → HoldsPacket frame packet
frame_holds packet frame six h = in_frame packet frame (managed_of packet) six refl h

bounded : (b : Bool) (n m : ManagementMessage) → nat_le (length n.payload) 65511 ≡ b → (if b then Some n else None) ≡ Some m → length m.payload ≤ 65511
bounded true n m le e =
    let P : ManagementMessage → Type 0 = λ x. length x.payload ≤ 65511 in subst P (picked true n m e) (leb-true _ _ le)
bounded false n m le e = cc

if_fits_short : (n m : ManagementMessage) → if_fits n ≡ Some m → length m.payload ≤ 65511
if_fits_short n m e = bounded (nat_le (length n.payload) 65511) n m refl e

message_short : (to from bytes : List ℕ) (m : ManagementMessage) → packet_message to from bytes ≡ Some m → length m.payload ≤ 65511
message_short to from [] m e = cc
message_short to from (kind ∷ payload) m e = if_fits_short _ m e

managed_short : (packet : Packet) (m : ManagementMessage) → managed_of packet ≡ Some m → length m.payload ≤ 65511
managed_short (Sent modem bytes) m e = message_short _ _ bytes m e
managed_short (Reply modem bytes) m e = message_short _ _ bytes m e
managed_short (Map frame bytes) m e = if_fits_short _ m e

short_of : (packet : Packet) (message : Option ManagementMessage) → IsAddressed packet → managed_of packet ≡ message
    → IfSome (frame_of_managed message) (λ f. length f < 2 ^ 32)
short_of packet None six is = tt
short_of packet (Some m) six is =
    let a = addresses packet m six is in
    let whole : length (mac_frame m) ≡ 30 + length m.payload = whole_of m a.0 a.1 in
    let few : length m.payload ≤ 65511 = managed_short packet m is in
    omega arith

pub short_frame : (packet : Packet) → IsAddressed packet → IfSome (frame_of packet) (λ f. length f < 2 ^ 32)
short_frame packet six = short_of packet (managed_of packet) six refl
