-- The packets of a capture have addresses of six bytes, so its file is read.
use Rattle.pcap_capture.proofs.Common.{◌≡◌, ℕ, List, [], ◌∷◌, ◌++◌, length, All, Contains, filter_map, All-nil, All-push, All-append, recursion_from_All, Clock, Packet, frame_of, file_of, frames_of_file, IsAddressed, AreRead}
use Rattle.std.proofs.Common.{sym, subst}
use Rattle.pcap_capture.proofs.HeldLemmas.{frame_holds}
use Rattle.pcap_capture.proofs.ReadLemmas.{file_read}

pub none_addressed : All IsAddressed []
none_addressed = All-nil IsAddressed

pub one_addressed : (packet : Packet) → IsAddressed packet → All IsAddressed (packet ∷ [])
one_addressed packet six = All-push IsAddressed [] packet none_addressed six

pub more_addressed : (packets more : List Packet) → All IsAddressed packets → All IsAddressed more → All IsAddressed (packets ++ more)
more_addressed packets more all others = All-append IsAddressed packets more all others

-- what holds of all packets holds of each
of_one : (packets : List Packet) (packet : Packet) → All IsAddressed packets → Contains packets packet → IsAddressed packet
of_one packets packet all here = subst IsAddressed here.2 (all here.0 packet here.1)

pub are_read : (clock : Clock) (packets : List Packet) (bytes : List ℕ) → All IsAddressed packets → bytes ≡ file_of clock packets
    → AreRead packets bytes
are_read clock packets bytes all is = record {
  frames_are = subst (λ (b : List ℕ). frames_of_file (length packets) b ≡ filter_map frame_of packets) (sym is)
      (file_read clock packets (recursion_from_All IsAddressed packets all));
  held = λ packet frame here h. frame_holds packet frame (of_one packets packet all here) h;
}
