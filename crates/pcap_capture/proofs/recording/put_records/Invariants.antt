use Rattle.std.proofs.Common.{◌≡◌, ◌≤◌, ◌++◌, drop}
use Rattle.pcap_capture.specs.File.{records_from}
use Rattle.pcap_capture.proofs.recording.put_records.Given as goal

abbrev pub invariant-loop-packet : goal.invariant-loop-packet
invariant-loop-packet l =
    (l.next ≤ 4294967296)
    × (l.file.items ++ records_from l.clock.frame_us l.next (drop l.packet-index l.packets)
    ≡ l.initial.file.items ++ records_from l.clock.frame_us l.clock.first_frame l.packets)
