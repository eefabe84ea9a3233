use Rattle.std.proofs.Common.{◌≡◌, take}
use Rattle.pcap_capture.proofs.Common.{All, flat_map, told_in, IsAddressed}
use Rattle.pcap_capture.proofs.capture.told_in.Given as goal

abbrev pub invariant-loop-out : goal.invariant-loop-out
invariant-loop-out l = (l.packets.items ≡ flat_map told_in (take l.out-index l.outs)) × All IsAddressed l.packets.items
