use Rattle.pcap_capture.proofs.HeldLemmas.{frame_holds}
use Rattle.pcap_capture.proofs.laws.frame_is_read.Goals as goal

pub returns : goal.returns
returns c = frame_holds
