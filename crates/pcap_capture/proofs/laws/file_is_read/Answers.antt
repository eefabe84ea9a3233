use Rattle.pcap_capture.proofs.ReadLemmas.{file_read}
use Rattle.pcap_capture.proofs.laws.file_is_read.Goals as goal

pub returns : goal.returns
returns c = file_read
