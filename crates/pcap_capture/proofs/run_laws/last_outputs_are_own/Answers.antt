use Rattle.pcap_capture.proofs.OneCapture.{last_told}
use Rattle.pcap_capture.proofs.run_laws.last_outputs_are_own.Goals as goal

pub returns : goal.returns
returns c = last_told
