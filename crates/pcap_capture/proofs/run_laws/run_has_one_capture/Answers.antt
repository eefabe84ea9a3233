use Rattle.pcap_capture.proofs.OneCapture.{some_capture, one_capture}
use Rattle.pcap_capture.proofs.run_laws.run_has_one_capture.Goals as goal

pub returns : goal.returns
returns c = record { exists = some_capture; unique = one_capture }
