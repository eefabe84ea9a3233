use Rattle.pcap_capture.proofs.RunLemmas.{holds_run}
use Rattle.pcap_capture.proofs.run_laws.capture_holds_run.Goals as goal

pub returns : goal.returns
returns c = holds_run
