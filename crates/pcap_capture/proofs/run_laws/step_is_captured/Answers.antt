use Rattle.pcap_capture.proofs.RunLemmas.{step_run}
use Rattle.pcap_capture.proofs.run_laws.step_is_captured.Goals as goal

pub returns : goal.returns
returns c = step_run
