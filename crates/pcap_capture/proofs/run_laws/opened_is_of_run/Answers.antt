use Rattle.pcap_capture.proofs.RunLemmas.{opened_run}
use Rattle.pcap_capture.proofs.run_laws.opened_is_of_run.Goals as goal

pub returns : goal.returns
returns c = opened_run
