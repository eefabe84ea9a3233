use Rattle.pcap_capture.proofs.TimeLemmas.{times_counted}
use Rattle.pcap_capture.proofs.run_laws.times_are_counted.Goals as goal

pub returns : goal.returns
returns c = times_counted
