use Rattle.std.specs.Prelude.{refl}
use Rattle.pcap_capture.specs.Checks.{with_byte}
use Rattle.pcap_capture.proofs.laws.check_values.Goals as goal

pub returns : goal.returns
unfolding with_byte
returns c = record { x25 = refl; ethernet = refl }
