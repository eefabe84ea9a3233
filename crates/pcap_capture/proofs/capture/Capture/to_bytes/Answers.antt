use Rattle.pcap_capture.proofs.Common.{List, Packet, file_of, CaptureView, AreRead}
use Rattle.std.proofs.Common.{ap, subst, ◌∙◌}
use Rattle.std.proofs.lemmas.Result.{IfOk-weaker}
use Rattle.pcap_capture.proofs.AddressLemmas.{are_read}
use Rattle.pcap_capture.proofs.capture.Capture.to_bytes.Goals as goal

pub returns-clause-read : goal.returns-clause-read
returns-clause-read c =
    IfOk-weaker c.file_of.result _ (λ bytes. AreRead c.args.self.now.packets bytes.items)
    (λ file is. subst (λ (v : CaptureView). AreRead v.packets file.items) c.self.view_is
    (are_read c.self.inside.clock c.self.inside.packets.items file.items c.self.invariant
    (is ∙ ap (λ (packets : List Packet). file_of c.self.inside.clock packets) c.as_slice.ensures.value)))
    c.file_of.ensures
