-- The names that several proofs of this crate cite, passed on from one place. Declares nothing.
pub use Rattle.operator_model.specs.declared.heard.Heard.TheVariants.{Message, Request}
pub use Rattle.pcap_capture.specs.Capture.{CaptureView, Turn, clock_of, sent_in, told_in, packets_of, HaveOwnOutputs, IsCaptureOf, opened_capture, with_packets, CapturesRun, HoldsRun, is_sent}
pub use Rattle.pcap_capture.specs.Checks.{with_bit, with_bits, with_byte}
pub use Rattle.pcap_capture.specs.File.{file_of, record_of, records_from, file_header}
pub use Rattle.pcap_capture.specs.Frames.{frame_of, frame_of_managed}
pub use Rattle.pcap_capture.specs.Laws.{IsAddressed, AreRead, FrameHolds, HoldsPacket}
pub use Rattle.pcap_capture.specs.Reading.{frames_of_file, kept_in, records_in}
pub use Rattle.pcap_capture.specs.declared.clock.Clock.{Clock}
pub use Rattle.pcap_capture.specs.declared.packet.Packet.{Packet}
pub use Rattle.pcap_capture.specs.declared.packet.Packet.TheVariants.{Sent, Reply, Map}
pub use Rattle.plant.specs.declared.plant.PlantFields.{PlantFields}
pub use Rattle.run_model.specs.IsTraceOf.{isolated_run, IsLeast, IsTraceOf}
pub use Rattle.run_model.specs.Ordered.{target, IsCollected, AreOwn, IsTold, AreInOrder, Ordered}
pub use Rattle.run_model.specs.OwnSteps.{outputs_under, is_collect, maps_in}
pub use Rattle.run_model.specs.declared.step.Out.{Out}
pub use Rattle.run_model.specs.declared.step.Step.{Step}
pub use Rattle.std.proofs.Math.Seq.{take-append_seam, drop-append_seam, drop-append-add}
pub use Rattle.std.proofs.lemmas.Bool.{leb-true, lt-ltb}
pub use Rattle.std.proofs.lemmas.Grind.{flat_map-append}
pub use Rattle.std.proofs.lemmas.List.{map-append}
pub use Rattle.std.proofs.lemmas.List.Elements.{All-nil, All-push, All-append, recursion_from_All, filter-append, filter_map-append}
pub use Rattle.std.specs.List.{filter_map, flat_map, cons_option, AllByRecursion, range_with_len, fold}
pub use Rattle.std.specs.Prelude.{◌≡◌, ℕ, List, [], ◌∷◌, ◌++◌, length, All, Contains, ◌+◌, Bool, true, false, Option, Some, None, if◌then◌else◌, nat_le, IfSome, ◌≤◌, ◌<◌, ◌^◌, refl, map, take, drop, zero, suc, ◌*◌, ◌/◌, ◌%◌, nat_lt, filter, not}
