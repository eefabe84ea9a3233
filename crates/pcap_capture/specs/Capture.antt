-- The packets of a plant's run (implementation-specific).
use Rattle.std.specs.Prelude.{◌≡◌, ℕ, List, [], ◌∷◌, ◌++◌, map, filter, Bool, true, false, not}
use Rattle.std.specs.List.{flat_map}
use Rattle.plant.specs.declared.consts.ConstsFields.{ConstsFields}
use Rattle.plant.specs.declared.plant.PlantFields.{PlantFields}
use Rattle.operator_model.specs.declared.heard.Heard.TheVariants.{Message}
use Rattle.operator_model.specs.declared.output.Output.TheVariants as outputs
use Rattle.run_model.specs.declared.step.Step.{Step}
use Rattle.run_model.specs.declared.step.Step.TheVariants as steps
use Rattle.run_model.specs.declared.step.Out.{Out}
use Rattle.run_model.specs.declared.step.Out.TheVariants as outs
use Rattle.run_model.specs.Ordered.{target, IsTold}
use Rattle.pcap_capture.specs.declared.clock.Clock.{Clock}
use Rattle.pcap_capture.specs.declared.packet.Packet.{Packet}
use Rattle.pcap_capture.specs.declared.packet.Packet.TheVariants.{Sent, Reply, Map}
use Rattle.pcap_capture.specs.File.{file_of}

-- ---- packets

-- the packet of a step, if a modem sends a message by it: a bandwidth request is not a management message
abbrev pub sent_in : Step → List Packet
sent_in (steps.Arrive modem (Message bytes)) = Sent modem bytes ∷ []
sent_in step = []

-- the packet of an output, if it is a reply or a MAP
abbrev pub told_in : Out → List Packet
told_in (outs.Of op (outputs.Reply modem bytes)) = Reply modem bytes ∷ []
told_in (outs.Map made) = Map made.frame made.bytes ∷ []
told_in out = []

-- ---- a capture

-- what contracts see of a `Capture` so far: the plant's clock, and the packets in their order
pub record CaptureView : Type 0 where
  pub clock : Clock
  pub packets : List Packet

-- the first frame and a frame's length
abbrev pub clock_of : ConstsFields → Clock
clock_of consts = record { first_frame = consts.channel.first_frame; frame_us = consts.units.frame_us }

-- no packet yet
abbrev pub opened_capture : ConstsFields → CaptureView
opened_capture consts = record { clock = clock_of consts; packets = [] }

-- with these packets more
abbrev pub with_packets : CaptureView → List Packet → CaptureView
with_packets captured more = record captured { packets = captured.packets ++ more }

-- ---- a run

-- a step and its outputs
pub record Turn : Type 0 where
  pub step : Step
  pub outs : List Out

-- the message that a modem sends, then the replies and MAPs
abbrev pub packets_of : Turn → List Packet
packets_of turn = sent_in turn.step ++ flat_map told_in turn.outs

-- The outputs of each step are its own, as `Ordered` says it: those of the operator's own step after the steps before it, or the
-- MAP that a collection completes.
abbrev pub HaveOwnOutputs : PlantFields → List Step → List Turn → Type 0
HaveOwnOutputs plant before [] = Unit {0}
HaveOwnOutputs plant before (turn ∷ turns) =
    IsTold plant before turn.step (target plant turn.step) turn.outs × HaveOwnOutputs plant (before ++ turn.step ∷ []) turns

-- the capture of these steps and outputs has the packets of each step and then of its own outputs, step by step
pub record CapturesRun (plant : PlantFields) (steps : List Step) (outs : List Out) (captured : CaptureView) : Type 0 where
  pub turns : List Turn
  pub steps_are : map (λ turn. turn.step) turns ≡ steps
  pub outs_are : flat_map (λ turn. turn.outs) turns ≡ outs
  pub own : HaveOwnOutputs plant [] turns
  pub clock_is : captured.clock ≡ clock_of plant.consts
  pub packets_are : captured.packets ≡ flat_map packets_of turns

-- the bytes are the file of a capture of these steps and outputs
pub record IsCaptureOf (plant : PlantFields) (steps : List Step) (outs : List Out) (bytes : List ℕ) : Type 0 where
  pub captured : CaptureView
  pub of_run : CapturesRun plant steps outs captured
  pub bytes_are : bytes ≡ file_of captured.clock captured.packets

-- ---- what is in it

-- a modem's message
abbrev pub is_sent : Packet → Bool
is_sent (Sent modem bytes) = true
is_sent packet = false

-- the bytes are the file of packets: of these the modems' messages are those of the steps, in order, and the others are the
-- replies and MAPs of the outs, in order
pub record HoldsRun (consts : ConstsFields) (steps : List Step) (outs : List Out) (bytes : List ℕ) : Type 0 where
  pub packets : List Packet
  pub bytes_are : bytes ≡ file_of (clock_of consts) packets
  pub sent : filter is_sent packets ≡ flat_map sent_in steps
  pub told : filter (λ packet. not (is_sent packet)) packets ≡ flat_map told_in outs
