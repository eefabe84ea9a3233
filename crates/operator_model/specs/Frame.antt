-- What a tick does: the timers, the frame, and the share that waits for the next one (CM-SP-MULPIv3.1, 7.2 and 11.2; the
-- schedule and the counting in ticks are implementation-specific).
use Rattle.std.specs.Prelude.{◌==◌, ℕ, ◌+◌, List, [], ◌∷◌, ◌++◌, map, Option, Some, None, if◌then◌else◌}
use Rattle.transactions.specs.declared.tick.Resend.{Resend}
use Rattle.transactions.specs.declared.tick.GivenUp.{GivenUp}
use Rattle.transactions.specs.Timers.{resent_in, given_up_in, kept_after}
use Rattle.slice_scheduler.specs.declared.flowing.AtFields.{AtFields}
use Rattle.slice_scheduler.specs.declared.elements.ElementsFields.{ElementsFields}
use Rattle.slice_scheduler.specs.Schedule.{elements_of, granted_of}
use Rattle.flow_table.specs.declared.flow.Flow.{Flow}
use Rattle.flow_table.specs.Flow.{flow_after_grant}
use Rattle.flow_table.specs.Table.{flowing_in}
use Rattle.operator_model.specs.declared.output.Output.{Output}
use Rattle.operator_model.specs.declared.output.Output.TheVariants as outputs
use Rattle.operator_model.specs.declared.share.Share.{Share}
use Rattle.operator_model.specs.declared.share.NextShare.{NextShare}
use Rattle.operator_model.specs.State.{OperatorState, Operator}
use Rattle.operator_model.specs.Handle.{StepResult, undone}
use Rattle.flow_table.specs.Moved.{change_at}

-- ---- timers

-- a response that is retransmitted, as an output
abbrev pub resent : Resend → Output
resent resend = outputs.Reply resend.modem resend.reply

-- each transaction that is abandoned is undone, in order
abbrev pub all_undone : List GivenUp → List (ℕ × Flow) → List (ℕ × Flow)
all_undone [] flows = flows
all_undone (g ∷ given_up) flows = all_undone given_up (undone g.kind g.sfid flows)

-- ---- the frame

-- the frame that is scheduled, in the slice in force
abbrev pub at_frame : Operator → AtFields
at_frame op = record { slice = op.state.share.slice; frame = op.state.frame; short_max = op.consts.short_max; units = op.consts.units }

-- each grant lowers its flow's backlog
abbrev pub all_granted : ℕ → List (ℕ × ℕ) → List (ℕ × Flow) → List (ℕ × Flow)
all_granted frame [] flows = flows
all_granted frame (grant ∷ grants) flows = all_granted frame grants (change_at grant.0 (flow_after_grant grant.1 frame) flows)

-- ---- the share

-- a share takes force in its frame, and waits no more
abbrev pub share_at : ℕ → Share → Option NextShare → Share
share_at frame share None = share
share_at frame share (Some next) = if next.from == frame then next.share else share

-- the share that waits once this frame has come: none where it was to take force in it
abbrev pub next_at : ℕ → Option NextShare → Option NextShare
next_at frame None = None
next_at frame (Some next) = if next.from == frame then None else Some next

-- ---- the tick

-- the flows once what is abandoned is undone
abbrev pub flows_left : OperatorState → List (ℕ × Flow)
flows_left state = all_undone (given_up_in state.kept) state.flows

-- the elements that a tick outputs: the frame, scheduled over the flows that are left
abbrev pub frame_elements : Operator → ElementsFields
frame_elements op = elements_of op.row.policy (at_frame op) (flowing_in (flows_left op.state))

-- the minislots that a tick grants to flows
abbrev pub frame_grants : Operator → List (ℕ × ℕ)
frame_grants op = granted_of op.row.policy (at_frame op) (flowing_in (flows_left op.state))

-- what a tick does: retransmissions in the order of their transactions, then the frame; then the next frame follows, with its slice and
-- budget
abbrev pub tick_result : Operator → StepResult
tick_result op = record {
  state = record {
    flows = all_granted op.state.frame (frame_grants op) (flows_left op.state);
    kept = kept_after op.consts.timers op.state.kept;
    inbox = op.state.inbox;
    frame = op.state.frame + 1;
    share = share_at (op.state.frame + 1) op.state.share op.state.next;
    next = next_at (op.state.frame + 1) op.state.next;
  };
  outputs = map resent (resent_in op.state.kept)
      ++ outputs.Frame op.state.frame (frame_elements op) ∷ [];
}
