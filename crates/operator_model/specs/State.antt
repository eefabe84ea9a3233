-- What an operator's machine keeps (CM-SP-MULPIv3.1, 7.5 and 11.2; the tables are implementation-specific).
use Rattle.std.specs.Prelude.{ℕ, List, [], map, Option, None}
use Rattle.transactions.specs.declared.entry.KeptEntry.{KeptEntry}
use Rattle.plant.specs.declared.consts.ConstsFields.{ConstsFields}
use Rattle.plant.specs.declared.operator_row.RowFields.{RowFields}
use Rattle.plant.specs.Provisioned.{OpenedFlow, opened_flows}
use Rattle.flow_table.specs.declared.flow.Flow.{Flow}
use Rattle.operator_model.specs.declared.heard.Arrival.{Arrival}
use Rattle.operator_model.specs.declared.share.Share.{Share}
use Rattle.operator_model.specs.declared.share.NextShare.{NextShare}

-- what an operator's machine keeps: its flows, its cached responses, its inbox, the number of the next frame, the slice and the budget in
-- force, and those that wait
pub record OperatorState : Type 0 where
  -- the flows under their SFIDs, ascending
  pub flows : List (ℕ × Flow)
  -- the responses that are kept, in the order in which their transactions began
  pub kept : List KeptEntry
  -- what was received and not handled, in order
  pub inbox : List Arrival
  -- the number of the next frame
  pub frame : ℕ
  -- the slice and the budget in force
  pub share : Share
  -- those that wait for their frame
  pub next : Option NextShare

-- a provisioned flow as it is opened in this frame
abbrev pub opened_flow : ℕ → OpenedFlow → Flow
opened_flow frame opened = record {
  modem = opened.modem;
  sid = opened.sid;
  sets = opened.sets;
  pending = None;
  start = frame;
  backlog = 0;
  since = frame;
}

-- a machine as it is opened: the provisioned flows, and nothing else
abbrev pub opened_state : ConstsFields → RowFields → OperatorState
opened_state consts row = record {
  flows = map (λ entry. (entry.0, opened_flow consts.channel.first_frame entry.1)) (opened_flows consts row);
  kept = [];
  inbox = [];
  frame = consts.channel.first_frame;
  share = record { slice = row.slice; budget = row.budget };
  next = None;
}

-- the constants of a plant that begins with this frame, all else unchanged
abbrev pub consts_from : ℕ → ConstsFields → ConstsFields
consts_from frame consts = record consts { channel = record consts.channel { first_frame = frame } }

-- a machine as it is opened before a later frame than the plant's first one: an operator that joins a running plant
abbrev pub opened_before : ℕ → ConstsFields → RowFields → OperatorState
opened_before frame consts row = opened_state (consts_from frame consts) row

-- an operator: what all operators share, its row, and its state
pub record Operator : Type 0 where
  pub consts : ConstsFields
  pub row : RowFields
  pub state : OperatorState

-- an operator of these constants, this row and this state
abbrev pub operator : ConstsFields → RowFields → OperatorState → Operator
operator consts row state = record { consts = consts; row = row; state = state }
