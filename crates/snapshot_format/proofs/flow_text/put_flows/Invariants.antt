use Rattle.std.proofs.Common.{◌≡◌, ◌++◌, take}
use Rattle.snapshot_format.proofs.Common.{flat_map, string_bytes, flow_text}
use Rattle.snapshot_format.proofs.flow_text.put_flows.Given as goal

abbrev pub invariant-loop-flow : goal.invariant-loop-flow
invariant-loop-flow l = string_bytes l.text ≡ string_bytes l.fn.text ++ flat_map flow_text (take l.flow-index l.flows)
