-- What the reading function answers, said by the relations: for any list of bytes.
use Rattle.std.specs.Prelude.{ℕ, ◌<◌, List, slice_index, Result, Ok, Err}
use Rattle.tlv24.specs.declared.fields.FlowFields.{FlowFields}
use Rattle.tlv24.specs.declared.fault.FlowFault.{FlowFault}
use Rattle.tlv24.specs.Flow.{IsFlowEncoding, IsFirstFlowFault}

-- each number is a byte
abbrev pub AreBytes : List ℕ → Type 0
AreBytes bytes = (place : ℕ) → slice_index bytes place < 256

-- a result of reading is what the bytes say, or their first fault
abbrev pub IsRightAnswer : List ℕ → Result FlowFields FlowFault → Type 0
IsRightAnswer bytes (Ok m) = IsFlowEncoding bytes m
IsRightAnswer bytes (Err e) = IsFirstFlowFault bytes e
