-- The ranges that the fields of a service flow encoding keep (CM-SP-MULPIv3.1, Annex C, type 24).
use Rattle.std.specs.Prelude.{◌<◌, ◌≤◌, IfSome}
use Rattle.tlv24.specs.declared.fields.FlowFields.{FlowFields}

-- each field that is present is in its range, and a class name is one by its type; the type `FlowTlv` keeps it
pub record AreInRange (m : FlowFields) : Type 0 where
  pub reference : IfSome m.reference (λ n. 0 < n)
  pub sfid : IfSome m.sfid (λ n. 0 < n)
  pub sid : IfSome m.sid (λ n. n < 16384)
  pub traffic_priority : IfSome m.traffic_priority (λ n. n ≤ 7)
