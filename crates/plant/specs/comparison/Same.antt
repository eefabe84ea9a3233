-- What two rows, two plants or two encodings have in common (implementation-specific).
use Rattle.std.specs.Prelude.{◌≡◌}
use Rattle.tlv24.specs.declared.fields.FlowFields.{FlowFields}
use Rattle.plant.specs.declared.consts.ConstsFields.{ConstsFields}
use Rattle.plant.specs.declared.operator_row.RowFields.{RowFields}

-- their limits, and by what they order their flows
pub record HaveSameLimits (a b : RowFields) : Type 0 where
  pub flows : a.flows ≡ b.flows
  pub transactions : a.transactions ≡ b.transactions
  pub inbox : a.inbox ≡ b.inbox
  pub budget : a.budget ≡ b.budget
  pub elements : a.elements ≡ b.elements
  pub policy : a.policy ≡ b.policy

-- their names, their slices and the numbers that their flows get
pub record HaveSameRanges (a b : RowFields) : Type 0 where
  pub name : a.name ≡ b.name
  pub slice : a.slice ≡ b.slice
  pub sfids : a.sfids ≡ b.sfids
  pub sids : a.sids ≡ b.sids

-- the flow that they are of, and the kind of set that they ask for
pub record AreOfSameFlow (a b : FlowFields) : Type 0 where
  pub reference : a.reference ≡ b.reference
  pub sfid : a.sfid ≡ b.sfid
  pub sid : a.sid ≡ b.sid
  pub class_name : a.class_name ≡ b.class_name
  pub errored : a.errored ≡ b.errored
  pub set_type : a.set_type ≡ b.set_type

-- the rates that they ask for
pub record HaveSameRates (a b : FlowFields) : Type 0 where
  pub traffic_priority : a.traffic_priority ≡ b.traffic_priority
  pub max_sustained_rate : a.max_sustained_rate ≡ b.max_sustained_rate
  pub max_burst : a.max_burst ≡ b.max_burst
  pub min_reserved_rate : a.min_reserved_rate ≡ b.min_reserved_rate
  pub scheduling_type : a.scheduling_type ≡ b.scheduling_type
  pub request_policy : a.request_policy ≡ b.request_policy

-- the intervals that they ask for
pub record HaveSameIntervals (a b : FlowFields) : Type 0 where
  pub polling_interval : a.polling_interval ≡ b.polling_interval
  pub poll_jitter : a.poll_jitter ≡ b.poll_jitter
  pub grant_size : a.grant_size ≡ b.grant_size
  pub grant_interval : a.grant_interval ≡ b.grant_interval
  pub grant_jitter : a.grant_jitter ≡ b.grant_jitter
  pub grants_per_interval : a.grants_per_interval ≡ b.grants_per_interval

-- all that two plants' operators share, the classes apart
pub record HaveSameChannel (a b : ConstsFields) : Type 0 where
  pub channel : a.channel ≡ b.channel
  pub units : a.units ≡ b.units
  pub short_max : a.short_max ≡ b.short_max
  pub timers : a.timers ≡ b.timers
