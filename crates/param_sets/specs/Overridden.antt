-- What a flow asks for over its service class.
use Rattle.std.specs.Option.{option_or}
use Rattle.tlv24.specs.declared.fields.FlowFields.{FlowFields}

-- of the subtypes 7 to 22 the stated value, else the class's; the others as stated
abbrev pub overridden_of : FlowFields → FlowFields → FlowFields
overridden_of class stated = record stated {
  traffic_priority = option_or stated.traffic_priority class.traffic_priority;
  max_sustained_rate = option_or stated.max_sustained_rate class.max_sustained_rate;
  max_burst = option_or stated.max_burst class.max_burst;
  min_reserved_rate = option_or stated.min_reserved_rate class.min_reserved_rate;
  scheduling_type = option_or stated.scheduling_type class.scheduling_type;
  request_policy = option_or stated.request_policy class.request_policy;
  polling_interval = option_or stated.polling_interval class.polling_interval;
  poll_jitter = option_or stated.poll_jitter class.poll_jitter;
  grant_size = option_or stated.grant_size class.grant_size;
  grant_interval = option_or stated.grant_interval class.grant_interval;
  grant_jitter = option_or stated.grant_jitter class.grant_jitter;
  grants_per_interval = option_or stated.grants_per_interval class.grants_per_interval;
}
