-- A frame's elements as C gets them (implementation-specific).
use Rattle.std.specs.Prelude.{ℕ}
use Rattle.slice_scheduler.specs.declared.span.Span.{Span}
use Rattle.slice_scheduler.specs.Iuc.{iuc_number}
use Rattle.channel_c.specs.declared.grants.Grant.{Grant}

-- a span of minislots: its SID, the number of its IUC, its first minislot and its length
abbrev pub granted_as : Span → Grant
granted_as span = record { sid = span.sid; iuc = iuc_number span.iuc; start = span.start; length = span.len }

-- a grant pending: of no minislots
abbrev pub pending_as : ℕ → Grant
pending_as sid = record { sid = sid; iuc = 0; start = 0; length = 0 }
