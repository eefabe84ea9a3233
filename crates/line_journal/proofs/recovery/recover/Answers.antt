use Rattle.std.proofs.Common.{◌∙◌, ap, sym, subst, List, ℕ}
use Rattle.line_journal.proofs.Common.{Only, journal_content}
use Rattle.line_journal.proofs.Moments.{kept}
use Rattle.line_journal.proofs.Recovering.{is_found, gate_is, begun, was_cut, front_left, was_shut, text_is, same_again, settled_again}
use Rattle.line_journal.proofs.recovery.recover.Goals as goal

-- any cut keeps what counts
pub returns-in_err-truncate-clause-any_moment : goal.returns-in_err-truncate-clause-any_moment
returns-in_err-truncate-clause-any_moment g c =
    let D = g.D.Device in
    let file_is = c.deref.ensures.value ∙ c.in_ok-file.ensures.bytes in
    let is = is_found (D.seen _) c.in_ok-found.field-0 c.in-Some.found c.in-Some.is (c.in_ok-found.ensures.found ∙ ap journal_content file_is) in
    let size = gate_is c.in_ok-found.field-0 c.in-Some.found c.in-Some.is c.in_ok-found.ensures.gate in
    let start = begun D.seen D.may_leave D.moment D.left_since _ c.requires (λ f left. g.met.D.Device.only_now _ f left) in
    let read = kept D.moment D.left_since D.may_leave _ _ _ c.read.new.self start c.read.ensures.time c.read.ensures.crash in
    let cut = was_cut D.seen D.may_leave D.moment D.left_since _ c.requires _ is _ size c.read.new.self c.truncate.new.self read c.read.ensures.crash c.truncate.ensures.crash c.truncate.ensures.time in
    cut.since

pub returns-in_err-sync-clause-any_moment : goal.returns-in_err-sync-clause-any_moment
returns-in_err-sync-clause-any_moment g c =
    let D = g.D.Device in
    let file_is = c.deref.ensures.value ∙ c.in_ok-file.ensures.bytes in
    let is = is_found (D.seen _) c.in_ok-found.field-0 c.in-Some.found c.in-Some.is (c.in_ok-found.ensures.found ∙ ap journal_content file_is) in
    let size = gate_is c.in_ok-found.field-0 c.in-Some.found c.in-Some.is c.in_ok-found.ensures.gate in
    let start = begun D.seen D.may_leave D.moment D.left_since _ c.requires (λ f left. g.met.D.Device.only_now _ f left) in
    let read = kept D.moment D.left_since D.may_leave _ _ _ c.read.new.self start c.read.ensures.time c.read.ensures.crash in
    let cut = was_cut D.seen D.may_leave D.moment D.left_since _ c.requires _ is _ size c.read.new.self c.truncate.new.self read c.read.ensures.crash c.truncate.ensures.crash c.truncate.ensures.time in
    (kept D.moment D.left_since D.may_leave _ _ c.truncate.new.self c.sync.new.self cut c.sync.ensures.time c.sync.ensures.crash).since

-- and so does one byte behind it
pub returns-in_err-write_at-clause-any_moment : goal.returns-in_err-write_at-clause-any_moment
returns-in_err-write_at-clause-any_moment g c =
    let D = g.D.Device in
    let file_is = c.deref.ensures.value ∙ c.in_ok-file.ensures.bytes in
    let is = is_found (D.seen _) c.in_ok-found.field-0 c.in-Some.found c.in-Some.is (c.in_ok-found.ensures.found ∙ ap journal_content file_is) in
    let size = gate_is c.in_ok-found.field-0 c.in-Some.found c.in-Some.is c.in_ok-found.ensures.gate in
    let start = begun D.seen D.may_leave D.moment D.left_since _ c.requires (λ f left. g.met.D.Device.only_now _ f left) in
    let read = kept D.moment D.left_since D.may_leave _ _ _ c.read.new.self start c.read.ensures.time c.read.ensures.crash in
    let cut = was_cut D.seen D.may_leave D.moment D.left_since _ c.requires _ is _ size c.read.new.self c.truncate.new.self read c.read.ensures.crash c.truncate.ensures.crash c.truncate.ensures.time in
    let synced = kept D.moment D.left_since D.may_leave _ _ c.truncate.new.self c.sync.new.self cut c.sync.ensures.time c.sync.ensures.crash in
    let is_front = front_left D.seen D.may_leave D.moment D.left_since _ c.requires _ is _ size c.truncate.new.self (D.seen c.read.new.self) c.read.ensures.seen c.in_ok-truncate.ensures.truncated in
    let shut = was_shut D.seen D.may_leave D.moment D.left_since _ c.requires _ is _ size (D.seen c.truncate.new.self) c.sync.new.self c.write_at.new.self synced is_front c.in_ok-sync.ensures.durable c.write_at.ensures.crash c.write_at.ensures.time in
    shut.since

pub returns-in_err-sync-2-clause-any_moment : goal.returns-in_err-sync-2-clause-any_moment
returns-in_err-sync-2-clause-any_moment g c =
    let D = g.D.Device in
    let file_is = c.deref.ensures.value ∙ c.in_ok-file.ensures.bytes in
    let is = is_found (D.seen _) c.in_ok-found.field-0 c.in-Some.found c.in-Some.is (c.in_ok-found.ensures.found ∙ ap journal_content file_is) in
    let size = gate_is c.in_ok-found.field-0 c.in-Some.found c.in-Some.is c.in_ok-found.ensures.gate in
    let start = begun D.seen D.may_leave D.moment D.left_since _ c.requires (λ f left. g.met.D.Device.only_now _ f left) in
    let read = kept D.moment D.left_since D.may_leave _ _ _ c.read.new.self start c.read.ensures.time c.read.ensures.crash in
    let cut = was_cut D.seen D.may_leave D.moment D.left_since _ c.requires _ is _ size c.read.new.self c.truncate.new.self read c.read.ensures.crash c.truncate.ensures.crash c.truncate.ensures.time in
    let synced = kept D.moment D.left_since D.may_leave _ _ c.truncate.new.self c.sync.new.self cut c.sync.ensures.time c.sync.ensures.crash in
    let is_front = front_left D.seen D.may_leave D.moment D.left_since _ c.requires _ is _ size c.truncate.new.self (D.seen c.read.new.self) c.read.ensures.seen c.in_ok-truncate.ensures.truncated in
    let shut = was_shut D.seen D.may_leave D.moment D.left_since _ c.requires _ is _ size (D.seen c.truncate.new.self) c.sync.new.self c.write_at.new.self synced is_front c.in_ok-sync.ensures.durable c.write_at.ensures.crash c.write_at.ensures.time in
    let ended = kept D.moment D.left_since D.may_leave _ _ c.write_at.new.self c.sync-2.new.self shut c.sync-2.ensures.time c.sync-2.ensures.crash in
    ended.since

pub returns-clause-any_moment : goal.returns-clause-any_moment
returns-clause-any_moment g c =
    let D = g.D.Device in
    let file_is = c.deref.ensures.value ∙ c.in_ok-file.ensures.bytes in
    let is = is_found (D.seen _) c.in_ok-found.field-0 c.in-Some.found c.in-Some.is (c.in_ok-found.ensures.found ∙ ap journal_content file_is) in
    let size = gate_is c.in_ok-found.field-0 c.in-Some.found c.in-Some.is c.in_ok-found.ensures.gate in
    let start = begun D.seen D.may_leave D.moment D.left_since _ c.requires (λ f left. g.met.D.Device.only_now _ f left) in
    let read = kept D.moment D.left_since D.may_leave _ _ _ c.read.new.self start c.read.ensures.time c.read.ensures.crash in
    let cut = was_cut D.seen D.may_leave D.moment D.left_since _ c.requires _ is _ size c.read.new.self c.truncate.new.self read c.read.ensures.crash c.truncate.ensures.crash c.truncate.ensures.time in
    let synced = kept D.moment D.left_since D.may_leave _ _ c.truncate.new.self c.sync.new.self cut c.sync.ensures.time c.sync.ensures.crash in
    let is_front = front_left D.seen D.may_leave D.moment D.left_since _ c.requires _ is _ size c.truncate.new.self (D.seen c.read.new.self) c.read.ensures.seen c.in_ok-truncate.ensures.truncated in
    let shut = was_shut D.seen D.may_leave D.moment D.left_since _ c.requires _ is _ size (D.seen c.truncate.new.self) c.sync.new.self c.write_at.new.self synced is_front c.in_ok-sync.ensures.durable c.write_at.ensures.crash c.write_at.ensures.time in
    let ended = kept D.moment D.left_since D.may_leave _ _ c.write_at.new.self c.sync-2.new.self shut c.sync-2.ensures.time c.sync-2.ensures.crash in
    ended.since

-- the file is at rest again
pub returns-clause-same : goal.returns-clause-same
returns-clause-same g c =
    let D = g.D.Device in
    let file_is = c.deref.ensures.value ∙ c.in_ok-file.ensures.bytes in
    let is = is_found (D.seen _) c.in_ok-found.field-0 c.in-Some.found c.in-Some.is (c.in_ok-found.ensures.found ∙ ap journal_content file_is) in
    let size = gate_is c.in_ok-found.field-0 c.in-Some.found c.in-Some.is c.in_ok-found.ensures.gate in
    let is_front = front_left D.seen D.may_leave D.moment D.left_since _ c.requires _ is _ size c.truncate.new.self (D.seen c.read.new.self) c.read.ensures.seen c.in_ok-truncate.ensures.truncated in
    let text = c.sync-2.ensures.seen ∙ text_is D.seen D.may_leave D.moment D.left_since _ c.requires _ is _ size (D.seen c.sync.new.self) (D.seen c.write_at.new.self) (c.sync.ensures.seen ∙ is_front) c.in_ok-write_at.ensures.written in
    same_again D.seen D.may_leave D.moment D.left_since _ c.requires _ is _ size _ text

pub returns-clause-settled : goal.returns-clause-settled
returns-clause-settled g c =
    let D = g.D.Device in
    let file_is = c.deref.ensures.value ∙ c.in_ok-file.ensures.bytes in
    let is = is_found (D.seen _) c.in_ok-found.field-0 c.in-Some.found c.in-Some.is (c.in_ok-found.ensures.found ∙ ap journal_content file_is) in
    let size = gate_is c.in_ok-found.field-0 c.in-Some.found c.in-Some.is c.in_ok-found.ensures.gate in
    let is_front = front_left D.seen D.may_leave D.moment D.left_since _ c.requires _ is _ size c.truncate.new.self (D.seen c.read.new.self) c.read.ensures.seen c.in_ok-truncate.ensures.truncated in
    let text = c.sync-2.ensures.seen ∙ text_is D.seen D.may_leave D.moment D.left_since _ c.requires _ is _ size (D.seen c.sync.new.self) (D.seen c.write_at.new.self) (c.sync.ensures.seen ∙ is_front) c.in_ok-write_at.ensures.written in
    let durable = subst (λ (f : List ℕ). Only f (D.may_leave c.sync-2.new.self)) (sym c.sync-2.ensures.seen) c.in_ok-sync-2.ensures.durable in
    settled_again D.seen D.may_leave D.moment D.left_since _ c.requires _ is _ size c.sync-2.new.self text durable
