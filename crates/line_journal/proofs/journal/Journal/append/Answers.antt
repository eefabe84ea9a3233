use Rattle.std.proofs.Common.{◌∙◌, ap, List, ℕ, length, take, drop}
use Rattle.line_journal.proofs.Moments.{kept}
use Rattle.line_journal.proofs.Stages.{batch_lines, begun, wrote, behind_gate, opened, acknowledged}
use Rattle.line_journal.proofs.journal.Journal.append.Goals as goal

-- the first write leaves the lines as they were
pub returns-in_err-write_at-clause-any_moment : goal.returns-in_err-write_at-clause-any_moment
returns-in_err-write_at-clause-any_moment g c =
    let D = g.D.Device in
    let each_new = batch_lines c.in_ok-text.text.items c.args.batch.now c.in_ok-text.ensures.lines in
    let start = begun D.seen D.may_leave D.moment D.left_since _ c.args.self.now.gate c.args.batch.now c.requires each_new (λ f left. g.met.D.Device.only_now _ f left) in
    let behind = wrote D.seen D.may_leave D.moment D.left_since _ c.args.self.now.gate c.args.batch.now c.requires each_new _ c.write_at.new.self start c.write_at.ensures.crash c.write_at.ensures.time in
    behind.since

pub returns-in_err-sync-clause-any_moment : goal.returns-in_err-sync-clause-any_moment
returns-in_err-sync-clause-any_moment g c =
    let D = g.D.Device in
    let each_new = batch_lines c.in_ok-text.text.items c.args.batch.now c.in_ok-text.ensures.lines in
    let start = begun D.seen D.may_leave D.moment D.left_since _ c.args.self.now.gate c.args.batch.now c.requires each_new (λ f left. g.met.D.Device.only_now _ f left) in
    let behind = wrote D.seen D.may_leave D.moment D.left_since _ c.args.self.now.gate c.args.batch.now c.requires each_new _ c.write_at.new.self start c.write_at.ensures.crash c.write_at.ensures.time in
    (kept D.moment D.left_since D.may_leave _ _ c.write_at.new.self c.sync.new.self behind c.sync.ensures.time c.sync.ensures.crash).since

-- the second leaves them with the lines of the batch or without
pub returns-in_err-write_at-2-clause-any_moment : goal.returns-in_err-write_at-2-clause-any_moment
returns-in_err-write_at-2-clause-any_moment g c =
    let D = g.D.Device in
    let each_new = batch_lines c.in_ok-text.text.items c.args.batch.now c.in_ok-text.ensures.lines in
    let start = begun D.seen D.may_leave D.moment D.left_since _ c.args.self.now.gate c.args.batch.now c.requires each_new (λ f left. g.met.D.Device.only_now _ f left) in
    let behind = wrote D.seen D.may_leave D.moment D.left_since _ c.args.self.now.gate c.args.batch.now c.requires each_new _ c.write_at.new.self start c.write_at.ensures.crash c.write_at.ensures.time in
    let synced = kept D.moment D.left_since D.may_leave _ _ c.write_at.new.self c.sync.new.self behind c.sync.ensures.time c.sync.ensures.crash in
    let text_is = c.deref.ensures.value ∙ c.in_ok-text.ensures.text in
    let staged = behind_gate D.seen D.may_leave D.moment D.left_since _ c.args.self.now.gate c.args.batch.now c.requires each_new c.write_at.new.self c.split_at.result.1.now (c.split_at.ensures.back ∙ ap (λ (t : List ℕ). drop 1 t) text_is) c.in_ok-write_at.ensures.written in
    let gate = opened D.seen D.may_leave D.moment D.left_since _ c.args.self.now.gate c.args.batch.now c.requires each_new _ (D.seen c.write_at.new.self) c.sync.new.self c.write_at-2.new.self synced c.split_at.ensures.front_len staged c.in_ok-sync.ensures.durable c.write_at-2.ensures.crash c.write_at-2.ensures.time in
    gate.since

pub returns-in_err-sync-2-clause-any_moment : goal.returns-in_err-sync-2-clause-any_moment
returns-in_err-sync-2-clause-any_moment g c =
    let D = g.D.Device in
    let each_new = batch_lines c.in_ok-text.text.items c.args.batch.now c.in_ok-text.ensures.lines in
    let start = begun D.seen D.may_leave D.moment D.left_since _ c.args.self.now.gate c.args.batch.now c.requires each_new (λ f left. g.met.D.Device.only_now _ f left) in
    let behind = wrote D.seen D.may_leave D.moment D.left_since _ c.args.self.now.gate c.args.batch.now c.requires each_new _ c.write_at.new.self start c.write_at.ensures.crash c.write_at.ensures.time in
    let synced = kept D.moment D.left_since D.may_leave _ _ c.write_at.new.self c.sync.new.self behind c.sync.ensures.time c.sync.ensures.crash in
    let text_is = c.deref.ensures.value ∙ c.in_ok-text.ensures.text in
    let staged = behind_gate D.seen D.may_leave D.moment D.left_since _ c.args.self.now.gate c.args.batch.now c.requires each_new c.write_at.new.self c.split_at.result.1.now (c.split_at.ensures.back ∙ ap (λ (t : List ℕ). drop 1 t) text_is) c.in_ok-write_at.ensures.written in
    let gate = opened D.seen D.may_leave D.moment D.left_since _ c.args.self.now.gate c.args.batch.now c.requires each_new _ (D.seen c.write_at.new.self) c.sync.new.self c.write_at-2.new.self synced c.split_at.ensures.front_len staged c.in_ok-sync.ensures.durable c.write_at-2.ensures.crash c.write_at-2.ensures.time in
    let ended = kept D.moment D.left_since D.may_leave _ _ c.write_at-2.new.self c.sync-2.new.self gate c.sync-2.ensures.time c.sync-2.ensures.crash in
    ended.since

pub returns-clause-any_moment : goal.returns-clause-any_moment
returns-clause-any_moment g c =
    let D = g.D.Device in
    let each_new = batch_lines c.in_ok-text.text.items c.args.batch.now c.in_ok-text.ensures.lines in
    let start = begun D.seen D.may_leave D.moment D.left_since _ c.args.self.now.gate c.args.batch.now c.requires each_new (λ f left. g.met.D.Device.only_now _ f left) in
    let behind = wrote D.seen D.may_leave D.moment D.left_since _ c.args.self.now.gate c.args.batch.now c.requires each_new _ c.write_at.new.self start c.write_at.ensures.crash c.write_at.ensures.time in
    let synced = kept D.moment D.left_since D.may_leave _ _ c.write_at.new.self c.sync.new.self behind c.sync.ensures.time c.sync.ensures.crash in
    let text_is = c.deref.ensures.value ∙ c.in_ok-text.ensures.text in
    let staged = behind_gate D.seen D.may_leave D.moment D.left_since _ c.args.self.now.gate c.args.batch.now c.requires each_new c.write_at.new.self c.split_at.result.1.now (c.split_at.ensures.back ∙ ap (λ (t : List ℕ). drop 1 t) text_is) c.in_ok-write_at.ensures.written in
    let gate = opened D.seen D.may_leave D.moment D.left_since _ c.args.self.now.gate c.args.batch.now c.requires each_new _ (D.seen c.write_at.new.self) c.sync.new.self c.write_at-2.new.self synced c.split_at.ensures.front_len staged c.in_ok-sync.ensures.durable c.write_at-2.ensures.crash c.write_at-2.ensures.time in
    let ended = kept D.moment D.left_since D.may_leave _ _ c.write_at-2.new.self c.sync-2.new.self gate c.sync-2.ensures.time c.sync-2.ensures.crash in
    ended.since

-- and then they are on the disk
pub returns-clause-acknowledged : goal.returns-clause-acknowledged
returns-clause-acknowledged g c =
    let D = g.D.Device in
    let each_new = batch_lines c.in_ok-text.text.items c.args.batch.now c.in_ok-text.ensures.lines in
    let text_is = c.deref.ensures.value ∙ c.in_ok-text.ensures.text in
    let behind_is = c.split_at.ensures.back ∙ ap (λ (t : List ℕ). drop 1 t) text_is in
    let gate_is = c.split_at.ensures.front ∙ ap (λ (t : List ℕ). take 1 t) text_is in
    let staged = behind_gate D.seen D.may_leave D.moment D.left_since _ c.args.self.now.gate c.args.batch.now c.requires each_new c.write_at.new.self c.split_at.result.1.now behind_is c.in_ok-write_at.ensures.written in
    acknowledged D.seen D.may_leave D.moment D.left_since _ c.args.self.now.gate c.args.batch.now c.requires each_new (length c.split_at.result.1.now) (D.seen c.sync.new.self) c.split_at.result.0.now c.sync-2.new.self
    (c.sync.ensures.seen ∙ staged) gate_is (ap length behind_is) (D.seen c.write_at-2.new.self) c.in_ok-write_at-2.ensures.written c.sync-2.ensures.seen c.in_ok-sync-2.ensures.durable
