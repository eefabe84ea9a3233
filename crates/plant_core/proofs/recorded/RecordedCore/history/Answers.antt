use Rattle.std.proofs.Common.{option_map, List, Some, ap, sym, ◌∙◌, arith}
use Rattle.plant_core.proofs.Common.{slice_get_read, slice_get_past, Entry, HeldHistory}
use Rattle.plant_core.proofs.RecordLemmas.{history_at}
use Rattle.plant_core.proofs.recorded.RecordedCore.history.Goals as goal

pub returns-then-op-len : goal.returns-then-op-len
returns-then-op-len c =
    let histories = c.args.self.now.histories in
    sym (history_at _ histories.items c.args.op c.args.self.now.belongs.one_each
    ∙ ap (option_map (λ (history : HeldHistory). history.entries)) (slice_get_past histories.items c.args.op (omega (arith, c.if-op-len.true, c.len.ensures, histories.ok.0))))

pub returns : goal.returns
returns c =
    let histories = c.args.self.now.histories in
    ap (λ (entries : List Entry). Some entries) c.as_slice.ensures
    ∙ sym (history_at _ histories.items c.args.op c.args.self.now.belongs.one_each
    ∙ ap (option_map (λ (history : HeldHistory). history.entries)) (slice_get_read histories.items _ c.args.op c.index.result.now (c.len.ensures ∙ histories.ok.0) c.if-op-len.false c.index.ensures))
