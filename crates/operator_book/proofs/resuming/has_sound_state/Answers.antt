use Rattle.std.proofs.Common.{◌≤◌, ℕ, List, All, IfSome, subst, rules}
use Rattle.operator_book.proofs.Common.{Flow, IsTypedFlow}
use Rattle.operator_book.proofs.SoundState.{sound_state}
use Rattle.operator_book.proofs.resuming.has_sound_state.Goals as goal

pub returns : goal.returns
returns c =
    let typed : All (λ (entry : ℕ × Flow). IsTypedFlow entry.1) c.args.state.now.flows = subst (λ (flows : List (ℕ × Flow)). All (λ (entry : ℕ × Flow). IsTypedFlow entry.1) flows) c.flows.ensures c.flows_are_typed.ensures in
    let some : 1 ≤ c.args.state.now.share.slice.length = search rules in
    let later : IfSome c.args.state.now.next (λ next. 1 ≤ next.share.slice.length) = search rules in
    sound_state c.args.consts.now c.args.row.now c.args.state.now typed c.requires.own some later c.requires.parts c.requires.table
