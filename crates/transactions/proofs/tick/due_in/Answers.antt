use Rattle.std.proofs.Common.{arith, sym, ap, ◌∙◌}
use Rattle.transactions.specs.Timers.{is_resent, resend_of, is_given_up, given_up_of}
use Rattle.transactions.proofs.ListLemmas.{map-kept, map-left, told_there, on_err}
use Rattle.transactions.proofs.tick.due_in.Goals as goal

pub loop-entry-preserved : goal.loop-entry-preserved
loop-entry-preserved c =
    let entry = c.entry-item.result in
    let sent = map-kept is_resent resend_of c.args.entries.now c.loop-entry.entry-index entry c.loop-entry-test.true c.entry-item.is c.loop-entry.resends.items c.loop-entry.invariant.0 in
    let unsent = map-left is_resent resend_of c.args.entries.now c.loop-entry.entry-index entry c.loop-entry-test.true c.entry-item.is c.loop-entry.resends.items c.loop-entry.invariant.0 in
    let gone = map-kept is_given_up given_up_of c.args.entries.now c.loop-entry.entry-index entry c.loop-entry-test.true c.entry-item.is c.loop-entry.given_ups.items c.loop-entry.invariant.1 in
    let left = map-left is_given_up given_up_of c.args.entries.now c.loop-entry.entry-index entry c.loop-entry-test.true c.entry-item.is c.loop-entry.given_ups.items c.loop-entry.invariant.1 in
    grind (arith, sent, unsent, gone, left)

pub returns-in_err-reply-clause-err : goal.returns-in_err-reply-clause-err
returns-in_err-reply-clause-err c =
    let passes = ap is_resent (sym c.entry-item.is) ∙ (sym c.is_resent.ensures ∙ c.if-is_resent.true) in
    on_err c.from_residual.result (λ none other. told_there is_resent resend_of c.args.entries.now c.loop-entry.entry-index c.entry-item.result c.loop-entry-test.true passes none)

pub returns-in_err-push-clause-err : goal.returns-in_err-push-clause-err
returns-in_err-push-clause-err c =
    let passes = ap is_resent (sym c.entry-item.is) ∙ (sym c.is_resent.ensures ∙ c.if-is_resent.true) in
    on_err c.from_residual-in_err-push.result (λ none other. told_there is_resent resend_of c.args.entries.now c.loop-entry.entry-index c.entry-item.result c.loop-entry-test.true passes none)

pub returns-in_err-push-2-clause-err : goal.returns-in_err-push-2-clause-err
returns-in_err-push-2-clause-err c =
    let passes = ap is_given_up (sym c.entry-item.is) ∙ (sym c.is_given_up.ensures ∙ c.if-is_given_up.true) in
    on_err c.from_residual-in_err-push-2.result (λ other none. told_there is_given_up given_up_of c.args.entries.now c.loop-entry.entry-index c.entry-item.result c.loop-entry-test.true passes none)
