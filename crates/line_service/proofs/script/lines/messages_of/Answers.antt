use Rattle.std.proofs.Common.{◌≡◌, ◌==◌, ℕ, [], List, true, false, length, get_or, sym, ◌∙◌}
use Rattle.std.specs.Borrow.{Bor}
use Rattle.line_service.proofs.ScriptLemmas.Splits.{said_empty, said_message, said_fault, line_at}
use Rattle.line_service.proofs.script.lines.messages_of.Goals as goal
use Rattle.line_service.proofs.script.lines.messages_of.Goals.{then-not-is_empty+in_ok-message+in-Some+in_ok-push, else-not-is_empty}

pub loop-line-preserved : goal.loop-line-preserved
loop-line-preserved c =
    let none : Bor (List ℕ) = record { ref_ptr = (0, 0); now = [] } in
    let line = get_or c.args.lines.now c.loop-line.line-index none in
    let here = line_at c.args.lines.now c.loop-line.line-index none c.loop-line-test.true in
    elim c.if-not-is_empty.branch [
      | then-not-is_empty+in_ok-message+in-Some+in_ok-push w ↦
          let some : (length line.now == 0) ≡ false = sym w.if-not-is_empty.ensures in
          rw (w.messages-is, w.in_ok-push.ensures.items)
          (said_message _ c.loop-line.messages.items c.loop-line.number c.loop-line.line-index line.now c.loop-line.invariant here w.in-Some.message some (sym w.in_ok-message.ensures ∙ w.in-Some.is))
      | else-not-is_empty w ↦
          let empty : (length line.now == 0) ≡ true = sym w.if-not-is_empty.ensures in
          rw w.messages-is (said_empty _ c.loop-line.messages.items c.loop-line.number c.loop-line.line-index line.now c.loop-line.invariant here empty)
    ]

pub returns-in_default : goal.returns-in_default
returns-in_default c =
    let none : Bor (List ℕ) = record { ref_ptr = (0, 0); now = [] } in
    let line = get_or c.args.lines.now c.loop-line.line-index none in
    let here = line_at c.args.lines.now c.loop-line.line-index none c.loop-line-test.true in
    let some : (length line.now == 0) ≡ false = sym c.if-not-is_empty.ensures in
    said_fault _ c.loop-line.messages.items c.loop-line.number c.loop-line.line-index line.now c.loop-line.invariant here some (sym c.in_ok-message.ensures ∙ c.in_default.is)
