use Rattle.std.proofs.Common.{refl, subst}
use Rattle.line_service.proofs.Common.{IsAfterFrom, live_view, lines_of, LineBreak, Another, End, WhereKnown, IsLineRead, IsServiceOf, IsServedSoFar}
use Rattle.line_service.proofs.ServiceLemmas.{begun, served_on, served_all, known_same, known_then, known_ended}
use Rattle.line_service.proofs.serving.serve.Goals as goal

pub loop-init : goal.loop-init
loop-init g c =
    let known = g.R.Read.remaining c.args.reader.now in
    let written = g.W.Write.contents c.args.writer.now in
    record {
      reached = c.requires.reached;
      empty = c.requires.empty;
      served = λ plant start before shown after.
          known_same known (λ input rest. IsServedSoFar plant start before shown input (lines_of rest) 1 (live_view c.args.core.now) written written)
          (λ input. begun plant start before shown input (live_view c.args.core.now) written after);
    }

pub returns-in-End : goal.returns-in-End
returns-in-End g c =
    let known = g.R.Read.remaining c.args.reader.now in
    let rest = g.R.Read.remaining c.loop.reader in
    let left = g.R.Read.remaining c.read_line.new.reader in
    let old = g.W.Write.contents c.args.writer.now in
    let mid = g.W.Write.contents c.loop.writer in
    let new = g.W.Write.contents c.answer_held.new.writer in
    let held = c.read_line.new.held in
    known_ended known rest left (λ plant start before shown. IsAfterFrom plant start before shown (live_view c.args.core.now))
    (λ plant start before shown input bytes. IsServedSoFar plant start before shown input (lines_of bytes) c.loop.number (live_view c.loop.core) old mid)
    (λ bytes behind. IsLineRead bytes behind held.bytes.items held.is_long End)
    (λ plant start before shown input. IsServiceOf plant start before shown input (live_view c.answer_held.new.core) old new) c.loop.invariant.served
    (subst (λ (end : LineBreak). WhereKnown rest left (λ bytes behind. IsLineRead bytes behind held.bytes.items held.is_long end)) c.in-End.is c.in_ok-end.ensures)
    (λ plant start before shown input bytes behind so_far read.
    served_all plant start before shown c.loop.number (live_view c.loop.core) (live_view c.answer_held.new.core) held.bytes.items held.is_long old mid new c.in_ok-answer_held.ensures.answered input bytes behind
    so_far End read refl)

pub loop-preserved : goal.loop-preserved
loop-preserved g c =
    let known = g.R.Read.remaining c.args.reader.now in
    let rest = g.R.Read.remaining c.loop.reader in
    let left = g.R.Read.remaining c.read_line.new.reader in
    let old = g.W.Write.contents c.args.writer.now in
    let mid = g.W.Write.contents c.loop.writer in
    let new = g.W.Write.contents c.answer_held.new.writer in
    let held = c.read_line.new.held in
    let next = c.in_ok-number-in-Another.number in
    record {
      reached = c.in_ok-answer_held.ensures.reached;
      empty = c.clear.ensures;
      served = λ plant start before shown after.
          known_then known rest left (λ input bytes. IsServedSoFar plant start before shown input (lines_of bytes) c.loop.number (live_view c.loop.core) old mid)
          (λ bytes behind. IsLineRead bytes behind held.bytes.items held.is_long Another)
          (λ input behind. IsServedSoFar plant start before shown input (lines_of behind) next (live_view c.answer_held.new.core) old new)
          (λ input bytes behind so_far read.
          served_on plant start before shown c.loop.number (live_view c.loop.core) (live_view c.answer_held.new.core) held.bytes.items held.is_long old mid new c.in_ok-answer_held.ensures.answered input bytes
          behind so_far Another read next c.in_ok-number-in-Another.ensures.next)
          (c.loop.invariant.served plant start before shown after)
          (subst (λ (end : LineBreak). WhereKnown rest left (λ bytes behind. IsLineRead bytes behind held.bytes.items held.is_long end)) c.in-Another.is c.in_ok-end.ensures);
    }
