use Rattle.std.proofs.Common.{◌≡◌, ◌+◌, take}
use Rattle.state_service.proofs.DurableLemmas.Common.{BehindEachRun, IsReachableFromStart, live_view, texts, LinesAreDone}
use Rattle.state_service.proofs.durable.doing.do_lines.Given as goal

-- the lines so far are done
abbrev pub invariant-loop-line : goal.invariant-loop-line
invariant-loop-line l = record {
  reached : IsReachableFromStart (live_view l.core);
  counted : l.count ≡ l.fn.count + l.line-index;
  done : BehindEachRun (live_view l.fn.core) (λ plant start before shown. LinesAreDone plant start before shown (l.fn.count + 1)
      (texts (take l.line-index l.lines)) (live_view l.core) l.fn.text.items l.text.items);
}
