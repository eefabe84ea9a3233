use Rattle.std.proofs.KnownBytes.{Appends-kept}
use Rattle.line_service.proofs.LineLemmas.{end_written}
use Rattle.line_service.proofs.StepLemmas.{on_ok}
use Rattle.line_service.proofs.answering.answer_line.Goals as goal

pub returns : goal.returns
returns g c =
    on_ok c.flush.result _
    (λ plant start before shown after. end_written plant start before shown _ _ _ _ _ _ _ (c.in_ok-end.ensures plant start before shown after) (Appends-kept _ _ _ _ c.in_ok-write_end.ensures c.flush.ensures.bytes))
