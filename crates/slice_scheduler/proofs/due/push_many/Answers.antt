use Rattle.std.proofs.Common.{List, ◌∷◌, [], ◌++◌, ap, ◌∙◌, append_assoc}
use Rattle.slice_scheduler.proofs.Common.{replicate_more, Piece}
use Rattle.slice_scheduler.proofs.due.push_many.Goals as goal

pub loop-time-preserved : goal.loop-time-preserved
loop-time-preserved c =
    c.in_ok-push.ensures.items
    ∙ (ap (λ (ps : List Piece). ps ++ c.args.piece ∷ []) c.loop-time.invariant
    ∙ (append_assoc c.args.pieces.now.items _ _ ∙ ap (λ (ps : List Piece). c.args.pieces.now.items ++ ps) (replicate_more c.loop-time._time c.args.piece)))
