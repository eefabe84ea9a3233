use Rattle.std.proofs.lemmas.List.{map_push}
use Rattle.line_service.proofs.ScriptLemmas.Splits.{split_more, split_last}
use Rattle.line_service.proofs.script.lines.put_parts.Goals as goal

pub loop-place-preserved : goal.loop-place-preserved
loop-place-preserved c =
    rw (c.in_ok-push.ensures.items, map_push _ c.loop-place.parts.items c.part.result)
    (split_more c.args.mark c.args.input.now c.loop-place.rest.now c.part.result.now c.part-rest.result.now _ c.in-Some.place c.in-Some.ensures c.part.ensures c.part-rest.ensures c.loop-place.invariant)

pub returns : goal.returns
returns c =
    rw (c.in_ok-push-2.ensures.items, map_push _ c.loop-place.parts.items c.loop-place.rest)
    (split_last c.args.mark c.args.input.now c.loop-place.rest.now _ c.in_default.ensures c.loop-place.invariant)
