use Rattle.std.proofs.Common.{List, ℕ, arith}
use Rattle.line_service.proofs.ScriptLemmas.Common.{flat_map, Appends-nil, after_space, pending_text}
use Rattle.line_service.proofs.ScriptLemmas.Encoded.{flat_more, write_part, write_last}
use Rattle.line_service.proofs.ScriptLemmas.Outcomes.{if_ok}
use Rattle.line_service.proofs.script.writing.write_pending.Goals as goal

abbrev text : ℕ → List ℕ
text sid = after_space (pending_text sid)

pub loop-place-init : goal.loop-place-init
loop-place-init g c = record { inside = omega arith; written = Appends-nil _ }

pub loop-place-preserved : goal.loop-place-preserved
loop-place-preserved g c = record {
  inside = omega arith;
  written = write_part (flat_map text) (flat_more text) _ _ _ c.args.pending.now c.loop-place.place 32 c.loop-place.invariant.written c.in_ok-write_few_pending.ensures;
}

pub returns : goal.returns
returns g c =
    if_ok c.write_few_pending-2.result _ _
    (λ _ told. write_last (flat_map text) (flat_more text) _ _ _ c.args.pending.now c.loop-place.place c.loop-place.invariant.written told)
    c.write_few_pending-2.ensures
