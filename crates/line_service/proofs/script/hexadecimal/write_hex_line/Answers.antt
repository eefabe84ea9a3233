use Rattle.std.proofs.Common.{arith}
use Rattle.hex.specs.Hex.{upper_digits, encode_upper, encode_with}
use Rattle.std.proofs.KnownBytes.{Appends-nil}
use Rattle.line_service.proofs.ScriptLemmas.Encoded.{encode_more, write_part, write_rest}
use Rattle.line_service.proofs.ScriptLemmas.Outcomes.{if_ok}
use Rattle.line_service.proofs.script.hexadecimal.write_hex_line.Goals as goal

pub loop-place-init : goal.loop-place-init
unfolding encode_with
loop-place-init g c = record { inside = omega arith; written = Appends-nil _ }

pub loop-place-preserved : goal.loop-place-preserved
loop-place-preserved g c = record {
  inside = omega arith;
  written = write_part encode_upper (encode_more upper_digits) _ _ _ c.args.bytes.now c.loop-place.place 64 c.loop-place.invariant.written c.in_ok-write_few.ensures;
}

pub returns : goal.returns
returns g c =
    if_ok c.write_last.result _ _
    (λ _ told. write_rest encode_upper (encode_more upper_digits) _ _ _ c.args.bytes.now c.loop-place.place _ c.loop-place.invariant.written told)
    c.write_last.ensures
