use Rattle.std.proofs.Common.{◌≡◌, map, ap, ◌∙◌}
use Rattle.std.specs.Char.{to_ascii_uppercase}
use Rattle.hex.specs.Hex.{encode_lower}
use Rattle.line_service.proofs.ScriptLemmas.Uppered.{ok_gives, upper_of_lower}
use Rattle.line_service.proofs.script.hexadecimal.put_digits.Goals as goal

pub returns : goal.returns
returns c =
    let lower = ok_gives c.encode_to_slice.result _ (c.encode_to_slice.ensures.fits.1 c.requires) c.encode_to_slice.ensures.written in
    c.make_ascii_uppercase.ensures.after ∙ (ap (map to_ascii_uppercase) lower ∙ upper_of_lower c.args.bytes.now)
