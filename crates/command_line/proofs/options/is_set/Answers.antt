use Rattle.std.proofs.Common.{◌∙◌, sym, ap, false, option_map, codes}
use Rattle.std.specs.Option.{option_map_or}
use Rattle.command_line.proofs.Common.{bytes_eq}
use Rattle.command_line.proofs.options.is_set.Goals as goal

pub returns-in-Some : goal.returns-in-Some
returns-in-Some c =
    c.eq.ensures ∙ ap (λ v. option_map_or (λ text. bytes_eq text (codes "true")) v false)
    (sym (ap (option_map (λ value. value.now)) c.in-Some.is) ∙ c.value_in.ensures)

pub returns-in-None : goal.returns-in-None
returns-in-None c =
    ap (λ v. option_map_or (λ text. bytes_eq text (codes "true")) v false)
    (sym (ap (option_map (λ value. value.now)) c.in-None.is) ∙ c.value_in.ensures)
