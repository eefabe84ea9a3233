use Rattle.std.proofs.Common.{sym, ◌∙◌}
use Rattle.map_assembly.proofs.ApartLemmas.{apart_if, apart_only}
use Rattle.map_assembly.proofs.checking.no_two_overlap.Goals as goal

pub returns : goal.returns
returns c = ((λ h. apart_if c.args.slices.now (sym c.all_apart.ensures ∙ h)), (λ h. c.all_apart.ensures ∙ apart_only c.args.slices.now h))
