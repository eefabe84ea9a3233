use Rattle.std.proofs.Common.{◌≡◌, Bool, Option}
use Rattle.command_line.proofs.Common.{Text}
use Rattle.command_line.specs.Options.{OptionTexts}
use Rattle.command_line.proofs.options.options_in.Goals as goal

abbrev made : Option Text → Bool → Bool → Option Text → Option Text → OptionTexts
made input json strict state every = record { input = input; has_json = json; has_strict = strict; state = state; snapshot_every = every }

same_made : (i i2 : Option Text) (j j2 s s2 : Bool) (f f2 e e2 : Option Text) → i ≡ i2 → j ≡ j2 → s ≡ s2 → f ≡ f2 → e ≡ e2
    → made i j s f e ≡ made i2 j2 s2 f2 e2
same_made i i2 j j2 s s2 f f2 e e2 a b c d g = cc

pub returns : goal.returns
returns c = same_made _ _ _ _ _ _ _ _ _ _ c.value_in.ensures c.output_in.ensures c.keys_in.ensures c.value_in-2.ensures c.value_in-3.ensures
