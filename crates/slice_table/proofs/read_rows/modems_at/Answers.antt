use Rattle.std.proofs.Common.{Ok, ap, sym, ◌∙◌}
use Rattle.slice_table.specs.declared.plant_key.Field.TheVariants as field
use Rattle.slice_table.specs.declared.plant_key.Key.TheVariants.{Entry}
use Rattle.slice_table.specs.ReadRows.{modems_at}
use Rattle.slice_table.proofs.Trees.{few_values}
use Rattle.slice_table.proofs.read_rows.modems_at.Goals as goal

pub returns : goal.returns
unfolding modems_at
returns c =
    rw (← c.in_ok-values.ensures, few_values (Entry c.args.place field.Modems) c.in_ok-values.values.now 1024 c.if-is_empty.ensures c.if-values-gt1024.false)
    (c.in_ok-modems_each.ensures ∙ ap Ok (sym c.from_vec.ensures))
