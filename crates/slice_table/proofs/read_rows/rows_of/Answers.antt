use Rattle.slice_table.specs.declared.plant_key.Key.TheVariants.{Operators}
use Rattle.slice_table.specs.ReadRows.{rows_of}
use Rattle.slice_table.proofs.Trees.{few_values}
use Rattle.slice_table.proofs.read_rows.rows_of.Goals as goal

pub returns : goal.returns
unfolding rows_of
returns c =
    rw (← c.in-Some.ensures, ← c.in_ok-values.ensures, few_values Operators c.in_ok-values.values.now 32 c.if-is_empty.ensures c.if-values-gt32.false)
    c.rows_each.ensures
