-- The operator that is built in: the first of a plant of two, with its two modems, and what that plant's operators share
-- (implementation-specific). It is the one that the machine's own examples are worked through with, under its name.
use Rattle.std.specs.Prelude.{codes}
use Rattle.plant.specs.declared.consts.ConstsFields.{ConstsFields}
use Rattle.plant.specs.declared.operator_row.RowFields.{RowFields}
use Rattle.operator_model.specs.Worked.{worked_consts, worked_row}

-- what all operators of the built-in plant share
abbrev pub consts_a : ConstsFields
consts_a = worked_consts

-- the row of operator A
abbrev pub row_a : RowFields
row_a = record worked_row { name = codes "A" }
