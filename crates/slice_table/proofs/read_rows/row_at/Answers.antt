use Rattle.std.proofs.Common.{length, Ok, ap, sym}
use Rattle.toml.specs.View.{table_view}
use Rattle.slice_table.specs.declared.plant_key.Place.TheVariants as place
use Rattle.slice_table.specs.ReadRows.{row_at}
use Rattle.slice_table.proofs.RowReading.{modems_read}
use Rattle.slice_table.proofs.read_rows.row_at.Goals as goal

pub new-requires : goal.new-requires
new-requires c = record {
  sfids = c.in_ok-sfids.ensures.in_range.0;
  sids_low = c.in_ok-sids.ensures.in_range.0;
  sids_high = c.in_ok-sids.ensures.in_range.1;
  flows = record { low = c.in_ok-flows.ensures.in_range.0; high = c.in_ok-flows.ensures.in_range.1 };
  transactions = record { low = c.in_ok-transactions.ensures.in_range.0; high = c.in_ok-transactions.ensures.in_range.1 };
  inbox = record { low = c.in_ok-inbox.ensures.in_range.0; high = c.in_ok-inbox.ensures.in_range.1 };
  budget = c.in_ok-budget.ensures.in_range.1;
  elements = c.in_ok-elements.ensures.in_range.1;
  modems = modems_read (place.Operator (length c.args.rows.now)) (table_view c.args.table.now) c.in_ok-modems.modems c.in_ok-modems.ensures;
}

pub returns : goal.returns
unfolding row_at
returns c =
    rw (
      ← c.in_ok-name.ensures,
      ← c.in_ok-slice.ensures,
      ← c.in_ok-sfids.ensures.value,
      ← c.in_ok-sids.ensures.value,
      ← c.in_ok-flows.ensures.value,
      ← c.in_ok-transactions.ensures.value,
      ← c.in_ok-inbox.ensures.value,
      ← c.in_ok-budget.ensures.value,
      ← c.in_ok-elements.ensures.value,
      ← c.in_ok-policy.ensures,
      c.in_ok-modems.ensures,
      c.in_ok-provisions.ensures,
    ) (ap Ok (sym c.new.ensures))
