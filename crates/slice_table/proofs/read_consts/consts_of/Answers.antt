use Rattle.std.proofs.Common.{codes}
use Rattle.slice_table.proofs.Common.{get_member, table_view}
use Rattle.slice_table.proofs.ClassReading.{classes_read}
use Rattle.slice_table.proofs.read_consts.consts_of.Goals as goal

pub new-requires : goal.new-requires
new-requires c =
    let keys = c.in_ok-keys.ensures.in_range in
    record {
      channel = keys.channel;
      short_max = keys.short_max;
      classes = classes_read (get_member (codes "class") (table_view c.args.document.now)) c.in_ok-classes.classes c.in_ok-classes.ensures;
    }
