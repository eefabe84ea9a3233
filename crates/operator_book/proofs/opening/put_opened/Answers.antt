use Rattle.std.proofs.Common.{◌≡◌, length, arith, ap, rules}
use Rattle.flow_table.specs.Table.{FlowTable, with_flow}
use Rattle.operator_book.proofs.Room.{longer, opened_may_stand}
use Rattle.operator_book.proofs.opening.put_opened.Goals as goal

pub put_flow-requires : goal.put_flow-requires
put_flow-requires c = opened_may_stand c.args.flows.now c.in-Some-free_sfid.sfid c.args.row.now.sids c.in_ok-new.field-0.value (search rules) c.requires (search rules)

pub returns-clause-few : goal.returns-clause-few
returns-clause-few c =
    let after : c.put_flow.new.self ≡ record c.args.flows.now { flows = with_flow c.in-Some-free_sfid.sfid c.in_ok-new.field-0.value c.args.flows.now.flows } = search rules in
    omega (arith, ap (λ (t : FlowTable). length t.flows) after, longer c.args.flows.now.flows c.in-Some-free_sfid.sfid c.in_ok-new.field-0.value (search rules))
