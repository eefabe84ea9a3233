use Rattle.std.proofs.Common.{◌≡◌, rules, sym, ap, ◌∙◌}
use Rattle.slice_scheduler.specs.declared.flowing.AtFields.{AtFields}
use Rattle.operator_book.proofs.Common.{flowing_in, at_frame, flows_left}
use Rattle.operator_book.proofs.Serving.{same_elements, same_grants}
use Rattle.operator_book.proofs.machine.MachineState.frame_schedule.Goals as goal

pub schedule-requires-clause-past : goal.schedule-requires-clause-past
schedule-requires-clause-past g c =
    let flows : c.as_slice-flowing.result.now ≡ flowing_in c.args.self.now.state.flows = search rules in
    let inside : c.self.inside.frame ≡ c.args.self.now.state.frame = search rules in
    let frame : c.new-at.result.frame ≡ c.args.self.now.state.frame = ap (λ (at : AtFields). at.frame) c.new-at.ensures ∙ inside in
    rw (flows, frame) (c.schedule_can_serve.ensures.past c.args.self.now c.requires.sound)

pub returns-clause-elements : goal.returns-clause-elements
returns-clause-elements g c =
    let here : AtFields = record { slice = c.self.inside.share.slice; frame = c.self.inside.frame; short_max = c.get_fields-consts.result.now.short_max; units = c.get_fields-consts.result.now.units } in
    let flows : c.as_slice-flowing.result.now ≡ flowing_in c.args.self.now.state.flows = search rules in
    let left : flowing_in (flows_left c.args.self.now.state) ≡ flowing_in c.args.self.now.state.flows = c.given_up_have_no_grants.ensures c.args.self.now c.requires.sound in
    let at : here ≡ at_frame c.args.self.now = search rules in
    c.in_ok-served.ensures.elements ∙ same_elements (g.R.Ranks.policy c.args.ranking.now) c.args.self.now.row.policy c.new-at.result (at_frame c.args.self.now) c.as_slice-flowing.result.now (flowing_in (flows_left c.args.self.now.state)) c.requires.policy (c.new-at.ensures ∙ at) (flows ∙ sym left)

pub returns-clause-granted : goal.returns-clause-granted
returns-clause-granted g c =
    let here : AtFields = record { slice = c.self.inside.share.slice; frame = c.self.inside.frame; short_max = c.get_fields-consts.result.now.short_max; units = c.get_fields-consts.result.now.units } in
    let flows : c.as_slice-flowing.result.now ≡ flowing_in c.args.self.now.state.flows = search rules in
    let left : flowing_in (flows_left c.args.self.now.state) ≡ flowing_in c.args.self.now.state.flows = c.given_up_have_no_grants.ensures c.args.self.now c.requires.sound in
    let at : here ≡ at_frame c.args.self.now = search rules in
    c.in_ok-served.ensures.granted ∙ same_grants (g.R.Ranks.policy c.args.ranking.now) c.args.self.now.row.policy c.new-at.result (at_frame c.args.self.now) c.as_slice-flowing.result.now (flowing_in (flows_left c.args.self.now.state)) c.requires.policy (c.new-at.ensures ∙ at) (flows ∙ sym left)
