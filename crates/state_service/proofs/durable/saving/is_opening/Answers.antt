use Rattle.std.proofs.Common.{rules, sym, ◌∙◌, ap}
use Rattle.plant.specs.declared.consts.ConstsFields.{ConstsFields}
use Rattle.state_service.proofs.DurableLemmas.LeadLemmas.{opening_state}
use Rattle.state_service.proofs.durable.saving.is_opening.Goals as goal

pub returns : goal.returns
returns c = λ empty.
    opening_state c.args.file.now c.args.start.now.plant c.args.start.now.saved
    (search rules) (c.if-start-get_fields.false ∙ ap (λ (k : ConstsFields). k.channel.first_frame) (c.get_fields.ensures.value ∙ c.consts.ensures.value)) (sym c.is_empty.ensures ∙ empty)
