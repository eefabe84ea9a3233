use Rattle.state_service.proofs.answering.answer_lines.Goals as goal

pub returns-clause-leads : goal.returns-clause-leads
returns-clause-leads g c led = (led.0, c.in_ok-text.ensures.leads led.0 led.1)
