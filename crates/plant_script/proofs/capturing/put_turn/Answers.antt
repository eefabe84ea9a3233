use Rattle.pcap_capture.proofs.RunLemmas.{step_run}
use Rattle.plant_script.proofs.capturing.put_turn.Goals as goal

pub returns : goal.returns
returns c = λ plant steps told run own.
    step_run plant steps told c.args.step.now c.args.outs.now c.args.capture.now c.add_sent_message.new.self c.add_outputs.new.self run own c.in_ok-add_sent_message.ensures.ok c.in_ok-add_outputs.ensures.ok
