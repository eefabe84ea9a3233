use Rattle.state_service.proofs.resumed.new_frame.renumbered_core.Goals as goal

pub returns-in-Err-NoMemory-renumber-clause-fault : goal.returns-in-Err-NoMemory-renumber-clause-fault
returns-in-Err-NoMemory-renumber-clause-fault c = ((c.in-Some.to, c.in-Some.ensures.some), (c.in-Ok.saved.frame, c.in-Ok.ensures.ok.rests))
