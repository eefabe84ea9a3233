use Rattle.operator_book.proofs.live.Machine.first_request.Goals as goal

pub returns : goal.returns
returns c = rw (← c.self.view_is) c.first_request.ensures
