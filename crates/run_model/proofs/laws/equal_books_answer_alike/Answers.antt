use Rattle.run_model.proofs.TwoCoreLemmas.{answer_alike}
use Rattle.run_model.proofs.laws.equal_books_answer_alike.Goals as goal

pub returns : goal.returns
returns c = answer_alike
