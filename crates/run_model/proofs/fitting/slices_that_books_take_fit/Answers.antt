use Rattle.run_model.proofs.Anew.{slices_anew}
use Rattle.run_model.proofs.fitting.slices_that_books_take_fit.Goals as goal

pub returns : goal.returns
returns c = slices_anew
