use Rattle.run_model.proofs.Fits.{fits_from}
use Rattle.run_model.proofs.fitting.waiting_frames_fit_from.Goals as goal

pub returns : goal.returns
returns c = fits_from
