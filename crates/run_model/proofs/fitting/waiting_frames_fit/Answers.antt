use Rattle.run_model.proofs.Fits.{waiting_fits}
use Rattle.run_model.proofs.fitting.waiting_frames_fit.Goals as goal

pub returns : goal.returns
returns c = waiting_fits
