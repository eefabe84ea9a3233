use Rattle.std.proofs.Common.{sym}
use Rattle.plant_core.proofs.LiveLemmas.Common.{book_of, live_view}
use Rattle.plant_core.proofs.LiveLemmas.FramelessLemmas.{request_iff}
use Rattle.plant_core.proofs.live.held.LiveCore.request_at.Goals as goal

pub returns : goal.returns
returns c = request_iff c.first_request.result (live_view c.args.self.now) c.args.op (book_of c.in_ok-machine.machine.now.sound) (sym c.in_ok-machine.ensures) c.first_request.ensures
