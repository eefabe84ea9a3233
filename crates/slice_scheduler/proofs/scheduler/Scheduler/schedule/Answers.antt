use Rattle.std.proofs.Common.{◌≡◌, ◌≤◌, ◌-◌, ℕ, ◌++◌, List, ap, ◌∙◌, subst, sym, arith, filter}
use Rattle.slice_scheduler.proofs.Common.{recursion_from_All, AllByRecursion, Piece, Span, Flowing, claim_of, awards_of, by_rank, pieces_of, minislots_in, spans_of, pending_of, spans_from, idle, IsClaim}
use Rattle.slice_scheduler.specs.Minislots.{Minislots}
use Rattle.slice_scheduler.proofs.AskingLemmas.{counts}
use Rattle.slice_scheduler.proofs.ScheduleLemmas.{awards-are, pieces-are, pending-are, granted-are}
use Rattle.slice_scheduler.proofs.TotalLemmas.{pieces-fit, nothing-idle}
use Rattle.slice_scheduler.proofs.scheduler.Scheduler.schedule.Goals as goal

pub pack-requires-clause-fits : goal.pack-requires-clause-fits
pack-requires-clause-fits g c =
    let policy = g.R.Ranks.policy c.args.ranking.now in
    let at = c.args.at.now in
    let flows = c.args.flows.now in
    let sound : AllByRecursion (λ (f : Flowing). IsClaim (claim_of policy at f)) flows = recursion_from_All (λ (f : Flowing). IsClaim (claim_of policy at f)) flows c.in_ok-room.ensures.sound in
    let awards : c.serve.new.awards.items ≡ by_rank (filter counts (awards_of policy at flows)) = c.in_ok-serve.ensures _ c.in_ok-room.ensures.claimed ∙ awards-are policy at flows c.requires.ascending sound c.in_ok-room.ensures.room in
    let pieces : c.as_slice-3.result.now ≡ pieces_of policy at flows = c.as_slice-3.ensures.value ∙ pieces-are policy at flows c.requires.ascending sound (c.as_slice-2.ensures.value ∙ awards) c.in_ok-room.ensures.due c.in_ok-push_awards.ensures.items in
    rw c.get_slice-slice.ensures.value (subst (λ (ps : List Piece). minislots_in ps ≤ at.slice.length) (sym pieces)
    (pieces-fit policy at flows c.requires.ascending (omega (arith, c.in_ok-room.ensures.fits, c.requires.within))))

pub returns-clause-granted : goal.returns-clause-granted
returns-clause-granted g c =
    let policy = g.R.Ranks.policy c.args.ranking.now in
    let at = c.args.at.now in
    let flows = c.args.flows.now in
    let sound : AllByRecursion (λ (f : Flowing). IsClaim (claim_of policy at f)) flows = recursion_from_All (λ (f : Flowing). IsClaim (claim_of policy at f)) flows c.in_ok-room.ensures.sound in
    let awards : c.serve.new.awards.items ≡ by_rank (filter counts (awards_of policy at flows)) = c.in_ok-serve.ensures _ c.in_ok-room.ensures.claimed ∙ awards-are policy at flows c.requires.ascending sound c.in_ok-room.ensures.room in
    c.from_vec-3.ensures ∙ granted-are policy at flows c.requires.ascending sound (c.as_slice.ensures.value ∙ awards) c.in_ok-grants_of_awards.ensures.all c.in_ok-grants_of_awards.ensures.sorted

pub returns-clause-busy : goal.returns-clause-busy
returns-clause-busy g c =
    let policy = g.R.Ranks.policy c.args.ranking.now in
    nothing-idle policy c.args.at.now c.args.flows.now
    (recursion_from_All (λ (f : Flowing). IsClaim (claim_of policy c.args.at.now f)) c.args.flows.now c.in_ok-room.ensures.sound) c.requires.ascending (omega (arith, c.in_ok-room.ensures.fits, c.requires.within))

pub returns-clause-elements : goal.returns-clause-elements
returns-clause-elements g c =
    let policy = g.R.Ranks.policy c.args.ranking.now in
    let at = c.args.at.now in
    let flows = c.args.flows.now in
    let sound : AllByRecursion (λ (f : Flowing). IsClaim (claim_of policy at f)) flows = recursion_from_All (λ (f : Flowing). IsClaim (claim_of policy at f)) flows c.in_ok-room.ensures.sound in
    let awards : c.serve.new.awards.items ≡ by_rank (filter counts (awards_of policy at flows)) = c.in_ok-serve.ensures _ c.in_ok-room.ensures.claimed ∙ awards-are policy at flows c.requires.ascending sound c.in_ok-room.ensures.room in
    let pieces : c.as_slice-3.result.now ≡ pieces_of policy at flows = c.as_slice-3.ensures.value ∙ pieces-are policy at flows c.requires.ascending sound (c.as_slice-2.ensures.value ∙ awards) c.in_ok-room.ensures.due c.in_ok-push_awards.ensures.items in
    let spans : c.from_vec.result ≡ spans_of policy at flows =
    c.from_vec.ensures ∙ (c.in_ok-pack.ensures.items
    ∙ (ap (λ (s : Minislots). spans_from s.start (c.as_slice-3.result.now ++ idle (s.length - minislots_in c.as_slice-3.result.now))) c.get_slice-slice.ensures.value
    ∙ ap (λ (ps : List Piece). spans_from at.slice.start (ps ++ idle (at.slice.length - minislots_in ps))) pieces)) in
    let pending : c.from_vec-2.result ≡ pending_of policy at flows = c.from_vec-2.ensures ∙ (c.in_ok-pending.ensures ∙ pending-are policy at flows c.requires.ascending sound (c.as_slice-4.ensures.value ∙ awards)) in
    c.new-4.ensures
    ∙ (ap (λ (s : Minislots). record { slice = s; spans = c.from_vec.result; pending = c.from_vec-2.result }) c.get_slice-slice.ensures.value
    ∙ (ap (λ (ss : List Span). record { slice = at.slice; spans = ss; pending = c.from_vec-2.result }) spans
    ∙ ap (λ (sids : List ℕ). record { slice = at.slice; spans = spans_of policy at flows; pending = sids }) pending))
