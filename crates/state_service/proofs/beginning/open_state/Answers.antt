use Rattle.std.proofs.Common.{rules, ◌≡◌, inl, inr, ⊎_elim, List, ℕ, [], ap, subst, sym, ◌∙◌}
use Rattle.state_service.proofs.Common.{nil_from_length, journal_content, IsBegunWith, IsLeftByOpening}
use Rattle.state_service.proofs.KeepLemmas.{weaker, joined, none_added}
use Rattle.state_service.proofs.beginning.open_state.Goals as goal

pub returns-clause-any_moment : goal.returns-clause-any_moment
returns-clause-any_moment g c =
    let moment = g.D.Device.moment in
    let left = g.D.Device.left_since in
    let may = g.D.Device.may_leave in
    let old = c.args.device.now in
    let mid = c.read.new.self in
    let seen = g.D.Device.seen old in
    let P : List ℕ → Type 0 = λ d. IsLeftByOpening seen c.args.file.now (journal_content d) in
    let here : (d : List ℕ) → may old d → P d = λ d is. inl (ap (λ (b : List ℕ). journal_content b) (c.requires d is)) in
    let none : seen ≡ [] = sym c.in_ok-read.ensures.bytes ∙ nil_from_length c.in_ok-read.field-0.items (search rules) in
    let same : c.from_vec.result ≡ c.args.file.now = search rules in
    let read = none_added moment left may old mid P (g.met.D.Device.only_now old) here c.read.ensures.time c.read.ensures.crash in
    joined moment left old mid c.begin_state.new.device P read
    (weaker moment left mid c.begin_state.new.device _ P c.begin_state.ensures.any_moment
    (λ d. ⊎_elim (λ was. here d (c.read.ensures.crash d was)) (λ begun. inr (none, subst (λ (f : List ℕ). IsBegunWith f (journal_content d)) same begun))))
