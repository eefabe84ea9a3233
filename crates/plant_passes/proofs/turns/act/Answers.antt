use Rattle.std.proofs.Common.{rules, ◌≡◌, ◌<◌, ℕ, true, [], ◌∷◌, ◌++◌, sym, ap, ◌∙◌, refl, subst}
use Rattle.plant_passes.proofs.Common.{is_spent, state_after, entries, history_entry, SeesHistory, after_closing, HasBookWith}
use Rattle.plant_passes.proofs.Moves.{advances, shuts}
use Rattle.plant_passes.proofs.Acting.{acts_now, ends_now}
use Rattle.plant_passes.proofs.Calls.{refuses_turn}
use Rattle.plant_passes.proofs.turns.act.Goals as goal

pub store-requires : goal.store-requires
store-requires g c =
    let mine = c.if-not-wait_turn.ensures.turn in
    let looks = subst (λ m. SeesHistory m.0 c.wait_turn.new.seat.me.0) c.draw-ticket.ensures.ticket c.wait_turn.ensures.looks in
    let same = c.act_in_turn.ensures.knowledge in
    let k = c.in-Ok.ensures.ok in
    let number = ap (λ v. v.number) same ∙ looks.number in (
      search rules,
      search rules,
      advances _ _ _ _ _ _ _ [] k.book _ k.ranking (search rules) (ap (λ v. v.holds_book) same ∙ mine.holds_book) (ap (λ v. v.ticket) same ∙ mine.ticket_is)
          (subst (λ (n : ℕ). 0 < n) (sym number) c.requires.idle.number) refl k.hand_is
          (k.history_is ∙ ap (λ v. entries v.seen ++ history_entry c.args.action c.in-Ok.outputs.items ∷ []) (sym same)) k.origin k.run,
    )

pub store-requires-in-Err : goal.store-requires-in-Err
store-requires-in-Err g c =
    let mine = c.if-not-wait_turn.ensures.turn in
    let looks = subst (λ m. SeesHistory m.0 c.wait_turn.new.seat.me.0) c.draw-ticket.ensures.ticket c.wait_turn.ensures.looks in
    let same = c.act_in_turn.ensures.knowledge in
    let k = c.in-Err.ensures.err in
    let number = ap (λ v. v.number) same ∙ looks.number in (
      search rules,
      search rules,
      shuts _ _ _ _ _ _ [] k.book k.ranking (search rules) (ap (λ v. v.holds_book) same ∙ mine.holds_book)
          (subst (λ (n : ℕ). 0 < n) (sym number) c.requires.idle.number) refl k.hand_is
          (k.history_is ∙ ap (λ v. entries v.seen) (sym same)) k.origin,
    )

pub returns-in-Ok-clause-ok : goal.returns-in-Ok-clause-ok
returns-in-Ok-clause-ok g c =
    let mine = c.if-not-wait_turn.ensures.turn in
    let looks = subst (λ m. SeesHistory m.0 c.wait_turn.new.seat.me.0) c.draw-ticket.ensures.ticket c.wait_turn.ensures.looks in
    let held = subst (λ outputs. HasBookWith (entries c.wait_turn.new.seat.me.0.seen ++ history_entry c.args.action outputs ∷ []) c.act_in_turn.new.seat.me)
    (sym c.from_vec.ensures) c.in-Ok.ensures.ok in
    let a = c.store.ensures.2 in
    acts_now _ c.args.seat.now.me.0 c.draw-ticket.result c.draw-ticket.result c.args.action c.from_vec.result _ _ c.store.new.seat.me.0
    looks mine c.act_in_turn.ensures.knowledge c.requires.idle.number held a.0 a.1 (ap (λ m. m.0) a.2) _ (search rules) refl

pub returns-in-Err-clause-err : goal.returns-in-Err-clause-err
returns-in-Err-clause-err g c =
    let looks = subst (λ m. SeesHistory m.0 c.wait_turn.new.seat.me.0) c.draw-ticket.ensures.ticket c.wait_turn.ensures.looks in
    let same = c.act_in_turn.ensures.knowledge in
    let end = ap (λ m. m.0) c.store-in-Err.ensures.2 in
    let seen = end ∙ ap after_closing same in
    refuses_turn _ _ c.args.action c.act_in_turn.result _ c.in-Err.is
    (ends_now _ c.args.seat.now.me.0 c.draw-ticket.result _ _ c.store-in-Err.new.seat.me.0 looks same c.requires.idle.number end _ (search rules))
    c.act_in_turn.ensures.mine c.act_in_turn.ensures.fits
    (λ h. subst (λ v. is_spent (state_after v.origin (entries v.seen)) c.args.action ≡ true) (sym seen) (c.act_in_turn.ensures.spent.0 h))
