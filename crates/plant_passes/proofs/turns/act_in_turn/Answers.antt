use Rattle.std.proofs.Common.{rules, ◌∷◌, [], Some, sym, ap, ◌∙◌, subst}
use Rattle.plant_passes.proofs.Common.{own_step, BookView, operator_of_book, book_after_action, origin_of, IsOwnRun}
use Rattle.plant_passes.proofs.Acting.{one_in_hand, taken_out, if_ok, on_err, acted_in_hand, unchanged_in_hand, no_stranger, no_misfit}
use Rattle.plant_passes.proofs.turns.act_in_turn.Goals as goal

pub exchange-requires : goal.exchange-requires
exchange-requires g c = (search rules, one_in_hand c.args.seat.now.me [] c.requires.book)

pub returns-clause-ok : goal.returns-clause-ok
returns-clause-ok g c =
    let ours = taken_out c.args.seat.now.me _ c.in-Some.parts c.requires.book c.exchange.ensures.2 c.in-Some.is in
    let out = c.into_parts-kept.ensures in
    let into = c.of_parts-book.ensures in
    let put = c.put_back.ensures.hand ∙ ap (λ m. (m.0, (0, Some record { kept = c.into_parts-kept.result.0; ranking = c.into_parts-kept.result.1 }) ∷ [])) c.exchange.ensures.3 in
    let run = subst (λ (k : BookView). IsOwnRun (origin_of k) k.history) (ap (λ k. k.book) (sym out.0)) c.always_replayed.ensures.told in
    if_ok _ _ _ c.act-acted.result c.act-acted.ensures.state c.act-acted.ensures.outputs
    (λ outputs is said. acted_in_hand c.args.seat.now.me.0 c.in-Some.parts record { kept = c.into_parts-kept.result.0; ranking = c.into_parts-kept.result.1 } c.put_back.new.seat.me c.args.action outputs.items ours put
    (ap (λ k. k.book) out.0 ∙ (is ∙ ap (λ k. book_after_action k.book c.args.action) into.0))
    (out.1 ∙ (c.act-acted.ensures.ranking ∙ into.1))
    (said ∙ ap (λ k. (own_step (operator_of_book k.book) c.args.action).outputs) into.0) run)

pub returns-clause-err : goal.returns-clause-err
returns-clause-err g c =
    let ours = taken_out c.args.seat.now.me _ c.in-Some.parts c.requires.book c.exchange.ensures.2 c.in-Some.is in
    let out = c.into_parts-kept.ensures in
    let into = c.of_parts-book.ensures in
    let put = c.put_back.ensures.hand ∙ ap (λ m. (m.0, (0, Some record { kept = c.into_parts-kept.result.0; ranking = c.into_parts-kept.result.1 }) ∷ [])) c.exchange.ensures.3 in
    let run = subst (λ (k : BookView). IsOwnRun (origin_of k) k.history) (ap (λ k. k.book) (sym out.0)) c.always_replayed.ensures.told in
    on_err _ _ c.act-acted.result c.act-acted.ensures.err
    (λ is. unchanged_in_hand c.args.seat.now.me.0 c.in-Some.parts record { kept = c.into_parts-kept.result.0; ranking = c.into_parts-kept.result.1 } c.put_back.new.seat.me ours put
    (ap (λ k. k.book) out.0 ∙ (is ∙ ap (λ k. k.book) into.0))
    (out.1 ∙ (c.act-acted.ensures.ranking ∙ into.1)) run)

pub returns-clause-mine : goal.returns-clause-mine
returns-clause-mine g c = λ modem e.
    let ours = taken_out c.args.seat.now.me _ c.in-Some.parts c.requires.book c.exchange.ensures.2 c.in-Some.is in
    no_stranger _ c.of_parts-book.result.kept.book c.args.action modem (ap (λ k. origin_of k.book) c.of_parts-book.ensures.0 ∙ ours.origin) c.requires.action
    ((c.act-acted.ensures.not_mine modem).0 e)

pub returns-clause-fits : goal.returns-clause-fits
returns-clause-fits g c = λ why e. no_misfit _ c.of_parts-book.result.kept.book c.args.action why c.requires.action ((c.act-acted.ensures.unfit why).0 e)
