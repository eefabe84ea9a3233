use Rattle.std.proofs.Common.{List, ◌∷◌, [], ◌++◌, refl, ap, sym, ◌∙◌, arith, get_or, take, cond, Bool, append_assoc}
use Rattle.slice_scheduler.proofs.Common.{flat_map, ne_eqb, All-push, Award, Piece, iuc_of, award_pieces, HasMinislots}
use Rattle.slice_scheduler.specs.declared.span.Iuc.{Iuc}
use Rattle.slice_scheduler.proofs.MoreLemmas.{flat_map-more}
use Rattle.slice_scheduler.proofs.packing.push_awards.Goals as goal

pub loop-award-preserved : goal.loop-award-preserved
loop-award-preserved c =
    let none : Award = record { sfid = 0; sid = 0; rank = 0; backlog = 0; grant = 0 } in
    let awards = c.args.awards.now in
    let i = c.loop-award.award-index in
    let award = get_or awards i none in
    let before = c.args.pieces.now.items in
    let put : List Piece = flat_map (award_pieces c.args.at.now) (take i awards) in
    let piece : Iuc → Piece = λ iuc. record { sid = award.sid; iuc = iuc; len = award.grant } in
    record {
      items = c.in_ok-push.ensures.items
          ∙ (ap (λ (ps : List Piece). ps ++ piece c.iuc_for.result ∷ []) c.loop-award.invariant.items
          ∙ (append_assoc before put _ ∙ ap (λ (ps : List Piece). before ++ ps)
          (ap (λ (iuc : Iuc). put ++ piece iuc ∷ []) c.iuc_for.ensures
          ∙ (ap (λ (b : Bool). put ++ cond b [] (piece (iuc_of c.args.at.now award.grant) ∷ [])) (sym (ne_eqb award.grant 0 c.if-award-eq0.false))
          ∙ flat_map-more awards i award none c.loop-award-test.true refl (award_pieces c.args.at.now) put refl))));
      some = rw c.in_ok-push.ensures.items (All-push HasMinislots c.loop-award.pieces.items (piece c.iuc_for.result) c.loop-award.invariant.some (omega arith));
    }
