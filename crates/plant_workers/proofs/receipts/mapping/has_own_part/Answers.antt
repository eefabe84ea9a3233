use Rattle.std.proofs.Common.{Bool, ap, sym, ◌∙◌, subst, List}
use Rattle.plant_workers.proofs.ReceiptsLemmas.Common.{Frame, frames_with_numbers, AreNumbered, history_outputs}
use Rattle.plant_workers.proofs.ReceiptsLemmas.MappingLemmas.{if_ok, own_is, own_not}
use Rattle.plant_workers.proofs.receipts.mapping.has_own_part.Goals as goal

pub part_of_number-requires : goal.part_of_number-requires
part_of_number-requires c =
    (c.requires.0.consts.channel.first_frame, subst (λ (fs : List Frame). AreNumbered c.requires.0.consts.channel.first_frame (frames_with_numbers fs)) (sym c.as_slice.ensures.value) c.requires.1.in_order)

pub returns-in-Some : goal.returns-in-Some
returns-in-Some c = λ book its.
    if_ok c.is_own_part.result
    (λ (b : Bool) told. own_is c.args.made.now c.args.view.now book c.args.own.now c.in-Some.part.now b its
    (c.in-Some.ensures (history_outputs book.history) (ap frames_with_numbers c.as_slice.ensures.value ∙ its.frames_are)) told)
    c.is_own_part.ensures

pub returns-in-None : goal.returns-in-None
returns-in-None c = λ book its.
    own_not c.args.made.now c.args.view.now book (c.in-None.ensures (history_outputs book.history) (ap frames_with_numbers c.as_slice.ensures.value ∙ its.frames_are))
