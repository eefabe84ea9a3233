use Rattle.std.proofs.Common.{◌≡◌, ◌∙◌, [], get_or, take, is_some, None, sym, ap}
use Rattle.slice_table.proofs.Common.{take_more, Modem, place_of}
use Rattle.slice_table.proofs.Places.{copied_none, adds_one, lists_added, again_more}
use Rattle.slice_table.proofs.roster.add_modems.Goals as goal

pub loop-modem-preserved : goal.loop-modem-preserved
loop-modem-preserved c =
    let here = c.loop-modem in
    let ms = c.args.modems.now in
    let none : Modem = record { 0 = [] } in
    let modem : Modem = get_or ms here.modem-index none in
    let absent : place_of here.places modem ≡ None = sym c.get.ensures.value ∙ copied_none c.get.result (sym c.is_some.ensures ∙ c.if-is_some.false) in
    record {
      added = rw (take_more ms here.modem-index none c.loop-modem-test.true)
          (adds_one c.args.places.now here.places c.insert.new.self c.args.place (take here.modem-index ms) modem here.invariant.added absent c.in_ok-insert.ensures.updates.0);
      left = λ before there.
          again_more before ms here.modem-index none c.loop-modem-test.true
          (sym (lists_added c.args.places.now here.places c.args.place before (take here.modem-index ms) there here.invariant.added modem) ∙ ap is_some absent)
          ∙ here.invariant.left before there;
    }
