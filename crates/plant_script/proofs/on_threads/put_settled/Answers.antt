use Rattle.std.proofs.Common.{map, ap}
use Rattle.plant_script.proofs.Common.{view_of, if_ok}
use Rattle.plant_script.proofs.Telling.{all_told}
use Rattle.plant_script.proofs.on_threads.put_settled.Goals as goal

pub returns : goal.returns
returns g c =
    if_ok c.put_maps.result _ _
    (λ _ told. all_told c.args.plant.now (map view_of c.args.settled.now.books.items) (map view_of c.as_slice.result.now) c.args.settled.now.maps.items c.as_slice-2.result.now
    c.args.text.now.items c.put_books.new.text.items c.put_maps.new.text.items c.in_ok-put_books.ensures told (ap (map view_of) c.as_slice.ensures.value) c.as_slice-2.ensures.value)
    c.put_maps.ensures
