-- The plant file was read, and its plant is served.
use Rattle.plant_script.proofs.Common.{if_ok, status_code}
use Rattle.plant_script.proofs.Services.{service_ends}
use Rattle.plant_script.proofs.serving.serve_words.Goals as goal

pub returns-in-Ok-Plant : goal.returns-in-Ok-Plant
returns-in-Ok-Plant g c =
    if_ok c.serve_plant.result _ _
    (λ status told. service_ends (g.R.Read.remaining c.args.reader.now) (g.R.Read.remaining c.read_plant_text.new.reader) c.in-Ok.text.items c.in-Ok-Plant.service.plant c.args.failed.now (status_code status) (g.W.Write.contents c.args.writer.now)
    (g.W.Write.contents c.serve_plant.new.writer) c.in-Ok.ensures.text c.in-Ok.ensures.script (rw c.as_slice.ensures.value at (rw c.in-Ok-Plant.field-0-is at c.in-Ok-Plant.ensures)) told)
    c.serve_plant.ensures
