use Rattle.state_service.proofs.ResumedLemmas.Common.{IsReadingFile, known_same}
use Rattle.state_service.proofs.ResumedLemmas.PlantFileLemmas.{file_begun}
use Rattle.state_service.proofs.resumed.plant_file.read_lines.Goals as goal

pub loop-init : goal.loop-init
loop-init g c =
    let held = c.args.held.now in
    let text = c.args.text.now in
    let number = c.args.number.now in
    known_same (g.R.Read.remaining c.args.reader.now) (λ input rest. IsReadingFile input rest number number held.bytes.items held.is_long text.keeping text.bytes.items)
    (λ input. file_begun input number held.bytes.items held.is_long text.keeping text.bytes.items c.requires.held c.requires.text)
