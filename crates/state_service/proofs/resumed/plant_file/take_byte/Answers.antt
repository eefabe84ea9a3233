use Rattle.std.proofs.Common.{◌∷◌, ℕ, sym, subst, ◌∙◌}
use Rattle.state_service.specs.resumed.PlantFiles.{IsReadingFile}
use Rattle.state_service.proofs.ResumedLemmas.PlantFileLemmas.{file_ended, line_ended}
use Rattle.state_service.proofs.resumed.plant_file.take_byte.Goals as goal

pub returns-then-is_held : goal.returns-then-is_held
returns-then-is_held c first input rest so_far =
    let held = c.args.held.now in
    let text = c.args.text.now in
    let is = subst (λ (b : ℕ). IsReadingFile input (b ∷ rest) first c.args.number.now held.bytes.items held.is_long text.keeping text.bytes.items) c.if-byte-ne10.false so_far in
    file_ended input rest first c.args.number.now c.in_ok-number.field-0 held.bytes.items held.is_long text.keeping c.remove_dashes.new.self.keeping text.bytes.items c.remove_dashes.new.self.bytes.items
    c.in_ok-number.ensures.next is (sym (c.is_held.ensures is.part is.is_held) ∙ c.if-is_held.true) c.remove_dashes.ensures

pub returns : goal.returns
returns c first input rest so_far =
    let held = c.args.held.now in
    let text = c.args.text.now in
    let is = subst (λ (b : ℕ). IsReadingFile input (b ∷ rest) first c.args.number.now held.bytes.items held.is_long text.keeping text.bytes.items) c.if-byte-ne10.false so_far in
    line_ended input rest first c.args.number.now c.in_ok-number.field-0 held.bytes.items held.is_long text.keeping c.push-2.new.self.keeping text.bytes.items c.push-2.new.self.bytes.items
    c.in_ok-number.ensures.next c.clear.new.self.bytes.items c.clear.new.self.is_long c.clear.ensures is (sym (c.is_held.ensures is.part is.is_held) ∙ c.if-is_held.false) c.push-2.ensures
