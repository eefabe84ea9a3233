use Rattle.std.proofs.Common.{◌≡◌, true, false, List, ℕ, sym, subst, ◌∙◌}
use Rattle.state_service.proofs.ResumedLemmas.Common.{ParsesUnsigned, bytes_eq-Decides}
use Rattle.state_service.proofs.ResumedLemmas.FrameLemmas.{no_text, other_number}
use Rattle.state_service.proofs.resumed.new_frame.named_frame.Goals as goal

pub returns-in_default-from_utf8-clause-none : goal.returns-in_default-from_utf8-clause-none
returns-in_default-from_utf8-clause-none c none to names = no_text c.args.line.now c.in-Some.digits.now to c.in-Some.ensures.cases.1 c.in_default-from_utf8.ensures.cases.0 names

pub returns-else-eq-clause-none : goal.returns-else-eq-clause-none
returns-else-eq-clause-none c none to names =
    let digits = c.in-Some.digits.now in
    let parses = subst (λ (text : List ℕ). ParsesUnsigned 32 10 text c.parse.result) c.in-Ok.ensures.cases.0 c.parse.ensures.value.0 in
    let written = c.as_bytes.ensures.value ∙ c.format.ensures.text in
    other_number c.args.line.now digits c.parse.result c.in-Ok-parse.to to c.in-Some.ensures.cases.1 parses c.in-Ok-parse.is
    (λ same. let differs : false ≡ true = sym c.if-eq.false ∙ (c.eq.ensures ∙ (bytes_eq-Decides c.as_bytes.result.now digits).1 (written ∙ same)) in cc) names
