use Rattle.std.proofs.Common.{◌∷◌, List, ℕ, codes, true≢false, ◌∙◌, subst, sym}
use Rattle.line_service.proofs.Common.{bytes_eq-Decides, IsReadSoFar}
use Rattle.line_service.proofs.FrontLemmas.{byte_read, line_read, bar_read}
use Rattle.line_service.proofs.front.take_byte.Goals as goal

pub returns-then-byte-ne10 : goal.returns-then-byte-ne10
returns-then-byte-ne10 c input rest so_far =
    subst (λ (l : List ℕ). IsReadSoFar input rest c.args.text.now.items l) (sym c.in_ok-push.ensures.items)
    (byte_read input rest c.args.text.now.items c.args.line.now.items c.args.byte c.if-byte-ne10.true so_far)

pub returns-then-eq : goal.returns-then-eq
returns-then-eq c input rest so_far =
    bar_read input rest c.args.text.now.items c.args.line.now.items ((bytes_eq-Decides c.args.line.now.items (codes "---")).0 (rw (c.as_slice.ensures.value, c.as_slice-2.ensures) at (sym c.if-eq.ensures))) (subst (λ (b : ℕ). IsReadSoFar input (b ∷ rest) c.args.text.now.items c.args.line.now.items) c.if-byte-ne10.false so_far)

pub returns : goal.returns
returns c input rest so_far =
    subst (λ (l : List ℕ). IsReadSoFar input rest c.end_line.new.text.items l) (sym c.in_ok-end_line.ensures.line)
    (line_read input rest c.args.text.now.items c.args.line.now.items c.end_line.new.text.items (λ is. true≢false (sym ((bytes_eq-Decides c.args.line.now.items (codes "---")).1 is) ∙ rw (c.as_slice.ensures.value, c.as_slice-2.ensures) at (sym c.if-eq.ensures))) c.in_ok-end_line.ensures.text
    (subst (λ (b : ℕ). IsReadSoFar input (b ∷ rest) c.args.text.now.items c.args.line.now.items) c.if-byte-ne10.false so_far))
