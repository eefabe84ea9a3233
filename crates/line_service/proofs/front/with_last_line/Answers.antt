use Rattle.std.proofs.Common.{◌≡◌, [], List, ℕ, codes, Bool, true, false, not, true≢false, refl, subst, sym, ap, ◌∙◌}
use Rattle.std.specs.Str.{bytes_eq}
use Rattle.line_service.proofs.Common.{bytes_eq-Decides, IsFrontText}
use Rattle.line_service.proofs.FrontLemmas.{bar_at_end, no_bar_read}
use Rattle.line_service.proofs.front.with_last_line.Goals.{then-ne+in_ok-extend_from_slice, else-ne}
use Rattle.line_service.proofs.front.with_last_line.Goals as goal

of_not : (b : Bool) → false ≡ not b → b ≡ true
of_not true e = refl
of_not false e = cc

pub returns : goal.returns
returns c input so_far = elim c.if-ne.branch [
  | then-ne+in_ok-extend_from_slice w ↦
      subst (λ (l : List ℕ). IsFrontText l input []) (sym (ap (λ (v : _). v.items) w.text-is))
      (no_bar_read input c.args.text.items c.args.line.now w.extend_from_slice.new.self.items
      (λ is.
      let same : bytes_eq c.args.line.now c.as_slice.result.now ≡ true = rw c.as_slice.ensures ((bytes_eq-Decides c.args.line.now (codes "---")).1 is) in
      true≢false (w.if-ne.ensures ∙ ap not same)) w.in_ok-extend_from_slice.ensures.items so_far)
  | else-ne w ↦
      subst (λ (l : List ℕ). IsFrontText l input []) (sym (ap (λ (v : _). v.items) w.text-is))
      (bar_at_end input c.args.text.items c.args.line.now ((bytes_eq-Decides c.args.line.now (codes "---")).0 (of_not (bytes_eq c.args.line.now (codes "---")) (rw c.as_slice.ensures at w.if-ne.ensures))) so_far)
]
