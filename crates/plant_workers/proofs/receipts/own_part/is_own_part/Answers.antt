use Rattle.std.proofs.Common.{ℕ, List, map, filter, not, eqb, ap, ◌∙◌}
use Rattle.plant_workers.proofs.ReceiptsLemmas.Common.{slice_eq-Decides, Span, MapSpan}
use Rattle.std.proofs.lemmas.Bool.Decides.{Decides-eqb}
use Rattle.map_assembly.specs.Map.{map_span}
use Rattle.map_assembly.specs.Part.{is_within}
use Rattle.plant_workers.proofs.ReceiptsLemmas.MappingLemmas.{both_are, both_not, at_lists}
use Rattle.plant_workers.proofs.receipts.own_part.is_own_part.Goals as goal

pub returns-then-not-are_same_spans : goal.returns-then-not-are_same_spans
returns-then-not-are_same_spans c =
    both_not c.are_same_spans.result c.if-not-are_same_spans.true
    (at_lists c.are_same_spans.result
    (c.as_slice-3.ensures.value ∙ (c.in_ok-spans.ensures ∙ ap (λ (xs : List MapSpan). filter (λ (s : MapSpan). is_within c.args.sids.now s.sid) xs) c.as_slice.ensures))
    (c.as_slice-4.ensures.value ∙ (c.in_ok-spans_put.ensures ∙ ap (λ (xs : List Span). map map_span (filter (λ (s : Span). not (eqb s.sid 0)) xs)) c.get_spans.ensures))
    c.are_same_spans.ensures)

pub returns : goal.returns
returns c =
    both_are c.are_same_spans.result c.eq.result c.if-not-are_same_spans.false
    (at_lists c.are_same_spans.result
    (c.as_slice-3.ensures.value ∙ (c.in_ok-spans.ensures ∙ ap (λ (xs : List MapSpan). filter (λ (s : MapSpan). is_within c.args.sids.now s.sid) xs) c.as_slice.ensures))
    (c.as_slice-4.ensures.value ∙ (c.in_ok-spans_put.ensures ∙ ap (λ (xs : List Span). map map_span (filter (λ (s : Span). not (eqb s.sid 0)) xs)) c.get_spans.ensures))
    c.are_same_spans.ensures)
    (at_lists c.eq.result
    (c.as_slice-5.ensures.value ∙ (c.in_ok-pending.ensures ∙ ap (λ (xs : List ℕ). filter (λ (sid : ℕ). is_within c.args.sids.now sid) xs) c.as_slice-2.ensures))
    (c.as_slice-6.ensures.value ∙ (c.in_ok-pending_put.ensures ∙ ap (λ (xs : List ℕ). filter (λ (sid : ℕ). not (eqb sid 0)) xs) c.get_pending.ensures))
    (slice_eq-Decides Decides-eqb c.as_slice-5.result.now c.as_slice-6.result.now c.eq.result c.eq.ensures))
