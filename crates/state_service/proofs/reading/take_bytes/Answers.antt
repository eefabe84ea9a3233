use Rattle.std.proofs.Common.{rules, ◌++◌, ◌+◌, ◌<◌, ℕ, List, Vec, Option, drop, length, subst, append-nil}
use Rattle.state_service.proofs.Common.{Global, drop_more, texts, AreTaken, line_if_any}
use Rattle.state_service.proofs.reading.take_bytes.Goals as goal

pub returns-in-Some-clause-taken : goal.returns-in-Some-clause-taken
returns-in-Some-clause-taken c input rest before so_far =
    let bytes = c.args.bytes.now in
    let i = c.loop-place.place in
    let inside : i < length bytes = search rules in
    subst (λ (o : Option (Vec ℕ Global)). AreTaken input (drop (i + 1) bytes ++ rest) (before ++ (texts c.take_byte.new.lines.items ++ line_if_any o)) c.take_byte.new.part.items) c.in-Some.is
    (c.in_ok-take_byte.ensures.taken input (drop (i + 1) bytes ++ rest) before
    (subst (λ (left : List ℕ). AreTaken input (left ++ rest) (before ++ texts c.loop-place.lines.items) c.loop-place.part.items) (drop_more bytes i 0 inside)
    (c.loop-place.invariant.so_far input rest before so_far)))

pub loop-place-preserved : goal.loop-place-preserved
loop-place-preserved c = record {
  so_far = λ input rest before first.
      let bytes = c.args.bytes.now in
      let i = c.loop-place.place in
      let inside : i < length bytes = search rules in
      let lines = texts c.take_byte.new.lines.items in
      subst (λ (ls : List (List ℕ)). AreTaken input (drop (i + 1) bytes ++ rest) (before ++ ls) c.take_byte.new.part.items) (append-nil lines)
      (subst (λ (o : Option (Vec ℕ Global)). AreTaken input (drop (i + 1) bytes ++ rest) (before ++ (lines ++ line_if_any o)) c.take_byte.new.part.items) c.in-None.is
      (c.in_ok-take_byte.ensures.taken input (drop (i + 1) bytes ++ rest) before
      (subst (λ (left : List ℕ). AreTaken input (left ++ rest) (before ++ texts c.loop-place.lines.items) c.loop-place.part.items) (drop_more bytes i 0 inside)
      (c.loop-place.invariant.so_far input rest before first))));
  plain = λ none. c.in_ok-take_byte.ensures.plain (c.loop-place.invariant.plain none);
}
