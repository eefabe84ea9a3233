use Rattle.std.proofs.Common.{◌≡◌, ℕ, ◌+◌, ◌*◌, ◌-◌, ◌<◌, ◌≤◌, le-leb, true, List, length, get_or, drop, Option, sym, ap, ◌∙◌}
use Rattle.line_service.proofs.ScriptLemmas.Common.{is_ascii_digit, drop_more, number_after}
use Rattle.line_service.proofs.script.fields.decimal_in.Goals as goal

-- one digit more, where the number stays at most so great
digit_more : (most number : ℕ) (digits : List ℕ) (i : ℕ) (all : Option ℕ) → i < length digits → true ≡ is_ascii_digit (get_or digits i 0)
    → number * 10 + (get_or digits i 0 - 48) ≤ most → number_after most number (drop i digits) ≡ all
    → number_after most (number * 10 + (get_or digits i 0 - 48)) (drop (i + 1) digits) ≡ all
digit_more most number digits i all within digit few left =
    rw (← digit, le-leb _ _ few) at (ap (number_after most number) (sym (drop_more digits i 0 within)) ∙ left)

pub loop-digit-preserved : goal.loop-digit-preserved
loop-digit-preserved c = (
  c.if-number-most.false,
  digit_more c.args.most c.loop-digit.number c.args.text.now c.loop-digit.digit-index _ c.loop-digit-test.true c.if-not-is_ascii_digit.ensures.value
      c.if-number-most.false c.loop-digit.invariant.1,
)
