-- Lines of a script that are quoted.
use Rattle.std.proofs.Common.{◌≡◌, ℕ, ◌+◌, ◌-◌, ◌^◌, ◌<◌, ◌≤◌, true, false, List, [], ◌∷◌, ◌++◌, Option, max, arith, ap, subst, ◌∙◌}
use Rattle.trace_report.proofs.Common.{nat_lt, Appends, Appends-nil, HasNoBreak, line_at, IsRestAfter, quote, HasNoCheckLine, HasQuoted}
use Rattle.std.proofs.lemmas.Bool.Decides.{nat_tests}
use Rattle.trace_report.proofs.LineLemmas.{rest_more}
use Rattle.trace_report.proofs.RemarkLemmas.{no_remark, said_remark}

-- the line was quoted before
pub quoted_before : (script : List ℕ) (last number : ℕ) (known : Option (List ℕ)) → number ≤ last → HasQuoted script last number known known
quoted_before script last number known low =
    let before : nat_lt last number ≡ false = grind (arith, nat_tests, low) in
    rw before (no_remark, Appends-nil known)

-- it is quoted now
pub line_quoted : (script rest line : List ℕ) (last number skipped : ℕ) (w0 w1 : Option (List ℕ)) → last < number → number < 2 ^ 64 → skipped ≡ number - last - 1
    → IsRestAfter script last rest → HasNoBreak line → line ≡ line_at rest skipped → Appends w0 w1 (quote number line) → HasQuoted script last number w0 w1
line_quoted script rest line last number skipped w0 w1 high small skip after none is wrote =
    let now : nat_lt last number ≡ true = grind (arith, nat_tests, high) in
    let place : last + skipped ≡ number - 1 = omega (arith, high, skip) in
    let same : line ≡ line_at script (number - 1) = is ∙ after skipped ∙ ap (line_at script) place in
    rw now (subst (λ (l : List ℕ). HasNoCheckLine (quote number l) × Appends w0 w1 (quote number l)) same (said_remark number line small none, wrote))

-- the rest stays, or the lines after the one that is quoted are left
pub rest_stays : (script rest : List ℕ) (last number : ℕ) → number ≤ last → IsRestAfter script last rest → IsRestAfter script (max last number) rest
rest_stays script rest last number low after =
    let same : max last number ≡ last = omega (arith, low) in
    rw same after

pub rest_of_line : (script rest left : List ℕ) (last number skipped : ℕ) → last < number → skipped ≡ number - last - 1 → IsRestAfter script last rest → IsRestAfter rest (skipped + 1) left
    → IsRestAfter script (max last number) left
rest_of_line script rest left last number skipped high skip after then =
    let same : last + (skipped + 1) ≡ max last number = omega (arith, high, skip) in
    subst (λ (n : ℕ). IsRestAfter script n left) same (rest_more script rest left last (skipped + 1) after then)
