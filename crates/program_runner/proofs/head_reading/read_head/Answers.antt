use Rattle.std.proofs.Common.{List, ℕ, ◌+◌, sym, subst}
use Rattle.program_runner.proofs.Common.{Takes, WhereKnown, IsHeadRead}
use Rattle.program_runner.proofs.HeadLemmas.{IsHeadUpTo, known_start, known_same, known_other, known_end, known_all}
use Rattle.program_runner.proofs.head_reading.read_head.Goals as goal

pub loop-expected-init : goal.loop-expected-init
loop-expected-init g c = record { kept = known_start (g.R.Read.remaining c.args.reader.now) c.in_ok-head.head.items c.in_ok-head.ensures.items }

pub returns-then-byte-expected : goal.returns-then-byte-expected
returns-then-byte-expected g c =
    let known = g.R.Read.remaining c.args.reader.now in
    let before = g.R.Read.remaining c.loop-expected.reader in
    let read = g.R.Read.remaining c.next_byte.new.reader in
    subst (λ (head : List ℕ). WhereKnown known read (λ input rest. IsHeadRead input rest head)) (sym c.in_ok-push.ensures.items)
    (known_other c.loop-expected.head.items c.loop-expected.expected-index known before read c.in-Some.byte c.loop-expected-test.true c.if-byte-expected.true c.loop-expected.invariant.kept
    (subst (Takes before read) c.in-Some.is c.in_ok-byte.ensures))

pub loop-expected-preserved : goal.loop-expected-preserved
loop-expected-preserved g c =
    let i = c.loop-expected.expected-index in
    let known = g.R.Read.remaining c.args.reader.now in
    let before = g.R.Read.remaining c.loop-expected.reader in
    let read = g.R.Read.remaining c.next_byte.new.reader in
    record {
      kept =
          subst (λ (head : List ℕ). WhereKnown known read (IsHeadUpTo (i + 1) head)) (sym c.in_ok-push.ensures.items)
          (known_same c.loop-expected.head.items i known before read c.in-Some.byte c.loop-expected-test.true c.if-byte-expected.false c.loop-expected.invariant.kept
          (subst (Takes before read) c.in-Some.is c.in_ok-byte.ensures));
    }

pub returns-in_default : goal.returns-in_default
returns-in_default g c =
    let before = g.R.Read.remaining c.loop-expected.reader in
    let read = g.R.Read.remaining c.next_byte.new.reader in
    known_end c.loop-expected.head.items c.loop-expected.expected-index (g.R.Read.remaining c.args.reader.now) before read c.loop-expected.invariant.kept
    (subst (Takes before read) c.in_default.is c.in_ok-byte.ensures)

pub returns : goal.returns
returns g c =
    known_all c.loop-expected.head.items c.loop-expected.expected-index (g.R.Read.remaining c.args.reader.now) (g.R.Read.remaining c.loop-expected.reader) c.loop-expected-test.false
    c.loop-expected.invariant.kept
