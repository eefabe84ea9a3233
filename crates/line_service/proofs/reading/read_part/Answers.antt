use Rattle.std.proofs.Common.{rules, ◌≡◌, [], Some, IfSome, subst}
use Rattle.line_service.proofs.Common.{FillKeeps, End, IsPartRead, IsMoreRead}
use Rattle.line_service.proofs.ReadLemmas.{line_ended, consumed, at_end}
use Rattle.line_service.proofs.reading.read_part.Goals as goal

pub returns-then-is_empty : goal.returns-then-is_empty
returns-then-is_empty g c known so_far =
    let a = g.R.Read.remaining c.args.reader.now in
    let held = c.args.held.now in
    let rested = c.fill_buf.follows.lender-at-none in
    let filled = subst (FillKeeps _ (g.R.Read.remaining rested) (g.R.BufRead.consumable_len rested)) c.in_ok-bytes.was c.fill_buf.follows.holds-at-none in
    let none : IfSome a (λ bytes. bytes ≡ []) = search rules in
    at_end (λ input rest. IsPartRead input rest held.bytes.items held.is_long) (λ input rest. IsMoreRead input rest held.bytes.items held.is_long (Some End)) known a (g.R.Read.remaining rested)
    (λ input is. line_ended input held.bytes.items held.is_long is) none filled.0 so_far

pub returns : goal.returns
returns g c known so_far =
    let a = g.R.Read.remaining c.args.reader.now in
    let held = c.args.held.now in
    let after = c.take_part.new.held in
    let part = c.in_ok-part.part in
    let rested = c.fill_buf.follows.lender-at-none in
    let filled = subst (FillKeeps _ (g.R.Read.remaining rested) (g.R.BufRead.consumable_len rested)) c.in_ok-bytes.was c.fill_buf.follows.holds-at-none in
    consumed (λ input rest. IsPartRead input rest held.bytes.items held.is_long) (λ input rest. IsMoreRead input rest after.bytes.items after.is_long part.end) c.in_ok-bytes.bytes.now part.count
    c.in_ok-part.ensures.count c.in_ok-part.ensures.read known a (g.R.Read.remaining rested) (g.R.Read.remaining c.consume.new.self) (g.R.BufRead.consumable_len rested) c.in_ok-bytes.ensures.front
    filled.0 filled.1 c.consume.ensures.bytes so_far
