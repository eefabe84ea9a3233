use Rattle.std.proofs.Common.{rules, ◌≡◌, ◌≢◌, ◌++◌, [], List, Vec, ℕ, IfSome, ap, subst, sym, ◌∙◌, append-nil}
use Rattle.state_service.proofs.Common.{Global, FillKeeps, texts, AreTaken, IsAfterBatch, line_if_any}
use Rattle.state_service.proofs.ReadLemmas.{batch_taken, end_read, known_turned}
use Rattle.state_service.proofs.reading.read_batch.Goals as goal

pub returns-then-is_empty-clause-taken : goal.returns-then-is_empty-clause-taken
returns-then-is_empty-clause-taken g c known before so_far =
    let a = g.B.Read.remaining c.args.reader.now in
    let rested = c.fill_buf.follows.lender-at-none in
    let filled = subst (FillKeeps _ (g.B.Read.remaining rested) (g.B.BufRead.consumable_len rested)) c.in_ok-bytes.was c.fill_buf.follows.holds-at-none in
    let none : IfSome a (λ bytes. bytes ≡ []) = search rules in
    end_read c.args.part.now.items c.take_end.new.part.items before (texts c.in_ok-take_end.field-0.lines.items) c.in_ok-take_end.field-0.end known a (g.B.Read.remaining rested) none filled.0
    (λ input taken. c.in_ok-take_end.ensures.taken input before taken) so_far

pub returns-clause-taken : goal.returns-clause-taken
returns-clause-taken g c known before so_far =
    let a = g.B.Read.remaining c.args.reader.now in
    let shown = c.in_ok-bytes.bytes.now in
    let taken = c.in_ok-taken.taken in
    let rested = c.fill_buf.follows.lender-at-none in
    let filled = subst (FillKeeps _ (g.B.Read.remaining rested) (g.B.BufRead.consumable_len rested)) c.in_ok-bytes.was c.fill_buf.follows.holds-at-none in
    let some : shown ≢ [] = λ none. search rules in
    let lines = texts c.take_bytes.new.lines.items in
    let none : texts c.new-lines.result.items ≡ [] = ap (λ (ls : List (Vec ℕ Global)). texts ls) c.new-lines.ensures.items in
    known_turned known (g.B.Read.remaining c.consume.new.self) (λ input rest. AreTaken input rest (before ++ (lines ++ line_if_any taken.command)) c.take_bytes.new.part.items)
    (λ input rest. IsAfterBatch c.end_after.result input rest (before ++ lines) c.take_bytes.new.part.items)
    (λ input rest is. c.end_after.ensures.taken input rest before lines c.take_bytes.new.part.items is)
    (batch_taken c.args.part.now.items c.take_bytes.new.part.items before (lines ++ line_if_any taken.command) shown taken.count c.in_ok-taken.ensures.count some
    (λ input rest is. c.in_ok-taken.ensures.taken input rest before (subst (λ (ls : List (List ℕ)). AreTaken input (shown ++ rest) ls c.args.part.now.items) (sym (ap (λ (ls : List (List ℕ)). before ++ ls) none ∙ append-nil before)) is))
    known a (g.B.Read.remaining rested) (g.B.Read.remaining c.consume.new.self) (g.B.BufRead.consumable_len rested) c.in_ok-bytes.ensures.front filled.0 filled.1 c.consume.ensures.bytes so_far)
