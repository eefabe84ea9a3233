use Rattle.std.proofs.Common.{ℕ, List, ◌++◌, codes, subst}
use Rattle.line_service.proofs.ScriptLemmas.Common.{Appends, Appends-trans, address}
use Rattle.line_service.proofs.ScriptLemmas.Outcomes.{if_ok}
use Rattle.line_service.proofs.script.writing.write_reply.Goals as goal

pub returns : goal.returns
returns g c =
    let head : List ℕ = codes "R " ++ (address c.args.modem ++ codes " ") in
    let first = subst (λ (text : List ℕ). Appends (g.W.Write.contents c.args.writer.now) (g.W.Write.contents c.write_all.new.self) text) c.line_head.ensures c.in_ok-write_all.ensures.bytes in
    if_ok c.write_hex_line.result _ _ (λ _ told. Appends-trans _ _ _ head _ first told) c.write_hex_line.ensures
