use Rattle.std.proofs.Common.{Err, sym, subst}
use Rattle.command_line.proofs.Common.{texts}
use Rattle.command_line.specs.CommandLine.{reading}
use Rattle.command_line.specs.declared.asked.WordsFault.{WordsFault}
use Rattle.command_line.proofs.ReadLemmas.{IsOf, clause_fault, clause_help, clause_named, clause_ok, clause_wrong, of_fault, of_line}
use Rattle.command_line.proofs.reading.read_words.Goals as goal

pub returns-in-Ok : goal.returns-in-Ok
returns-in-Ok c =
    let words = texts c.args.words.now in
    let r = c.ok_or.result in
    let is = subst (IsOf (reading words)) (sym c.ok_or.ensures.value) (of_line (reading words) c.in-Ok.line c.bare_word.result c.in-Ok.ensures c.bare_word.ensures) in
    record {
      ok = clause_ok words r is;
      fault = clause_fault words r is;
      named = clause_named words r is;
      help = clause_help words r is;
      wrong = clause_wrong words r is;
    }

pub returns-in-Err : goal.returns-in-Err
returns-in-Err c =
    let words = texts c.args.words.now in
    let f = c.words_fault.result in
    let is = subst (λ (e : WordsFault). IsOf (reading words) (Err e)) (sym c.words_fault.ensures) (of_fault (reading words) c.in-Err.fault c.in-Err.ensures) in
    record {
      ok = clause_ok words (Err f) is;
      fault = clause_fault words (Err f) is;
      named = clause_named words (Err f) is;
      help = clause_help words (Err f) is;
      wrong = clause_wrong words (Err f) is;
    }
