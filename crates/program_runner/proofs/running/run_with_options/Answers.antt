use Rattle.std.proofs.Common.{ap, subst, true}
use Rattle.clap.specs.Walk.{texts}
use Rattle.command_line.specs.CommandLine.{GivesFault, GivesLine, asks_json, reading}
use Rattle.program_runner.proofs.Common.{IsAskedAnswer, Asked, Reading}
use Rattle.program_runner.proofs.WithoutOptions.{fault_helped, fault_named, fault_refused, fault_served, fault_version, named_line, served_line}
use Rattle.program_runner.proofs.running.run_with_options.Goals as goal

pub returns-in-Ok-clause-named : goal.returns-in-Ok-clause-named
returns-in-Ok-clause-named g c = λ o names.
    let line = named_line (reading (texts c.args.words.now)) c.in-Ok.line o names c.in-Ok.ensures in
    subst (λ (asked : Asked). IsAskedAnswer asked (g.R.Read.remaining c.args.reader.now) c.run_line.result
    (g.W.Write.contents c.args.writer.now) (g.W.Write.contents c.run_line.new.writer)) line.0 (c.run_line.ensures line.1)

pub returns-in-Ok-clause-served : goal.returns-in-Ok-clause-served
returns-in-Ok-clause-served g c = λ s names.
    let line = served_line (reading (texts c.args.words.now)) c.in-Ok.line s names c.in-Ok.ensures in
    subst (λ (asked : Asked). IsAskedAnswer asked (g.R.Read.remaining c.args.reader.now) c.run_line.result
    (g.W.Write.contents c.args.writer.now) (g.W.Write.contents c.run_line.new.writer)) line.0 (c.run_line.ensures line.1)

pub returns-in-Ok-clause-unread_if_wrong : goal.returns-in-Ok-clause-unread_if_wrong
returns-in-Ok-clause-unread_if_wrong g c = λ is. absurd (subst (λ (r : Reading). GivesLine r c.in-Ok.line) is c.in-Ok.ensures)

pub returns-in-Ok-clause-unread_for_help : goal.returns-in-Ok-clause-unread_for_help
returns-in-Ok-clause-unread_for_help g c = λ is. absurd (subst (λ (r : Reading). GivesLine r c.in-Ok.line) is c.in-Ok.ensures)

pub returns-in-Ok-clause-unread_for_version : goal.returns-in-Ok-clause-unread_for_version
returns-in-Ok-clause-unread_for_version g c = λ is. absurd (subst (λ (r : Reading). GivesLine r c.in-Ok.line) is c.in-Ok.ensures)

pub returns-in-Ok-clause-refused : goal.returns-in-Ok-clause-refused
returns-in-Ok-clause-refused g c = λ is. absurd (subst (λ (r : Reading). GivesLine r c.in-Ok.line) is c.in-Ok.ensures)

pub returns-in-Ok-clause-helped : goal.returns-in-Ok-clause-helped
returns-in-Ok-clause-helped g c = λ is. absurd (subst (λ (r : Reading). GivesLine r c.in-Ok.line) is c.in-Ok.ensures)

pub returns-in-Ok-clause-version : goal.returns-in-Ok-clause-version
returns-in-Ok-clause-version g c = λ is. absurd (subst (λ (r : Reading). GivesLine r c.in-Ok.line) is c.in-Ok.ensures)

pub returns-in-Err-clause-named : goal.returns-in-Err-clause-named
returns-in-Err-clause-named g c = λ o names.
    fault_named c.in-Err.fault (asks_json c.args.words.now) (g.R.Read.remaining c.args.reader.now) _ _ _ c.answer_fault.ensures (reading (texts c.args.words.now)) o names c.in-Err.ensures

pub returns-in-Err-clause-served : goal.returns-in-Err-clause-served
returns-in-Err-clause-served g c = λ s names.
    fault_served c.in-Err.fault (asks_json c.args.words.now) (g.R.Read.remaining c.args.reader.now) _ _ _ c.answer_fault.ensures (reading (texts c.args.words.now)) s names c.in-Err.ensures

pub returns-in-Err-clause-refused : goal.returns-in-Err-clause-refused
returns-in-Err-clause-refused g c = λ is.
    fault_refused c.in-Err.fault (asks_json c.args.words.now) _ _ _ c.answer_fault.ensures (subst (GivesFault c.in-Err.fault) is c.in-Err.ensures)

pub returns-in-Err-clause-helped : goal.returns-in-Err-clause-helped
returns-in-Err-clause-helped g c = λ is.
    fault_helped c.in-Err.fault (asks_json c.args.words.now) _ _ _ c.answer_fault.ensures (subst (GivesFault c.in-Err.fault) is c.in-Err.ensures)

pub returns-in-Err-clause-version : goal.returns-in-Err-clause-version
returns-in-Err-clause-version g c = λ is.
    fault_version c.in-Err.fault (asks_json c.args.words.now) _ _ _ c.answer_fault.ensures (subst (GivesFault c.in-Err.fault) is c.in-Err.ensures)
