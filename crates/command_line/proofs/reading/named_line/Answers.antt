use Rattle.std.proofs.Common.{◌∙◌, sym, ap, refl, option_map}
use Rattle.command_line.proofs.Common.{asked_of}
use Rattle.command_line.proofs.ReadLemmas.{line_given, line_refused}
use Rattle.command_line.proofs.reading.named_line.Goals as goal

pub returns-in-Ok : goal.returns-in-Ok
returns-in-Ok c =
    let word = sym c.word_of.ensures ∙ ap (option_map asked_of) c.in-Some.is in
    line_given c.args.name _ _ _ _ c.options_in.ensures c.options_in-2.ensures _ _ _ word c.in-Ok.ensures.read.0 refl c.in-Ok.ensures.read.1

pub returns-in-Err : goal.returns-in-Err
returns-in-Err c = line_refused c.args.name _ _ _ _ c.options_in.ensures c.options_in-2.ensures _ c.in-Err.ensures.read
