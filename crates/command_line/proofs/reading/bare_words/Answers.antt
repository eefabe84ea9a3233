use Rattle.std.proofs.Common.{◌∙◌, ap}
use Rattle.command_line.proofs.Common.{IfOk-weaker, asked_of}
use Rattle.command_line.specs.CommandLine.{reading}
use Rattle.command_line.proofs.BareLemmas.{bare_reading}
use Rattle.command_line.proofs.reading.bare_words.Goals as goal

pub returns-clause-read : goal.returns-clause-read
returns-clause-read c =
    IfOk-weaker c.command_texts.result _ _ (λ words same. ap reading same ∙ bare_reading (asked_of c.args.word)) c.command_texts.ensures
