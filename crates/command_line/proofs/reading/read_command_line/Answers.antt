use Rattle.std.proofs.Common.{◌∙◌, ◌==◌, ℕ, Bool, subst, sym, ap, ap₂}
use Rattle.std.proofs.lemmas.List.{length-map}
use Rattle.command_line.proofs.Common.{Reading, GivesReading, GivesFault, texts}
use Rattle.clap.specs.Words.{kind_of}
use Rattle.command_line.specs.CommandLine.{line_in, refusal}
use Rattle.command_line.proofs.ReadLemmas.{refused_reading, taken_reading}
use Rattle.command_line.proofs.reading.read_command_line.Goals as goal

pub returns-in-Ok : goal.returns-in-Ok
returns-in-Ok c =
    let words = texts c.args.words.now in
    let same = ap₂ line_in c.in-Ok.ensures.top c.in-Ok.ensures.rows ∙ sym (taken_reading words c.in-Ok.ensures.taken) in
    subst (λ (r : Reading). GivesReading r c.line_of.result) same c.line_of.ensures

pub returns-in-Err : goal.returns-in-Err
returns-in-Err c =
    let words = texts c.args.words.now in
    let alone = ap (λ (n : ℕ). n == 1) (sym (length-map c.args.words.now (λ s. s.now))) in
    let k = kind_of c.in-Err.error in
    refused_reading words k c.fault_of_error.result c.fault_of_error.ensures.memory
    (subst (λ (t : Bool). GivesFault c.fault_of_error.result (refusal t k)) alone c.fault_of_error.ensures.refused) c.in-Err.ensures.kinds
