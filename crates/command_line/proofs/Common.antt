-- The names that several proofs of this crate cite, passed on from one place. Declares nothing.
pub use Rattle.clap.specs.Kinds.{IsAmong, Kinds}
pub use Rattle.clap.specs.Simple.{has_plain_fields}
pub use Rattle.clap.specs.Walk.{Text, Row, texts}
pub use Rattle.clap.specs.Words.{Rule, rule_of, with_rule, App, new_app, with_subcommand, subcommand_rows_of}
pub use Rattle.clap.specs.declared.error.Error.{Error}
pub use Rattle.clap.specs.declared.error.kind.ErrorKind.{ErrorKind}
pub use Rattle.clap.specs.declared.parser.matches.ArgMatches.{ArgMatches}
pub use Rattle.command_line.specs.CommandLine.{Reading, AsksHelp, IsHelpWord, NamesOrder, Allows, AreWrong, GivesHelp, GivesOrder, GivesWrong, GivesReading, GivesFault, command}
pub use Rattle.command_line.specs.Order.{Order, Asked, one, check, run, threads, capture, serve, trace, history, order_of, order, service, asked_of, asked_name}
pub use Rattle.std.proofs.lemmas.Result.{IfOk-weaker}
pub use Rattle.std.specs.Prelude.{slice_get, IfSome, IfNone, IsSomeAnd, ⊤, codes}
pub use Rattle.std.specs.Str.{bytes_eq, chars}
