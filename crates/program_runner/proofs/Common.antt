-- The names that several proofs of this crate cite, passed on from one place. Declares nothing.
pub use Rattle.clap.specs.Walk.{texts}
pub use Rattle.command_line.specs.CommandLine.{NamesOrder, NamesService, Reading, GivesLine, bare_order, bare_service, command, help, help_or_wrong, version, wrong}
pub use Rattle.command_line.specs.Options.{OptionTexts, is_bare, texts_of}
pub use Rattle.command_line.specs.Order.{Asked, Order, order, service, asked_of, bare_texts}
pub use Rattle.line_service.specs.Bytes.{Takes, WhereKnown}
pub use Rattle.plant_script.specs.Run.{memory_line}
pub use Rattle.program_runner.specs.Answered.{IsAskedAnswer, IsWordAnswer, IsRunAnswer, IsCommandAnswer, IsProgramAnswer, is_run}
pub use Rattle.program_runner.specs.Heads.{IsHeadRead}
pub use Rattle.program_runner.specs.Resume.{IsResumeAnswer, IsRestoreAnswer, state_line, RefusesToBegin, IsSnapshotAnswer}
pub use Rattle.state_service.specs.resumed.Beginning.{is_snapshot_head}
pub use Rattle.std.specs.Fmt.{option_append}
pub use Rattle.std.specs.Io.KnownBytes.{Appends}
