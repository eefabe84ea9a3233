-- The command line as it is given to clap, and what clap makes of words by its own definitions.
use Rattle.std.specs.Prelude.{List, Bool, true, false, cond, Option, Some, None, codes}
use Rattle.clap.specs.Words.{App, Kinds, Row, Rule, Text, fault_of, matches_of, new_app, new_rule}
use Rattle.clap.specs.Words.{subcommand_of, with_rule, with_subcommand}
use Rattle.clap.specs.declared.builder.action.ArgAction.TheVariants.{SetTrue}
use Rattle.command_line.specs.Names.{name_text, option_text, has_option, has_value}
use Rattle.command_line.specs.declared.names.CommandName.{CommandName}
use Rattle.command_line.specs.declared.names.CommandName.TheVariants.{One, Check, Run, Threads, Capture, Serve, Trace, History, Resume, Restore, Snapshot}
use Rattle.command_line.specs.declared.names.OptionName.{OptionName}
use Rattle.command_line.specs.declared.names.OptionName.TheVariants.{Input, Json, Strict, State, SnapshotEvery}

-- ---- arguments

-- an option with a value, or a flag
abbrev pub valued_rule : Bool → Text → Rule
valued_rule true id = record (new_rule id) { long = Some id; value_names = 1 }
valued_rule false id = record (new_rule id) { long = Some id; action = Some SetTrue }

-- an option as clap has it: with a value, or as a flag
abbrev pub option_rule : OptionName → Rule
option_rule option = valued_rule (has_value option) (option_text option)

-- the one operand of `history`
abbrev pub operand_rule : Rule
operand_rule = record (new_rule (codes "operator")) { required = true; value_names = 1 }

-- a command has its options, and before a command there are all
abbrev pub is_listed : OptionName → Option CommandName → Bool
is_listed option None = true
is_listed option (Some command) = has_option option command

-- a command with one option more, if it is one of the command's
abbrev pub with_option : Option CommandName → App → OptionName → App
with_option command app option = cond (is_listed option command) (with_rule app (option_rule option)) app

-- a command with all of its options
abbrev pub with_options : Option CommandName → App → App
with_options command app = with_option command (with_option command (with_option command (with_option command (with_option command app
    Input) Json) Strict) State) SnapshotEvery

-- ---- commands

-- a command with its operand: only `history` has one
abbrev pub with_operand : CommandName → App → App
with_operand History app = with_rule app operand_rule
with_operand _ app = app

-- a command with its name, its options and its operand
abbrev pub command_app : CommandName → App
command_app command = with_operand command (with_options (Some command) (new_app (name_text command)))

-- the program with one command more
abbrev pub with_command : App → CommandName → App
with_command app command = with_subcommand app (command_app command).top

-- the words are read without the program's name before them, and one of the subcommands has to be there
abbrev pub top : App
top = let a = new_app (codes "plant_script") in
    record a { top = record a.top { no_binary_name = true; subcommand_required = true; has_version = true } }

-- the program with the commands `one`, `check`, `run` and `threads`
abbrev pub with_first_commands : App → App
with_first_commands app = with_command (with_command (with_command (with_command app One) Check) Run) Threads

-- the program with the commands `capture`, `serve`, `trace` and `history`
abbrev pub with_later_commands : App → App
with_later_commands app = with_command (with_command (with_command (with_command app Capture) Serve) Trace) History

-- the program with the commands `resume`, `restore` and `snapshot`
abbrev pub with_services : App → App
with_services app = with_command (with_command (with_command app Resume) Restore) Snapshot

-- the table of all options and all commands, as clap has it
abbrev pub program : App
program = with_services (with_later_commands (with_first_commands (with_options None top)))

-- ---- what clap makes of words

-- the kinds of error that clap may answer the words with, by its own definitions: none where it takes them
unfoldable pub faults : List Text → Kinds
faults words = fault_of program words

-- the options before the command
unfoldable pub top_rows : List Text → List Row
top_rows words = matches_of program words

-- the subcommand that the words enter, by its name, and the values of its arguments
unfoldable pub entered_subcommand : List Text → Option (Text × List Row)
entered_subcommand words = subcommand_of program words
