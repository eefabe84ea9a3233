-- What clap promises of the program's command line.
use Rattle.std.proofs.Common.{◌≡◌, ◌∙◌, ◌&&◌, Bool, true, false, not, refl, ap, ap₂, subst, List, Result}
use Rattle.clap.specs.Words.{AddsSubcommand, FailsBy, HasMatchesOf, app_of, fault_of, first_of, first_value, found_of, is_simple, is_simple_and_free, matches_of, rows_of, subcommand_of}
use Rattle.command_line.proofs.Common.{App, Text, has_plain_fields, Error, ArgMatches, subcommand_rows_of, with_subcommand}
use Rattle.command_line.specs.ClapLine.{command_app, entered_subcommand, faults, program, top_rows, with_operand}
use Rattle.command_line.specs.declared.names.CommandName.{CommandName}
use Rattle.command_line.specs.declared.names.CommandName.TheVariants as names
use Rattle.clap.specs.declared.builder.command.Command.{Command}
use Rattle.clap.specs.declared.builder.command.Command.TheOpen.{Command-F}
use Rattle.clap.specs.declared.builder.command.Command.TheViews.{out-Command}
use Rattle.clap.specs.declared.parser.matches.Found.{Found}
use Rattle.clap.proofs.OnLiterals.{clap_on_literals}
use Rattle.clap.proofs.WalkLemmas.{first_value-rows}

third_is_false : (a b g rest : Bool) → (a && (b && (not g && rest))) ≡ true → g ≡ false
third_is_false true true false rest h = refl
third_is_false true true true rest h = cc
third_is_false true false g rest h = cc
third_is_false false b g rest h = cc

-- a plain command has no global argument
pub plain_is_local : (f : Command-F Command) → has_plain_fields f ≡ true → f.has_globals ≡ false
plain_is_local f h = third_is_false _ _ f.has_globals _ h

-- a command with one more subcommand, by what it and the subcommand were before
pub added_subcommand : (old sub new : Command) (a b : App) → app_of old ≡ a → app_of sub ≡ b → b.top.is_plain ≡ true
    → AddsSubcommand old sub new → app_of new ≡ with_subcommand a b.top
added_subcommand old sub new a b was is plain added =
    let still : (app_of sub).top.is_plain ≡ true = ap (λ (x : App). x.top.is_plain) is ∙ plain in
    added.shape (plain_is_local (out-Command sub) still) ∙ ap₂ with_subcommand was (ap (λ (x : App). x.top) is)

-- of the program's command line clap says exactly what it does
program_is_free : is_simple_and_free program ≡ true
unfolding clap_on_literals
program_is_free = refl

program_is_simple : is_simple program ≡ true
unfolding clap_on_literals
program_is_simple = refl

-- a parse by the program's command line fails by the kinds that the words have there
pub fails_by_faults : (a : App) (words : List Text) (r : Result ArgMatches Error) → a ≡ program
    → (is_simple_and_free a ≡ true → FailsBy (fault_of a words) r) → FailsBy (faults words) r
unfolding faults
fails_by_faults a words r same kinds =
    subst (λ (q : App). FailsBy (fault_of q words) r) same (kinds (ap is_simple_and_free same ∙ program_is_free))

-- and has the options and the subcommand that it has there
pub has_top : (a : App) (words : List Text) (m : ArgMatches) → a ≡ program → HasMatchesOf a words m
    → rows_of (found_of m) ≡ top_rows words
unfolding top_rows
has_top a words m same matches =
    (matches (ap is_simple same ∙ program_is_simple)).0 ∙ ap (λ (q : App). matches_of q words) same

pub has_entered : (a : App) (words : List Text) (m : ArgMatches) → a ≡ program → HasMatchesOf a words m
    → subcommand_rows_of m ≡ entered_subcommand words
unfolding entered_subcommand
has_entered a words m same matches =
    (matches (ap is_simple same ∙ program_is_simple)).1 ∙ ap (λ (q : App). subcommand_of q words) same

-- the value of an argument, in the matches and in their rows
pub value_in_rows : (f : Found) (id : Text) → first_value f id ≡ first_of id (rows_of f)
value_in_rows f id = first_value-rows f id

-- ---- one command

-- a command but `history` has no operand
pub no_operand : (name : CommandName) (a : App) → (name ≡ names.History → ⊥) → with_operand name a ≡ a
no_operand names.One a other = refl
no_operand names.Check a other = refl
no_operand names.Run a other = refl
no_operand names.Threads a other = refl
no_operand names.Capture a other = refl
no_operand names.Serve a other = refl
no_operand names.Trace a other = refl
no_operand names.History a other = absurd (other refl)
no_operand names.Resume a other = refl
no_operand names.Restore a other = refl
no_operand names.Snapshot a other = refl

pub command_is_plain : (name : CommandName) → (command_app name).top.is_plain ≡ true
command_is_plain names.One = refl
command_is_plain names.Check = refl
command_is_plain names.Run = refl
command_is_plain names.Threads = refl
command_is_plain names.Capture = refl
command_is_plain names.Serve = refl
command_is_plain names.Trace = refl
command_is_plain names.History = refl
command_is_plain names.Resume = refl
command_is_plain names.Restore = refl
command_is_plain names.Snapshot = refl
