-- How the words after the program's name are read, by what clap makes of them, and what may be answered then.
use Rattle.std.specs.Prelude.{◌≡◌, ◌⊎◌, ⊤, ℕ, Bool, cond, ◌==◌, List, [], ◌∷◌, length, Option, Some, None, Result, Ok, Err}
use Rattle.std.specs.Prelude.{bytes_eq, codes}
use Rattle.std.specs.Borrow.{Bor}
use Rattle.std.specs.List.{list_any}
use Rattle.clap.specs.Words.{Kinds, Row, Text}
use Rattle.clap.specs.declared.error.kind.ErrorKind.{ErrorKind}
use Rattle.clap.specs.declared.error.kind.ErrorKind.TheVariants as kind
use Rattle.command_line.specs.ClapLine.{entered_subcommand, faults, top_rows}
use Rattle.command_line.specs.Names.{name_of}
use Rattle.command_line.specs.Options.{OptionTexts, are_wrong, is_bare, joined, options_in, texts_of}
use Rattle.command_line.specs.Order.{Asked, Order, asked_by, asked_of, order, order_of, service}
use Rattle.command_line.specs.declared.asked.CommandLine.{CommandLine}
use Rattle.command_line.specs.declared.asked.LineFault.{LineFault}
use Rattle.command_line.specs.declared.asked.LineFault.TheVariants as line
use Rattle.command_line.specs.declared.asked.ServiceWord.{ServiceWord}
use Rattle.command_line.specs.declared.asked.Word.{Word}
use Rattle.command_line.specs.declared.asked.WordsFault.{WordsFault}
use Rattle.command_line.specs.declared.asked.WordsFault.TheVariants as fault
use Rattle.command_line.specs.declared.names.CommandName.{CommandName}

-- ---- what words are

-- A command with its options, a request for help or for the version, or wrong words. Of some words, as those that begin with clap's own
-- `help`, clap promises help or a refusal, and not which it is.
pub data Reading : Type 0 where
  command : Asked → OptionTexts → Reading
  help : Reading
  version : Reading
  wrong : Reading
  help_or_wrong : Reading

-- words that clap takes
abbrev pub line_with : CommandName → Option Asked → OptionTexts → OptionTexts → Reading
line_with name None top own = wrong
line_with name (Some asked) top own = cond (are_wrong name top own) wrong (command asked (joined top own))

-- words that clap takes, by the command that they enter: wrong where it is not one of the program's
abbrev pub line_named : Option CommandName → List Row → List Row → Reading
line_named None top own = wrong
line_named (Some name) top own = line_with name (asked_by name own) (options_in top) (options_in own)

-- words that clap takes, by the subcommand that they enter: wrong where they enter none
abbrev pub line_in : List Row → Option (Text × List Row) → Reading
line_in top None = wrong
line_in top (Some entered) = line_named (name_of entered.0) top entered.1

-- words that clap refuses, by the kind of its error; a request for the version is one word
abbrev pub refusal : Bool → ErrorKind → Reading
refusal alone kind.DisplayHelp = help
refusal alone kind.DisplayVersion = cond alone version wrong
refusal alone _ = wrong

-- of two kinds clap does not promise which it is
abbrev pub either : Reading → Reading → Reading
either wrong wrong = wrong
either _ _ = help_or_wrong

-- words that clap refuses, where it may answer any of these kinds of error
abbrev pub refusals : Bool → ErrorKind → Kinds → Reading
refusals alone k [] = refusal alone k
refusals alone k (l ∷ ks) = either (refusal alone k) (refusals alone l ks)

-- words are refused by the kinds of error that clap may answer, and read where it has none
abbrev pub read_by : Kinds → Bool → List Row → Option (Text × List Row) → Reading
read_by [] alone top entered = line_in top entered
read_by (k ∷ ks) alone top entered = refusals alone k ks

-- how the words are read
unfoldable pub reading : List Text → Reading
reading words = read_by (faults words) (length words == 1) (top_rows words) (entered_subcommand words)

-- ---- what may be answered

-- the command line has the command and the options that the words are read as
abbrev pub GivesLine : Reading → CommandLine → Type 0
GivesLine (command asked options) l = (asked_of l.word ≡ asked) × (texts_of l.options ≡ options)
GivesLine _ l = ⊥

-- the words may be answered by the help
abbrev pub MayHelp : Reading → Type 0
MayHelp help = ⊤
MayHelp help_or_wrong = ⊤
MayHelp _ = ⊥

-- the words may be answered by the version
abbrev pub MayTellVersion : Reading → Type 0
MayTellVersion version = ⊤
MayTellVersion help_or_wrong = ⊤
MayTellVersion _ = ⊥

-- the words may be answered as wrong
abbrev pub MayRefuse : Reading → Type 0
MayRefuse wrong = ⊤
MayRefuse help_or_wrong = ⊤
MayRefuse _ = ⊥

-- out of memory may come at any words
abbrev pub GivesFault : LineFault → Reading → Type 0
GivesFault (line.Help text) r = MayHelp r
GivesFault line.Version r = MayTellVersion r
GivesFault line.Wrong r = MayRefuse r
GivesFault (line.Options why) r = MayRefuse r
GivesFault line.NoMemory r = ⊤

-- what `read_words` returns agrees with how the words are read
abbrev pub GivesReading : Reading → Result CommandLine LineFault → Type 0
GivesReading r (Ok l) = GivesLine r l
GivesReading r (Err f) = GivesFault f r

-- `--json` is among the words
abbrev pub asks_json : List (Bor (List ℕ)) → Bool
asks_json = list_any (λ w. bytes_eq w.now (codes "--json"))

-- ---- words without an option

-- an order without an option
abbrev pub bare_order : Reading → Option Order
bare_order (command (order o) options) = cond (is_bare options) (Some o) None
bare_order _ = None

-- the words are those of the order, and have no option
abbrev pub NamesOrder : List (List ℕ) → Order → Type 0
NamesOrder words o = bare_order (reading words) ≡ Some o

-- a service without an option, if the words are read as that
abbrev pub bare_service : Reading → Option ServiceWord
bare_service (command (service s) options) = cond (is_bare options) (Some s) None
bare_service _ = None

-- the words are those of the service, and have no option
abbrev pub NamesService : List (List ℕ) → ServiceWord → Type 0
NamesService words s = bare_service (reading words) ≡ Some s

-- the words ask for help
abbrev pub AsksHelp : List (List ℕ) → Type 0
AsksHelp words = reading words ≡ help

-- the words ask for the version
abbrev pub AsksVersion : List (List ℕ) → Type 0
AsksVersion words = reading words ≡ version

-- clap promises help or a refusal
abbrev pub IsHelpWord : List (List ℕ) → Type 0
IsHelpWord words = reading words ≡ help_or_wrong

-- the program refuses the words
abbrev pub AreRefused : List (List ℕ) → Type 0
AreRefused words = reading words ≡ wrong

-- for `run_program`, which has no options, the words are nothing of these
pub record AreWrong (words : List (List ℕ)) : Type 0 where
  pub unnamed : (o : Order) → NamesOrder words o → ⊥
  pub unasked : AsksHelp words → ⊥
  pub unhelped : IsHelpWord words → ⊥

-- ---- answers of `read_words`

-- what a fault is for `run_program`, which has no version
abbrev pub words_fault : LineFault → WordsFault
words_fault (line.Help text) = fault.Help text
words_fault line.Version = fault.Wrong
words_fault line.Wrong = fault.Wrong
words_fault (line.Options why) = fault.Wrong
words_fault line.NoMemory = fault.NoMemory

-- the words allow this fault; out of memory may come at any words
abbrev pub Allows : List (List ℕ) → WordsFault → Type 0
Allows words (fault.Help text) = AsksHelp words ⊎ IsHelpWord words
Allows words fault.Wrong = AreWrong words ⊎ IsHelpWord words
Allows words fault.NoMemory = ⊤

-- the answer is the order, or out of memory
abbrev pub GivesOrder : Order → Result Word WordsFault → Type 0
GivesOrder o (Ok word) = order_of word ≡ o
GivesOrder o (Err fault.NoMemory) = ⊤
GivesOrder o (Err _) = ⊥

-- the answer is help, or out of memory
abbrev pub GivesHelp : Result Word WordsFault → Type 0
GivesHelp (Err (fault.Help text)) = ⊤
GivesHelp (Err fault.NoMemory) = ⊤
GivesHelp _ = ⊥

-- the answer is that the words are wrong, or out of memory
abbrev pub GivesWrong : Result Word WordsFault → Type 0
GivesWrong (Err fault.Wrong) = ⊤
GivesWrong (Err fault.NoMemory) = ⊤
GivesWrong _ = ⊥
