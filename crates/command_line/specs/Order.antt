-- What the program is asked for, as contracts see it.
use Rattle.std.specs.Prelude.{ℕ, List, [], ◌∷◌, Option, Some, None, option_map}
use Rattle.clap.specs.Words.{Row, first_of}
use Rattle.std.specs.Prelude.{codes}
use Rattle.command_line.specs.Names.{name_text}
use Rattle.command_line.specs.declared.names.CommandName.{CommandName}
use Rattle.command_line.specs.declared.names.CommandName.TheVariants as name
use Rattle.command_line.specs.declared.asked.CommandWord.{CommandWord}
use Rattle.command_line.specs.declared.asked.CommandWord.TheVariants as any
use Rattle.command_line.specs.declared.asked.ServiceWord.{ServiceWord}
use Rattle.command_line.specs.declared.asked.ServiceWord.TheVariants.{Resume, Restore, Snapshot}
use Rattle.command_line.specs.declared.asked.Word.{Word}
use Rattle.command_line.specs.declared.asked.Word.TheVariants as word
use Rattle.command_line.specs.declared.asked.BatchWord.{BatchWord}
use Rattle.command_line.specs.declared.asked.BatchWord.TheVariants as batch
use Rattle.command_line.specs.declared.asked.RunReport.TheVariants as report

-- the messages of one modem, a check of a plant and a script, a run, a run on threads, a run's capture,
-- a plant in service, a run reported in words, or one operator's history (implementation-specific)
pub data Order : Type 0 where
  one : Order
  check : Order
  run : Order
  threads : Order
  capture : Order
  serve : Order
  trace : Order
  history : List ℕ → Order

-- the order of a word that reads all of its input; of an operator the bytes of its name
abbrev pub batch_order : BatchWord → Order
batch_order batch.One = one
batch_order batch.Check = check
batch_order batch.Threads = threads
batch_order (batch.Run report.Outputs) = run
batch_order (batch.Run report.Capture) = capture
batch_order (batch.Run report.Trace) = trace
batch_order (batch.Run (report.History operator)) = history operator.now

-- what a word of the program orders
abbrev pub order_of : Word → Order
order_of word.Serve = serve
order_of (word.Batch batch) = batch_order batch

-- an order, or a service that may begin with a snapshot
pub data Asked : Type 0 where
  order : Order → Asked
  service : ServiceWord → Asked

-- what the word of a command asks for: an order or a service
abbrev pub asked_of : CommandWord → Asked
asked_of (any.Order w) = order (order_of w)
asked_of (any.Service w) = service w

-- what a command asks for, where clap has these values of its arguments
abbrev pub asked_by : CommandName → List Row → Option Asked
asked_by name.One rows = Some (order one)
asked_by name.Check rows = Some (order check)
asked_by name.Run rows = Some (order run)
asked_by name.Threads rows = Some (order threads)
asked_by name.Capture rows = Some (order capture)
asked_by name.Serve rows = Some (order serve)
asked_by name.Trace rows = Some (order trace)
asked_by name.History rows = option_map (λ operator. order (history operator)) (first_of (codes "operator") rows)
asked_by name.Resume rows = Some (service Resume)
asked_by name.Restore rows = Some (service Restore)
asked_by name.Snapshot rows = Some (service Snapshot)

-- the name of the command
abbrev pub asked_name : Asked → CommandName
asked_name (order one) = name.One
asked_name (order check) = name.Check
asked_name (order run) = name.Run
asked_name (order threads) = name.Threads
asked_name (order capture) = name.Capture
asked_name (order serve) = name.Serve
asked_name (order trace) = name.Trace
asked_name (order (history operator)) = name.History
asked_name (service Resume) = name.Resume
asked_name (service Restore) = name.Restore
asked_name (service Snapshot) = name.Snapshot

-- the operand of the command, if it has one
abbrev pub operand_of : Asked → Option (List ℕ)
operand_of (order (history operator)) = Some operator
operand_of _ = None

-- an operand as words: after `--`, so that it is not read as an option
abbrev pub after_hyphens : Option (List ℕ) → List (List ℕ)
after_hyphens None = []
after_hyphens (Some operand) = codes "--" ∷ operand ∷ []

-- the words of a command without an option
abbrev pub bare_texts : Asked → List (List ℕ)
bare_texts asked = name_text (asked_name asked) ∷ after_hyphens (operand_of asked)
