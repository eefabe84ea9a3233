-- The options before a command and after it, and which of them go together (implementation-specific).
use Rattle.std.specs.Prelude.{◌≡◌, ℕ, Bool, true, false, not, ◌&&◌, ◌||◌, List, Option, None, is_some, option_map, codes, bytes_eq}
use Rattle.std.specs.Option.{option_map_or, option_or}
use Rattle.clap.specs.Words.{Row, first_of}
use Rattle.command_line.specs.Names.{option_text, has_option}
use Rattle.command_line.specs.declared.asked.OptionsFault.{OptionsFault}
use Rattle.command_line.specs.declared.asked.OptionsFault.TheVariants as fault
use Rattle.command_line.specs.declared.names.CommandName.{CommandName}
use Rattle.command_line.specs.declared.names.OptionName.{OptionName}
use Rattle.command_line.specs.declared.names.OptionName.TheVariants.{Input, Json, Strict, State, SnapshotEvery}
use Rattle.command_line.specs.declared.options.ProgramOptions.{ProgramOptions}
use Rattle.command_line.specs.declared.options.OutputFormat.{OutputFormat}
use Rattle.command_line.specs.declared.options.OutputFormat.TheVariants.{Plain, JsonLines}
use Rattle.command_line.specs.declared.options.UnknownKeyHandling.{UnknownKeyHandling}
use Rattle.command_line.specs.declared.options.UnknownKeyHandling.TheVariants.{Warn, Refuse}

-- the values of the options, as texts
pub record OptionTexts : Type 0 where
  pub input : Option (List ℕ)
  pub has_json : Bool
  pub has_strict : Bool
  pub state : Option (List ℕ)
  pub snapshot_every : Option (List ℕ)

-- no option is stated
abbrev pub no_options : OptionTexts
no_options = record { input = None; has_json = false; has_strict = false; state = None; snapshot_every = None }

-- ---- the options of the program

-- the output is written as objects of JSON
abbrev pub is_json : OutputFormat → Bool
is_json Plain = false
is_json JsonLines = true

-- unknown keys of a plant file are refused
abbrev pub is_strict : UnknownKeyHandling → Bool
is_strict Warn = false
is_strict Refuse = true

-- the options of the program, as texts
abbrev pub texts_of : ProgramOptions → OptionTexts
texts_of options = record {
  input = option_map (λ value. value.now) options.input;
  has_json = is_json options.output;
  has_strict = is_strict options.unknown_keys;
  state = option_map (λ value. value.now) options.state;
  snapshot_every = option_map (λ value. value.now) options.snapshot_every;
}

-- ---- what clap reads, before a command or after it

-- the flag is set, by the values that clap has of it
abbrev pub is_set : OptionName → List Row → Bool
is_set option rows = option_map_or (λ text. bytes_eq text (codes "true")) (first_of (option_text option) rows) false

-- the options before a command or after it, by the values that clap has of them
abbrev pub options_in : List Row → OptionTexts
options_in rows = record {
  input = first_of (option_text Input) rows;
  has_json = is_set Json rows;
  has_strict = is_set Strict rows;
  state = first_of (option_text State) rows;
  snapshot_every = first_of (option_text SnapshotEvery) rows;
}

-- ---- both places

-- the option is stated
abbrev pub is_found : OptionTexts → OptionName → Bool
is_found options Input = is_some options.input
is_found options Json = options.has_json
is_found options Strict = options.has_strict
is_found options State = is_some options.state
is_found options SnapshotEvery = is_some options.snapshot_every

-- no option is found
abbrev pub is_bare : OptionTexts → Bool
is_bare options = not (is_found options Input || (is_found options Json || (is_found options Strict
    || (is_found options State || is_found options SnapshotEvery))))

-- the options before a command together with those after it
abbrev pub joined : OptionTexts → OptionTexts → OptionTexts
joined top own = record {
  input = option_or top.input own.input;
  has_json = top.has_json || own.has_json;
  has_strict = top.has_strict || own.has_strict;
  state = option_or top.state own.state;
  snapshot_every = option_or top.snapshot_every own.snapshot_every;
}

-- the option is before the command and after it
abbrev pub is_in_both : OptionTexts → OptionTexts → OptionName → Bool
is_in_both top own option = is_found top option && is_found own option

-- an option is before the command and after it
abbrev pub is_twice : OptionTexts → OptionTexts → Bool
is_twice top own = is_in_both top own Input || (is_in_both top own Json || (is_in_both top own Strict
    || (is_in_both top own State || is_in_both top own SnapshotEvery)))

-- the option is before a command that does not have it
abbrev pub is_stray : OptionTexts → CommandName → OptionName → Bool
is_stray top command option = is_found top option && not (has_option option command)

-- an option is before a command that does not have it; all have `--input`
abbrev pub is_beyond : OptionTexts → CommandName → Bool
is_beyond top command = is_stray top command Json || (is_stray top command Strict || (is_stray top command State || is_stray top command SnapshotEvery))

-- the state is saved without a folder, or objects are to be written of a service with a folder
abbrev pub is_mismatch : OptionTexts → Bool
is_mismatch options = (is_found options SnapshotEvery && not (is_found options State)) || (is_found options Json && is_found options State)

-- the options are wrong: one is at both places, is not one of the command's, or does not go with another one
abbrev pub are_wrong : CommandName → OptionTexts → OptionTexts → Bool
are_wrong command top own = is_twice top own || (is_beyond top command || is_mismatch (joined top own))

-- ---- which option is at fault

-- these options have this fault together
abbrev pub IsMismatch : OptionTexts → OptionsFault → Type 0
IsMismatch options (fault.Without SnapshotEvery State) = (is_found options SnapshotEvery ≡ true) × (is_found options State ≡ false)
IsMismatch options (fault.Together Json State) = (is_found options Json ≡ true) × (is_found options State ≡ true)
IsMismatch options _ = ⊥

-- the options before the command and after it have this fault
abbrev pub HasFault : CommandName → OptionTexts → OptionTexts → OptionsFault → Type 0
HasFault command top own (fault.Twice option) = is_in_both top own option ≡ true
HasFault command top own (fault.NotOf option) = is_stray top command option ≡ true
HasFault command top own f = IsMismatch (joined top own) f
