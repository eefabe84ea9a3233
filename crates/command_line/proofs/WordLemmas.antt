-- What words come to that are written out.
use Rattle.std.proofs.Common.{◌≡◌, ℕ, List, [], ◌∷◌, Some, true, refl, codes}
use Rattle.command_line.proofs.Common.{order, service, one, check, run, threads, capture, serve, trace, history, command}
use Rattle.clap.proofs.OnLiterals.{clap_on_literals}
use Rattle.command_line.specs.ClapLine.{entered_subcommand, faults, top_rows}
use Rattle.command_line.specs.CommandLine.{AreRefused, AsksHelp, AsksVersion, NamesOrder, NamesService, reading}
use Rattle.command_line.specs.Options.{no_options}
use Rattle.command_line.specs.declared.asked.ServiceWord.TheVariants.{Resume, Restore, Snapshot}

pub orders_are_named_one : NamesOrder (codes "one" ∷ []) one
unfolding reading faults top_rows entered_subcommand clap_on_literals
orders_are_named_one = refl

pub orders_are_named_check : NamesOrder (codes "check" ∷ []) check
unfolding reading faults top_rows entered_subcommand clap_on_literals
orders_are_named_check = refl

pub orders_are_named_run : NamesOrder (codes "run" ∷ []) run
unfolding reading faults top_rows entered_subcommand clap_on_literals
orders_are_named_run = refl

pub orders_are_named_ended : NamesOrder (codes "run" ∷ codes "--" ∷ []) run
unfolding reading faults top_rows entered_subcommand clap_on_literals
orders_are_named_ended = refl

pub orders_are_named_threads : NamesOrder (codes "threads" ∷ []) threads
unfolding reading faults top_rows entered_subcommand clap_on_literals
orders_are_named_threads = refl

pub orders_are_named_capture : NamesOrder (codes "capture" ∷ []) capture
unfolding reading faults top_rows entered_subcommand clap_on_literals
orders_are_named_capture = refl

pub orders_are_named_serve : NamesOrder (codes "serve" ∷ []) serve
unfolding reading faults top_rows entered_subcommand clap_on_literals
orders_are_named_serve = refl

pub orders_are_named_trace : NamesOrder (codes "trace" ∷ []) trace
unfolding reading faults top_rows entered_subcommand clap_on_literals
orders_are_named_trace = refl

pub orders_are_named_history : NamesOrder (codes "history" ∷ codes "A" ∷ []) (history (codes "A"))
unfolding reading faults top_rows entered_subcommand clap_on_literals
orders_are_named_history = refl

pub orders_are_named_operand : (name : List ℕ) → NamesOrder (codes "history" ∷ codes "--" ∷ name ∷ []) (history name)
unfolding reading faults top_rows entered_subcommand clap_on_literals
orders_are_named_operand name = refl

pub services_are_named_resume : NamesService (codes "resume" ∷ []) Resume
unfolding reading faults top_rows entered_subcommand clap_on_literals
services_are_named_resume = refl

pub services_are_named_restore : NamesService (codes "restore" ∷ []) Restore
unfolding reading faults top_rows entered_subcommand clap_on_literals
services_are_named_restore = refl

pub services_are_named_snapshot : NamesService (codes "snapshot" ∷ []) Snapshot
unfolding reading faults top_rows entered_subcommand clap_on_literals
services_are_named_snapshot = refl

pub options_are_read_after : reading (codes "run" ∷ codes "--json" ∷ []) ≡ command (order run) (record no_options { has_json = true })
unfolding reading faults top_rows entered_subcommand clap_on_literals
options_are_read_after = refl

pub options_are_read_before : reading (codes "--strict" ∷ codes "check" ∷ []) ≡ command (order check) (record no_options { has_strict = true })
unfolding reading faults top_rows entered_subcommand clap_on_literals
options_are_read_before = refl

pub options_are_read_file : reading (codes "one" ∷ codes "--input" ∷ codes "a" ∷ []) ≡ command (order one) (record no_options { input = Some (codes "a") })
unfolding reading faults top_rows entered_subcommand clap_on_literals
options_are_read_file = refl

pub options_are_read_equals : reading (codes "resume" ∷ codes "--input=a" ∷ []) ≡ command (service Resume) (record no_options { input = Some (codes "a") })
unfolding reading faults top_rows entered_subcommand clap_on_literals
options_are_read_equals = refl

pub options_are_read_state : reading (codes "--state" ∷ codes "d" ∷ codes "serve" ∷ codes "--snapshot-every" ∷ codes "5" ∷ []) ≡ command (order serve) (record no_options { state = Some (codes "d"); snapshot_every = Some (codes "5") })
unfolding reading faults top_rows entered_subcommand clap_on_literals
options_are_read_state = refl

pub options_are_refused_twice : AreRefused (codes "run" ∷ codes "--json" ∷ codes "--json" ∷ [])
unfolding reading faults top_rows entered_subcommand clap_on_literals
options_are_refused_twice = refl

pub options_are_refused_both : AreRefused (codes "--json" ∷ codes "run" ∷ codes "--json" ∷ [])
unfolding reading faults top_rows entered_subcommand clap_on_literals
options_are_refused_both = refl

pub options_are_refused_no_value : AreRefused (codes "check" ∷ codes "--input" ∷ [])
unfolding reading faults top_rows entered_subcommand clap_on_literals
options_are_refused_no_value = refl

pub options_are_refused_not_after : AreRefused (codes "snapshot" ∷ codes "--json" ∷ [])
unfolding reading faults top_rows entered_subcommand clap_on_literals
options_are_refused_not_after = refl

pub options_are_refused_not_before : AreRefused (codes "--strict" ∷ codes "run" ∷ [])
unfolding reading faults top_rows entered_subcommand clap_on_literals
options_are_refused_not_before = refl

pub options_are_refused_without : AreRefused (codes "serve" ∷ codes "--snapshot-every" ∷ codes "5" ∷ [])
unfolding reading faults top_rows entered_subcommand clap_on_literals
options_are_refused_without = refl

pub options_are_refused_together : AreRefused (codes "serve" ∷ codes "--json" ∷ codes "--state" ∷ codes "d" ∷ [])
unfolding reading faults top_rows entered_subcommand clap_on_literals
options_are_refused_together = refl

pub options_are_refused_no_command : AreRefused (codes "--json" ∷ [])
unfolding reading faults top_rows entered_subcommand clap_on_literals
options_are_refused_no_command = refl

pub help_is_asked_long : AsksHelp (codes "--help" ∷ [])
unfolding reading faults top_rows entered_subcommand clap_on_literals
help_is_asked_long = refl

pub help_is_asked_short : AsksHelp (codes "-h" ∷ [])
unfolding reading faults top_rows entered_subcommand clap_on_literals
help_is_asked_short = refl

pub help_is_asked_word : AsksHelp (codes "run" ∷ codes "--help" ∷ [])
unfolding reading faults top_rows entered_subcommand clap_on_literals
help_is_asked_word = refl

pub help_is_asked_service : AsksHelp (codes "resume" ∷ codes "--help" ∷ [])
unfolding reading faults top_rows entered_subcommand clap_on_literals
help_is_asked_service = refl

pub help_is_asked_operand : AsksHelp (codes "history" ∷ codes "A" ∷ codes "-h" ∷ [])
unfolding reading faults top_rows entered_subcommand clap_on_literals
help_is_asked_operand = refl

pub help_is_asked_option : AsksHelp (codes "serve" ∷ codes "--state" ∷ codes "d" ∷ codes "--help" ∷ [])
unfolding reading faults top_rows entered_subcommand clap_on_literals
help_is_asked_option = refl

pub version_is_asked_long : AsksVersion (codes "--version" ∷ [])
unfolding reading faults top_rows entered_subcommand clap_on_literals
version_is_asked_long = refl

pub version_is_asked_short : AsksVersion (codes "-V" ∷ [])
unfolding reading faults top_rows entered_subcommand clap_on_literals
version_is_asked_short = refl

pub version_is_asked_before : AreRefused (codes "--version" ∷ codes "run" ∷ [])
unfolding reading faults top_rows entered_subcommand clap_on_literals
version_is_asked_before = refl

pub version_is_asked_after : AreRefused (codes "run" ∷ codes "--version" ∷ [])
unfolding reading faults top_rows entered_subcommand clap_on_literals
version_is_asked_after = refl

pub others_are_wrong_none : AreRefused []
unfolding reading faults top_rows entered_subcommand clap_on_literals
others_are_wrong_none = refl

pub others_are_wrong_unknown : AreRefused (codes "wrong" ∷ [])
unfolding reading faults top_rows entered_subcommand clap_on_literals
others_are_wrong_unknown = refl

pub others_are_wrong_second : AreRefused (codes "one" ∷ codes "more" ∷ [])
unfolding reading faults top_rows entered_subcommand clap_on_literals
others_are_wrong_second = refl

pub others_are_wrong_no_operand : AreRefused (codes "history" ∷ [])
unfolding reading faults top_rows entered_subcommand clap_on_literals
others_are_wrong_no_operand = refl

pub others_are_wrong_second_operand : AreRefused (codes "history" ∷ codes "A" ∷ codes "B" ∷ [])
unfolding reading faults top_rows entered_subcommand clap_on_literals
others_are_wrong_second_operand = refl

pub others_are_wrong_help_after : AreRefused (codes "restore" ∷ codes "help" ∷ [])
unfolding reading faults top_rows entered_subcommand clap_on_literals
others_are_wrong_help_after = refl
