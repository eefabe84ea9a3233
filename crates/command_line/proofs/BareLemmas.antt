-- Words of a command without an option.
use Rattle.std.proofs.Common.{◌≡◌, refl}
use Rattle.command_line.proofs.Common.{Asked, order, service, one, check, run, threads, capture, serve, trace, history, command}
use Rattle.clap.proofs.OnLiterals.{clap_on_literals}
use Rattle.command_line.specs.ClapLine.{entered_subcommand, faults, top_rows}
use Rattle.command_line.specs.CommandLine.{reading}
use Rattle.command_line.specs.Options.{no_options}
use Rattle.command_line.specs.Order.{bare_texts}
use Rattle.command_line.specs.declared.asked.ServiceWord.TheVariants.{Resume, Restore, Snapshot}

pub bare_reading : (asked : Asked) → reading (bare_texts asked) ≡ command asked no_options
unfolding reading faults top_rows entered_subcommand clap_on_literals
bare_reading (order one) = refl
bare_reading (order check) = refl
bare_reading (order run) = refl
bare_reading (order threads) = refl
bare_reading (order capture) = refl
bare_reading (order serve) = refl
bare_reading (order trace) = refl
bare_reading (order (history operator)) = refl
bare_reading (service Resume) = refl
bare_reading (service Restore) = refl
bare_reading (service Snapshot) = refl
