use Rattle.command_line.proofs.BareLemmas.{bare_reading}
use Rattle.command_line.proofs.WordLemmas.{orders_are_named_capture, orders_are_named_check, orders_are_named_ended, orders_are_named_history, orders_are_named_one, orders_are_named_operand, orders_are_named_run, orders_are_named_serve, orders_are_named_threads, orders_are_named_trace}
use Rattle.command_line.proofs.laws_of_words.orders_are_named.Goals as goal

pub returns : goal.returns
returns c = record {
  one = orders_are_named_one;
  check = orders_are_named_check;
  run = orders_are_named_run;
  ended = orders_are_named_ended;
  threads = orders_are_named_threads;
  capture = orders_are_named_capture;
  serve = orders_are_named_serve;
  trace = orders_are_named_trace;
  history = orders_are_named_history;
  operand = orders_are_named_operand;
  bare = bare_reading;
}
