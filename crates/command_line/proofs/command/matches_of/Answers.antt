use Rattle.std.proofs.Common.{◌≡◌, [], Result, Ok, Err, IfOk, IfErr}
use Rattle.command_line.proofs.Common.{IfOk-weaker, texts, Error, ArgMatches}
use Rattle.clap.specs.Words.{FailsBy, HasKind, Kinds}
use Rattle.command_line.proofs.CommandLemmas.{fails_by_faults, has_entered, has_top}
use Rattle.command_line.proofs.command.matches_of.Goals as goal

at_ok : (ks : Kinds) (r : Result ArgMatches Error) → FailsBy ks r → IfOk r (λ _. ks ≡ [])
at_ok ks (Ok m) h = h
at_ok ks (Err e) h = tt

at_err : (ks : Kinds) (r : Result ArgMatches Error) → FailsBy ks r → IfErr r (HasKind ks)
at_err ks (Ok m) h = tt
at_err ks (Err e) h = h

pub returns-clause-taken : goal.returns-clause-taken
returns-clause-taken c = at_ok _ _ (fails_by_faults _ (texts c.args.words.now) _ c.in_ok-command.ensures c.try_get_matches_from.ensures.kinds)

pub returns-clause-top : goal.returns-clause-top
returns-clause-top c =
    IfOk-weaker c.try_get_matches_from.result _ _
    (λ m h. has_top _ (texts c.args.words.now) m c.in_ok-command.ensures h) c.try_get_matches_from.ensures.matches

pub returns-clause-rows : goal.returns-clause-rows
returns-clause-rows c =
    IfOk-weaker c.try_get_matches_from.result _ _
    (λ m h. has_entered _ (texts c.args.words.now) m c.in_ok-command.ensures h) c.try_get_matches_from.ensures.matches

pub returns-clause-kinds : goal.returns-clause-kinds
returns-clause-kinds c = at_err _ _ (fails_by_faults _ (texts c.args.words.now) _ c.in_ok-command.ensures c.try_get_matches_from.ensures.kinds)
