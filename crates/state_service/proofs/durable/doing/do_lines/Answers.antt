use Rattle.std.proofs.Common.{rules, arith, ◌≡◌, ◌+◌, ◌++◌, [], ◌<◌, sym, subst, ℕ, List, length, take, Vec, append-nil}
use Rattle.state_service.proofs.DurableLemmas.Common.{slice_index_or, Global, live_view, all_done, all_told, texts, LineIsDone, LinesAreDone}
use Rattle.state_service.proofs.DurableLemmas.DoneLemmas.{none_done, line_joined}
use Rattle.state_service.proofs.DurableLemmas.ListLemmas.{texts_more, taken_length, all_taken}
use Rattle.state_service.proofs.durable.doing.do_lines.Goals as goal

pub loop-line-init : goal.loop-line-init
loop-line-init c = record {
  reached = c.requires.reached;
  counted = omega arith;
  done = λ plant start before shown after. record {
    text = [];
    done = none_done plant start before shown _ _ after;
    added = sym (append-nil c.args.text.now.items);
  };
}

pub loop-line-preserved : goal.loop-line-preserved
loop-line-preserved c =
    let at = c.loop-line in
    let lines = c.args.lines.now in
    let i = at.line-index in
    let line : Vec ℕ Global = c.line-item.result in
    let inside : i < length lines = search rules in
    let is : slice_index_or lines i line ≡ line = search rules in
    let first = c.args.count.now + 1 in
    let number : c.in_ok-number.number ≡ first + length (texts (take i lines)) =
    omega (arith, c.in_ok-number.ensures, at.invariant.counted, taken_length lines i (omega (arith, inside))) in
    record {
      reached = c.in_ok-do_line.ensures.reached;
      counted = omega (arith, c.in_ok-number.ensures, at.invariant.counted);
      done = λ plant start before shown after.
          let so_far = at.invariant.done plant start before shown after in
          let now = c.in_ok-do_line.ensures.done plant start (before ++ all_done so_far.done.answers) (shown ++ all_told so_far.done.answers) so_far.done.after in
          let same = subst (λ (l : List ℕ). LineIsDone plant start (before ++ all_done so_far.done.answers) (shown ++ all_told so_far.done.answers) c.in_ok-number.number l (live_view c.do_line.new.core) at.text.items c.do_line.new.text.items) c.deref.ensures.value now in
          let here = subst (λ (n : ℕ). LineIsDone plant start (before ++ all_done so_far.done.answers) (shown ++ all_told so_far.done.answers) n line.items (live_view c.do_line.new.core) at.text.items c.do_line.new.text.items) number same in
          subst (λ (ls : List (List ℕ)). LinesAreDone plant start before shown first ls (live_view c.do_line.new.core) c.args.text.now.items c.do_line.new.text.items) (sym (texts_more lines i line inside is))
          (line_joined plant start before shown first (texts (take i lines)) line.items (live_view at.core) (live_view c.do_line.new.core) c.args.text.now.items at.text.items c.do_line.new.text.items so_far here);
    }

pub returns-clause-done : goal.returns-clause-done
returns-clause-done c plant start before shown after =
    let at = c.loop-line in
    let all = all_taken c.args.lines.now at.line-index (omega (arith, c.loop-line-test.false, at.auto.line-index-end)) in
    subst (λ (ls : List (List ℕ)). LinesAreDone plant start before shown (c.args.count.now + 1) ls (live_view at.core) c.args.text.now.items at.text.items) all
    (at.invariant.done plant start before shown after)
