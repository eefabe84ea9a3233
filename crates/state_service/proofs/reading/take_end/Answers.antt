use Rattle.std.proofs.Common.{rules, ◌≡◌, ◌≢◌, ◌++◌, ◌∷◌, [], List, Vec, ℕ, inr, refl, ap, sym, subst, ◌∙◌, append-nil}
use Rattle.state_service.proofs.Common.{Global, texts, AreAllTaken}
use Rattle.state_service.proofs.ReadLemmas.{texts_more, ended_line}
use Rattle.state_service.proofs.reading.take_end.Goals as goal

pub returns-then-is_command-clause-taken : goal.returns-then-is_command-clause-taken
returns-then-is_command-clause-taken c input before so_far =
    let part = c.args.part.now.items in
    let line = c.replace-line.result.items in
    let some : part ≢ [] = λ none. search rules in
    let same : line ≡ part = ap (λ (v : _). v.items) c.replace-line.ensures.value in
    let none : texts c.new-lines.result.items ≡ [] = ap (λ (ls : List (Vec ℕ Global)). texts ls) c.new-lines.ensures.items in
    inr (record {
      none_left = refl;
      no_part = ap (λ (v : _). v.items) c.replace-line.ensures.after ∙ c.new.ensures.items;
      all = subst (λ (ls : List (List ℕ)). AreAllTaken input ls)
          (sym (ap (λ (ls : List (List ℕ)). (before ++ ls) ++ line ∷ []) none ∙ ap (λ (ls : List (List ℕ)). ls ++ line ∷ []) (append-nil before) ∙ ap (λ (l : List ℕ). before ++ l ∷ []) same))
          (ended_line input part before so_far some);
    })

pub returns-clause-taken : goal.returns-clause-taken
returns-clause-taken c input before so_far =
    let part = c.args.part.now.items in
    let line = c.replace-line.result in
    let some : part ≢ [] = λ none. search rules in
    let same : line.items ≡ part = ap (λ (v : _). v.items) c.replace-line.ensures.value in
    let none : texts c.new-lines.result.items ≡ [] = ap (λ (ls : List (Vec ℕ Global)). texts ls) c.new-lines.ensures.items in
    subst (λ (ls : List (List ℕ)). AreAllTaken input (before ++ ls))
    (sym (texts_more c.new-lines.result.items c.push.new.self.items line c.in_ok-push.ensures.items ∙ ap (λ (ls : List (List ℕ)). ls ++ line.items ∷ []) none ∙ ap (λ (l : List ℕ). l ∷ []) same))
    (ended_line input part before so_far some)
