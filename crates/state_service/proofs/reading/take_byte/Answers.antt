use Rattle.std.proofs.Common.{◌≡◌, ◌++◌, ◌∷◌, [], List, ℕ, ap, sym, subst, ◌∙◌, append_assoc, append-nil}
use Rattle.state_service.proofs.Common.{texts, AreTaken}
use Rattle.state_service.proofs.ReadLemmas.{texts_more, line_ended}
use Rattle.state_service.proofs.reading.take_byte.Goals as goal

pub returns-then-byte-ne10-clause-taken : goal.returns-then-byte-ne10-clause-taken
returns-then-byte-ne10-clause-taken c input rest before so_far =
    let lines = texts c.args.lines.now.items in
    subst (λ (ls : List (List ℕ)). AreTaken input rest (before ++ ls) c.add_byte.new.part.items) (sym (append-nil lines))
    (c.in_ok-add_byte.ensures input rest (before ++ lines) so_far)

pub returns-then-is_command-clause-taken : goal.returns-then-is_command-clause-taken
returns-then-is_command-clause-taken c input rest before so_far =
    let lines = texts c.args.lines.now.items in
    let line = c.replace-line.result in
    let part = c.args.part.now.items in
    subst (λ (p : List ℕ). AreTaken input rest (before ++ (lines ++ line.items ∷ [])) p) (sym (ap (λ (v : _). v.items) c.replace-line.ensures.after ∙ c.new.ensures.items))
    (line_ended input rest c.args.byte (before ++ lines) part so_far c.if-byte-ne10.false (before ++ (lines ++ line.items ∷ []))
    (ap (λ (l : List ℕ). before ++ (lines ++ l ∷ [])) (ap (λ (v : _). v.items) c.replace-line.ensures.value) ∙ sym (append_assoc before lines (part ∷ []))))

pub returns-clause-taken : goal.returns-clause-taken
returns-clause-taken c input rest before so_far =
    let line = c.replace-line.result in
    let lines = texts c.args.lines.now.items in
    let new = c.push.new.self.items in
    let part = c.args.part.now.items in
    let more : texts new ++ [] ≡ lines ++ line.items ∷ [] = append-nil (texts new) ∙ texts_more c.args.lines.now.items new line c.in_ok-push.ensures.items in
    subst (λ (p : List ℕ). AreTaken input rest (before ++ (texts new ++ [])) p) (sym (ap (λ (v : _). v.items) c.replace-line.ensures.after ∙ c.new.ensures.items))
    (line_ended input rest c.args.byte (before ++ lines) part so_far c.if-byte-ne10.false (before ++ (texts new ++ []))
    (ap (λ (ls : List (List ℕ)). before ++ ls) more ∙ ap (λ (l : List ℕ). before ++ (lines ++ l ∷ [])) (ap (λ (v : _). v.items) c.replace-line.ensures.value) ∙ sym (append_assoc before lines (part ∷ []))))
