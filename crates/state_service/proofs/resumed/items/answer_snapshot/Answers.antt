use Rattle.std.proofs.Common.{List, ℕ, inl, inr, refl, subst}
use Rattle.state_service.proofs.ResumedLemmas.Common.{Appends, Appends-kept, end_text, on_ok}
use Rattle.line_service.specs.declared.line_outcome.LineOutcome.TheVariants.{AtFault, NoMemory}
use Rattle.state_service.proofs.resumed.items.answer_snapshot.Goals.{in-Ok+in_ok-write_all-in-Ok, in-Err-Unfinished+in_ok-write_end-in-Err-Unfinished, in-Err-NoMemory+in_ok-write_end-in-Err-NoMemory}
use Rattle.state_service.proofs.resumed.items.answer_snapshot.Goals as goal

pub returns : goal.returns
returns g c = on_ok c.flush.result _ (
    elim c.match-snapshot_of_core.branch [
      | in-Ok+in_ok-write_all-in-Ok w ↦ record {
        text = w.in-Ok.text.items;
        answered = inl w.in-Ok.ensures.ok;
        written =
            subst (λ (bytes : List ℕ). Appends (g.W.Write.contents c.args.writer.now) (g.W.Write.contents c.flush.new.self) bytes) w.as_slice.ensures.value
            (Appends-kept _ _ _ _ w.in_ok-write_all-in-Ok.ensures.bytes (rw w.writer-is at c.flush.ensures.bytes));
      }
      | in-Err-Unfinished+in_ok-write_end-in-Err-Unfinished w ↦ record {
        text = end_text c.args.number AtFault;
        answered = inr (inr (refl, w.in-Err-Unfinished.ensures.none w.in-Err-Unfinished.field-0-0 (let is = w.in-Err-Unfinished.field-0-is in cc)));
        written = Appends-kept _ _ _ _ w.in_ok-write_end-in-Err-Unfinished.ensures (rw w.writer-is at c.flush.ensures.bytes);
      }
      | in-Err-NoMemory+in_ok-write_end-in-Err-NoMemory w ↦ record {
        text = end_text c.args.number NoMemory;
        answered = inr (inl (refl, w.in-Err-NoMemory.ensures.memory (let is = w.in-Err-NoMemory.field-0-is in cc)));
        written = Appends-kept _ _ _ _ w.in_ok-write_end-in-Err-NoMemory.ensures (rw w.writer-is at c.flush.ensures.bytes);
      }
    ])
