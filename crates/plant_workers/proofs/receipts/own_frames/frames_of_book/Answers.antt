use Rattle.std.proofs.Common.{◌≡◌, List, ap, ◌∙◌, count_by}
use Rattle.plant_workers.proofs.ReceiptsLemmas.Common.{operator, opened_state, frame_numbers, is_tick, actions_of, Entry, frames_of, history_outputs, frames_with_numbers}
use Rattle.plant_workers.proofs.ReceiptsLemmas.FrameLemmas.{told_outputs, run_in_order}
use Rattle.plant_workers.proofs.receipts.own_frames.frames_of_book.Goals as goal

pub returns : goal.returns
returns g c =
    let book = c.args.book.now.kept.book in
    let o = operator book.consts book.row (opened_state book.consts book.row) in
    let frames : frames_with_numbers c.in_ok-frames_in.field-0.items ≡ frames_of (history_outputs book.history) =
    c.in_ok-frames_in.ensures ∙ ap (λ (h : List Entry). frames_of (history_outputs h)) c.history.ensures in
    record {
      sids_are = ap (λ r. r.sids) (c.get_fields.ensures.value ∙ c.row.ensures);
      frames_are = frames;
      in_order = run_in_order book.consts.channel.first_frame (count_by is_tick (actions_of book.history)) (history_outputs book.history) (frames_with_numbers c.in_ok-frames_in.field-0.items) frames
          (ap frame_numbers (told_outputs o book.history c.always_replayed.ensures.told) ∙ c.frames_have_no_gap.ensures.numbers o (actions_of book.history));
    }
