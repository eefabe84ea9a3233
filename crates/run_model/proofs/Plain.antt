-- A run is one of one step more, where that step collects nothing.
use Rattle.std.proofs.Common.{◌≡◌, ℕ, false, List, [], ◌∷◌, ◌++◌, length, Option, Some, None, append-nil, refl, sym, ap, ◌∙◌, subst, arith}
use Rattle.run_model.proofs.Common.{All, slice_get, All-append, slice_get_within, ElementsFields, PlantFields, SliceRow, Action, operator, own_step, Reslicing, Gathering, Step, Out, maps_in, is_collect, outputs_under, reslicings_of, target, IsToldFrom, AreOwnFrom, IsUnder, CoreView, AreFramesFrom, IsStateAfterFrom, Acts, Reslices, Start}
use Rattle.run_model.specs.declared.step.Step.TheVariants as steps
use Rattle.run_model.proofs.Entries.{some_at}
use Rattle.run_model.proofs.Answers.{no_maps}
use Rattle.run_model.proofs.OwnActions.{IsActionAt}
use Rattle.run_model.proofs.Moving.{EachMoves, acts_moves, acts_length, reslices_moves}
use Rattle.run_model.proofs.Following.{EachTells, each_tells, books_follow, answers_follow}
use Rattle.run_model.proofs.Numbers.{Numbered}
use Rattle.run_model.proofs.Kept.{maps_same, maps_kept}
use Rattle.run_model.proofs.Waiting.{EachWaits, acts_waits, acts_queues, reslices_waits, frames_follow, gathered_follows}
use Rattle.run_model.proofs.InOrder.{ordered_push}
use Rattle.run_model.proofs.Under.{own_under, told_under}

-- a core beside another: one plant, as many books and queues, and what is gathered, but for the slices that the step gives
record IsBeside (step : Step) (old new : CoreView) : Type 0 where
  pub plant_is : new.plant ≡ old.plant
  pub books : length new.books ≡ length old.books
  pub queues : length new.queues ≡ length old.queues
  pub channel_is : new.gathering.channel ≡ old.gathering.channel
  pub quotas_are : new.gathering.quotas ≡ old.gathering.quotas
  pub slices_are : new.gathering.slices ≡ old.gathering.slices
  pub reslicings_are : new.gathering.reslicings ≡ old.gathering.reslicings ++ reslicings_of (step ∷ [])
  pub puts_are : new.gathering.queues ≡ old.gathering.queues
  pub next_is : new.gathering.next ≡ old.gathering.next

module _ (plant : PlantFields) (start : Start) (before : List Step) (outs : List Out) (step : Step) (now : List Out) (old new : CoreView) (reached : IsStateAfterFrom plant start before outs old) (others : (i : ℕ) → is_collect i step ≡ false) where
  plain_reached : EachMoves plant step old new now → EachWaits old new now → maps_in now ≡ [] → All (IsUnder (length plant.rows)) now → IsToldFrom plant start before step (target plant step) now → IsBeside step old new → IsStateAfterFrom plant start (before ++ step ∷ []) (outs ++ now) new
  plain_reached moves waits none placed told beside =
      let tells : EachTells plant start before step now = each_tells plant start before outs step now old new reached moves beside.books in
      let same : maps_in (outs ++ now) ≡ maps_in outs = maps_same plant start before outs step now tells others none in
      record {
        at_one_frame = reached.at_one_frame;
        plant_is = beside.plant_is ∙ reached.plant_is;
        shown = record {
          answers = answers_follow plant start before outs step now old new reached moves beside.books;
          maps = maps_kept plant start before outs step now tells others none reached.at_one_frame reached.shown.maps;
          under_plant = All-append (IsUnder (length plant.rows)) outs now reached.shown.under_plant placed;
        };
        ordered = ordered_push plant start before outs step now reached.ordered told;
        one_book = beside.books ∙ reached.one_book;
        one_queue = beside.queues ∙ reached.one_queue;
        books = books_follow plant start before outs step now old new reached moves beside.books;
        frames = λ i row waiting put e f g.
            let within = slice_get_within plant.rows i row e in
            let was = some_at old.queues i (omega (arith, reached.one_queue)) in
            let there : slice_get old.gathering.queues i ≡ Some put = ap (λ (qs : List (List ElementsFields)). slice_get qs i) (sym beside.puts_are) ∙ g in
            subst (λ (n : ℕ). AreFramesFrom plant start (before ++ step ∷ []) n i row waiting put) (ap length (sym same))
            (frames_follow plant start before outs step now tells others none (length (maps_in outs)) i row was.0 waiting put e (reached.gathered.collected i row e)
            (reached.frames i row was.0 put e was.1 there) (waits i was.0 waiting was.1 f));
        gathered = gathered_follows plant start before outs step now tells others none old.gathering new.gathering reached.gathered beside.channel_is beside.quotas_are beside.slices_are beside.reslicings_are beside.puts_are beside.next_is;
      }

  -- ---- an action of one operator

  own_outputs : (k : ℕ) (action : Action) → Acts k action old new now → AreOwnFrom plant start before k action now
  own_outputs k action acts =
      let within = slice_get_within old.books k acts.book acts.book_is in
      let row = some_at plant.rows k (omega (arith, reached.one_book)) in
      let is = reached.books k row.0 acts.book row.1 acts.book_is in
      record {
        row = row.0;
        row_is = row.1;
        outputs = acts.now_is ∙ (λ n. outputs_under k (own_step (operator (is.consts_are n) (is.row_is n) (is.state_is n)) action).outputs);
      }

  pub acts_reached : (k : ℕ) (action : Action) → reslicings_of (step ∷ []) ≡ [] → IsActionAt plant step k action → target plant step ≡ Some (k, action) → Acts k action old new now → IsStateAfterFrom plant start (before ++ step ∷ []) (outs ++ now) new
  acts_reached k action none at goes acts =
      plain_reached (acts_moves plant step k action old new now at acts) (acts_waits k action old new now acts)
      (ap maps_in acts.now_is ∙ no_maps k (own_step (operator acts.book.consts acts.book.row acts.book.state) action).outputs)
      (let within = slice_get_within old.books k acts.book acts.book_is in
      own_under (length plant.rows) k (own_step (operator acts.book.consts acts.book.row acts.book.state) action).outputs now (omega (arith, reached.one_book)) acts.now_is)
      (subst (λ (o : Option (ℕ × Action)). IsToldFrom plant start before step o now) (sym goes) (own_outputs k action acts))
      (record {
        plant_is = ap (λ (c : CoreView). c.plant) acts.new_is;
        books = acts_length plant step k action old new now at acts;
        queues = acts_queues k action old new now acts;
        channel_is = ap (λ (c : CoreView). c.gathering.channel) acts.new_is;
        quotas_are = ap (λ (c : CoreView). c.gathering.quotas) acts.new_is;
        slices_are = ap (λ (c : CoreView). c.gathering.slices) acts.new_is;
        reslicings_are =
            ap (λ (c : CoreView). c.gathering.reslicings) acts.new_is
            ∙ (sym (append-nil old.gathering.reslicings) ∙ ap (λ (rs : List Reslicing). old.gathering.reslicings ++ rs) (sym none));
        puts_are = ap (λ (c : CoreView). c.gathering.queues) acts.new_is;
        next_is = ap (λ (c : CoreView). c.gathering.next) acts.new_is;
      })

-- ---- a re-slicing

pub reslices_reached : (plant : PlantFields) (start : Start) (before : List Step) (outs : List Out) (from : ℕ) (rows : List SliceRow) (now : List Out) (old new : CoreView) → IsStateAfterFrom plant start before outs old → Reslices from rows old new now
    → IsStateAfterFrom plant start (before ++ steps.Reslice from rows ∷ []) (outs ++ now) new
reslices_reached plant start before outs from rows now old new reached reslices =
    plain_reached plant start before outs (steps.Reslice from rows) now old new reached (λ i. refl)
    (reslices_moves plant from rows old new now reslices) (reslices_waits from rows old new now reslices) (ap maps_in reslices.now_is)
    (told_under (length plant.rows) None now reslices.now_is) reslices.now_is
    (record {
      plant_is = reslices.plant_is;
      books = reslices.books;
      queues = ap (λ (qs : List (List Numbered)). length qs) reslices.queues_are;
      channel_is = ap (λ (g : Gathering). g.channel) reslices.gathering_is;
      quotas_are = ap (λ (g : Gathering). g.quotas) reslices.gathering_is;
      slices_are = ap (λ (g : Gathering). g.slices) reslices.gathering_is;
      reslicings_are = ap (λ (g : Gathering). g.reslicings) reslices.gathering_is;
      puts_are = ap (λ (g : Gathering). g.queues) reslices.gathering_is;
      next_is = ap (λ (g : Gathering). g.next) reslices.gathering_is;
    })
