-- Which lines of the input a journal has at any moment.
use Rattle.std.proofs.Common.{◌≡◌, ◌⊎◌, inl, inr, ⊎_elim, ℕ, ◌+◌, List, [], ◌∷◌, ◌++◌, length, map, Option, Some, None, Vec, IfSome, refl, sym, ap, subst, ◌∙◌, arith, append_assoc, append-nil}
use Rattle.state_service.proofs.Common.{Global, Appends, append_known, map-append, PlantFields, CoreView, lines_of, parts_from, states_of, IsRestarted, WhereKnown, LeavesOnly, JournalContent, journal_content, with_lines, fresh, LeadsTo, IsLeading, leads_anew, DueState, Due, BatchEnd, kept_line, line_at_end, AreTaken, AreAllTaken, AreTakenSoFar, IsAfterBatch, Event, lines_done, LeadOn, LeadsHere, HasLines, HasNoFewer, SaysDue, AreFirstLines, HoldsLines, IsLeftBy, HoldsTakenLines, ServiceOrigin, IsJournalOf, IsLeftFrom, IsFirstCore, IsServiceSoFar, IsServedUpTo, IsLeftByService, IsLeftUnder}
use Rattle.state_service.specs.declared.reading.BatchEnd.TheVariants as batch
use Rattle.state_service.proofs.KeepLemmas.{lines_added, state_put, weaker}
use Rattle.state_service.proofs.ServeLemmas.{Reads}

-- ---- first lines

-- first lines of first lines
fewer_first : (input : List ℕ) (xs ys : List (List ℕ)) → AreFirstLines input (xs ++ ys) → AreFirstLines input xs
fewer_first input xs ys are = record { rest = ys ++ are.rest; lines_are = are.lines_are ∙ append_assoc xs ys are.rest }

taken_first : (input rest : List ℕ) (done : List (List ℕ)) (part : List ℕ) → AreTaken input rest done part → AreFirstLines input done
taken_first input rest done part taken =
    let left = map kept_line (parts_from 10 taken.begun rest) in
    record {
      rest = left;
      lines_are = ap (λ (ls : List (List ℕ)). map kept_line ls) taken.lines_are ∙ (map-append kept_line taken.whole (parts_from 10 taken.begun rest)
          ∙ ap (λ (ls : List (List ℕ)). ls ++ left) (sym taken.taken_are));
    }

all_of : (input : List ℕ) (done whole : List (List ℕ)) (last : List ℕ) → lines_of input ≡ whole ++ last ∷ [] → done ≡ map kept_line (whole ++ line_at_end last) → AreFirstLines input done
all_of input done whole [] lines_are taken_are =
    let left = map kept_line ([] ∷ []) in
    record {
      rest = left;
      lines_are = ap (λ (ls : List (List ℕ)). map kept_line ls) lines_are ∙ (map-append kept_line whole ([] ∷ [])
          ∙ ap (λ (ls : List (List ℕ)). ls ++ left) (sym (taken_are ∙ ap (λ (ls : List (List ℕ)). map kept_line ls) (append-nil whole))));
    }
all_of input done whole (b ∷ bytes) lines_are taken_are = record {
  rest = [];
  lines_are = ap (λ (ls : List (List ℕ)). map kept_line ls) lines_are ∙ (sym taken_are ∙ sym (append-nil done));
}

all_first : (input : List ℕ) (done : List (List ℕ)) → AreAllTaken input done → AreFirstLines input done
all_first input done all = all_of input done all.whole all.last all.lines_are all.taken_are

so_far_first : (input rest : List ℕ) (done : List (List ℕ)) (part : List ℕ) → AreTakenSoFar input rest done part → AreFirstLines input done
so_far_first input rest done part taken = ⊎_elim (λ some. taken_first input rest done part some) (λ end. all_first input done end.all) taken

batch_first : (end : BatchEnd) (input rest : List ℕ) (done : List (List ℕ)) (part : List ℕ) → IsAfterBatch end input rest done part → AreFirstLines input done
batch_first batch.Open input rest done part taken = so_far_first input rest done part taken
batch_first (batch.Command line) input rest done part taken = fewer_first input done (line.items ∷ []) (so_far_first input rest (done ++ line.items ∷ []) part taken)
batch_first batch.Ended input rest done part taken = all_first input done taken

-- ---- the lines of a journal

abbrev lines_in : Option JournalContent → List (List ℕ)
lines_in None = []
lines_in (Some stored) = stored.lines

module _ (file : List ℕ) (first : CoreView) (count : ℕ) where
  -- it leads to the first core
  pub found_holds : (content : Option JournalContent) → LeadsHere content first count → HoldsLines content file first count [] content
  found_holds content (plant, leading) =
      let none : List Event = [] in
      let same : count ≡ count + length (lines_done none) = omega arith in
      record {
        events = none;
        base = leading.stored;
        is_base = record {
          live = first;
          plant = plant;
          lead = refl;
          leads = subst (λ (n : ℕ). LeadsTo leading.stored plant first n) same leading.leads;
          is = inl (refl, leading.stands_for);
        };
        since = [];
        content_is = leading.stands_for ∙ ap (λ (ls : List (List ℕ)). Some (record { snapshot = leading.stored.snapshot; lines = ls })) (sym (append-nil leading.stored.lines));
        done_are = refl;
      }

  module _ (found : Option JournalContent) where
    -- more lines
    pub more_held : (done lines : List (List ℕ)) (content later : Option JournalContent) → HoldsLines found file first count done content → later ≡ with_lines lines content
        → HoldsLines found file first count (done ++ lines) later
    more_held done lines content later holds is = record {
      events = holds.events;
      base = holds.base;
      is_base = holds.is_base;
      since = holds.since ++ lines;
      content_is = is ∙ (ap (λ (o : Option JournalContent). with_lines lines o) holds.content_is
          ∙ ap (λ (ls : List (List ℕ)). Some (record { snapshot = holds.base.snapshot; lines = ls })) (append_assoc holds.base.lines holds.since lines));
      done_are = ap (λ (ls : List (List ℕ)). ls ++ lines) holds.done_are ∙ append_assoc (lines_done holds.events) holds.since lines;
    }

    -- a state in their place
    pub state_holds : (events : List Event) (live : CoreView) (now : ℕ) (plant : PlantFields) (snapshot : List (List ℕ)) (content : Option JournalContent) → LeadOn file first count events live
        → now ≡ count + length (lines_done events) → IsLeading content plant live now → content ≡ fresh snapshot → HoldsLines found file first count (lines_done events) content
    state_holds events live now plant snapshot content lead counted leading is = record {
      events = events;
      base = leading.stored;
      is_base = record {
        live = live;
        plant = plant;
        lead = lead;
        leads = subst (λ (n : ℕ). LeadsTo leading.stored plant live n) counted leading.leads;
        is = inr (ap lines_in (sym leading.stands_for ∙ is));
      };
      since = [];
      content_is = leading.stands_for ∙ ap (λ (ls : List (List ℕ)). Some (record { snapshot = leading.stored.snapshot; lines = ls })) (sym (append-nil leading.stored.lines));
      done_are = sym (append-nil (lines_done events));
    }

    pub taken_left : (end : BatchEnd) (content : Option JournalContent) (input rest part : List ℕ) → HoldsTakenLines found file first count end content input rest part → IsLeftBy found file first count input content
    taken_left end content input rest part here = record { done = here.done; holds = here.holds; first_lines = batch_first end input rest here.done part here.taken }

    -- a batch is in the journal
    batch_holds : (end : BatchEnd) (content later : Option JournalContent) (lines : List (List ℕ)) (old_part new_part : List ℕ) (known a b : Option (List ℕ)) → Reads end lines old_part new_part a b
        → later ≡ with_lines lines content → WhereKnown known a (λ input left. HoldsTakenLines found file first count batch.Open content input left old_part)
        → WhereKnown known b (λ input left. HoldsTakenLines found file first count end later input left new_part)
    batch_holds end content later lines old_part new_part None a b reads is here = tt
    batch_holds end content later lines old_part new_part (Some input) None b reads is here = absurd here
    batch_holds end content later lines old_part new_part (Some input) (Some rest) None reads is here = absurd (reads (Some input) here.done here.taken)
    batch_holds end content later lines old_part new_part (Some input) (Some rest) (Some left) reads is here = record {
      done = here.done ++ lines;
      taken = reads (Some input) here.done here.taken;
      holds = more_held here.done lines content later here.holds is;
    }

    -- a batch has no line
    none_holds : (end : BatchEnd) (content : Option JournalContent) (lines : List (List ℕ)) (old_part new_part : List ℕ) (known a b : Option (List ℕ)) → Reads end lines old_part new_part a b → lines ≡ []
        → WhereKnown known a (λ input left. HoldsTakenLines found file first count batch.Open content input left old_part)
        → WhereKnown known b (λ input left. HoldsTakenLines found file first count end content input left new_part)
    none_holds end content lines old_part new_part None a b reads none here = tt
    none_holds end content lines old_part new_part (Some input) None b reads none here = absurd here
    none_holds end content lines old_part new_part (Some input) (Some rest) None reads none here = absurd (reads (Some input) here.done here.taken)
    none_holds end content lines old_part new_part (Some input) (Some rest) (Some left) reads none here = record {
      done = here.done;
      taken = subst (λ (ls : List (List ℕ)). IsAfterBatch end input left ls new_part) (ap (λ (ls : List (List ℕ)). here.done ++ ls) none ∙ append-nil here.done) (reads (Some input) here.done here.taken);
      holds = here.holds;
    }

    -- a command is in the journal
    command_holds : (line : Vec ℕ Global) (content later : Option JournalContent) (lines : List (List ℕ)) (input rest part : List ℕ) → lines ≡ line.items ∷ [] → later ≡ with_lines lines content
        → HoldsTakenLines found file first count (batch.Command line) content input rest part → HoldsTakenLines found file first count batch.Open later input rest part
    command_holds line content later lines input rest part alone is here = record {
      done = here.done ++ lines;
      taken = subst (λ (ls : List (List ℕ)). AreTakenSoFar input rest (here.done ++ ls) part) (sym alone) here.taken;
      holds = more_held here.done lines content later here.holds is;
    }

-- ---- the journal of a service

known_some : (a b : Option (List ℕ)) (P : List ℕ → List ℕ → Type 0) (Q : List ℕ → Type 0) → ((input rest : List ℕ) → P input rest → Q input) → WhereKnown a b P → IfSome a Q
known_some None b P Q on h = tt
known_some (Some input) None P Q on h = absurd h
known_some (Some input) (Some rest) P Q on h = on input rest h

known_on : (a b : Option (List ℕ)) (P Q : List ℕ → List ℕ → Type 0) → ((input rest : List ℕ) → P input rest → Q input rest) → WhereKnown a b P → WhereKnown a b Q
known_on None b P Q on h = tt
known_on (Some input) None P Q on h = absurd h
known_on (Some input) (Some rest) P Q on h = on input rest h

module _ (origin : ServiceOrigin) where
  -- a crash between two calls leaves it
  pub journal_left : (end : BatchEnd) (content : Option JournalContent) (rest : Option (List ℕ)) (part : List ℕ) → IsJournalOf origin end content rest part → IsLeftFrom origin content
  journal_left end content rest part has = record {
    no_fewer = has.no_fewer;
    named = known_some origin.input rest (λ input left. HoldsTakenLines origin.found origin.file origin.first origin.count end content input left part)
        (λ input. IsLeftBy origin.found origin.file origin.first origin.count input content)
        (λ input left here. taken_left origin.file origin.first origin.count origin.found end content input left part here) has.holds;
  }

  pub batch_more : (end : BatchEnd) (content later : Option JournalContent) (lines : List (List ℕ)) (old_part new_part : List ℕ) (a b : Option (List ℕ)) → Reads end lines old_part new_part a b
      → later ≡ with_lines lines content → IsJournalOf origin batch.Open content a old_part → IsJournalOf origin end later b new_part
  batch_more end content later lines old_part new_part a b reads is has = record {
    no_fewer = lines_added origin.least content later lines has.no_fewer is;
    holds = batch_holds origin.file origin.first origin.count origin.found end content later lines old_part new_part origin.input a b reads is has.holds;
  }

  pub batch_none : (end : BatchEnd) (content : Option JournalContent) (lines : List (List ℕ)) (old_part new_part : List ℕ) (a b : Option (List ℕ)) → Reads end lines old_part new_part a b → lines ≡ []
      → IsJournalOf origin batch.Open content a old_part → IsJournalOf origin end content b new_part
  batch_none end content lines old_part new_part a b reads none has = record {
    no_fewer = has.no_fewer;
    holds = none_holds origin.file origin.first origin.count origin.found end content lines old_part new_part origin.input a b reads none has.holds;
  }

  pub command_more : (line : Vec ℕ Global) (content later : Option JournalContent) (lines : List (List ℕ)) (rest : Option (List ℕ)) (part : List ℕ) → lines ≡ line.items ∷ [] → later ≡ with_lines lines content
      → IsJournalOf origin (batch.Command line) content rest part → IsJournalOf origin batch.Open later rest part
  command_more line content later lines rest part alone is has = record {
    no_fewer = lines_added origin.least content later lines has.no_fewer is;
    holds = known_on origin.input rest (λ input left. HoldsTakenLines origin.found origin.file origin.first origin.count (batch.Command line) content input left part)
        (λ input left. HoldsTakenLines origin.found origin.file origin.first origin.count batch.Open later input left part)
        (λ input left here. command_holds origin.file origin.first origin.count origin.found line content later lines input left part alone is here) has.holds;
  }

-- ---- the first period

-- what was found
pub found_left : (found : Option JournalContent) (file : List ℕ) (known : Option (List ℕ)) (least : ℕ) → HasLines found least → IsLeftUnder found file known found
found_left found file None least has = record { loses_none = record { least = least; had = inl has; has = record { count = least; has = has; enough = omega arith } }; named = tt }
found_left found file (Some input) least has = record { loses_none = record { least = least; had = inl has; has = record { count = least; has = has; enough = omega arith } }; named = inl refl }

module _ (found : Option JournalContent) (file : List ℕ) (first : CoreView) (count least : ℕ) where
  abbrev pub origin_of : Option (List ℕ) → ServiceOrigin
  origin_of known = record { found = found; least = least; file = file; first = first; count = count; input = known }

  -- what a crash leaves of a service with this first core
  pub under_file : (known : Option (List ℕ)) (content : Option JournalContent) → IsFirstCore found file first count → HasLines found least → IsLeftFrom (origin_of known) content → IsLeftUnder found file known content
  under_file None content is_first has left = record { loses_none = record { least = least; had = inl has; has = left.no_fewer }; named = tt }
  under_file (Some input) content is_first has left = record {
    loses_none = record { least = least; had = inl has; has = left.no_fewer };
    named = inr (record { first = first; count = count; is_first = is_first; left = left.named });
  }

  -- nothing is read yet, and the journal leads to the first core
  pub none_taken : (known : Option (List ℕ)) (part : List ℕ) (taken : (input : List ℕ) → AreTakenSoFar input input [] part) → LeadsHere found first count → HasNoFewer least found
      → IsJournalOf (origin_of known) batch.Open found known part
  none_taken None part taken leads has = record { no_fewer = has; holds = tt }
  none_taken (Some input) part taken leads has = record { no_fewer = has; holds = record { done = []; taken = taken input; holds = found_holds file first count found leads } }

-- ---- a state that takes the place of lines

-- the journal has the lines that are taken by a service with some first core
pub record StartsHere (found : Option JournalContent) (file : List ℕ) (put : Option JournalContent) (input rest part : List ℕ) : Type 0 where
  pub first : CoreView
  pub count : ℕ
  pub is_first : IsFirstCore found file first count
  pub holds : HoldsTakenLines found file first count batch.Open put input rest part

appended : (old : Option (List ℕ)) (bytes : List ℕ) → Appends old (append_known old bytes) bytes
appended None bytes = tt
appended (Some was) bytes = refl

module _ (due : DueState) (found content : Option JournalContent) (given file : List ℕ) (count : ℕ) (part : List ℕ) (known rest old was : Option (List ℕ)) (served : IsServedUpTo found content given file count (Due due) part known rest old was) where
  -- what a crash leaves before it
  pub served_left : IsLeftUnder found given known content
  served_left = record {
    loses_none = served.loses_none;
    named = known_some known rest (λ input left. IsServiceSoFar found given (Due due) content input left part served.live count old was)
        (λ input. (content ≡ found) ⊎ IsLeftByService found given input content)
        (λ input left so_far. ⊎_elim (λ same. inl same) (λ by. inr (record { first = so_far.first; count = so_far.count; is_first = so_far.is_first; left = by })) so_far.left) served.serves;
  }

  module _ (next : CoreView) (restarted : IsRestarted due.kept.start.plant due.kept.start.saved.frame (states_of due.kept.start.saved) next) (says : SaysDue count due) (put : Option JournalContent) (is : put ≡ fresh due.kept.snapshot) where
    pub put_no_fewer : HasNoFewer served.loses_none.least put
    put_no_fewer = state_put served.loses_none.least count due.kept.start.plant due.kept.start.saved due.kept.snapshot put served.enough says is

    pub put_holds : (input left : List ℕ) (so_far : IsServiceSoFar found given (Due due) content input left part served.live count old was)
        → HoldsTakenLines found given so_far.first so_far.count batch.Open put input left part
    put_holds input left so_far =
        let serving = so_far.so_far next (append_known was due.answer.items) restarted (appended was due.answer.items) in
        record {
          done = lines_done serving.events;
          taken = serving.taken;
          holds = state_holds given so_far.first so_far.count found serving.events next count due.kept.start.plant due.kept.snapshot put serving.lead serving.count_is
              (leads_anew due.kept.start.plant due.kept.start.saved next count due.kept.snapshot put says restarted.reached is) is;
        }

    -- and after it
    pub put_left : IsLeftUnder found given known put
    put_left = record {
      loses_none = record { least = served.loses_none.least; had = served.loses_none.had; has = put_no_fewer };
      named = known_some known rest (λ input left. IsServiceSoFar found given (Due due) content input left part served.live count old was)
          (λ input. (put ≡ found) ⊎ IsLeftByService found given input put)
          (λ input left so_far.
          inr (record {
            first = so_far.first;
            count = so_far.count;
            is_first = so_far.is_first;
            left = taken_left given so_far.first so_far.count found batch.Open put input left part (put_holds input left so_far);
          })) served.serves;
    }

    -- then lines are served
    pub put_starts : WhereKnown known rest (λ input left. StartsHere found given put input left part)
    put_starts =
        known_on known rest (λ input left. IsServiceSoFar found given (Due due) content input left part served.live count old was) (λ input left. StartsHere found given put input left part)
        (λ input left so_far. record { first = so_far.first; count = so_far.count; is_first = so_far.is_first; holds = put_holds input left so_far }) served.serves

-- ---- a period

module _ {D : Type 0} (moment : D → ℕ) (left_since : D → ℕ → List ℕ → Type 0) (mid new : D) (found put : Option JournalContent) (file : List ℕ) (part : List ℕ) (any : CoreView) where
  -- what a crash leaves then
  pub period_leaves : (known rest : Option (List ℕ)) (least : ℕ) → HasLines found least ⊎ ((found ≡ None) × (least ≡ 0)) → HasNoFewer least put → WhereKnown known rest (λ input left. StartsHere found file put input left part)
      → ((origin : ServiceOrigin) → IsJournalOf origin batch.Open put rest part → LeavesOnly moment left_since mid new (λ c. IsLeftFrom origin (journal_content c)))
      → LeavesOnly moment left_since mid new (λ c. IsLeftUnder found file known (journal_content c))
  period_leaves None rest least had no_fewer starts leaves =
      let origin = origin_of found file any 0 least None in
      weaker moment left_since mid new (λ c. IsLeftFrom origin (journal_content c)) (λ c. IsLeftUnder found file None (journal_content c)) (leaves origin (record { no_fewer = no_fewer; holds = tt }))
      (λ c left. record { loses_none = record { least = least; had = had; has = left.no_fewer }; named = tt })
  period_leaves (Some input) None least had no_fewer starts leaves = absurd starts
  period_leaves (Some input) (Some rest) least had no_fewer starts leaves =
      let origin = origin_of found file starts.first starts.count least (Some input) in
      weaker moment left_since mid new (λ c. IsLeftFrom origin (journal_content c)) (λ c. IsLeftUnder found file (Some input) (journal_content c)) (leaves origin (record { no_fewer = no_fewer; holds = starts.holds }))
      (λ c left. record {
        loses_none = record { least = least; had = had; has = left.no_fewer };
        named = inr (record { first = starts.first; count = starts.count; is_first = starts.is_first; left = left.named });
      })
