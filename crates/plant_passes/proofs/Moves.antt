-- Each kind of step keeps the rule, and tells what it is to tell.
use Rattle.std.proofs.Common.{◌≡◌, ◌≢◌, ℕ, ◌+◌, ◌-◌, ◌<◌, ◌≤◌, eqb, Bool, true, false, cond, ◌||◌, ◌⊎◌, List, [], ◌∷◌, ◌++◌, length, set, get_or, Some, None, Option, sym, refl, ap, ◌∙◌, subst, inl, inr, ⊎_elim, arith, length-append, ne_eqb, eq-eqb}
use Rattle.plant_passes.proofs.Common.{some, none, some-injective, some-ne-none, get_elem?, State, Act, Valid, step, keeps, takes, gives, stepped, carried_after, opening, Allows, Splits, Joins, at_set, set_else, set_again, at_longer, at_last, Entry, Origin, origin_of, IsOwnRun, MarkedEntry, Knowledge, BookParts, mark_entry, mark_entries, entries, places, StartsWith, StartsWithAll, closing_mark, SeatNow, Knows, opener, after_giving, new_pass, copy_of, joint, no_pass, CellOpening, opening_of, Progress, IsOpen, CountsTurns, HasTicket, HasTurn, IsTrueOf, IsTicketOut, AreTicketsOut, AreTicketsApart, IsHistorySeen, IsBookAtHome, IsBookOut, IsCellTable, SeesHistory, with_ticket, DrawsTicket, LooksAtServing, with_entry, EndsTurn, after_closing, ClosesCell}
use mathlib.Core.Option as maths
use mathlib.Core.Logic.{dite}
use native.Mathlib.Decide.{ℕ_discrete}
use prog.Atomic.{either}
use Rattle.plant_passes.proofs.Logs.{begins_self, begins_more, begins_all_more, longer_begins, longer_whole_left, longer_whole_right, places_other, places_own, places_past, entries_push, entries_marks, length_marks, passes_set, passes_append, set_at, at_one, at_end, passes_two}

-- what a change of one view keeps

pub seats_stay : {X : Type 0} (K : ℕ → Knowledge X → Type 0) (vs : List (Knowledge X)) (me : ℕ) (w : Knowledge X) → K me w → ((j : ℕ) (d : Knowledge X) → j ≢ me → get_elem? vs j ≡ some d → K j d) → (j : ℕ) (d : Knowledge X) → get_elem? (set vs me w) j ≡ some d → K j d
seats_stay {X} K vs me w mine others j d e = ⊎_elim (λ (t : (j ≡ me) × (w ≡ d)). subst (λ (x : ℕ × Knowledge X). K x.0 x.1) (λ i. (sym t.0 i, t.1 i)) mine)
    (λ (t : (j ≢ me) × (get_elem? vs j ≡ some d)). others j d t.0 t.1) (at_set vs me j w d e)

-- the ticket of w is that of v, or one that nobody has
abbrev IsTicket : {X : Type 0} → List (Knowledge X) → Knowledge X → Knowledge X → Type 0
IsTicket {X} vs v w = (t : ℕ) → w.ticket ≡ Some t
    → (v.ticket ≡ Some t) ⊎ ((k : ℕ) (d : Knowledge X) → Knows vs k d → d.ticket ≢ Some t)

-- a seat other than `me` has no ticket of w
other_ticket : {X : Type 0} (vs : List (Knowledge X)) (me : ℕ) (v w : Knowledge X) → AreTicketsApart vs → Knows vs me v → IsTicket vs v w
    → (k : ℕ) (d : Knowledge X) (t : ℕ) → me ≢ k → Knows vs k d → w.ticket ≡ Some t → d.ticket ≢ Some t
other_ticket {X} vs me v w apart at is k d t ne there e = ⊎_elim (λ (h : v.ticket ≡ Some t). apart me k v d t ne at there h)
    (λ (h : (k : ℕ) (d : Knowledge X) → Knows vs k d → d.ticket ≢ Some t). h k d there) (is t e)

pub apart_stay : {X : Type 0} (vs : List (Knowledge X)) (me : ℕ) (v w : Knowledge X) → AreTicketsApart vs → Knows vs me v → IsTicket vs v w
    → AreTicketsApart (set vs me w)
apart_stay {X} vs me v w apart at is j k x y t ne ej ek tj tk = ⊎_elim
    (λ (a : (j ≡ me) × (w ≡ x)). ⊎_elim
    (λ (b : (k ≡ me) × (w ≡ y)). ne (a.0 ∙ sym b.0))
    (λ (b : (k ≢ me) × (get_elem? vs k ≡ some y)).
    other_ticket vs me v w apart at is k y t (λ e. b.0 (sym e)) b.1 (ap (λ (u : Knowledge X). u.ticket) a.1 ∙ tj) tk)
    (at_set vs me k w y ek))
    (λ (a : (j ≢ me) × (get_elem? vs j ≡ some x)). ⊎_elim
    (λ (b : (k ≡ me) × (w ≡ y)).
    other_ticket vs me v w apart at is j x t (λ e. a.0 (sym e)) a.1 (ap (λ (u : Knowledge X). u.ticket) b.1 ∙ tk) tj)
    (λ (b : (k ≢ me) × (get_elem? vs k ≡ some y)). apart j k x y t ne a.1 b.1 tj tk)
    (at_set vs me k w y ek))
    (at_set vs me j w x ej)

pub seen_stays : {X : Type 0} (history : List MarkedEntry) (vs : List (Knowledge X)) (me : ℕ) (v w : Knowledge X)
    → IsHistorySeen history vs → Knows vs me v
    → (0 < v.passes → v.seen ≡ history → (0 < w.passes) × (w.seen ≡ history)) → IsHistorySeen history (set vs me w)
seen_stays {X} history vs me v w x at still = dite (ℕ_discrete x.seat me)
    (λ e. let here : Knows vs me x.known = subst (λ (k : ℕ). Knows vs k x.known) e x.knows in
    let same : x.known ≡ v = at_one vs me x.known v here at in
    let p = still (subst (λ (u : Knowledge X). 0 < u.passes) same x.passes) (ap (λ (u : Knowledge X). u.seen) (sym same) ∙ x.whole) in
    record { seat = me; known = w; knows = set_at vs me v w at; passes = p.0; whole = p.1 })
    (λ ne. record { seat = x.seat; known = x.known; knows = set_else vs me x.seat w ne ∙ x.knows; passes = x.passes; whole = x.whole })

pub out_stays : {X : Type 0} (vs : List (Knowledge X)) (me : ℕ) (v w : Knowledge X) → IsBookOut vs → Knows vs me v
    → (v.holds_book ≡ true → w.holds_book ≡ true) → IsBookOut (set vs me w)
out_stays {X} vs me v w x at still = dite (ℕ_discrete x.seat me)
    (λ e. let here : Knows vs me x.known = subst (λ (k : ℕ). Knows vs k x.known) e x.knows in
    let same : x.known ≡ v = at_one vs me x.known v here at in
    record { seat = me; known = w; knows = set_at vs me v w at; holds = still (ap (λ (u : Knowledge X). u.holds_book) (sym same) ∙ x.holds) })
    (λ ne. record { seat = x.seat; known = x.known; knows = set_else vs me x.seat w ne ∙ x.knows; holds = x.holds })

-- a ticket that is out stays out, where the one seat that changes keeps it
pub ticket_stays : {X : Type 0} (vs : List (Knowledge X)) (me : ℕ) (v w : Knowledge X) (t : ℕ) → IsTicketOut t vs → Knows vs me v
    → (v.ticket ≡ Some t → w.ticket ≡ Some t) → IsTicketOut t (set vs me w)
ticket_stays {X} vs me v w t x at still = dite (ℕ_discrete x.seat me)
    (λ e. let here : Knows vs me x.known = subst (λ (k : ℕ). Knows vs k x.known) e x.knows in
    let same : x.known ≡ v = at_one vs me x.known v here at in
    record { seat = me; known = w; knows = set_at vs me v w at; ticket_is = still (ap (λ (u : Knowledge X). u.ticket) (sym same) ∙ x.ticket_is) })
    (λ ne. record { seat = x.seat; known = x.known; knows = set_else vs me x.seat w ne ∙ x.knows; ticket_is = x.ticket_is })

-- each of these stays where a seat is added
pub ticket_longer : {X : Type 0} (vs : List (Knowledge X)) (w : Knowledge X) (t : ℕ) → IsTicketOut t vs → IsTicketOut t (vs ++ w ∷ [])
ticket_longer vs w t x = record { seat = x.seat; known = x.known; knows = at_longer vs (w ∷ []) x.seat x.known x.knows; ticket_is = x.ticket_is }

pub seen_longer : {X : Type 0} (history : List MarkedEntry) (vs : List (Knowledge X)) (w : Knowledge X) → IsHistorySeen history vs → IsHistorySeen history (vs ++ w ∷ [])
seen_longer history vs w x =
    record { seat = x.seat; known = x.known; knows = at_longer vs (w ∷ []) x.seat x.known x.knows; passes = x.passes; whole = x.whole }

pub out_longer : {X : Type 0} (vs : List (Knowledge X)) (w : Knowledge X) → IsBookOut vs → IsBookOut (vs ++ w ∷ [])
out_longer vs w x = record { seat = x.seat; known = x.known; knows = at_longer vs (w ∷ []) x.seat x.known x.knows; holds = x.holds }

has_ticket : (o : Option ℕ) (n : ℕ) → Dec (o ≡ Some n)
has_ticket None n = no (λ e. cc)
has_ticket (Some t) n = dite (ℕ_discrete t n) (λ e. yes (ap Some e)) (λ ne. no (λ e. ne (let h : t ≡ n = cc in h)))

-- the one slot is out, or at home with some value
slot_cases : {S : Type 0} (hs : List (maths.Option S)) → length hs ≡ 1 → (get_elem? hs 0 ≡ some none) ⊎ ((y : S) × (get_elem? hs 0 ≡ some (some y)))
slot_cases [] e = absurd (omega arith)
slot_cases (none ∷ hs) e = inl refl
slot_cases (some y ∷ hs) e = inr (y, refl)

-- once a slot is set, its value is the new one
slot_is : {S : Type 0} (hs : List (maths.Option S)) (a b : maths.Option S) → length hs ≡ 1 → get_elem? (set hs 0 a) 0 ≡ some b → a ≡ b
slot_is [] a b e h = absurd (omega arith)
slot_is (x ∷ hs) a b e h = some-injective a b h

module _ (X : Type 0) (cell : CellOpening X) where
  abbrev S : Type 0
  S = Option (BookParts X)

  abbrev M : Type 0
  M = SeatNow X

  abbrev St : Type 0
  St = State S (Knowledge X)

  abbrev Rule : St → Type 0
  Rule = IsCellTable cell

  abbrev Known : Progress → ℕ → Knowledge X → Type 0
  Known = IsTrueOf cell

  serving_is : (s : St) (r : Rule s) → get_or s.words 0 0 ≡ r.now.serving
  serving_is s r = ap (λ (ws : List ℕ). get_or ws 0 0) r.words

  tickets_are : (s : St) (r : Rule s) → get_or s.words 1 0 ≡ r.now.next_ticket
  tickets_are s r = ap (λ (ws : List ℕ). get_or ws 1 0) r.words

  -- a step of the seat `id`, which knew v and knows w, after which the cell has come so far
  moved : (s : St) (r : Rule s) (id : ℕ) (v w : Knowledge X) (hs : List (maths.Option S)) (now : Progress)
      → Knows s.views id v → now.next_ticket < closing_mark → (IsOpen now → CountsTurns now)
      → Known now id w
      → ((j : ℕ) (d : Knowledge X) → j ≢ id → Knows s.views j d → Known now j d)
      → AreTicketsOut now (set s.views id w)
      → IsTicket s.views v w → w.passes ≡ v.passes → IsHistorySeen now.history (set s.views id w)
      → ((x : ℕ) → 0 < x → x ≤ now.not_given → places x now.history ≡ [])
      → ((y : S) → get_elem? hs 0 ≡ some (some y) → IsBookAtHome cell now.history y)
      → (get_elem? hs 0 ≡ some none → IsBookOut (set s.views id w))
      → IsOwnRun cell.origin (entries now.history)
      → Rule record { words = now.serving ∷ now.next_ticket ∷ []; homes = hs; views = set s.views id w }
  moved s r id v w hs now at few turns mine others out_there ticket part whole unmade home out run =
      let sum = passes_set s.views id v w at in
      let before = r.total in record {
        now = now;
        words = refl;
        few = few;
        turns = turns;
        each_seat = seats_stay (Known now) s.views id w mine others;
        each_ticket = out_there;
        apart = apart_stay s.views id v w r.apart at ticket;
        total = omega arith;
        whole = whole;
        unmade = unmade;
        home = home;
        out = out;
        run = run;
      }

  -- a look, which changes no word, and after which the history is the same
  unmoved : (s : St) (r : Rule s) (id : ℕ) (v w : Knowledge X) (hs : List (maths.Option S))
      → Knows s.views id v
      → Known r.now id w
      → AreTicketsOut r.now (set s.views id w)
      → IsTicket s.views v w → w.passes ≡ v.passes → (v.seen ≡ r.now.history → w.seen ≡ r.now.history)
      → ((y : S) → get_elem? hs 0 ≡ some (some y) → IsBookAtHome cell r.now.history y)
      → (get_elem? hs 0 ≡ some none → IsBookOut (set s.views id w))
      → Rule record { words = set s.words 0 r.now.serving; homes = hs; views = set s.views id w }
  unmoved s r id v w hs at mine out_there ticket part seen home out =
      subst (λ (ws : List ℕ). Rule record { words = set ws 0 r.now.serving; homes = hs; views = set s.views id w }) (sym r.words)
      (moved s r id v w hs r.now at r.few r.turns mine (λ j d _. r.each_seat j d) out_there ticket part
      (seen_stays r.now.history s.views id v w r.whole at (λ p e. (omega arith, seen e))) r.unmade home out r.run)

  -- where it is the seat's turn, the book is at home
  at_home : (s : St) (r : Rule s) (id : ℕ) (v : Knowledge X) → Knows s.views id v → length s.homes ≡ 1 → v.holds_book ≡ false
      → v.ticket ≡ Some r.now.serving → (y : S) × (get_elem? s.homes 0 ≡ some (some y))
  at_home s r id v at one idle mine = ⊎_elim
      (λ (e : get_elem? s.homes 0 ≡ some none). let x = r.out e in
      let theirs = (r.each_seat x.seat x.known x.knows).turn x.holds in
      dite (ℕ_discrete x.seat id)
      (λ same. let is : x.known ≡ v = at_one s.views id x.known v (subst (λ (k : ℕ). Knows s.views k x.known) same x.knows) at in
      let h : true ≡ false = sym x.holds ∙ (ap (λ (u : Knowledge X). u.holds_book) is ∙ idle) in absurd (cc h))
      (λ ne. absurd (r.apart x.seat id x.known v r.now.serving ne x.knows at theirs.ticket mine)))
      (λ h. h)
      (slot_cases s.homes one)

  -- w has the number, the passes, the opening and the entries of v
  record IsAlike (v w : Knowledge X) : Type 0 where
    number : w.number ≡ v.number
    passes : w.passes ≡ v.passes
    opens : w.opens ≡ v.opens
    origin : w.origin ≡ v.origin
    ranking : w.ranking ≡ v.ranking
    made : w.made ≡ v.made

  ticket_again : (now : Progress) (v w : Knowledge X) (t : ℕ) → IsAlike v w → HasTicket now v t → HasTicket now w t
  ticket_again now v w t alike h = record {
    drawn = h.drawn;
    unused = h.unused;
    number = subst (λ (n : ℕ). 0 < n) (sym alike.number) h.number;
    passes = subst (λ (n : ℕ). 0 < n) (sym alike.passes) h.passes;
  }

  -- what a seat knows is true, where it was of what it knew before, and is of what changed
  known_again : (now : Progress) (seat : ℕ) (v w : Knowledge X) → IsAlike v w → Known now seat v
      → StartsWith now.history w.seen → StartsWithAll now.history w.reported
      → ((t : ℕ) → w.ticket ≡ Some t → HasTicket now w t)
      → (w.holds_book ≡ true → HasTurn now w)
      → (w.closed ≡ true → now.serving ≡ closing_mark)
      → Known now seat w
  known_again now seat v w alike k seen reported ticket turn closed = record {
    seen = seen;
    reported = reported;
    pass = λ here. let p = k.pass (subst (λ (n : ℕ). 0 < n) alike.number here) in record {
      given = subst (λ (n : ℕ). now.not_given < n) (sym alike.number) p.given;
      seat_is = ap now.seat_of alike.number ∙ p.seat_is;
      made = alike.made ∙ (p.made ∙ ap (λ (n : ℕ). places n now.history) (sym alike.number));
      origin = alike.origin ∙ p.origin;
      ranking = alike.ranking ∙ p.ranking;
    };
    opener = λ is. let o = k.opener (sym alike.opens ∙ is) in record {
      seat_is = o.seat_is;
      passes = alike.passes ∙ o.passes;
      number = alike.number ∙ o.number;
      origin = alike.origin ∙ o.origin;
      ranking = alike.ranking ∙ o.ranking;
    };
    ticket = ticket;
    turn = turn;
    closed = closed;
  }

  -- a seat that has seen the history of the table, and of which the rest stayed
  sees : (s : St) (r : Rule s) (id : ℕ) (v w : Knowledge X) → Knows s.views id v → IsAlike v w
      → w.seen ≡ r.now.history → w.reported ≡ v.reported → w.ended_cell ≡ v.ended_cell → SeesHistory v w
  sees s r id v w at alike seen reported ended =
      let k = r.each_seat id v at in record {
        number = alike.number;
        passes = alike.passes;
        opens = alike.opens;
        ended_cell = ended;
        origin = alike.origin;
        ranking = alike.ranking;
        made = alike.made;
        seen = subst (λ l. StartsWith l v.seen) (sym seen) k.seen;
        same_reports = reported;
        reported = subst (λ l. StartsWithAll l v.reported) (sym seen) k.reported;
        own = λ here. alike.made ∙ ((k.pass here).made ∙ (λ i. places (sym alike.number i) (sym seen i)));
        run = λ here. let e = alike.origin ∙ (k.pass here).origin in
            subst (λ (p : Origin × List MarkedEntry). IsOwnRun p.0 (entries p.1)) (λ i. (sym e i, sym seen i)) r.run;
      }

  -- what a look that finds n leaves
  abbrev AfterLook : St → ℕ → ℕ → M → Type 0
  AfterLook s n id me = (w : Knowledge X) × (a : Act S) × Valid s.homes me.1 a × Rule (stepped s 0 n id me.1 w a)
      × LooksAtServing (step 1 0 0 0 none) me n (w, carried_after me.1 a)

  look_shut : (s : St) (r : Rule s) (id : ℕ) (me : M) → Knows s.views id me.0 → me.0.holds_book ≡ false
      → r.now.serving ≡ closing_mark → AfterLook s r.now.serving id me
  look_shut s r id me at idle e =
      let v : Knowledge X = me.0 in
      let k = r.each_seat id v at in
      let w : Knowledge X = record v { seen = r.now.history; ticket = None; holds_book = false; closed = true } in
      let alike : IsAlike v w = record { number = refl; passes = refl; opens = refl; origin = refl; ranking = refl; made = refl } in (
        w,
        keeps,
        tt,
        unmoved s r id v w s.homes at
            (known_again r.now id v w alike k (begins_self r.now.history) k.reported (λ t h. absurd (cc h)) (λ h. absurd (cc h)) (λ _. e))
            (λ going. absurd (going e)) (λ t h. absurd (cc h)) refl (λ _. refl) r.home
            (λ h. out_stays s.views id v w (r.out h) at (λ t. let c : true ≡ false = sym t ∙ idle in absurd (cc c))),
        (
          sees s r id v w at alike refl refl refl,
          record {
            shut = λ _. e;
            closed = λ _. record { ticket = refl; holds_book = refl; closed = refl; hand_is = refl };
            mine = λ ne _. absurd (ne e);
            other = λ ne _. absurd (ne e);
          },
        ),
      )

  look_other : (s : St) (r : Rule s) (id : ℕ) (me : M) → Knows s.views id me.0 → me.0.holds_book ≡ false
      → IsOpen r.now → me.0.ticket ≢ Some r.now.serving → AfterLook s r.now.serving id me
  look_other s r id me at idle going no_turn =
      let v : Knowledge X = me.0 in
      let k = r.each_seat id v at in
      let w : Knowledge X = record v { seen = r.now.history; holds_book = false; closed = false } in
      let alike : IsAlike v w = record { number = refl; passes = refl; opens = refl; origin = refl; ranking = refl; made = refl } in (
        w,
        keeps,
        tt,
        unmoved s r id v w s.homes at
            (known_again r.now id v w alike k (begins_self r.now.history) k.reported (λ t h. ticket_again r.now v w t alike (k.ticket t h))
            (λ h. absurd (cc h)) (λ h. absurd (cc h)))
            (λ _ t low high. ticket_stays s.views id v w t (r.each_ticket going t low high) at (λ h. h)) (λ t h. inl h) refl (λ _. refl) r.home
            (λ h. out_stays s.views id v w (r.out h) at (λ t. let c : true ≡ false = sym t ∙ idle in absurd (cc c))),
        (
          sees s r id v w at alike refl refl refl,
          record {
            shut = k.closed;
            closed = λ e. absurd (going e);
            mine = λ _ t. absurd (no_turn t);
            other = λ _ _. record { ticket = refl; holds_book = refl; closed = refl; hand_is = refl };
          },
        ),
      )

  look_mine : (s : St) (r : Rule s) (id : ℕ) (me : M) → Knows s.views id me.0 → length s.homes ≡ 1 → me.0.holds_book ≡ false
      → IsOpen r.now → me.0.ticket ≡ Some r.now.serving → AfterLook s r.now.serving id me
  look_mine s r id me at one idle going turn =
      let v : Knowledge X = me.0 in
      let k = r.each_seat id v at in
      let w : Knowledge X = record v { seen = r.now.history; holds_book = true; closed = false } in
      let alike : IsAlike v w = record { number = refl; passes = refl; opens = refl; origin = refl; ranking = refl; made = refl } in
      let pass = k.pass (k.ticket r.now.serving turn).number in
      let y = at_home s r id v at one idle turn in
      let b = r.home y.0 y.1 in (
        w,
        takes 0 y.0,
        y.1,
        unmoved s r id v w (set s.homes 0 none) at
            (known_again r.now id v w alike k (begins_self r.now.history) k.reported (λ t h. ticket_again r.now v w t alike (k.ticket t h))
            (λ _. record { going = going; ticket = turn; seen = refl }) (λ h. absurd (cc h)))
            (λ _ t low high. ticket_stays s.views id v w t (r.each_ticket going t low high) at (λ h. h)) (λ t h. inl h) refl (λ _. refl)
            (λ z h. let c = slot_is s.homes none (some z) one h in absurd (some-ne-none z (sym c)))
            (λ _. record { seat = id; known = w; knows = set_at s.views id v w at; holds = refl }),
        (
          sees s r id v w at alike refl refl refl,
          record {
            shut = k.closed;
            closed = λ e. absurd (going e);
            mine = λ _ _. record {
              ticket_is = turn;
              holds_book = refl;
              closed = refl;
              place = (r.turns going).counts;
              book = record {
                book = b.book;
                hand_is = ap (λ z. (0, z) ∷ me.1) b.slot_is;
                history_is = b.history_is;
                origin = b.origin ∙ sym pass.origin;
                ranking = pass.ranking ∙ ap Some (sym b.ranking);
              };
            };
            other = λ _ ne. absurd (ne turn);
          },
        ),
      )

  pub looks : (slots id : ℕ) (me : M) → slots ≡ 1 → me.0.holds_book ≡ false
      → Allows Rule slots id me 0 (λ x. x) (LooksAtServing (step slots 0 0 0 none) me)
  looks slots id me one idle s r homes at small = subst (λ (n : ℕ). AfterLook s n id me) (sym (serving_is s r))
      (dite (ℕ_discrete r.now.serving closing_mark)
      (λ e. look_shut s r id me at idle e)
      (λ going. elim (has_ticket me.0.ticket r.now.serving) [
        | yes t ↦ look_mine s r id me at (homes ∙ one) idle going t
        | no ne ↦ look_other s r id me at idle going ne
      ]))

  -- what a seat knows, where one more ticket was drawn
  more_tickets : (now : Progress) (n j : ℕ) (d : Knowledge X) → now.next_ticket ≤ n → Known now j d → Known (record now { next_ticket = n }) j d
  more_tickets now n j d le k = record {
    seen = k.seen;
    reported = k.reported;
    pass = λ p. let x = k.pass p in record { given = x.given; seat_is = x.seat_is; made = x.made; origin = x.origin; ranking = x.ranking };
    opener = λ h. let x = k.opener h in record { seat_is = x.seat_is; passes = x.passes; number = x.number; origin = x.origin; ranking = x.ranking };
    ticket = λ t e. let x = k.ticket t e in record {
      drawn = (let low = x.drawn in omega arith);
      unused = x.unused;
      number = x.number;
      passes = x.passes;
    };
    turn = λ h. let x = k.turn h in record { going = x.going; ticket = x.ticket; seen = x.seen };
    closed = k.closed;
  }

  draw_hit : (s : St) (r : Rule s) (id : ℕ) (me : M) (new : ℕ) → Knows s.views id me.0 → new ≡ r.now.next_ticket + 1 → new < closing_mark
      → me.0.holds_book ≡ false → me.0.ticket ≡ None → 0 < me.0.number → 0 < me.0.passes
      → Rule (stepped s 1 new id me.1 (with_ticket me.0 r.now.next_ticket) keeps)
  draw_hit s r id me new at up few idle free numbered part =
      let v : Knowledge X = me.0 in
      let w : Knowledge X = with_ticket v r.now.next_ticket in
      let k = r.each_seat id v at in
      let now : Progress = record r.now { next_ticket = new } in
      let more = more_tickets r.now new id v (omega arith) k in
      let alike : IsAlike v w = record { number = refl; passes = refl; opens = refl; origin = refl; ranking = refl; made = refl } in
      subst (λ (ws : List ℕ). Rule record { words = set ws 1 new; homes = s.homes; views = set s.views id w }) (sym r.words)
      (moved s r id v w s.homes now at few
      (λ going. let x = r.turns going in record { counts = x.counts; drawn = (let low = x.drawn in omega arith) })
      (known_again now id v w alike more k.seen k.reported
      (λ t e. let is : r.now.next_ticket ≡ t = cc e in record {
        drawn = omega arith;
        unused = λ going. let low = (r.turns going).drawn in omega arith;
        number = numbered;
        passes = part;
      })
      (λ h. let c : true ≡ false = sym h ∙ idle in absurd (cc c))
      k.closed)
      (λ j d _ there. more_tickets r.now new j d (omega arith) (r.each_seat j d there))
      (λ going t low high. dite (ℕ_discrete t r.now.next_ticket)
      (λ e. record { seat = id; known = w; knows = set_at s.views id v w at; ticket_is = ap Some (sym e) })
      (λ ne. ticket_stays s.views id v w t (r.each_ticket going t low (omega arith)) at (λ h. let c = sym free ∙ h in absurd (cc c))))
      (λ t e. let is : r.now.next_ticket ≡ t = cc e in inr (λ j d there h. let x = ((r.each_seat j d there).ticket t h).drawn in omega arith))
      refl (seen_stays r.now.history s.views id v w r.whole at (λ p e. (p, e))) r.unmade r.home
      (λ h. out_stays s.views id v w (r.out h) at (λ h. h)) r.run)

  draw_miss : (s : St) (r : Rule s) (id : ℕ) (me : M) → Knows s.views id me.0 → Rule (stepped s 1 r.now.next_ticket id me.1 me.0 keeps)
  draw_miss s r id me at =
      let same : s.words ≡ set s.words 1 r.now.next_ticket = r.words ∙ ap (λ (ws : List ℕ). set ws 1 r.now.next_ticket) (sym r.words) in
      subst (λ (p : List ℕ × List (Knowledge X)). Rule record { words = p.0; homes = s.homes; views = p.1 })
      (λ i. (same i, sym (set_again s.views id me.0 at) i)) r

  -- what a draw that finds n leaves
  abbrev AfterDraw : St → ℕ → ℕ → M → ℕ → ℕ → Type 0
  AfterDraw s n id me old new = (w : Knowledge X) × (a : Act S) × Valid s.homes me.1 a
      × Rule (stepped s 1 (either (eqb n old) new n) id me.1 w a) × DrawsTicket (step 1 1 old new none) me n (w, carried_after me.1 a)

  pub draws : (slots id : ℕ) (me : M) (old new : ℕ) → new ≡ old + 1 → new < closing_mark
      → me.0.holds_book ≡ false → me.0.ticket ≡ None → 0 < me.0.number → 0 < me.0.passes
      → Allows Rule slots id me 1 (λ x. either (eqb x old) new x) (DrawsTicket (step slots 1 old new none) me)
  draws slots id me old new up few idle free numbered part s r homes at small = subst (λ (n : ℕ). AfterDraw s n id me old new) (sym (tickets_are s r))
      (dite (ℕ_discrete r.now.next_ticket old)
      (λ hit. (
        with_ticket me.0 r.now.next_ticket,
        keeps,
        tt,
        subst (λ b. Rule (stepped s 1 (either b new r.now.next_ticket) id me.1 (with_ticket me.0 r.now.next_ticket) keeps)) (sym (eq-eqb r.now.next_ticket old hit))
            (draw_hit s r id me new at (omega arith) few idle free numbered part),
        ((λ _. ap (λ t. (with_ticket me.0 t, me.1)) hit), λ miss. absurd (miss hit)),
      ))
      (λ miss. (
        me.0,
        keeps,
        tt,
        subst (λ b. Rule (stepped s 1 (either b new r.now.next_ticket) id me.1 me.0 keeps)) (sym (ne_eqb r.now.next_ticket old miss)) (draw_miss s r id me at),
        ((λ hit. absurd (miss hit)), λ _. refl),
      )))

  -- how far a cell has come, once the seat whose turn it is has added an entry of its own
  abbrev grown_by : Progress → Knowledge X → Entry → ℕ → Progress
  grown_by now v e n = record now { history = now.history ++ mark_entry v.number e ∷ []; serving = n }

  -- what the other seats know then
  others_grow : (s : St) (r : Rule s) (id : ℕ) (v : Knowledge X) (e : Entry) (n : ℕ) → n ≡ r.now.serving + 1 → Knows s.views id v
      → v.holds_book ≡ true → 0 < v.number → (j : ℕ) (d : Knowledge X) → j ≢ id → Knows s.views j d
      → Known (grown_by r.now v e n) j d
  others_grow s r id v e n up at holds here j d ne there =
      let k = r.each_seat id v at in
      let mine = k.turn holds in
      let o = r.each_seat j d there in
      let not_mine : d.ticket ≢ Some r.now.serving = λ h. r.apart j id d v r.now.serving ne there at h mine.ticket in record {
        seen = begins_more r.now.history (mark_entry v.number e ∷ []) d.seen o.seen;
        reported = begins_all_more r.now.history (mark_entry v.number e ∷ []) d.reported o.reported;
        pass = λ p. let x = o.pass p in
            let other : v.number ≢ d.number = λ same. ne (sym x.seat_is ∙ (ap r.now.seat_of (sym same) ∙ (k.pass here).seat_is)) in record {
              given = x.given;
              seat_is = x.seat_is;
              made = x.made ∙ sym (places_other d.number r.now.history (mark_entry v.number e) other);
              origin = x.origin;
              ranking = x.ranking;
            };
        opener = λ h. let x = o.opener h in record { seat_is = x.seat_is; passes = x.passes; number = x.number; origin = x.origin; ranking = x.ranking };
        ticket = λ t h. let x = o.ticket t h in
            let far : t ≢ r.now.serving = λ same. not_mine (h ∙ ap Some same) in
            let above = x.unused mine.going in record {
              drawn = x.drawn;
              unused = λ _. omega arith;
              number = x.number;
              passes = x.passes;
            };
        turn = λ h. absurd (not_mine (o.turn h).ticket);
        closed = λ h. absurd (mine.going (o.closed h));
      }

  pub advance_keeps : (s : St) (r : Rule s) (id : ℕ) (v : Knowledge X) (c : List (ℕ × S)) (b : BookParts X) (e : Entry) (n : ℕ)
      → v.ranking ≡ Some b.ranking → Knows s.views id v → length s.homes ≡ 1
      → v.holds_book ≡ true → 0 < v.number → n ≡ r.now.serving + 1
      → b.kept.book.history ≡ entries v.seen ++ e ∷ [] → origin_of b.kept.book ≡ v.origin
      → IsOwnRun (origin_of b.kept.book) b.kept.book.history
      → Rule (stepped s 0 n id ((0, Some b) ∷ c) (with_entry v e) gives)
  advance_keeps s r id v c b e n has at one holds here up history book run =
      let k = r.each_seat id v at in
      let pass = k.pass here in
      let same_ranking : b.ranking ≡ cell.ranking = let z = sym has ∙ pass.ranking in cc z in
      let mine = k.turn holds in
      let place = (r.turns mine.going).counts in
      let ticket = k.ticket r.now.serving mine.ticket in
      let below = ticket.drawn in
      let now : Progress = grown_by r.now v e n in
      let w : Knowledge X = with_entry v e in
      let seen : w.seen ≡ now.history = ap (λ l. l ++ mark_entry v.number e ∷ []) mine.seen in
      let count : length now.history ≡ length r.now.history + 1 = length-append r.now.history (mark_entry v.number e ∷ []) in
      let line : b.kept.book.history ≡ entries now.history =
      history ∙ (ap (λ l. entries l ++ e ∷ []) mine.seen ∙ sym (entries_push r.now.history v.number e)) in
      subst (λ (ws : List ℕ). Rule record { words = set ws 0 n; homes = set s.homes 0 (some (Some b)); views = set s.views id w }) (sym r.words)
      (moved s r id v w (set s.homes 0 (some (Some b))) now at r.few (λ _. record { counts = omega arith; drawn = omega arith })
      record {
        seen = subst (StartsWith now.history) (sym seen) (begins_self now.history);
        reported = begins_all_more r.now.history (mark_entry v.number e ∷ []) v.reported k.reported;
        pass = λ p. record {
          given = pass.given;
          seat_is = pass.seat_is;
          made = (λ i. pass.made i ++ length (mine.seen i) ∷ []) ∙ sym (places_own v.number r.now.history e);
          origin = pass.origin;
          ranking = pass.ranking;
        };
        opener = λ h. let x = k.opener h in record { seat_is = x.seat_is; passes = x.passes; number = x.number; origin = x.origin; ranking = x.ranking };
        ticket = λ t h. absurd (cc h);
        turn = λ h. absurd (cc h);
        closed = λ h. absurd (mine.going (k.closed h));
      }
      (others_grow s r id v e n up at holds here)
      (λ _ t low high. ticket_stays s.views id v w t (r.each_ticket mine.going t (omega arith) high) at
      (λ h. let z = sym mine.ticket ∙ h in let is : r.now.serving ≡ t = cc z in absurd (omega arith)))
      (λ t h. absurd (cc h)) refl record { seat = id; known = w; knows = set_at s.views id v w at; passes = ticket.passes; whole = seen }
      (λ x p q. places_other x r.now.history (mark_entry v.number e) (λ same. let far = pass.given in omega arith) ∙ r.unmade x p q)
      (λ y h. let is = some-injective (Some b) y (slot_is s.homes (some (Some b)) (some y) one h) in
      record { book = b; slot_is = sym is; history_is = line; origin = book ∙ pass.origin; ranking = same_ranking })
      (λ h. absurd (some-ne-none (Some b) (some-injective (some (Some b)) none (ap some (slot_is s.homes (some (Some b)) none one h)))))
      (subst (λ (p : Origin × List Entry). IsOwnRun p.0 p.1) (λ i. ((book ∙ pass.origin) i, line i)) run))

  pub advances : (slots id : ℕ) (me : M) (t n : ℕ) (c : List (ℕ × S)) (b : BookParts X) (e : Entry) → me.0.ranking ≡ Some b.ranking → slots ≡ 1
      → me.0.holds_book ≡ true → me.0.ticket ≡ Some t → 0 < me.0.number → n ≡ t + 1
      → me.1 ≡ (0, Some b) ∷ c → b.kept.book.history ≡ entries me.0.seen ++ e ∷ [] → origin_of b.kept.book ≡ me.0.origin
      → IsOwnRun (origin_of b.kept.book) b.kept.book.history
      → Allows Rule slots id me 0 (λ _. n) (λ _. EndsTurn (step slots 0 n 0 none) me n)
  advances slots id me t n c b e has one holds turn here up in_hand history book run =
      subst (λ (x : List (ℕ × S)). Allows Rule slots id (me.0, x) 0 (λ _. n) (λ _. EndsTurn (step slots 0 n 0 none) (me.0, x) n)) (sym in_hand)
      (λ s r homes at small.
      let now : r.now.serving ≡ t = let k = r.each_seat id me.0 at in let a = sym (k.turn holds).ticket ∙ turn in cc a in
      (with_entry me.0 e, gives, tt, advance_keeps s r id me.0 c b e n has at (homes ∙ one) holds here (omega arith) history book run, (e, history, refl)))

  shut_keeps : (s : St) (r : Rule s) (id : ℕ) (v : Knowledge X) (c : List (ℕ × S)) (b : BookParts X) (n : ℕ) → v.ranking ≡ Some b.ranking
      → Knows s.views id v → length s.homes ≡ 1 → v.holds_book ≡ true → 0 < v.number → n ≡ closing_mark
      → b.kept.book.history ≡ entries v.seen → origin_of b.kept.book ≡ v.origin
      → Rule (stepped s 0 n id ((0, Some b) ∷ c) (after_closing v) gives)
  shut_keeps s r id v c b n has at one holds here is history book =
      let k = r.each_seat id v at in
      let pass = k.pass here in
      let same_ranking : b.ranking ≡ cell.ranking = let z = sym has ∙ pass.ranking in cc z in
      let mine = k.turn holds in
      let w : Knowledge X = after_closing v in
      let now : Progress = record r.now { serving = n } in
      subst (λ (ws : List ℕ). Rule record { words = set ws 0 n; homes = set s.homes 0 (some (Some b)); views = set s.views id w }) (sym r.words)
      (moved s r id v w (set s.homes 0 (some (Some b))) now at r.few (λ going. absurd (going is))
      record {
        seen = k.seen;
        reported = k.reported;
        pass = λ p. record { given = pass.given; seat_is = pass.seat_is; made = pass.made; origin = pass.origin; ranking = pass.ranking };
        opener = λ h. let x = k.opener h in record { seat_is = x.seat_is; passes = x.passes; number = x.number; origin = x.origin; ranking = x.ranking };
        ticket = λ t h. absurd (cc h);
        turn = λ h. absurd (cc h);
        closed = λ _. is;
      }
      (λ j d ne there. let o = r.each_seat j d there in record {
        seen = o.seen;
        reported = o.reported;
        pass = λ p. let x = o.pass p in record { given = x.given; seat_is = x.seat_is; made = x.made; origin = x.origin; ranking = x.ranking };
        opener = λ h. let x = o.opener h in record { seat_is = x.seat_is; passes = x.passes; number = x.number; origin = x.origin; ranking = x.ranking };
        ticket = λ t h. let x = o.ticket t h in record { drawn = x.drawn; unused = λ going. absurd (going is); number = x.number; passes = x.passes };
        turn = λ h. absurd (r.apart j id d v r.now.serving ne there at (o.turn h).ticket mine.ticket);
        closed = λ _. is;
      })
      (λ going. absurd (going is))
      (λ t h. absurd (cc h)) refl (seen_stays r.now.history s.views id v w r.whole at (λ p e. (p, e))) r.unmade
      (λ y h. let e = some-injective (Some b) y (slot_is s.homes (some (Some b)) (some y) one h) in
      record { book = b; slot_is = sym e; history_is = history ∙ ap entries mine.seen; origin = book ∙ pass.origin; ranking = same_ranking })
      (λ h. absurd (some-ne-none (Some b) (slot_is s.homes (some (Some b)) none one h)))
      r.run)

  pub shuts : (slots id : ℕ) (me : M) (n : ℕ) (c : List (ℕ × S)) (b : BookParts X) → me.0.ranking ≡ Some b.ranking → slots ≡ 1
      → me.0.holds_book ≡ true → 0 < me.0.number → n ≡ closing_mark
      → me.1 ≡ (0, Some b) ∷ c → b.kept.book.history ≡ entries me.0.seen → origin_of b.kept.book ≡ me.0.origin
      → Allows Rule slots id me 0 (λ _. n) (λ _. ClosesCell (step slots 0 n 0 none) me n)
  shuts slots id me n c b has one holds here is in_hand history book =
      subst (λ (x : List (ℕ × S)). Allows Rule slots id (me.0, x) 0 (λ _. n) (λ _. ClosesCell (step slots 0 n 0 none) (me.0, x) n)) (sym in_hand)
      (λ s r homes at small. (after_closing me.0, gives, tt, shut_keeps s r id me.0 c b n has at (homes ∙ one) holds here is history book, refl))

  apart_more : (vs : List (Knowledge X)) (w : Knowledge X) → AreTicketsApart vs → w.ticket ≡ None → AreTicketsApart (vs ++ w ∷ [])
  apart_more vs w apart none_here j l x y t ne ej el tj tl = ⊎_elim
      (λ (a : get_elem? vs j ≡ some x). ⊎_elim
      (λ (b : get_elem? vs l ≡ some y). apart j l x y t ne a b tj tl)
      (λ (b : (l ≡ length vs) × (w ≡ y)). let h = sym none_here ∙ (ap (λ (u : Knowledge X). u.ticket) b.1 ∙ tl) in cc h)
      (at_end vs w y l el))
      (λ (a : (j ≡ length vs) × (w ≡ x)). let h = sym none_here ∙ (ap (λ (u : Knowledge X). u.ticket) a.1 ∙ tj) in cc h)
      (at_end vs w x j ej)

  -- a new seat comes with a copy of what v has seen, and has no ticket and counts for no pass
  pub copies : (id : ℕ) (v : Knowledge X) → Splits Rule id v v (copy_of v)
  copies id v s r at =
      let k = r.each_seat id v at in
      let w : Knowledge X = copy_of v in
      subst (λ (vs : List (Knowledge X)). Rule record { words = s.words; homes = s.homes; views = vs ++ w ∷ [] }) (sym (set_again s.views id v at)) record {
        now = r.now;
        words = r.words;
        few = r.few;
        turns = r.turns;
        each_seat = λ j d e. ⊎_elim (r.each_seat j d)
            (λ (t : (j ≡ length s.views) × (w ≡ d)). subst (Known r.now j) t.1
            record {
              seen = k.seen;
              reported = tt;
              pass = λ p. absurd (omega arith);
              opener = λ h. absurd (cc h);
              ticket = λ t h. absurd (cc h);
              turn = λ h. absurd (cc h);
              closed = k.closed;
            })
            (at_end s.views w d j e);
        each_ticket = λ going t low high. ticket_longer s.views w t (r.each_ticket going t low high);
        apart = apart_more s.views w r.apart refl;
        total = let sum = passes_append s.views w in let before = r.total in omega arith;
        whole = seen_longer r.now.history s.views w r.whole;
        unmade = r.unmade;
        home = r.home;
        out = λ h. out_longer s.views w (r.out h);
        run = r.run;
      }

  abbrev seat_with : (ℕ → ℕ) → ℕ → ℕ → ℕ → ℕ
  seat_with seat number place x = cond (eqb x number) place (seat x)

  -- the opener gives a pass, whose number is what the opener has left
  pub gives_pass : (id : ℕ) (v : Knowledge X) → v.opens ≡ true → 0 < v.passes → Splits Rule id v (after_giving v) (new_pass v)
  gives_pass id v opening_it some_left s r at =
      let k = r.each_seat id v at in
      let o = k.opener opening_it in
      let left = o.passes in
      let zero_number = o.number in
      let a : Knowledge X = after_giving v in
      let w : Knowledge X = new_pass v in
      let vs : List (Knowledge X) = set s.views id a in
      let seat_of : ℕ → ℕ = seat_with r.now.seat_of v.passes (length vs) in
      let now : Progress = record r.now { seat_of = seat_of; not_given = r.now.not_given - 1 } in
      let K : ℕ → Knowledge X → Type 0 = Known now in record {
        now = now;
        words = r.words;
        few = r.few;
        turns = λ going. let x = r.turns going in record { counts = x.counts; drawn = x.drawn };
        each_seat = λ j d e. ⊎_elim
            (λ (t : get_elem? vs j ≡ some d). seats_stay K s.views id a
            record {
              seen = k.seen;
              reported = k.reported;
              pass = λ p. absurd (omega arith);
              opener = λ _. record { seat_is = o.seat_is; passes = omega arith; number = o.number; origin = o.origin; ranking = o.ranking };
              ticket = λ t h. let x = (k.ticket t h).number in absurd (omega arith);
              turn = λ h. let x = k.turn h in record { going = x.going; ticket = x.ticket; seen = x.seen };
              closed = k.closed;
            }
            (λ i u ne there. let x = r.each_seat i u there in record {
              seen = x.seen;
              reported = x.reported;
              pass = λ p. let n = x.pass p in
                  let far = n.given in
                  let other : u.number ≢ v.passes = λ e. omega arith in record {
                    given = omega arith;
                    seat_is = ap (λ c. cond c (length vs) (r.now.seat_of u.number)) (ne_eqb u.number v.passes other) ∙ n.seat_is;
                    made = n.made;
                    origin = n.origin;
                    ranking = n.ranking;
                  };
              opener = λ h. absurd (ne ((x.opener h).seat_is ∙ sym o.seat_is));
              ticket = λ t h. let n = x.ticket t h in record { drawn = n.drawn; unused = n.unused; number = n.number; passes = n.passes };
              turn = λ h. let n = x.turn h in record { going = n.going; ticket = n.ticket; seen = n.seen };
              closed = x.closed;
            }) j d t)
            (λ (t : (j ≡ length vs) × (w ≡ d)). subst (λ (p : ℕ × Knowledge X). K p.0 p.1) (λ i. (sym t.0 i, t.1 i))
            record {
              seen = k.seen;
              reported = tt;
              pass = λ p. record {
                given = omega arith;
                seat_is = ap (λ c. cond c (length vs) (r.now.seat_of v.passes)) (eq-eqb v.passes v.passes refl);
                made = sym (r.unmade v.passes some_left (omega arith));
                origin = o.origin;
                ranking = o.ranking;
              };
              opener = λ h. absurd (cc h);
              ticket = λ t h. absurd (cc h);
              turn = λ h. absurd (cc h);
              closed = λ h. absurd (cc h);
            })
            (at_end vs w d j e);
        each_ticket = λ going t low high. ticket_longer vs w t (ticket_stays s.views id v a t (r.each_ticket going t low high) at (λ h. h));
        apart = apart_more vs w (apart_stay s.views id v a r.apart at (λ t h. inl h)) refl;
        total = let sum = passes_append vs w in let change = passes_set s.views id v a at in let before = r.total in omega arith;
        whole = let x = r.whole in dite (ℕ_discrete x.seat id)
            (λ e. let same : x.known ≡ v = at_one s.views id x.known v (subst (λ (k : ℕ). Knows s.views k x.known) e x.knows) at in record {
              seat = length vs;
              known = w;
              knows = at_last vs w (length vs) refl;
              passes = (let one : 0 < 1 = omega arith in one);
              whole = ap (λ (u : Knowledge X). u.seen) (sym same) ∙ x.whole;
            })
            (λ ne. seen_longer r.now.history vs w
            record { seat = x.seat; known = x.known; knows = set_else s.views id x.seat a ne ∙ x.knows; passes = x.passes; whole = x.whole });
        unmade = λ x p q. r.unmade x p (omega arith);
        home = r.home;
        out = λ h. out_longer vs w (out_stays s.views id v a (r.out h) at (λ h. h));
        run = r.run;
      }

  or_cases : (a b : Bool) → (a || b) ≡ true → (a ≡ true) ⊎ (b ≡ true)
  or_cases true b h = inl refl
  or_cases false b h = inr h

  -- another seat is joined to that of a pass; the other has no ticket, and the pass has then what both had
  pub joins : (id : ℕ) (v : Knowledge X) (other : ℕ) (w : Knowledge X) → 0 < v.number → v.holds_book ≡ false
      → w.holds_book ≡ false → w.ticket ≡ None → Joins Rule id v other w (joint v w) no_pass
  joins id v other w here idle idle_too free s r at apart there =
      let k = r.each_seat id v at in
      let both : Knowledge X = joint v w in
      let vs : List (Knowledge X) = set s.views id both in
      let at_other : Knows s.views other w = sym (set_else s.views id other both apart) ∙ there in
      let o = r.each_seat other w at_other in
      let at_both : Knows (set vs other no_pass) id both = set_else vs other id no_pass (λ e. apart (sym e)) ∙ set_at s.views id v both at in
      let K : ℕ → Knowledge X → Type 0 = Known r.now in record {
        now = r.now;
        words = r.words;
        few = r.few;
        turns = r.turns;
        each_seat = seats_stay K vs other no_pass
            record {
              seen = (r.now.history, refl);
              reported = tt;
              pass = λ p. absurd (omega arith);
              opener = λ h. absurd (cc h);
              ticket = λ t h. absurd (cc h);
              turn = λ h. absurd (cc h);
              closed = λ h. absurd (cc h);
            }
            (λ j d _. seats_stay K s.views id both
            record {
              seen = longer_begins r.now.history v.seen w.seen k.seen o.seen;
              reported = (k.seen, (o.seen, k.reported));
              pass = λ p. let x = k.pass p in record { given = x.given; seat_is = x.seat_is; made = x.made; origin = x.origin; ranking = x.ranking };
              opener = λ h. let z = (k.opener h).number in absurd (omega arith);
              ticket = λ t h. let x = k.ticket t h in record {
                drawn = x.drawn;
                unused = x.unused;
                number = x.number;
                passes = (let p = x.passes in omega arith);
              };
              turn = λ h. let c : true ≡ false = sym h ∙ idle in absurd (cc c);
              closed = λ h. ⊎_elim (λ e. k.closed e) (λ e. o.closed e) (or_cases v.closed w.closed h);
            }
            (λ i u _. r.each_seat i u) j d);
        each_ticket = λ going t low high. ticket_stays vs other w no_pass t
            (ticket_stays s.views id v both t (r.each_ticket going t low high) at (λ h. h)) there (λ h. let c = sym free ∙ h in absurd (cc c));
        apart = apart_stay vs other w no_pass (apart_stay s.views id v both r.apart at (λ t h. inl h)) there (λ t h. absurd (cc h));
        total = let one = passes_set s.views id v both at in
            let two = passes_set vs other w no_pass there in
            let before = r.total in omega arith;
        whole = let x = r.whole in dite (ℕ_discrete x.seat id)
            (λ e. let same : x.known ≡ v = at_one s.views id x.known v (subst (λ (k : ℕ). Knows s.views k x.known) e x.knows) at in
            let part = subst (λ (u : Knowledge X). 0 < u.passes) same x.passes in
            let seen = ap (λ (u : Knowledge X). u.seen) (sym same) ∙ x.whole in record {
              seat = id;
              known = both;
              knows = at_both;
              passes = omega arith;
              whole = longer_whole_left r.now.history v.seen w.seen seen o.seen;
            })
            (λ ne. dite (ℕ_discrete x.seat other)
            (λ e. let same : x.known ≡ w = at_one s.views other x.known w (subst (λ (k : ℕ). Knows s.views k x.known) e x.knows) at_other in
            let part = subst (λ (u : Knowledge X). 0 < u.passes) same x.passes in
            let seen = ap (λ (u : Knowledge X). u.seen) (sym same) ∙ x.whole in record {
              seat = id;
              known = both;
              knows = at_both;
              passes = omega arith;
              whole = longer_whole_right r.now.history v.seen w.seen k.seen seen;
            })
            (λ far. record {
              seat = x.seat;
              known = x.known;
              knows = set_else vs other x.seat no_pass far ∙ (set_else s.views id x.seat both ne ∙ x.knows);
              passes = x.passes;
              whole = x.whole;
            }));
        unmade = r.unmade;
        home = r.home;
        out = λ h. out_stays vs other w no_pass (out_stays s.views id v both (r.out h) at (λ t. t)) there
            (λ t. let c : true ≡ false = sym t ∙ idle_too in absurd (cc c));
        run = r.run;
      }

  -- the book is at home, with the history that the seat has seen
  pub record HasWholeBook (s : St) (v : Knowledge X) : Type 0 where
    pub book : BookParts X
    pub home : get_elem? s.homes 0 ≡ some (some (Some book))
    pub history_is : book.kept.book.history ≡ entries v.seen
    pub begins : StartsWithAll v.seen v.reported
    pub origin : origin_of book.kept.book ≡ cell.origin
    pub ranking : v.ranking ≡ Some book.ranking
    pub known_origin : v.origin ≡ cell.origin

  -- a seat that counts for every pass and has no turn knows the history whole, and the book is at home
  pub ends : (s : St) → Rule s → (id : ℕ) (v : Knowledge X) → 0 < v.number → Knows s.views id v → length s.homes ≡ 1
      → cell.passes ≤ v.passes → v.holds_book ≡ false → HasWholeBook s v
  ends s r id v here at one all idle =
      let pass = (r.each_seat id v at).pass here in
      let total = r.total in
      let x = r.whole in
      let alone : (j : ℕ) (d : Knowledge X) → j ≢ id → Knows s.views j d → 0 < d.passes → ⊥ = λ j d ne there some_part.
      let two = passes_two s.views id j v d (λ e. ne (sym e)) at there in absurd (omega arith) in
      let whole : v.seen ≡ r.now.history = dite (ℕ_discrete x.seat id)
      (λ e. ap (λ (u : Knowledge X). u.seen) (sym (at_one s.views id x.known v (subst (λ (k : ℕ). Knows s.views k x.known) e x.knows) at)) ∙ x.whole)
      (λ ne. absurd (alone x.seat x.known ne x.knows x.passes)) in
      let y : (y : S) × (get_elem? s.homes 0 ≡ some (some y)) = ⊎_elim
      (λ (e : get_elem? s.homes 0 ≡ some none). let h = r.out e in
      let theirs = r.each_seat h.seat h.known h.knows in
      dite (ℕ_discrete h.seat id)
      (λ same. let is : h.known ≡ v = at_one s.views id h.known v (subst (λ (k : ℕ). Knows s.views k h.known) same h.knows) at in
      let c : true ≡ false = sym h.holds ∙ (ap (λ (u : Knowledge X). u.holds_book) is ∙ idle) in absurd (cc c))
      (λ ne. absurd (alone h.seat h.known ne h.knows (theirs.ticket r.now.serving (theirs.turn h.holds).ticket).passes)))
      (λ h. h)
      (slot_cases s.homes one) in
      let b = r.home y.0 y.1 in record {
        book = b.book;
        home = y.1 ∙ ap (λ z. some (some z)) b.slot_is;
        history_is = b.history_is ∙ ap entries (sym whole);
        begins = subst (λ l. StartsWithAll l v.reported) (sym whole) (r.each_seat id v at).reported;
        origin = b.origin;
        ranking = pass.ranking ∙ ap Some (sym b.ranking);
        known_origin = pass.origin;
      }

-- a table that is made with a book, whose two words count the book's history
pub begins : {X : Type 0} (book : BookParts X) (passes n : ℕ) → n ≡ length book.kept.book.history → n < closing_mark → 0 < passes
    → IsOwnRun (origin_of book.kept.book) book.kept.book.history
    → IsCellTable (opening_of book passes) (opening (n ∷ n ∷ []) (Some book ∷ []) (opener book passes))
begins {X} book passes n count few some_passes run =
    let v : Knowledge X = opener book passes in
    let past : List Entry = book.kept.book.history in
    let log : List MarkedEntry = mark_entries 0 past in
    let now : Progress = record { history = log; serving = n; next_ticket = n; seat_of = λ _. 0; opener_seat = 0; not_given = passes } in record {
      now = now;
      words = refl;
      few = few;
      turns = λ _. record { counts = count ∙ sym (length_marks 0 past); drawn = omega arith };
      each_seat = λ j d e. ⊎_elim (λ (t : get_elem? {A = Knowledge X} [] j ≡ some d). absurd (some-ne-none d (sym t)))
          (λ (t : (j ≡ 0) × (v ≡ d)). subst (λ (p : ℕ × Knowledge X). IsTrueOf (opening_of book passes) now p.0 p.1) (λ i. (sym t.0 i, t.1 i))
          record {
            seen = begins_self log;
            reported = tt;
            pass = λ p. absurd (omega arith);
            opener = λ _. record { seat_is = refl; passes = refl; number = refl; origin = refl; ranking = refl };
            ticket = λ t h. absurd (cc h);
            turn = λ h. absurd (cc h);
            closed = λ h. absurd (cc h);
          })
          (at_end [] v d j e);
      each_ticket = λ _ t low high. absurd (omega arith);
      apart = λ j l x y t ne ej el tj tl. ⊎_elim (λ (t : get_elem? {A = Knowledge X} [] j ≡ some x). absurd (some-ne-none x (sym t)))
          (λ (a : (j ≡ 0) × (v ≡ x)). let h = ap (λ (u : Knowledge X). u.ticket) a.1 ∙ tj in cc h)
          (at_end [] v x j ej);
      total = omega arith;
      whole = record { seat = 0; known = v; knows = refl; passes = some_passes; whole = refl };
      unmade = λ x p _. places_past x 0 past p;
      home = λ y h. let is = some-injective (Some book) y (some-injective (some (Some book)) (some y) h) in
          record { book = book; slot_is = sym is; history_is = sym (entries_marks 0 past); origin = refl; ranking = refl };
      out = λ h. absurd (some-ne-none (Some book) (some-injective (some (Some book)) none h));
      run = subst (IsOwnRun (origin_of book.kept.book)) (sym (entries_marks 0 past)) run;
    }
