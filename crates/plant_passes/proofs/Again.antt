-- One look after another.
use Rattle.std.proofs.Common.{◌≡◌, ◌≢◌, ℕ, ◌<◌, true, List, ◌++◌, Some, sym, ap, ◌∙◌, subst, append_assoc}
use Rattle.plant_passes.proofs.Common.{MarkedEntry, Knowledge, StartsWith, StartsWithAll, closing_mark, SeatNow, knowledge, SeesHistory, FindsServing, HasBookInHand, WaitsForTurn, IsInTurn}

pub begins_again : (a b c : List MarkedEntry) → StartsWith b a → StartsWith c b → StartsWith c a
begins_again a b c p q = (p.0 ++ q.0, q.1 ∙ (ap (λ l. l ++ q.0) p.1 ∙ append_assoc a p.0 q.0))

-- what looks that found no turn leave
pub record Stays {X : Type 0} (v w : Knowledge X) : Type 0 where
  pub number : w.number ≡ v.number
  pub passes : w.passes ≡ v.passes
  pub opens : w.opens ≡ v.opens
  pub ended_cell : w.ended_cell ≡ v.ended_cell
  pub origin : w.origin ≡ v.origin
  pub ranking : w.ranking ≡ v.ranking
  pub made : w.made ≡ v.made
  pub same_reports : w.reported ≡ v.reported
  pub seen : StartsWith w.seen v.seen
  pub closed : v.closed ≡ true → w.closed ≡ true

pub stays_on : {X : Type 0} (u v w : Knowledge X) (r : ℕ) → Stays u v → SeesHistory v w → (v.closed ≡ true → w.closed ≡ true) → Stays u w
stays_on u v w r a b closed = record {
  number = b.number ∙ a.number;
  passes = b.passes ∙ a.passes;
  opens = b.opens ∙ a.opens;
  ended_cell = b.ended_cell ∙ a.ended_cell;
  origin = b.origin ∙ a.origin;
  ranking = b.ranking ∙ a.ranking;
  made = b.made ∙ a.made;
  same_reports = b.same_reports ∙ a.same_reports;
  seen = begins_again u.seen v.seen w.seen a.seen b.seen;
  closed = λ h. closed (a.closed h);
}

pub looks_on : {X : Type 0} (u v w : Knowledge X) → Stays u v → SeesHistory v w → SeesHistory u w
looks_on u v w a b = record {
  number = b.number ∙ a.number;
  passes = b.passes ∙ a.passes;
  opens = b.opens ∙ a.opens;
  ended_cell = b.ended_cell ∙ a.ended_cell;
  origin = b.origin ∙ a.origin;
  ranking = b.ranking ∙ a.ranking;
  made = b.made ∙ a.made;
  seen = begins_again u.seen v.seen w.seen a.seen b.seen;
  same_reports = b.same_reports ∙ a.same_reports;
  reported = subst (StartsWithAll w.seen) a.same_reports b.reported;
  own = λ p. b.own (subst (λ n. 0 < n) (sym a.number) p);
  run = λ p. b.run (subst (λ n. 0 < n) (sym a.number) p);
}

-- a look that found neither the end nor the turn
pub waits_on : {X : Type 0} (t r : ℕ) (u : Knowledge X) (m m' : SeatNow X) → WaitsForTurn t m → Stays u (knowledge m)
    → SeesHistory (knowledge m) (knowledge m') → FindsServing r m m' → r ≢ closing_mark → r ≢ t
    → WaitsForTurn t m' × Stays u (knowledge m')
waits_on t r u m m' waits stays looks finds going other =
    let not_mine : m.0.ticket ≢ Some r = λ e. let h = sym waits.ticket_is ∙ e in other (let c : r ≡ t = cc h in c) in
    let o = finds.other going not_mine in (
      record { ticket_is = o.ticket ∙ waits.ticket_is; holds_book = o.holds_book; hand_is = o.hand_is ∙ waits.hand_is },
      stays_on u m.0 m'.0 r stays looks (λ h. absurd (going (finds.shut h))),
    )

pub mine_now : {X : Type 0} (t r : ℕ) (m m' : SeatNow X) → WaitsForTurn t m → FindsServing r m m' → r ≢ closing_mark → r ≡ t → IsInTurn t m'
mine_now t r m m' waits finds going is =
    let o = finds.mine going (waits.ticket_is ∙ ap Some (sym is)) in record {
      ticket_is = o.ticket_is ∙ ap Some is;
      holds_book = o.holds_book;
      closed = o.closed;
      place = sym is ∙ o.place;
      book = subst (λ below. HasBookInHand m' below) waits.hand_is o.book;
    }
