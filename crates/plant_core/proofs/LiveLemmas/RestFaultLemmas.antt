-- Why a core does not rest.
use Rattle.std.proofs.Common.{◌≡◌, ℕ, zero, suc, ◌+◌, ◌<◌, ◌≤◌, List, [], ◌∷◌, length, map, take, get_or, Some, sym, ap, ◌∙◌, subst, add-one, arith}
use Rattle.plant_core.proofs.LiveLemmas.Common.{slice_get, take_all, length-map, same_Some, ∥∥₁_elim, props, ElementsFields, PlantFields, BookView, Gathering, CoreView, core_of, IsReachableFromStart, Rests, IsRestless, IsRestFault}
use Rattle.plant_core.proofs.LiveLemmas.PlaceLemmas.{seen_at}
use Rattle.plant_core.specs.declared.live.rest_fault.RestFault.{RestFault}
use Rattle.plant_core.specs.declared.live.rest_fault.RestFault.TheVariants.{FrameWaits, NotAtFrame}

-- ---- one machine and one queue for each row

same_count : (a b : ℕ) (x y : a ≡ b) → x ≡ y
same_count a b = hlevel props

module _ (plant : PlantFields) (gathering : Gathering) (lives : List BookView) (queues : List (List (ℕ × ElementsFields))) (reached : ∥ IsReachableFromStart (core_of plant lives queues gathering) ∥₁) where
  pub one_book_each : length lives ≡ length plant.rows
  one_book_each = ∥∥₁_elim reached (same_count (length lives) (length plant.rows)) (λ r. r.3.one_book)

  pub one_queue_each : length queues ≡ length plant.rows
  one_queue_each = ∥∥₁_elim reached (same_count (length queues) (length plant.rows)) (λ r. r.3.one_queue)

-- ---- what holds at each place

more_at : {X : Type 0} (P : X → Type 0) (xs : List X) (n : ℕ) (x : X) → slice_get xs n ≡ Some x → P x
    → ((i : ℕ) (y : X) → slice_get (take n xs) i ≡ Some y → P y)
    → (i : ℕ) (y : X) → slice_get (take (suc n) xs) i ≡ Some y → P y
more_at P [] n x e p before i y f = absurd (cc)
more_at P (z ∷ zs) zero x e p before zero y f = subst P (same_Some x y (sym e ∙ f)) p
more_at P (z ∷ zs) zero x e p before (suc i) y f = absurd (cc)
more_at P (z ∷ zs) (suc n) x e p before zero y f = before zero y f
more_at P (z ∷ zs) (suc n) x e p before (suc i) y f = more_at P zs n x e p (λ j w g. before (suc j) w g) i y f

module _ (plant : PlantFields) (gathering : Gathering) (books : List BookView) (queues : List (List (ℕ × ElementsFields))) (frame : ℕ) where
  abbrev pub FrontRests : ℕ → Type 0
  FrontRests op = Rests (core_of plant (take op books) (take op queues) gathering) frame

  pub none_rest : FrontRests 0
  none_rest = record { before = λ i book e. absurd (cc); none_waits = λ i waiting e. absurd (cc) }

  pub one_rests_more : (op : ℕ) (book : BookView) (waiting : List (ℕ × ElementsFields)) → slice_get books op ≡ Some book → slice_get queues op ≡ Some waiting
      → book.state.frame ≡ frame → waiting ≡ [] → FrontRests op → FrontRests (op + 1)
  one_rests_more op book waiting b w at none rest =
      subst FrontRests (sym (add-one op)) (record {
        before = more_at (λ (x : BookView). x.state.frame ≡ frame) books op book b at rest.before;
        none_waits = more_at (λ (x : List (ℕ × ElementsFields)). x ≡ []) queues op waiting w none rest.none_waits;
      })

  pub all_rest : (op : ℕ) → length books ≤ op → length queues ≤ op → FrontRests op → Rests (core_of plant books queues gathering) frame
  all_rest op b q rest = record {
    before = λ i book e. rest.before i book (ap (λ (xs : List BookView). slice_get xs i) (take_all op books b) ∙ e);
    none_waits = λ i waiting e. rest.none_waits i waiting (ap (λ (xs : List (List (ℕ × ElementsFields))). slice_get xs i) (take_all op queues q) ∙ e);
  }

-- and a core that rests has no fault
pub no_fault : (live : CoreView) (fault : RestFault) (frame : ℕ) → IsRestFault live fault → Rests live frame → ⊥
no_fault live (FrameWaits at) frame is rests = is.why.1 (rests.none_waits is.op is.waiting is.waiting_is)
no_fault live (NotAtFrame at) frame is rests = is.why.2 (rests.before is.op is.book is.book_is ∙ sym (rests.before 0 is.first is.first_is))

-- ---- desks, of which a core shows a book and what waits

module _ {X : Type 0} (book : X → BookView) (waits : X → List (ℕ × ElementsFields)) (plant : PlantFields) (gathering : Gathering) (desks : List X) (n : ℕ) (long : n ≡ length desks) (first : X) (some : 1 ≤ length (map book desks)) (is_first : first ≡ get_or desks 0 first)
    (frame : ℕ) (at_first : frame ≡ (book first).state.frame) where
  pub first_seen_at : slice_get (map book desks) 0 ≡ Some (book first)
  first_seen_at = seen_at book desks n 0 first long (omega (arith, some, length-map desks book, long)) is_first

  pub desk_rests_more : (op : ℕ) (desk : X) → op < n → desk ≡ get_or desks op desk → (book desk).state.frame ≡ frame → waits desk ≡ []
      → FrontRests plant gathering (map book desks) (map waits desks) frame op → FrontRests plant gathering (map book desks) (map waits desks) frame (op + 1)
  desk_rests_more op desk lt is at none rest =
      one_rests_more plant gathering (map book desks) (map waits desks) frame op (book desk) (waits desk) (seen_at book desks n op desk long lt is) (seen_at waits desks n op desk long lt is) at none rest

  pub desk_has_fault : (op : ℕ) (desk : X) (fault : RestFault) → op < n → desk ≡ get_or desks op desk → FrontRests plant gathering (map book desks) (map waits desks) frame op
      → IsRestless frame op (book desk) (waits desk) fault → IsRestFault (core_of plant (map book desks) (map waits desks) gathering) fault
  desk_has_fault op desk fault lt is rest why = record {
    op = op;
    first = book first;
    first_is = first_seen_at;
    front_rests = subst (λ (f : ℕ). FrontRests plant gathering (map book desks) (map waits desks) f op) at_first rest;
    book = book desk;
    book_is = seen_at book desks n op desk long lt is;
    waiting = waits desk;
    waiting_is = seen_at waits desks n op desk long lt is;
    why = subst (λ (f : ℕ). IsRestless f op (book desk) (waits desk) fault) at_first why;
  }
