-- That what a MAP says to an operator is its own frame.
use Rattle.std.proofs.Common.{◌≡◌, ℕ, ◌+◌, ◌≤◌, Bool, true, false, IsTrue, List, [], ◌∷◌, length, drop, count_by, All, Option, None, Result, Ok, Err, IfOk, sym, ap, ◌∙◌, subst, arith}
use Rattle.plant_workers.proofs.ReceiptsLemmas.Common.{◌↔◌, min, MatchOption, false≢true, drop_of_length-le, BookView, MapBytes, MapSpan, elements_at_frame, history_outputs, IsFramePart, HasOwnParts, AreFramesOf}
use Rattle.slice_scheduler.specs.declared.elements.ElementsFields.{ElementsFields}
use Rattle.map_assembly.specs.declared.view.MapView.{MapView}
use Rattle.map_assembly.specs.declared.view.MapFault.{MapFault}
use Rattle.map_assembly.specs.declared.view.MapFault.TheVariants.{NoMemory}
use Rattle.map_assembly.specs.Reading.{MapReads}
use Rattle.map_assembly.specs.Tiled.{MapPart, part_of, own_part}
use Rattle.plant_workers.specs.declared.receipts.own_frames.OwnFrames.{OwnFrames}

-- the two parts say the same
abbrev pub SayTheSame : MapPart → MapPart → Type 0
SayTheSame a b = (a.spans ≡ b.spans) × (a.pending ≡ b.pending)

same_part : (a b : MapPart) → SayTheSame a b → a ≡ b
same_part a b same =
    let part : List MapSpan → List ℕ → MapPart = λ spans pending. record { spans = spans; pending = pending } in
    ap (λ (spans : List MapSpan). part spans a.pending) same.0 ∙ ap (λ (pending : List ℕ). part b.spans pending) same.1

one_alone : {X : Type 0} (x y : X) (xs : List X) → xs ≡ x ∷ [] → xs ≡ y ∷ [] → x ≡ y
one_alone x y xs e f = cc

pub if_ok : {T E : Type 0} {P Q : T → Type 0} (r : Result T E) → ((x : T) → P x → Q x) → IfOk r P → IfOk r Q
if_ok (Ok x) then is = then x is
if_ok (Err e) then is = is

module _ (made : MapBytes) (view : MapView) (book : BookView) where
  own_only : (part : ElementsFields) → elements_at_frame made.frame (history_outputs book.history) ≡ part ∷ [] → IsFramePart made view book → part_of book.row.sids view ≡ own_part part
  own_only part put own = own.part_is ∙ ap own_part (one_alone own.part part (elements_at_frame made.frame (history_outputs book.history)) own.put put)

pub own_is : (made : MapBytes) (view : MapView) (book : BookView) (own : OwnFrames) (part : ElementsFields) (b : Bool) → AreFramesOf own book
    → elements_at_frame made.frame (history_outputs book.history) ≡ part ∷ [] → (IsTrue b ↔ SayTheSame (part_of own.sids view) (own_part part)) → IsTrue b ↔ IsFramePart made view book
own_is made view book own part b of_book put told =
    let same : part_of own.sids view ≡ part_of book.row.sids view = ap (λ range. part_of range view) of_book.sids_are in (
      λ is. record { part = part; put = put; part_is = sym same ∙ same_part (part_of own.sids view) (own_part part) (told.0 is) },
      λ his. let e : part_of own.sids view ≡ own_part part = same ∙ own_only made view book part put his in told.1 (ap (λ (p : MapPart). p.spans) e, ap (λ (p : MapPart). p.pending) e),
    )

pub own_not : (made : MapBytes) (view : MapView) (book : BookView) → elements_at_frame made.frame (history_outputs book.history) ≡ [] → IsTrue false ↔ IsFramePart made view book
own_not made view book none = (
  λ is. absurd (false≢true is),
  λ own. let e : ◌≡◌ {A = List ElementsFields} [] (own.part ∷ []) = sym none ∙ own.put in absurd (let f : ⊥ = cc in f),
)

-- ---- the whole MAP

pub parts_are : (books : List BookView) (made : MapBytes) (view : MapView) (bytes : List ℕ) (b : Bool) → bytes ≡ made.bytes → MapReads bytes view
    → ((other : MapView) → MapReads bytes other → view ≡ other) → (IsTrue b ↔ All (IsFramePart made view) books) → IsTrue b ↔ HasOwnParts books made
parts_are books made view bytes b same reads only told = (
  λ is. record { view = view; reads = subst (λ (bs : List ℕ). MapReads bs view) same reads; own = told.0 is },
  λ has. told.1 (subst (λ (v : MapView). All (IsFramePart made v) books) (sym (only has.view (subst (λ (bs : List ℕ). MapReads bs has.view) (sym same) has.reads))) has.own),
)

pub parts_not : (books : List BookView) (made : MapBytes) (bytes : List ℕ) (fault : MapFault) → bytes ≡ made.bytes → (fault ≡ NoMemory → ⊥)
    → ((view : MapView) → MapReads bytes view → fault ≡ NoMemory) → IsTrue false ↔ HasOwnParts books made
parts_not books made bytes fault same not_memory only = (
  λ is. absurd (false≢true is),
  λ has. absurd (not_memory (only has.view (subst (λ (bs : List ℕ). MapReads bs has.view) (sym same) has.reads))),
)

-- ---- a count at its end

pub count_end : {X : Type 0} (p : X → Bool) (xs : List X) (i a b : ℕ) → length xs ≤ i → min (a + count_by p (drop i xs)) 255 ≡ b → min a 255 ≡ b
count_end p xs i a b past e =
    let none : count_by p (drop i xs) ≡ 0 = ap (count_by p) (drop_of_length-le xs past) in
    omega (arith, none, e)

pub none_match : {X : Type 0} {A : Type 0} (B : X → Type 0) (o : Option X) → o ≡ None → A → MatchOption o A B
none_match {X} {A} B o e a = subst (λ (r : Option X). MatchOption r A B) (sym e) a

-- both or not
pub both_are : {S P : Type 0} (s : Bool) (p : Bool) → s ≡ true → (IsTrue s ↔ S) → (IsTrue p ↔ P) → IsTrue p ↔ (S × P)
both_are s p is_true spans pending = (λ is. (spans.0 is_true, pending.0 is), λ both. pending.1 both.1)

pub both_not : {S P : Type 0} (s : Bool) → s ≡ false → (IsTrue s ↔ S) → IsTrue false ↔ (S × P)
both_not s not spans = (λ is. absurd (false≢true is), λ both. absurd (false≢true (sym not ∙ spans.1 both.0)))

-- what tells whether two lists are the same tells it of lists that are these
pub at_lists : {X : Type 0} {a b x y : List X} (told : Bool) → a ≡ x → b ≡ y → (IsTrue told ↔ (a ≡ b)) → IsTrue told ↔ (x ≡ y)
at_lists told e f same = (λ is. sym e ∙ (same.0 is ∙ f), λ g. same.1 (e ∙ (g ∙ sym f)))
