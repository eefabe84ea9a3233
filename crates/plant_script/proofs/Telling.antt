-- The lines of books and MAPs, one after the other.
use Rattle.std.proofs.Common.{◌≡◌, ℕ, ◌+◌, ◌<◌, List, [], ◌∷◌, ◌++◌, length, map, drop, get_or, sym, ap, ◌∙◌, append_assoc}
use Rattle.plant_script.proofs.Common.{slice_get, flat_map, drop_more, PlantFields, BookView, MapBytes, history_outputs, outs_from, outs_of, operator_name, map_line, out_line, output_line, outs_text}
use Rattle.std.proofs.lemmas.Grind.{flat_map-append}
use Rattle.std.proofs.lemmas.List.Folds.{flat_map-map}
use Rattle.operator_model.specs.declared.action.Entry.{Entry}
use Rattle.operator_model.specs.declared.output.Output.{Output}
use Rattle.run_model.specs.OwnSteps.{outputs_under}
use Rattle.run_model.specs.declared.step.Out.TheVariants as outs

-- what is left of a list, seen by f, begins with what is read
pub map_left : {X Y : Type 0} (f : X → Y) (xs : List X) (i : ℕ) (x : X) → i < length xs → x ≡ get_or xs i x
    → map f (drop i xs) ≡ f x ∷ map f (drop (i + 1) xs)
map_left f xs i x lt is = ap (map f) (drop_more xs i x lt ∙ ap (λ (y : _). y ∷ drop (i + 1) xs) (sym is))

-- ---- an operator's outputs

-- the lines of one entry more
pub entries_more : (f : Output → List ℕ) (history : List Entry) (i : ℕ) (entry : Entry) (outputs : List Output) (old new whole : List ℕ)
    → i < length history → entry ≡ get_or history i entry → outputs ≡ entry.outputs → new ≡ old ++ flat_map f outputs
    → old ++ flat_map f (history_outputs (drop i history)) ≡ whole → new ++ flat_map f (history_outputs (drop (i + 1) history)) ≡ whole
entries_more f history i entry outputs old new whole lt is same grown so_far =
    let later = history_outputs (drop (i + 1) history) in
    let split : drop i history ≡ entry ∷ drop (i + 1) history = drop_more history i entry lt ∙ ap (λ (e : Entry). e ∷ drop (i + 1) history) (sym is) in
    let here : flat_map f (history_outputs (drop i history)) ≡ flat_map f outputs ++ flat_map f later =
    ap (λ (es : List Entry). flat_map f (history_outputs es)) split
    ∙ (flat_map-append f entry.outputs later ∙ ap (λ (os : List Output). flat_map f os ++ flat_map f later) (sym same)) in
    ap (λ (t : List ℕ). t ++ flat_map f later) grown
    ∙ (append_assoc old (flat_map f outputs) (flat_map f later) ∙ (ap (λ (t : List ℕ). old ++ t) (sym here) ∙ so_far))

-- ---- books

-- what stands under an operator, line by line
under_text : (plant : PlantFields) (op : ℕ) (outputs : List Output)
    → outs_text plant (outputs_under op outputs) ≡ flat_map (output_line (operator_name (slice_get plant.rows op))) outputs
under_text plant op outputs = flat_map-map (out_line plant) (λ (output : Output). outs.Of op output) outputs

-- the lines of one book more
pub books_more : (plant : PlantFields) (op : ℕ) (view : BookView) (views later : List BookView) (history : List Entry) (old new whole : List ℕ)
    → views ≡ view ∷ later → history ≡ view.history
    → new ≡ old ++ flat_map (output_line (operator_name (slice_get plant.rows op))) (history_outputs history)
    → old ++ outs_text plant (outs_from op views) ≡ whole → new ++ outs_text plant (outs_from (op + 1) later) ≡ whole
books_more plant op view views later history old new whole split same grown so_far =
    let lines = flat_map (output_line (operator_name (slice_get plant.rows op))) (history_outputs history) in
    let rest = outs_text plant (outs_from (op + 1) later) in
    let here : outs_text plant (outs_from op views) ≡ lines ++ rest =
    ap (λ (vs : List BookView). outs_text plant (outs_from op vs)) split
    ∙ (flat_map-append (out_line plant) (outputs_under op (history_outputs view.history)) (outs_from (op + 1) later)
    ∙ ap (λ (t : List ℕ). t ++ rest) (under_text plant op (history_outputs view.history)
    ∙ ap (λ (h : List Entry). flat_map (output_line (operator_name (slice_get plant.rows op))) (history_outputs h)) (sym same))) in
    ap (λ (t : List ℕ). t ++ rest) grown
    ∙ (append_assoc old lines rest ∙ (ap (λ (t : List ℕ). old ++ t) (sym here) ∙ so_far))

-- ---- books and MAPs

pub outs_told : (plant : PlantFields) (books : List BookView) (maps : List MapBytes)
    → outs_text plant (outs_from 0 books) ++ flat_map map_line maps ≡ outs_text plant (outs_of books maps)
outs_told plant books maps =
    ap (λ (t : List ℕ). outs_text plant (outs_from 0 books) ++ t) (sym (flat_map-map (out_line plant) (λ (made : MapBytes). outs.Map made) maps))
    ∙ sym (flat_map-append (out_line plant) (outs_from 0 books) (map (λ (made : MapBytes). outs.Map made) maps))

-- all of them, behind what was there
pub all_told : (plant : PlantFields) (books these : List BookView) (maps those : List MapBytes) (start first second : List ℕ)
    → first ≡ start ++ outs_text plant (outs_from 0 these) → second ≡ first ++ flat_map map_line those → these ≡ books → those ≡ maps
    → second ≡ start ++ outs_text plant (outs_of books maps)
all_told plant books these maps those start first second begun grown same_books same_maps =
    grown
    ∙ (ap (λ (t : List ℕ). t ++ flat_map map_line those) begun
    ∙ (append_assoc start (outs_text plant (outs_from 0 these)) (flat_map map_line those)
    ∙ ap (λ (t : List ℕ). start ++ t)
    (ap (λ (bs : List BookView). outs_text plant (outs_from 0 bs) ++ flat_map map_line those) same_books
    ∙ (ap (λ (ms : List MapBytes). outs_text plant (outs_from 0 books) ++ flat_map map_line ms) same_maps
    ∙ outs_told plant books maps))))
