-- Lines in memory, one more at a time.
use Rattle.std.proofs.Common.{◌≡◌, ℕ, suc, ◌+◌, ◌<◌, ◌≤◌, List, [], ◌∷◌, ◌++◌, length, take, Vec, ap, ◌∙◌, arith}
use Rattle.state_service.proofs.DurableLemmas.Common.{slice_index_or, Global, map-append, length-map, length-take-le, take_all, texts}
use Rattle.std.proofs.Math.Seq.{take-suc}

pub texts_more : (lines : List (Vec ℕ Global)) (i : ℕ) (line : Vec ℕ Global) → i < length lines → slice_index_or lines i line ≡ line
    → texts (take (i + 1) lines) ≡ texts (take i lines) ++ line.items ∷ []
texts_more lines i line inside is =
    let next : i + 1 ≡ suc i = omega arith in
    ap (λ (n : ℕ). texts (take n lines)) next
    ∙ ap (λ (ls : List (Vec ℕ Global)). texts ls) (take-suc lines i line inside ∙ ap (λ (x : Vec ℕ Global). take i lines ++ x ∷ []) is)
    ∙ map-append (λ (v : Vec ℕ Global). v.items) (take i lines) (line ∷ [])

pub taken_length : (lines : List (Vec ℕ Global)) (i : ℕ) → i ≤ length lines → length (texts (take i lines)) ≡ i
taken_length lines i le = length-map (take i lines) (λ (v : Vec ℕ Global). v.items) ∙ length-take-le i lines le

pub all_taken : (lines : List (Vec ℕ Global)) (i : ℕ) → length lines ≤ i → texts (take i lines) ≡ texts lines
all_taken lines i le = ap (λ (ls : List (Vec ℕ Global)). texts ls) (take_all i lines le)
