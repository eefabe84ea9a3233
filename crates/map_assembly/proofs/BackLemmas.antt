-- What is written is read back.
use Rattle.std.proofs.Common.{◌≡◌, ℕ, ◌*◌, ◌/◌, ◌%◌, ◌^◌, ◌<◌, List, [], ◌∷◌, ◌++◌, length, drop, refl, ap, ◌∙◌, arith, length-append}
use Rattle.map_assembly.proofs.Common.{AllByRecursion, from_be_bytes-to_be_bytes_4, MapElement, MapHeader, word_of, element_of, FitsElement, spelled_element, spelled_elements, elements_in, header_in, IsCounted, spelled_header, spelled_map}

word-fits : (e : MapElement) → FitsElement e → word_of e < 2 ^ 32
word-fits e f = omega (arith, f.sid, f.iuc, f.offset)

element-word : (e : MapElement) → FitsElement e → element_of (word_of e) ≡ e
element-word e f =
    let sid : word_of e / 262144 ≡ e.sid = omega (arith, f.sid, f.iuc, f.offset) in
    let iuc : word_of e / 16384 % 16 ≡ e.iuc = omega (arith, f.sid, f.iuc, f.offset) in
    let offset : word_of e % 16384 ≡ e.offset = omega (arith, f.sid, f.iuc, f.offset) in
    λ i. record { sid = sid i; iuc = iuc i; offset = offset i }

element-back : (e : MapElement) (rest : List ℕ) → FitsElement e → elements_in (spelled_element e ++ rest) ≡ e ∷ elements_in rest
element-back e rest f =
    ap (λ (n : ℕ). element_of n ∷ elements_in rest) (from_be_bytes-to_be_bytes_4 (word_of e) (word-fits e f))
    ∙ ap (λ (x : MapElement). x ∷ elements_in rest) (element-word e f)

pub elements-back : (es : List MapElement) → AllByRecursion FitsElement es → elements_in (spelled_elements es) ≡ es
elements-back [] f = refl
elements-back (e ∷ es) f = element-back e (spelled_elements es) f.0 ∙ ap (λ (xs : List MapElement). e ∷ xs) (elements-back es f.1)

pub length-spelled : (es : List MapElement) → length (spelled_elements es) ≡ 4 * length es
length-spelled [] = refl
length-spelled (e ∷ es) = omega (arith, length-append (spelled_element e) (spelled_elements es), length-spelled es)

pub header-back : (h : MapHeader) (rest : List ℕ) → h.alloc_start < 2 ^ 32 → h.ack_time < 2 ^ 32 → header_in (spelled_header h ++ rest) ≡ h
header-back h rest start ack = λ i. record {
  channel = h.channel;
  ucd_count = h.ucd_count;
  elements = h.elements;
  alloc_start = from_be_bytes-to_be_bytes_4 h.alloc_start start i;
  ack_time = from_be_bytes-to_be_bytes_4 h.ack_time ack i;
  backoffs = h.backoffs;
}

pub counted-back : (h : MapHeader) (es : List MapElement) → h.elements ≡ length es → IsCounted (spelled_map h es)
counted-back h es e = omega (arith, length-spelled es, e)

pub body-back : (h : MapHeader) (es : List MapElement) → drop 16 (spelled_map h es) ≡ spelled_elements es
body-back h es = refl
