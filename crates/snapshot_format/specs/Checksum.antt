-- The checksum of a text: Adler-32 (RFC 1950, 8.2).
use Rattle.std.specs.Prelude.{◌==◌, ℕ, ◌+◌, ◌*◌, ◌%◌, List, [], ◌∷◌, count_by}

-- the checksum of bytes after others whose sums are these
abbrev pub adler_after : ℕ → ℕ → List ℕ → ℕ
adler_after low high [] = high * 65536 + low
adler_after low high (b ∷ bytes) = adler_after ((low + b) % 65521) ((high + (low + b) % 65521) % 65521) bytes

-- the Adler-32 checksum of bytes
unfoldable pub adler_32 : List ℕ → ℕ
adler_32 bytes = adler_after 1 0 bytes

-- how many lines end in a text
abbrev pub line_count : List ℕ → ℕ
line_count text = count_by (λ b. b == 10) text
