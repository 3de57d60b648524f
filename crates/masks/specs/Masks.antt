-- A column as one number: bit i of its word is 1 where the column has the pitch i (exact) or the class i (octave). Moved by a note, bit i
-- is 1 where the column holds that note at the i-th start. Code keeps the number in two halves of 64 bits (`value`); nothing
-- else is said by halves. Assumes nothing.
use Rattle.std.specs.Prelude.{Bool, cond, List, ℕ, ◌+◌, ◌-◌, ◌*◌, ◌/◌, ◌%◌, ◌^◌, eqb, leb}
use Rattle.std.specs.Int.Bits.{bit_or}
use Rattle.theory.specs.Bits.{bit, number}
use Rattle.theory.specs.Lists.{some}
use Rattle.score.specs.declared.quantities.Pitch.{Pitch}
use Rattle.score.specs.Score.{pitches}
use Rattle.ways.specs.declared.way.Way.{Way}
use Rattle.ways.specs.declared.way.Way.TheVariants.{Exact, Octave}
use Rattle.ways.specs.Way.{holds}

-- the number that has these halves: the lower 64 bits, and those above
unfoldable pub value : (low high : ℕ) → ℕ
value low high = high * 2 ^ 64 + low

-- how many bits are used: one for each pitch, or for each class
abbrev pub width : Way → ℕ
width Exact = 128
width Octave = 12

-- ---- the word of a column

-- the column has this pitch, or a pitch of this class
abbrev pub has : Way → (column : List ℕ) → ℕ → Bool
has Exact column i = some (λ t. eqb t.0 i) (pitches column)
has Octave column i = some (λ t. eqb (t.0 % 12) i) (pitches column)

unfoldable pub column_word : Way → (column : List ℕ) → ℕ
column_word way column = number (width way) (λ i. cond (has way column i) 1 0)

-- ---- the starts at which a column holds a note

-- the code of the start at bit 0, for a theme that begins with `first`; bit i is the start i codes on. In exact bit i is then the start that
-- moves the first note to the pitch i, in octave the shift i
abbrev pub low_code : Way → (first : Pitch) → ℕ
low_code Exact first = 127 - first.0
low_code Octave first = 0

unfoldable pub held_word : Way → (first p : Pitch) (column : List ℕ) → ℕ
held_word way first p column = number (width way) (λ i. cond (holds way (low_code way first + i) p column) 1 0)

-- every start there may be
unfoldable pub all_starts : Way → ℕ
all_starts way = 2 ^ width way - 1

-- ---- a word moved

-- twelve bits turned down by d: what falls out below comes in above
unfoldable pub turned_word : (d x : ℕ) → ℕ
turned_word d x = bit_or (x / 2 ^ d) (x * 2 ^ (12 - d)) % 2 ^ 12

-- 128 bits moved by the distance of a note from the first note: bit i is the one that far above, and 0 where there is none
unfoldable pub shifted_word : (first p x : ℕ) → ℕ
shifted_word first p x = number 128 (λ i. cond (leb first (i + p)) (bit x (i + p - first)) 0)

abbrev pub moved_word : Way → (first p : Pitch) (x : ℕ) → ℕ
moved_word Exact first p x = shifted_word first.0 p.0 x
moved_word Octave first p x = turned_word (p.0 % 12) x
