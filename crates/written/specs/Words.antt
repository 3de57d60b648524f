-- What the inner functions of the words promise: the theme's word for some cells, and a look-up that has it for each byte.
-- Assumes nothing.
use Rattle.std.specs.Prelude.{◌≡◌, cond, ◌&&◌, List, [], ◌∷◌, ℕ, ◌*◌, ◌<◌, ltb, eqb, length, get_or, take, drop}
use Rattle.theory.specs.Lists.{some}
use Rattle.theory.specs.Bits.{number}
use Rattle.filter.specs.Limits.{word_bits}

-- the word of w bits for cells: bit i is 0 exactly where note i + 1 of the theme is one of them. Of no cells it is all ones
unfoldable pub cells_word : (w : ℕ) (theme cells : List ℕ) → ℕ
cells_word w theme cells = number w (λ i. cond (ltb i (length theme) && some (λ c. eqb c (get_or theme i 0)) cells) 0 1)

-- the word of the column after k others
abbrev pub word_at : (w : ℕ) (cells : List ℕ) (h : ℕ) (theme : List ℕ) (k : ℕ) → ℕ
word_at w cells h theme k = cells_word w theme (take h (drop (k * h) cells))

-- how many bytes there are
abbrev pub bytes : ℕ
bytes = 256

-- the word of every byte by itself
pub record Words (theme words : List ℕ) : Type 0 where
  pub long : length words ≡ bytes
  pub each : (cell : ℕ) → cell < bytes → get_or words cell 0 ≡ cells_word word_bits theme (cell ∷ [])
