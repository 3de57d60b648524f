-- What is written of a column's hits: their codes, which become shifts, each with the column's number, from a place on. `Puts` of
-- what is `fitting` settles both calls: the place behind, and both buffers. Assumes nothing.
use Rattle.std.specs.Prelude.{◌≡◌, Bool, ◌&&◌, cond, List, [], ◌∷◌, map, ℕ, ◌+◌, leb, ℤ, length}
use Rattle.std.proofs.lemmas.List.Edits.{sets as stored}
use Rattle.theory.specs.Marks.{marks}
use Rattle.score.specs.declared.quantities.Pitch.{Pitch}
use Rattle.ways.specs.declared.way.Way.{Way}
use Rattle.ways.specs.Way.{shift_of}
use Rattle.masks.specs.Masks.{low_code}

-- ---- the codes

-- the codes that a word of starts marks
abbrev pub codes_of : Way → (first : Pitch) → (word : ℕ) → List ℕ
codes_of way first word = marks 128 (low_code way first) word

-- a first note that is no pitch has none
abbrev pub word_codes : Way → (first : Pitch) → (word : ℕ) → List ℕ
word_codes way first word = cond (leb first.0 127) (codes_of way first word) []

-- the code of one start: none where it is no hit, or where the code is above 255
abbrev pub start_codes : (hit : Bool) (code : ℕ) → List ℕ
start_codes hit code = cond (hit && leb code 255) (code ∷ []) []

-- ---- what is written

-- the codes, where both buffers have room for all of them from a place on; otherwise none
unfoldable pub fitting : (codes : List ℕ) (at : ℕ) (columns : List ℕ) (shifts : List ℤ) → List ℕ
fitting codes at columns shifts = cond (leb (at + length codes) (length columns) && leb (at + length codes) (length shifts)) codes []

-- these codes are written from a place on, each with the column's number
pub record Puts (way : Way) (j : ℕ) (written : List ℕ) (at : ℕ) (columns : List ℕ) (shifts : List ℤ) (at' : ℕ) (columns' : List ℕ) (shifts' : List ℤ) : Type 0 where
  pub count : at' ≡ at + length written
  pub in_columns : columns' ≡ stored columns at (map (λ c. j) written)
  pub in_shifts : shifts' ≡ stored shifts at (map (shift_of way) written)
