-- Reading from the front of a text: a word, a number, a cell. What is read stands for a value and for what is left of the text.
-- The definitions that matter are `begins` and `cell`. Assumes nothing.
use Rattle.std.specs.Prelude.{Bool, true, false, cond, ◌&&◌, List, [], ◌∷◌, ℕ, ◌+◌, ◌-◌, ◌*◌, leb, eqb, get_or, drop}
use Rattle.score.specs.Limits.{highest_pitch, rest_cell}

-- a value and what is left of the text; or bad text
pub data Read (A : Type 0) : Type 0 where
  got : A → List ℕ → Read A
  bad : Read A

-- what comes next, of the value and of what is left
abbrev pub next : {A B : Type 0} → Read A → (A → List ℕ → Read B) → Read B
next (got a rest) f = f a rest
next bad f = bad

-- the byte at the front; 0, which stands in no right text, at the end of the text
abbrev pub front : List ℕ → ℕ
front text = get_or text 0 0

abbrev pub begins : (word : List ℕ) → List ℕ → Bool
begins [] text = true
begins (w ∷ word) [] = false
begins (w ∷ word) (b ∷ text) = cond (eqb w b) (begins word text) false

abbrev pub is_digit : ℕ → Bool
is_digit b = leb 48 b && leb b 57

-- one digit more, where there is one and the number stays 127 or less
unfoldable pub more_digits : (v : ℕ) → List ℕ → Read ℕ
more_digits v text =
    cond (is_digit (front text) && leb (v * 10 + (front text - 48)) highest_pitch) (got (v * 10 + (front text - 48)) (drop 1 text)) (got v text)

-- a number 0 to 127. A 0 has no digit behind it
unfoldable pub number : List ℕ → Read ℕ
number text =
    cond (is_digit (front text))
    (cond (eqb (front text) 48) (got 0 (drop 1 text)) (next (more_digits (front text - 48) (drop 1 text)) more_digits)) bad

-- a cell or a note: a number, or `-`, which is 255, where rests may stand
unfoldable pub cell : (rests : Bool) → List ℕ → Read ℕ
cell rests text = cond (rests && eqb (front text) 45) (got rest_cell (drop 1 text)) (number text)
