-- How things are written: words, decimal numbers, fields with a tab before each, lines with a line feed behind. The
-- definitions that matter are `decimal` and `signed`. Assumes nothing.
use Rattle.std.specs.Prelude.{cond, List, [], ◌∷◌, ◌++◌, ℕ, zero, suc, ◌+◌, ◌/◌, ◌%◌, ltb, ℤ, pos, negsuc}

-- the words of the lines
abbrev pub hit_word : List ℕ
hit_word = 104 ∷ 105 ∷ 116 ∷ []

abbrev pub end_word : List ℕ
end_word = 101 ∷ 110 ∷ 100 ∷ []

abbrev pub refused_word : List ℕ
refused_word = 114 ∷ 101 ∷ 102 ∷ 117 ∷ 115 ∷ 101 ∷ 100 ∷ []

-- the digits of n, of which there are at most one more than `more`; none stands before the first that counts
unfoldable pub digits : (more n : ℕ) → List ℕ
digits zero n = (48 + n) ∷ []
digits (suc more) n = cond (ltb n 10) ((48 + n) ∷ []) (digits more (n / 10) ++ ((48 + n % 10) ∷ []))

-- a number in decimal; every number of 32 bits has at most ten digits
abbrev pub decimal : ℕ → List ℕ
decimal n = digits 9 n

-- the same with `-` before the digits of a negative one
abbrev pub signed : ℤ → List ℕ
signed (pos n) = decimal n
signed (negsuc n) = 45 ∷ decimal (suc n)

-- a field, with the tab before it
abbrev pub field : List ℕ → List ℕ
field text = 9 ∷ text

-- a line of a word and two fields
abbrev pub line : (word first second : List ℕ) → List ℕ
line word first second = word ++ (field first ++ (field second ++ (10 ∷ [])))
