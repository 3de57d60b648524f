-- How an answer is told in numbers, each a constant of the code, in `src/limits`, by the same name. Assumes nothing.
use Rattle.std.specs.Prelude.{ℕ}

-- the numbers of ways: those of the plain page and the route go up to written, those of the quick page, the question and the
-- explanation to octave
abbrev pub octave : ℕ
octave = 1

abbrev pub written : ℕ
written = 2

-- how many numbers the answer of a page has
abbrev pub answer_numbers : ℕ
answer_numbers = 5

-- how many numbers the answer of a preparation, an update, the question or a route has
abbrev pub one_number : ℕ
one_number = 1

-- how many numbers an explanation has: five in front, and a track for each of 64 notes
abbrev pub explain_numbers : ℕ
explain_numbers = 69

-- what a refusal's place is multiplied by, to stand above its number
abbrev pub place_weight : ℕ
place_weight = 256

-- the result where there was no call
abbrev pub not_called : ℕ
not_called = 255
