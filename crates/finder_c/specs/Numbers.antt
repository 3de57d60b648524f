-- Answers in numbers: a way is 0, 1 or 2, an accepted call is 0, and a refusal is its number + 256 * its place. The definitions
-- that matter are `single_numbers`, the one place of an answer of one number, and `page_numbers`, the five places of a page's.
-- Assumes nothing.
use Rattle.std.specs.Prelude.{Bool, cond, not, ◌||◌, List, [], ◌∷◌, ℕ, ◌+◌, ◌*◌, eqb, ltb, ℤ, pos, Result, Ok, Err}
use Rattle.score.specs.declared.refusals.Refusal.{Refusal}
use Rattle.score.specs.Refusals.{number_of}
use Rattle.ways.specs.declared.way.Way.{Way}
use Rattle.ways.specs.declared.way.AnyWay.{AnyWay}
use Rattle.ways.specs.declared.way.AnyWay.TheVariants.{Moved, Written}
use Rattle.ways.specs.declared.way.Way.TheVariants.{Exact, Octave}
use Rattle.paging.specs.declared.page.Turn.{Turn}
use Rattle.finder_c.specs.Limits.{written, place_weight}

-- 0 exact, 1 octave
abbrev pub way_of : ℕ → Way
way_of way = cond (eqb way 0) Exact Octave

-- and 2 written
abbrev pub any_way_of : ℕ → AnyWay
any_way_of way = cond (ltb way written) (Moved (way_of way)) Written

-- the lent answer has not as many places as a call writes numbers: the result is 255
abbrev pub no_answer : (numbers len : ℕ) → Bool
no_answer numbers len = not (eqb len numbers)

-- of a call of a way also where the number is above the highest way of the call
abbrev pub no_call : (highest way numbers len : ℕ) → Bool
no_call highest way numbers len = ltb highest way || no_answer numbers len

abbrev pub refusal_number : Refusal → ℤ
refusal_number r = pos (number_of r.rule + place_weight * r.place)

-- ---- an answer of one number

abbrev pub single_number : Result ℕ Refusal → ℤ
single_number (Ok n) = pos 0
single_number (Err r) = refusal_number r

-- what the lent answer holds after a call: a refused one writes nothing
abbrev pub single_numbers : Result ℕ Refusal → (answer : List ℤ) → List ℤ
single_numbers (Ok n) answer = pos n ∷ []
single_numbers (Err r) answer = answer

-- ---- a page

abbrev pub page_number : Result Turn Refusal → ℤ
page_number (Ok t) = pos 0
page_number (Err r) = refusal_number r

-- written, next column, next shift, finished (0 or 1), looks
abbrev pub turn_numbers : Turn → List ℤ
turn_numbers t = pos t.written ∷ pos t.next.column.0 ∷ t.next.shift ∷ pos (cond t.finished 1 0) ∷ pos t.looks ∷ []

-- and the same of a page
abbrev pub page_numbers : Result Turn Refusal → (answer : List ℤ) → List ℤ
page_numbers (Ok t) answer = turn_numbers t
page_numbers (Err r) answer = answer
