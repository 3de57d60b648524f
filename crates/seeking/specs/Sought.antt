-- The columns in which the notes of a theme are sought: the columns themselves, as `onward` of `score` has them (`column_sought`), and
-- their numbers in the score. The definition that matters is `numbers_on`. Assumes nothing.
use Rattle.std.specs.Prelude.{List, [], ℕ, ◌+◌, ◌-◌, take, drop, get_or, replicate}
use Rattle.theory.specs.Lists.{over}
use Rattle.score.specs.declared.quantities.Column.{Column}
use Rattle.score.specs.Score.{heard_from, onward}
use Rattle.seeking.specs.Limits.{most_sought}

-- note i of a theme at column j is sought in the i-th column with a pitch from j on
abbrev pub column_sought : (score : List (List ℕ)) → Column → (i : ℕ) → List ℕ
column_sought score j i = get_or (onward score j) (i - 1) []

-- the numbers of the columns with a pitch behind the first k
abbrev pub numbers_behind : (score : List (List ℕ)) → ℕ → List ℕ
numbers_behind score k = heard_from (k + 1) (drop k score)

-- from column j on: the i-th of them is where the i-th note of a theme at column j is sought
abbrev pub numbers_on : (score : List (List ℕ)) → Column → List ℕ
numbers_on score j = numbers_behind score (j.0 - 1)

-- 64 places: the first of the numbers, and 0 behind the last
unfoldable pub sought_behind : (score : List (List ℕ)) → ℕ → List ℕ
sought_behind score k = over (replicate most_sought 0) (take most_sought (numbers_behind score k))

abbrev pub sought : (score : List (List ℕ)) → Column → List ℕ
sought score j = sought_behind score (j.0 - 1)
