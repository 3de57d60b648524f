-- The theme table, over any width of its words, and what a table holds after it was filled. The definition that matters is
-- `theme_table`. Assumes nothing.
use Rattle.std.specs.Prelude.{ℕ, ◌+◌, cond, List, map, length, ◌==◌, nat_le}
use Rattle.theory.specs.Bits.{bit, number}
use Rattle.theory.specs.Lists.{count}
use Rattle.score.specs.Limits.{table_words}
use Rattle.score.specs.declared.quantities.Interval.{Interval}
use Rattle.score.specs.Score.{note}
use Rattle.score.specs.Sets.{interval}

-- the interval from note i + 1 to note i + 2 of the theme, mod 12; there are m - 1 of them, from i = 0
abbrev pub theme_interval : (theme : List ℕ) → ℕ → Interval
theme_interval theme i = interval (note theme (i + 1)) (note theme (i + 2))

-- the table's word of w bits for a set: bit i (0 <= i <= m - 2) is the set's bit for interval i of the theme, and the others are 1
unfoldable pub word : (w : ℕ) (theme : List ℕ) (set : ℕ) → ℕ
word w theme set = number w (λ i. cond (nat_le (i + 2) (length theme)) (bit set (theme_interval theme i).0) 1)

-- 4,096 words, entry l for the set l
unfoldable pub theme_table : (w : ℕ) (theme : List ℕ) → List ℕ
theme_table w theme = map (word w theme) (count 0 table_words)

-- a lent table after it was filled: the theme's, or what it was where the theme has no note or the table not 4,096 entries
abbrev pub table_after : (w : ℕ) (theme table : List ℕ) → List ℕ
table_after w theme table = cond (length theme == 0) table (cond (length table == table_words) (theme_table w theme) table)
