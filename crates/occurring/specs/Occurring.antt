-- Does a theme occur at all? The whole answer, and what the lent table holds afterwards: `Occurs`. It is a yes exactly when the
-- quick list by the lent sets is not empty (`by_list` of `quick_list`). Refusals 1 to 8 and then 12; a refused question writes
-- nothing. `lacking` says when the summary alone settles it. Assumes nothing.
use Rattle.std.specs.Prelude.{◌≡◌, Bool, cond, not, List, [], ◌∷◌, ◌++◌, ℕ, ◌-◌, eqb, length, Result, Ok, Err, true, false}
use Rattle.theory.specs.Bits.{bit}
use Rattle.theory.specs.Lists.{some, count}
use Rattle.score.specs.Score.{score_of}
use Rattle.score.specs.Refusals.{Row, row, judge}
use Rattle.summing.specs.declared.summary.Summary.{Summary}
use Rattle.summing.specs.Summary.{summary as summaryIn}
use Rattle.ways.specs.declared.way.Way.{Way}
use Rattle.ways.specs.declared.bookmark.Pair.{Pair}
use Rattle.asking.specs.Refusals.{with_sets_rows}
use Rattle.filter.specs.Limits.{word_bits}
use Rattle.filter.specs.Table.{theme_interval, theme_table}
use Rattle.paging.specs.Search.{listed}
use Rattle.search.specs.Pairs.{quick_search}
use Rattle.score.specs.declared.refusals.Rule.TheVariants as rule
use Rattle.score.specs.declared.refusals.Refusal.{Refusal}

-- the theme has an interval that the summary lacks: the summary's bit for it is 1
abbrev pub lacking : (theme : List ℕ) (summary : ℕ) → Bool
lacking theme summary = some (λ i. eqb (bit summary (theme_interval theme i).0) 1) (count 0 (length theme - 1))

-- the whole quick list by the lent sets: the pairs at the columns that they make candidates
abbrev pub quick_list : Way → (score : List (List ℕ)) (theme sets : List ℕ) → List Pair
quick_list way score theme sets = listed (quick_search word_bits way score theme (theme_table word_bits theme) sets)

-- what a list says: a yes where there is a pair
abbrev pub by_list : List Pair → Result Bool Refusal
by_list [] = Ok false
by_list (pair ∷ pairs) = Ok true

-- ---- what is turned away

-- 12: the lent summary is not that of the lent sets
abbrev pub row12 : (sets : List ℕ) → Summary → Row
row12 sets summary = row rule.Summary (not (eqb (summaryIn sets) summary.0)) 0

-- 1 to 8, 12, in this order
abbrev pub occurs_rows : (cells : List ℕ) (h : ℕ) (theme sets : List ℕ) → Summary → (table : List ℕ) → List Row
occurs_rows cells h theme sets summary table = with_sets_rows cells h theme sets (length table) ++ row12 sets summary ∷ []

-- ---- what the call promises

-- by these rows: this answer, and this table, which an accepted question always fills
pub record OccursBy (rows : List Row) (cells : List ℕ) (h : ℕ) (theme : List ℕ) (way : Way) (sets table : List ℕ)
    (answer : Result Bool Refusal) (table' : List ℕ) : Type 0 where
  pub answers : answer ≡ judge rows Err (by_list (quick_list way (score_of cells h) theme sets))
  pub fills_table : table' ≡ judge rows (λ r. table) (theme_table word_bits theme)

abbrev pub Occurs : (cells : List ℕ) (h : ℕ) (theme : List ℕ) → Way → (sets : List ℕ) → Summary → (table : List ℕ)
    → (answer : Result Bool Refusal) (table' : List ℕ) → Type 0
Occurs cells h theme way sets summary table = OccursBy (occurs_rows cells h theme sets summary table) cells h theme way sets table
