-- The definition: when the pair (j, c) stands for a theme p1..pm in a score. It is the published one and no method: `Stands`,
-- and `StandsAs` for all ways. Notes and columns are numbered from 1. Empty columns are passed over; of a score that has none
-- the same is said without them in `StandsNext`, and that both then mean the same is proved (`proofs/Full`). Assumes nothing.
use Rattle.std.specs.Prelude.{◌≡◌, true, List, [], ℕ, ◌+◌, ◌-◌, ◌≤◌, pos, length, get_or, ◌≤ℤ◌}
use Rattle.score.specs.Score.{column_at, column, heard, onward, note}
use Rattle.ways.specs.declared.way.Way.{Way}
use Rattle.ways.specs.declared.way.Way.TheVariants.{Exact}
use Rattle.ways.specs.declared.way.AnyWay.{AnyWay}
use Rattle.ways.specs.declared.way.AnyWay.TheVariants.{Moved, Written}
use Rattle.ways.specs.declared.bookmark.Pair.{Pair}
use Rattle.ways.specs.Way.{Holds, lowest, highest}

-- column j has a pitch; from it on there are m columns with a pitch at least; c is a shift of the way; and for each i from 1 to
-- m the i-th of those columns, of which column j is the first, holds the i-th note moved by c. Each note may come from any track
pub record Stands (way : Way) (score : List (List ℕ)) (theme : List ℕ) (pair : Pair) : Type 0 where
  pub from_first : 1 ≤ pair.column.0
  pub with_pitch : heard (column score pair.column) ≡ true
  pub to_last : length theme ≤ length (onward score pair.column)
  pub not_below : lowest way ≤ℤ pair.shift
  pub not_above : pair.shift ≤ℤ highest way
  pub each_note : (i : ℕ) → 1 ≤ i → i ≤ length theme → Holds way (get_or (onward score pair.column) (i - 1) []) (note theme i) pair.shift

-- all ways: a written pair is an exact one with shift 0
abbrev pub StandsAs : AnyWay → (score : List (List ℕ)) (theme : List ℕ) → Pair → Type 0
StandsAs (Moved way) score theme pair = Stands way score theme pair
StandsAs Written score theme pair = Stands Exact score theme pair × (pair.shift ≡ pos 0)

-- where no column is empty: 1 <= j <= n - m + 1, c is a shift of the way, and column j + i - 1 holds the i-th note moved by c
pub record StandsNext (way : Way) (score : List (List ℕ)) (theme : List ℕ) (pair : Pair) : Type 0 where
  pub from_first : 1 ≤ pair.column.0
  pub to_last : pair.column.0 + length theme ≤ length score + 1
  pub not_below : lowest way ≤ℤ pair.shift
  pub not_above : pair.shift ≤ℤ highest way
  pub each_note : (i : ℕ) → 1 ≤ i → i ≤ length theme
      → Holds way (column score (column_at (pair.column.0 + i - 1))) (note theme i) pair.shift
