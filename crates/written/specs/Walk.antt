-- What the walk asks for and leaves: the columns at which the theme stands, from one on, as many as there is room for. Assumes
-- nothing.
use Rattle.std.specs.Prelude.{◌≡◌, cond, List, map, ℕ, ◌+◌, ◌-◌, ◌*◌, ◌≤◌, ℤ, pos, length, get_or}
use Rattle.std.specs.Int.Signed.{lt_z}
use Rattle.theory.specs.Lists.{over, count}
use Rattle.theory.specs.Pages.{page_hits}
use Rattle.score.specs.Limits.{most_columns, highest_pitch}
use Rattle.score.specs.Score.{columns_in, score_of}
use Rattle.filter.specs.Limits.{word_bits}
use Rattle.written.specs.Written.{stands_at}

-- how many columns lie before the first pair to consider, which stands at column j with this shift, or later
abbrev pub passed : (j : ℕ) (shift : ℤ) → ℕ
passed j shift = cond (lt_z (pos 0) shift) j (j - 1)

-- an accepted score and theme, as far as the walk rests on it, and buffers of one length
pub record Walkable (cells : List ℕ) (h : ℕ) (theme : List ℕ) (from : ℕ) (columns : List ℕ) (shifts : List ℤ) : Type 0 where
  pub tracks : 1 ≤ h
  pub whole : columns_in cells h * h ≡ length cells
  pub columns_most : columns_in cells h ≤ most_columns
  pub notes : 2 ≤ length theme
  pub notes_most : length theme ≤ word_bits
  pub sung : (i : ℕ) → get_or theme i 0 ≤ highest_pitch
  pub same_room : length shifts ≡ length columns

-- the columns that a page shows: of those behind the first `from`, as many as have room
abbrev pub shown_from : (score : List (List ℕ)) (theme : List ℕ) (from r : ℕ) → List ℕ
shown_from score theme from r = page_hits (stands_at score theme) r (count (from + 1) (length score + 1 - (length theme + from)))

pub record ListsFrom (cells : List ℕ) (h : ℕ) (theme : List ℕ) (from : ℕ) (columns : List ℕ) (shifts : List ℤ)
    (found : ℕ) (columns' : List ℕ) (shifts' : List ℤ) : Type 0 where
  pub counted : found ≡ length (shown_from (score_of cells h) theme from (length columns))
  pub in_columns : columns' ≡ over columns (shown_from (score_of cells h) theme from (length columns))
  pub in_shifts : shifts' ≡ over shifts (map (λ j. pos 0) (shown_from (score_of cells h) theme from (length columns)))
