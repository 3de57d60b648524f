-- What is kept of a score without its empty columns, and what goes by the numbers of the columns that are kept: `TakesOut`,
-- `KeepsSets`, `Renames`. Assumes nothing.
use Rattle.std.specs.Prelude.{◌≡◌, Bool, cond, ◌&&◌, List, [], map, ℕ, ◌-◌, leb, ltb, length, get_or, take}
use Rattle.theory.specs.Lists.{over, join}
use Rattle.score.specs.Limits.{highest_pitch, most_columns}
use Rattle.score.specs.Score.{columns_in, score_of, heard_of, heard_from}

-- the first two cells are no pitch: so begins an empty column of several tracks
abbrev pub rests_first : (cells : List ℕ) → Bool
rests_first cells = ltb highest_pitch (get_or cells 0 0) && ltb highest_pitch (get_or cells 1 0)

-- there is room for all cells and for the numbers of all columns, and they are not too many
abbrev pub has_room : (cells : List ℕ) (h : ℕ) (kept numbers : List ℕ) → Bool
has_room cells h kept numbers =
    leb (length cells) (length kept) && leb (columns_in cells h) (length numbers) && leb (columns_in cells h) most_columns

-- where there is, the columns with a pitch and their numbers
module _ (cells : List ℕ) (h : ℕ) (kept numbers : List ℕ) where
  abbrev pub kept_columns : List (List ℕ)
  kept_columns = cond (has_room cells h kept numbers) (heard_of (score_of cells h)) []

  abbrev pub kept_numbers : List ℕ
  kept_numbers = cond (has_room cells h kept numbers) (heard_from 1 (score_of cells h)) []

  -- they are written from the front, and counted
  pub record TakesOut (count : ℕ) (kept' numbers' : List ℕ) : Type 0 where
    pub counted : count ≡ length kept_numbers
    pub cells_kept : kept' ≡ over kept (join kept_columns)
    pub numbered : numbers' ≡ over numbers kept_numbers

-- ---- by numbers

-- what stands at a number, from 1; 0 where there is nothing
abbrev pub entry_at : (entries : List ℕ) → ℕ → ℕ
entry_at entries number = get_or entries (number - 1) 0

-- the entries at the numbers, from the front, as many as have room
pub record KeepsSets (sets numbers kept kept' : List ℕ) : Type 0 where
  pub entries : kept' ≡ over kept (take (length kept) (map (entry_at sets) numbers))

-- the first columns under their other numbers
pub record Renames (columns : List ℕ) (many : ℕ) (numbers columns' : List ℕ) : Type 0 where
  pub renamed : columns' ≡ over columns (map (entry_at numbers) (take many columns))
