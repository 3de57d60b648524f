-- The answer of a page as it is read off the buffers. Assumes nothing.
use Rattle.std.specs.Prelude.{Bool, cond, ◌||◌, ℕ, ◌-◌, ltb, eqb, pos, length, get_or}
use Rattle.score.specs.Score.{column_at}
use Rattle.ways.specs.declared.bookmark.Bookmark.{Bookmark}
use Rattle.ways.specs.Bookmarks.{after_pair}
use Rattle.paging.specs.declared.page.Turn.{Turn}
use Rattle.paging.specs.Lent.{Lent}

-- so many columns and shifts have room left after so many pairs; those that no page can fill always have
unfoldable pub unfilled : (found columns shifts : ℕ) → Bool
unfilled found columns shifts = ltb found columns || eqb columns 0 || ltb shifts columns

-- the buffers have room left after so many pairs
abbrev pub room_left : (found : ℕ) → Lent → Bool
room_left found buffers = unfilled found (length buffers.columns) (length buffers.shifts)

-- a full page goes on after the last pair in the buffers, and another is finished
abbrev pub read_turn : (end : Bookmark) (found spent : ℕ) → Lent → Turn
read_turn end found spent buffers =
    let at = length buffers.columns - 1 in
    record {
      written = found;
      next =
          cond (room_left found buffers) end
          (after_pair (record { column = column_at (get_or buffers.columns at 0); shift = get_or buffers.shifts at (pos 0) }));
      finished = room_left found buffers;
      looks = spent;
    }
