-- Bookmarks: the first, the one after a pair, the finished one. Assumes nothing.
use Rattle.std.specs.Prelude.{cond, ℕ, ◌+◌, ◌*◌, ltb, pos, ◌+ℤ◌}
use Rattle.std.specs.Int.Signed.{lt_z}
use Rattle.score.specs.declared.quantities.Column.{Column}
use Rattle.score.specs.Score.{column_at}
use Rattle.ways.specs.declared.way.Way.{Way}
use Rattle.ways.specs.declared.bookmark.Pair.{Pair}
use Rattle.ways.specs.declared.bookmark.Bookmark.{Bookmark}
use Rattle.ways.specs.Way.{Range, code_of}

-- (1, lowest shift): (1, -127), or (1, 0) for octave and written
abbrev pub first_bookmark : Range → Bookmark
first_bookmark range = record { column = column_at 1; shift = range.lowest }

-- the pair with its shift raised by one. The highest number of 16 bits stays
abbrev pub after_pair : Pair → Bookmark
after_pair pair = record { column = pair.column; shift = cond (lt_z pair.shift (pos 32767)) (pair.shift +ℤ pos 1) (pos 32767) }

-- (n + 1, lowest shift), where n is the last column. The highest number of 16 bits stays
abbrev pub finished_bookmark : Range → Column → Bookmark
finished_bookmark range n = record { column = column_at (cond (ltb n.0 65535) (n.0 + 1) 65535); shift = range.lowest }

-- where the bookmark stands among the places (`key` of `walking`)
abbrev pub key_of : Way → Bookmark → ℕ
key_of way b = b.column.0 * 256 + code_of way b.shift
