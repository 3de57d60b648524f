-- The searches, plain and quick, and the list of all pairs, by rising column and then rising shift. A search goes along the
-- columns with a pitch, which have numbers of their own there (`Place`), and shows its pairs under the numbers that the columns
-- have in the score. That the list holds exactly the pairs of `Definition`, each once and in order, is proved (`proofs/Listed`).
-- Assumes nothing.
use Rattle.std.specs.Prelude.{Bool, List, map, ℕ, ◌-◌, length, get_or, take}
use Rattle.score.specs.Score.{column_at, heard_of, heard_from, number_of}
use Rattle.ways.specs.declared.way.Way.{Way}
use Rattle.ways.specs.declared.way.AnyWay.{AnyWay}
use Rattle.ways.specs.declared.way.AnyWay.TheVariants.{Moved, Written}
use Rattle.ways.specs.declared.bookmark.Pair.{Pair}
use Rattle.ways.specs.Way.{shift_of, range_of, range_as}
use Rattle.paging.specs.Search.{Search, only, renumbered, listed}
use Rattle.walking.specs.Starts.{Place, starts, hit, looks}
use Rattle.walking.specs.Candidates.{candidate}
use Rattle.written.specs.Written.{written_search}

-- ---- along columns, one after another

-- the pair at a place
abbrev pub pair_at : Way → Place → Pair
pair_at way s = record { column = column_at s.column; shift = shift_of way s.code }

-- a way that moves the theme reaches every start
abbrev pub along_search : Way → (columns : List (List ℕ)) (theme : List ℕ) → Search Place
along_search way columns theme =
    record {
      columns = length columns;
      range = range_of way;
      starts = starts way columns theme;
      hit = hit way columns theme;
      looks = looks way columns theme;
      shown = pair_at way;
    }

-- what a start is: a column and a code, or, of the tune as it is written, a column
abbrev pub StartAs : AnyWay → Type 0
StartAs (Moved way) = Place
StartAs Written = ℕ

-- of each way
abbrev by_way : (way : AnyWay) (columns : List (List ℕ)) (theme : List ℕ) → Search (StartAs way)
by_way (Moved way) columns theme = along_search way columns theme
by_way Written columns theme = written_search columns theme

-- the same, with the columns and the way's range said for all ways alike
abbrev pub along_as : (way : AnyWay) (columns : List (List ℕ)) (theme : List ℕ) → Search (StartAs way)
along_as way columns theme =
    let S = by_way way columns theme in
    record { columns = length columns; range = range_as way; starts = S.starts; hit = S.hit; looks = S.looks; shown = S.shown }

-- ---- in a score: along its columns with a pitch, under the numbers of the score

abbrev pub in_score : {Start : Type 0} → (score : List (List ℕ)) → Search Start → Search Start
in_score score S = renumbered (length score) (number_of score) S

-- the plain search of a way that moves the theme
abbrev pub plain_search : Way → (score : List (List ℕ)) (theme : List ℕ) → Search Place
plain_search way score theme = in_score score (along_search way (heard_of score) theme)

-- the entries of the columns with a pitch, but for the last of them: what stands there decides no column from which the theme
-- has room. What stands at an empty column is passed over with it
abbrev pub entries_of : (score : List (List ℕ)) (sets : List ℕ) → List ℕ
entries_of score sets = map (λ k. get_or sets (k - 1) 0) (take (length (heard_of score) - 1) (heard_from 1 score))

-- a table and sets make the i-th column with a pitch a candidate: words of any width, any table and any sets
abbrev pub candidate_of : (w : ℕ) (score : List (List ℕ)) (table sets : List ℕ) (m i : ℕ) → Bool
candidate_of w score table sets m i = candidate w table (entries_of score sets) m i

-- the quick search reaches the starts at candidates
abbrev pub quick_search : (w : ℕ) → Way → (score : List (List ℕ)) (theme table sets : List ℕ) → Search Place
quick_search w way score theme table sets = only (λ s. candidate_of w score table sets (length theme) s.column) (plain_search way score theme)

-- all pairs
abbrev pub pairs : Way → (score : List (List ℕ)) (theme : List ℕ) → List Pair
pairs way score theme = listed (plain_search way score theme)

-- of all ways
abbrev pub search_as : (way : AnyWay) (score : List (List ℕ)) (theme : List ℕ) → Search (StartAs way)
search_as way score theme = in_score score (along_as way (heard_of score) theme)

abbrev pub pairs_as : AnyWay → (score : List (List ℕ)) (theme : List ℕ) → List Pair
pairs_as way score theme = listed (search_as way score theme)
