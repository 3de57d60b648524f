-- What the theorems about whole calls name: the looks of a whole list and their bound, and the pairs at candidates. The
-- theorems are in `proofs/WholeLists`. Assumes nothing.
use Rattle.std.specs.Prelude.{List, ℕ, ◌+◌, ◌-◌, ◌*◌, length}
use Rattle.theory.specs.Pages.{hits}
use Rattle.score.specs.Score.{score_of, heard_of, rank_of}
use Rattle.ways.specs.declared.way.Way.{Way}
use Rattle.ways.specs.declared.way.AnyWay.{AnyWay}
use Rattle.ways.specs.declared.bookmark.Pair.{Pair}
use Rattle.filter.specs.Limits.{word_bits}
use Rattle.filter.specs.Table.{theme_table}
use Rattle.paging.specs.Search.{all_looks}
use Rattle.search.specs.Pairs.{search_as, candidate_of, quick_search, pairs}

-- the looks of a whole list: plain, of any way, and quick with these sets
abbrev pub plain_looks : AnyWay → (score : List (List ℕ)) (theme : List ℕ) → ℕ
plain_looks way score theme = all_looks (search_as way score theme)

abbrev pub candidate_looks : Way → (score : List (List ℕ)) (theme sets : List ℕ) → ℕ
candidate_looks way score theme sets = all_looks (quick_search word_bits way score theme (theme_table word_bits theme) sets)

-- the most looks of a whole list: (q - m + 1) * h * (m - 1) where m <= q, else 0, with q columns that have a pitch
abbrev pub most_looks : (cells : List ℕ) (h : ℕ) (theme : List ℕ) → ℕ
most_looks cells h theme = (length (heard_of (score_of cells h)) + 1 - length theme) * h * (length theme - 1)

-- the pairs whose column the sets make a candidate
abbrev pub candidate_pairs : Way → (score : List (List ℕ)) (theme sets : List ℕ) → List Pair
candidate_pairs way score theme sets =
    hits (λ pair. candidate_of word_bits score (theme_table word_bits theme) sets (length theme) (rank_of score pair.column)) (pairs way score theme)
