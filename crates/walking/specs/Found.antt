-- What a walk finds: its whole answer, and what every lent buffer holds afterwards: `PlainWalks` and `QuickWalks`. A refused
-- walk writes nothing. Assumes nothing.
use Rattle.std.specs.Prelude.{◌≡◌, List, map, ℕ, ℤ, length, Result, Ok, Err}
use Rattle.theory.specs.Lists.{over}
use Rattle.theory.specs.Pages.{page_hits, page_looks, from}
use Rattle.score.specs.Score.{score_of}
use Rattle.score.specs.Refusals.{Row, judge}
use Rattle.ways.specs.declared.way.Way.{Way}
use Rattle.ways.specs.declared.way.AnyWay.TheVariants.{Moved}
use Rattle.ways.specs.declared.bookmark.Bookmark.{Bookmark}
use Rattle.ways.specs.Way.{shift_of}
use Rattle.ways.specs.Bookmarks.{key_of}
use Rattle.asking.specs.Refusals.{plain_rows, quick_rows}
use Rattle.filter.specs.Limits.{word_bits}
use Rattle.filter.specs.Table.{theme_table}
use Rattle.walking.specs.Starts.{Place, key, starts, hit, looks}
use Rattle.walking.specs.Candidates.{quick_starts}
use Rattle.score.specs.declared.refusals.Refusal.{Refusal}
use Rattle.walking.specs.declared.walked.Walked.{Walked}

-- the columns and the shifts of places, as the buffers hold them
abbrev pub columns_of : List Place → List ℕ
columns_of places = map (λ s. s.column) places

abbrev pub shifts_of : Way → List Place → List ℤ
shifts_of way places = map (λ s. shift_of way s.code) places

-- the walk of a search that reaches these starts
module _ (way : Way) (score : List (List ℕ)) (theme : List ℕ) (reached : List Place) (b : Bookmark) (columns : List ℕ) (shifts : List ℤ) where
  -- the first r pairs at or after the bookmark, and the looks of every start up to the one that fills the page
  abbrev pub found : List Place
  found = page_hits (hit way score theme) (length columns) (from key (key_of way b) reached)

  abbrev pub spent : ℕ
  spent = page_looks (hit way score theme) (looks way score theme) (length columns) (from key (key_of way b) reached)

  -- how far it came
  abbrev pub walked : Result Walked Refusal
  walked = Ok (record { found = length found; looks = spent })

-- what a walk promises that is judged by these rows: where one applies it is refused, and writes nothing; otherwise it writes
-- what it finds from the front, and places behind keep their contents
module _ (rows : List Row) (way : Way) (score : List (List ℕ)) (theme : List ℕ) (reached : List Place) (b : Bookmark) (columns : List ℕ) (shifts : List ℤ) where
  pub record Finds (answer : Result Walked Refusal) (columns' : List ℕ) (shifts' : List ℤ) : Type 0 where
    pub answers : answer ≡ judge rows Err (walked way score theme reached b columns shifts)
    pub writes_columns : columns' ≡ judge rows (λ r. columns) (over columns (columns_of (found way score theme reached b columns shifts)))
    pub writes_shifts : shifts' ≡ judge rows (λ r. shifts) (over shifts (shifts_of way (found way score theme reached b columns shifts)))

-- the plain way reaches every start: refusals 1 to 5, 9, 10
abbrev pub PlainWalks : (cells : List ℕ) (h : ℕ) (theme : List ℕ) → Way → Bookmark → (columns : List ℕ) (shifts : List ℤ)
    → (answer : Result Walked Refusal) (columns' : List ℕ) (shifts' : List ℤ) → Type 0
PlainWalks cells h theme way b columns shifts =
    Finds (plain_rows cells h theme (Moved way) b columns shifts) way (score_of cells h) theme (starts way (score_of cells h) theme) b columns shifts

-- the quick way reaches the starts at candidates: refusals 1 to 10; an accepted walk leaves the theme's table
pub record QuickWalks (cells : List ℕ) (h : ℕ) (theme : List ℕ) (way : Way) (b : Bookmark) (sets table columns : List ℕ) (shifts : List ℤ)
    (answer : Result Walked Refusal) (table' columns' : List ℕ) (shifts' : List ℤ) : Type 0 where
  pub finds : Finds (quick_rows cells h theme way b sets table columns shifts) way (score_of cells h) theme
      (quick_starts word_bits way (score_of cells h) theme (theme_table word_bits theme) sets) b columns shifts answer columns' shifts'
  pub fills_table : table' ≡ judge (quick_rows cells h theme way b sets table columns shifts) (λ r. table) (theme_table word_bits theme)
