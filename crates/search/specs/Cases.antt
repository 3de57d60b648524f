-- The worked cases, as one table: a question, and what is said of it. `made` asks the definitions the same question, and
-- that every row comes out as it stands is one theorem (`proofs/Worked`). `negsuc 126` is -127. Assumes nothing.
use Rattle.std.specs.Prelude.{Bool, true, false, cond, List, [], ◌∷◌, map, ℕ, zero, suc, ◌+◌, ◌-◌, ℤ, pos, negsuc, length, replicate, Result, Ok, Err}
use Rattle.theory.specs.Lists.{count}
use Rattle.theory.specs.Pages.{hits}
use Rattle.score.specs.Score.{column_at, score_of, heard_of, number_of}
use Rattle.score.specs.Sets.{sets as setsOf}
use Rattle.ways.specs.declared.way.Way.{Way}
use Rattle.ways.specs.declared.way.AnyWay.{AnyWay}
use Rattle.ways.specs.declared.way.AnyWay.TheVariants.{Moved, Written}
use Rattle.ways.specs.Way.{range_of, range_as}
use Rattle.ways.specs.declared.way.Way.TheVariants.{Exact, Octave}
use Rattle.ways.specs.declared.bookmark.Pair.{Pair}
use Rattle.ways.specs.declared.bookmark.Bookmark.{Bookmark}
use Rattle.paging.specs.Lent.{Lent, lent, read_pairs}
use Rattle.paging.specs.Page.{Leaf}
use Rattle.filter.specs.Limits.{word_bits}
use Rattle.filter.specs.Table.{theme_table}
use Rattle.ways.specs.Bookmarks.{first_bookmark}
use Rattle.search.specs.Pairs.{candidate_of}
use Rattle.search.specs.Page.{plain_page, quick_page}
use Rattle.paging.specs.declared.page.Turn.{Turn}
use Rattle.score.specs.declared.refusals.Refusal.{Refusal}

-- a page as it is read: its pairs, the next bookmark, whether it is finished, its looks
pub record Shown : Type 0 where
  pub pairs : List Pair
  pub next : Bookmark
  pub finished : Bool
  pub looks : ℕ

abbrev page : List Pair → Bookmark → Bool → ℕ → Shown
page pairs next finished looks = record { pairs = pairs; next = next; finished = finished; looks = looks }

abbrev at : ℕ → ℤ → Pair
at j c = record { column = column_at j; shift = c }

abbrev mark : ℕ → ℤ → Bookmark
mark j c = record { column = column_at j; shift = c }

-- the question: score, theme, way and room; the answers: the score's sets, the candidates that they make, the plain
-- pages up to the first that is finished (of three at most), and the looks of each quick page, where the way has one
pub record Case : Type 0 where
  pub cells : List ℕ
  pub tracks : ℕ
  pub theme : List ℕ
  pub way : AnyWay
  pub room : ℕ
  pub sets : List ℕ
  pub candidates : List ℕ
  pub pages : List Shown
  pub quick : List ℕ

-- ---- what the definitions answer

-- what a call shows; a refused one shows nothing
abbrev shown : Lent → Result Turn Refusal → List Shown
shown buffers (Ok t) = page (read_pairs t.written buffers) t.next t.finished t.looks ∷ []
shown buffers (Err r) = []

abbrev go_on : List Shown → (Bookmark → List Shown) → List Shown
go_on [] on = []
go_on (p ∷ ps) on = p ∷ cond p.finished [] (on p.next)

-- page after page from a bookmark, at most k of them
abbrev read : (call : Bookmark → Leaf) (k : ℕ) → Bookmark → List Shown
read call zero b = []
read call (suc k) b = go_on (shown (call b).buffers (call b).answer) (λ next. read call k next)

abbrev blank : Case → Lent
blank c = lent (replicate c.room 0) (replicate c.room (pos 0))

abbrev plainly : Case → Bookmark → Leaf
plainly c b = plain_page c.cells c.tracks c.theme c.way b (blank c)

abbrev quickly : Case → Way → Bookmark → Leaf
quickly c way b =
    quick_page c.cells c.tracks c.theme way b (setsOf (score_of c.cells c.tracks)) (replicate 4096 0) (blank c)

-- the looks of each quick page; there is none as the tune is written
abbrev quick_looks : Case → AnyWay → List ℕ
quick_looks c (Moved way) = map (λ p. p.looks) (read (quickly c way) 3 (first_bookmark (range_of way)))
quick_looks c Written = []

-- the candidates from which on the theme has room, by the score's own sets
abbrev candidates_of : (score : List (List ℕ)) (theme : List ℕ) → List ℕ
candidates_of score theme =
    map (number_of score)
    (hits (candidate_of word_bits score (theme_table word_bits theme) (setsOf score) (length theme)) (count 1 (length (heard_of score) + 1 - length theme)))

-- the same question, with the definitions' answers
abbrev pub made : Case → Case
made c =
    record {
      cells = c.cells;
      tracks = c.tracks;
      theme = c.theme;
      way = c.way;
      room = c.room;
      sets = setsOf (score_of c.cells c.tracks);
      candidates = candidates_of (score_of c.cells c.tracks) c.theme;
      pages = read (plainly c) 3 (first_bookmark (range_as c.way));
      quick = quick_looks c c.way;
    }

-- ---- the table

-- score K: two tracks, five columns
abbrev pub K : List ℕ
K = 60 ∷ 67 ∷ 62 ∷ 69 ∷ 64 ∷ 255 ∷ 65 ∷ 72 ∷ 255 ∷ 67 ∷ []

abbrev pub cases : List Case
cases =
    -- K, theme 60 62 64, exact: (1, 0); plain looks 8, quick 4
    record {
      cells = K;
      tracks = 2;
      theme = 60 ∷ 62 ∷ 64 ∷ [];
      way = Moved Exact;
      room = 9;
      sets = 3451 ∷ 3963 ∷ 3837 ∷ 3963 ∷ [];
      candidates = 1 ∷ [];
      pages = page (at 1 (pos 0) ∷ []) (mark 6 (negsuc 126)) true 8
          ∷ [];
      quick = 4 ∷ [];
    }
    -- K, theme 67 62, exact: (1, 0), (2, 2), (4, 5); plain looks 7, quick 6
    ∷ record {
      cells = K;
      tracks = 2;
      theme = 67 ∷ 62 ∷ [];
      way = Moved Exact;
      room = 9;
      sets = 3451 ∷ 3963 ∷ 3837 ∷ 3963 ∷ [];
      candidates = 1 ∷ 2 ∷ 4 ∷ [];
      pages = page (at 1 (pos 0) ∷ at 2 (pos 2) ∷ at 4 (pos 5) ∷ []) (mark 6 (negsuc 126)) true 7
          ∷ [];
      quick = 6 ∷ [];
    }
    -- the same at room 2: two pairs, bookmark (2, 3), looks 4; then one, finished, (6, -127), looks 3
    ∷ record {
      cells = K;
      tracks = 2;
      theme = 67 ∷ 62 ∷ [];
      way = Moved Exact;
      room = 2;
      sets = 3451 ∷ 3963 ∷ 3837 ∷ 3963 ∷ [];
      candidates = 1 ∷ 2 ∷ 4 ∷ [];
      pages = page (at 1 (pos 0) ∷ at 2 (pos 2) ∷ []) (mark 2 (pos 3)) false 4
          ∷ page (at 4 (pos 5) ∷ []) (mark 6 (negsuc 126)) true 3
          ∷ [];
      quick = 4 ∷ 2 ∷ [];
    }
    -- at room 3: three, bookmark (4, 6), not finished; then none, finished
    ∷ record {
      cells = K;
      tracks = 2;
      theme = 67 ∷ 62 ∷ [];
      way = Moved Exact;
      room = 3;
      sets = 3451 ∷ 3963 ∷ 3837 ∷ 3963 ∷ [];
      candidates = 1 ∷ 2 ∷ 4 ∷ [];
      pages = page (at 1 (pos 0) ∷ at 2 (pos 2) ∷ at 4 (pos 5) ∷ []) (mark 4 (pos 6)) false 7
          ∷ page [] (mark 6 (negsuc 126)) true 0
          ∷ [];
      quick = 6 ∷ 0 ∷ [];
    }
    -- K, theme 60 67 69: exact none
    ∷ record {
      cells = K;
      tracks = 2;
      theme = 60 ∷ 67 ∷ 69 ∷ [];
      way = Moved Exact;
      room = 9;
      sets = 3451 ∷ 3963 ∷ 3837 ∷ 3963 ∷ [];
      candidates = 1 ∷ [];
      pages = page [] (mark 6 (negsuc 126)) true 5
          ∷ [];
      quick = 2 ∷ [];
    }
    -- octave (1, 7)
    ∷ record {
      cells = K;
      tracks = 2;
      theme = 60 ∷ 67 ∷ 69 ∷ [];
      way = Moved Octave;
      room = 9;
      sets = 3451 ∷ 3963 ∷ 3837 ∷ 3963 ∷ [];
      candidates = 1 ∷ [];
      pages = page (at 1 (pos 7) ∷ []) (mark 6 (pos 0)) true 7
          ∷ [];
      quick = 3 ∷ [];
    }
    -- K, theme 60 69 71, octave: column 1 is a candidate, no pair; plain looks 6, quick 3
    ∷ record {
      cells = K;
      tracks = 2;
      theme = 60 ∷ 69 ∷ 71 ∷ [];
      way = Moved Octave;
      room = 9;
      sets = 3451 ∷ 3963 ∷ 3837 ∷ 3963 ∷ [];
      candidates = 1 ∷ [];
      pages = page [] (mark 6 (pos 0)) true 6
          ∷ [];
      quick = 3 ∷ [];
    }
    -- one track 0 0, theme 127 127, exact: (1, -127)
    ∷ record {
      cells = 0 ∷ 0 ∷ [];
      tracks = 1;
      theme = 127 ∷ 127 ∷ [];
      way = Moved Exact;
      room = 9;
      sets = 4094 ∷ [];
      candidates = 1 ∷ [];
      pages = page (at 1 (negsuc 126) ∷ []) (mark 3 (negsuc 126)) true 1
          ∷ [];
      quick = 1 ∷ [];
    }
    -- one track 127 127, theme 0 0: (1, 127)
    ∷ record {
      cells = 127 ∷ 127 ∷ [];
      tracks = 1;
      theme = 0 ∷ 0 ∷ [];
      way = Moved Exact;
      room = 9;
      sets = 4094 ∷ [];
      candidates = 1 ∷ [];
      pages = page (at 1 (pos 127) ∷ []) (mark 3 (negsuc 126)) true 1
          ∷ [];
      quick = 1 ∷ [];
    }
    -- one track 120 0, theme 0 12: exact none
    ∷ record {
      cells = 120 ∷ 0 ∷ [];
      tracks = 1;
      theme = 0 ∷ 12 ∷ [];
      way = Moved Exact;
      room = 9;
      sets = 4094 ∷ [];
      candidates = 1 ∷ [];
      pages = page [] (mark 3 (negsuc 126)) true 1
          ∷ [];
      quick = 1 ∷ [];
    }
    -- octave (1, 0)
    ∷ record {
      cells = 120 ∷ 0 ∷ [];
      tracks = 1;
      theme = 0 ∷ 12 ∷ [];
      way = Moved Octave;
      room = 9;
      sets = 4094 ∷ [];
      candidates = 1 ∷ [];
      pages = page (at 1 (pos 0) ∷ []) (mark 3 (pos 0)) true 1
          ∷ [];
      quick = 1 ∷ [];
    }
    -- one track 60, rest, 62; theme 60 62: (1, 0) over the empty column; sets 4091 and 4095
    ∷ record {
      cells = 60 ∷ 255 ∷ 62 ∷ [];
      tracks = 1;
      theme = 60 ∷ 62 ∷ [];
      way = Moved Exact;
      room = 9;
      sets = 4091 ∷ 4095 ∷ [];
      candidates = 1 ∷ [];
      pages = page (at 1 (pos 0) ∷ []) (mark 4 (negsuc 126)) true 1
          ∷ [];
      quick = 1 ∷ [];
    }
    -- the same in octave
    ∷ record {
      cells = 60 ∷ 255 ∷ 62 ∷ [];
      tracks = 1;
      theme = 60 ∷ 62 ∷ [];
      way = Moved Octave;
      room = 9;
      sets = 4091 ∷ 4095 ∷ [];
      candidates = 1 ∷ [];
      pages = page (at 1 (pos 0) ∷ []) (mark 4 (pos 0)) true 1
          ∷ [];
      quick = 1 ∷ [];
    }
    -- one track rest, 60, rest, rest, 62, 64, rest; theme 60 62 64: (2, 0)
    ∷ record {
      cells = 255 ∷ 60 ∷ 255 ∷ 255 ∷ 62 ∷ 64 ∷ 255 ∷ [];
      tracks = 1;
      theme = 60 ∷ 62 ∷ 64 ∷ [];
      way = Moved Exact;
      room = 9;
      sets = 4095 ∷ 4091 ∷ 4095 ∷ 4095 ∷ 4091 ∷ 4095 ∷ [];
      candidates = 2 ∷ [];
      pages = page (at 2 (pos 0) ∷ []) (mark 8 (negsuc 126)) true 2
          ∷ [];
      quick = 2 ∷ [];
    }
    -- the same in octave
    ∷ record {
      cells = 255 ∷ 60 ∷ 255 ∷ 255 ∷ 62 ∷ 64 ∷ 255 ∷ [];
      tracks = 1;
      theme = 60 ∷ 62 ∷ 64 ∷ [];
      way = Moved Octave;
      room = 9;
      sets = 4095 ∷ 4091 ∷ 4095 ∷ 4095 ∷ 4091 ∷ 4095 ∷ [];
      candidates = 2 ∷ [];
      pages = page (at 2 (pos 0) ∷ []) (mark 8 (pos 0)) true 2
          ∷ [];
      quick = 2 ∷ [];
    }
    -- one track 60, rest, rest; theme 60 62: too few columns with a pitch, no start
    ∷ record {
      cells = 60 ∷ 255 ∷ 255 ∷ [];
      tracks = 1;
      theme = 60 ∷ 62 ∷ [];
      way = Moved Exact;
      room = 9;
      sets = 4095 ∷ 4095 ∷ [];
      candidates = [];
      pages = page [] (mark 4 (negsuc 126)) true 0
          ∷ [];
      quick = 0 ∷ [];
    }
    -- rests only: no pair, finished behind the last column
    ∷ record {
      cells = 255 ∷ 255 ∷ [];
      tracks = 1;
      theme = 60 ∷ 62 ∷ [];
      way = Moved Exact;
      room = 9;
      sets = 4095 ∷ [];
      candidates = [];
      pages = page [] (mark 3 (negsuc 126)) true 0
          ∷ [];
      quick = 0 ∷ [];
    }
    -- K, as it is written: theme 60 62 64 at column 1, theme 67 62 at column 1 alone, theme 62 64 65 at column 2
    ∷ record {
      cells = K;
      tracks = 2;
      theme = 60 ∷ 62 ∷ 64 ∷ [];
      way = Written;
      room = 9;
      sets = 3451 ∷ 3963 ∷ 3837 ∷ 3963 ∷ [];
      candidates = 1 ∷ [];
      pages = page (at 1 (pos 0) ∷ []) (mark 6 (pos 0)) true 0
          ∷ [];
      quick = [];
    }
    -- theme 67 62
    ∷ record {
      cells = K;
      tracks = 2;
      theme = 67 ∷ 62 ∷ [];
      way = Written;
      room = 9;
      sets = 3451 ∷ 3963 ∷ 3837 ∷ 3963 ∷ [];
      candidates = 1 ∷ 2 ∷ 4 ∷ [];
      pages = page (at 1 (pos 0) ∷ []) (mark 6 (pos 0)) true 0
          ∷ [];
      quick = [];
    }
    -- at room 1: one, bookmark (1, 1), not finished; then none, finished, (6, 0)
    ∷ record {
      cells = K;
      tracks = 2;
      theme = 67 ∷ 62 ∷ [];
      way = Written;
      room = 1;
      sets = 3451 ∷ 3963 ∷ 3837 ∷ 3963 ∷ [];
      candidates = 1 ∷ 2 ∷ 4 ∷ [];
      pages = page (at 1 (pos 0) ∷ []) (mark 1 (pos 1)) false 0
          ∷ page [] (mark 6 (pos 0)) true 0
          ∷ [];
      quick = [];
    }
    -- theme 62 64 65
    ∷ record {
      cells = K;
      tracks = 2;
      theme = 62 ∷ 64 ∷ 65 ∷ [];
      way = Written;
      room = 9;
      sets = 3451 ∷ 3963 ∷ 3837 ∷ 3963 ∷ [];
      candidates = 2 ∷ [];
      pages = page (at 2 (pos 0) ∷ []) (mark 6 (pos 0)) true 0
          ∷ [];
      quick = [];
    }
    -- one track 60, rest, 62; theme 60 62 as it is written: (1, 0) over the empty column
    ∷ record {
      cells = 60 ∷ 255 ∷ 62 ∷ [];
      tracks = 1;
      theme = 60 ∷ 62 ∷ [];
      way = Written;
      room = 9;
      sets = 4091 ∷ 4095 ∷ [];
      candidates = 1 ∷ [];
      pages = page (at 1 (pos 0) ∷ []) (mark 4 (pos 0)) true 0
          ∷ [];
      quick = [];
    }
    -- rest, 60, rest, rest, 62, 64, rest; theme 60 62 64 as it is written: (2, 0)
    ∷ record {
      cells = 255 ∷ 60 ∷ 255 ∷ 255 ∷ 62 ∷ 64 ∷ 255 ∷ [];
      tracks = 1;
      theme = 60 ∷ 62 ∷ 64 ∷ [];
      way = Written;
      room = 9;
      sets = 4095 ∷ 4091 ∷ 4095 ∷ 4095 ∷ 4091 ∷ 4095 ∷ [];
      candidates = 2 ∷ [];
      pages = page (at 2 (pos 0) ∷ []) (mark 8 (pos 0)) true 0
          ∷ [];
      quick = [];
    }
    ∷ []
