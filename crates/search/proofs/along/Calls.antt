-- From a walk to a page: a walk that is turned away is a page that is turned away, and the answer that is read off the buffers
-- of one that is done is the page's. Assumes nothing.
use mathlib.Core.Path.{◌≡◌, refl, sym, ap, ◌∙◌}
use mathlib.Core.List.{List, map}
use Prim.Native.Nat.{ℕ, ◌≤◌, ◌<◌}
use native.Mathlib.Omega.{arith}
use lib.IntN.{ℤ}
use lib.ListN.{length, length-map}
use Rattle.theory.specs.Pages.{page_hits, page_looks, from}
use Rattle.score.specs.declared.refusals.Refusal.{Refusal}
use Rattle.score.specs.Score.{column_at, columns_in, score_of}
use Rattle.score.specs.Refusals.{Row}
use Rattle.score.proofs.Columns.{score_length}
use Rattle.score.proofs.Judging.{judge_away}
use Rattle.ways.specs.declared.way.Way.{Way}
use Rattle.ways.specs.declared.way.AnyWay.TheVariants.{Moved, Written}
use Rattle.ways.specs.declared.bookmark.Bookmark.{Bookmark}
use Rattle.ways.specs.Way.{range_of}
use Rattle.ways.specs.Bookmarks.{key_of, finished_bookmark}
use Rattle.asking.specs.Asking.{PlainAsks, QuickAsks}
use Rattle.asking.proofs.Rows.{plain_clear, quick_clear}
use Rattle.filter.specs.Limits.{word_bits}
use Rattle.filter.specs.Table.{theme_table}
use Rattle.paging.specs.Lent.{Lent, lent, written}
use Rattle.paging.specs.Search.{Search, left}
use Rattle.paging.specs.Page.{leaf, away, paged, Pages}
use Rattle.paging.specs.Turning.{read_turn}
use Rattle.paging.proofs.Turnings.{away_pages, went_pages}
use Rattle.walking.specs.declared.walked.Walked.{Walked}
use Rattle.walking.specs.Starts.{Place, key, starts, hit, looks}
use Rattle.walking.specs.Candidates.{quick_starts}
use Rattle.walking.specs.Found.{Finds, PlainWalks, QuickWalks}
use Rattle.walking.proofs.Answers.{finds_refused, finds_clear, finds_went}
use Rattle.written.specs.Written.{written_page, WrittenPages}
use Rattle.search.specs.Pairs.{pair_at}
use Rattle.search.specs.Page.{rows_of_plain, rows_of_quick, quick_table}
use Rattle.search.specs.Along.{along_page, AlongPages, quick_along_page, QuickAlongPages}
use Rattle.search.proofs.Reached.{left_plain, left_quick, places_written}
use Rattle.std.specs.Prelude.{Result, Ok, Err}
use Rattle.paging.specs.declared.page.Turn.{Turn}

-- ---- any search along the starts of a way

module _ (rows : List Row) (way : Way) (score : List (List ℕ)) (theme : List ℕ) (reached : List Place) (b : Bookmark) (columns : List ℕ) (shifts : List ℤ) where
  abbrev S : Search Place
  S = record { columns = length score; range = range_of way; starts = reached; hit = hit way score theme; looks = looks way score theme; shown = pair_at way }

  search_away : {e : Refusal} {columns' : List ℕ} {shifts' : List ℤ} → Finds rows way score theme reached b columns shifts (Err e) columns' shifts'
      → Pages (paged rows S b (lent columns shifts)) (Err e) (lent columns' shifts')
  search_away l =
      let f = finds_refused rows way score theme reached b columns shifts l in
      away_pages rows S b (lent columns shifts) (judge_away (away (lent columns shifts)) (leaf S b (lent columns shifts)) rows f.0) (rw (f.1, f.2))

  search_turns : 1 ≤ length columns → length shifts ≡ length columns → from key (key_of way b) reached ≡ left S b → {w : Walked} {columns' : List ℕ} {shifts' : List ℤ}
      → Finds rows way score theme reached b columns shifts (Ok w) columns' shifts' → {n : ℕ} {page : Result Turn Refusal} → n ≡ length score
      → page ≡ Ok (read_turn (finished_bookmark (range_of way) (column_at n)) w.found w.looks (lent columns' shifts'))
      → Pages (paged rows S b (lent columns shifts)) page (lent columns' shifts')
  search_turns some same e {w} {columns'} {shifts'} l {n} {page} is r =
      let v = finds_went rows way score theme reached b columns shifts l in
      let places : List Place → List Place = λ xs. page_hits (hit way score theme) (length columns) xs in
      rw r
      (went_pages rows S b (lent columns shifts) (length columns) some (record { of_columns = refl; of_shifts = same }) (finds_clear rows way score theme reached b columns shifts l)
      (v.count ∙ ap (λ (xs : List Place). length (places xs)) e ∙ sym (length-map (places (left S b)) (pair_at way)))
      (v.costs ∙ ap (page_looks (hit way score theme) (looks way score theme) (length columns)) e)
      (rw (v.in_columns, v.in_shifts)
      (places_written way (places (from key (key_of way b) reached)) columns shifts
      ∙ ap (λ (xs : List Place). written (lent columns shifts) (map (pair_at way) (places xs))) e))
      (rw is))

-- ---- plain

module _ (cells : List ℕ) (h : ℕ) (theme : List ℕ) (way : Way) (b : Bookmark) (columns : List ℕ) (shifts : List ℤ) {columns' : List ℕ} {shifts' : List ℤ} where
  pub plain_away : {e : Refusal} → PlainWalks cells h theme way b columns shifts (Err e) columns' shifts'
      → AlongPages cells h theme (Moved way) b (lent columns shifts) (Err e) (lent columns' shifts')
  unfolding along_page
  plain_away l =
      record {
        pages = search_away (rows_of_plain cells h theme (Moved way) b (lent columns shifts)) way (score_of cells h) theme (starts way (score_of cells h) theme) b columns shifts l;
      }

  module _ {w : Walked} (l : PlainWalks cells h theme way b columns shifts (Ok w) columns' shifts') where
    asked : PlainAsks cells h theme (Moved way) b columns shifts
    asked = (plain_clear cells h theme (Moved way) b columns shifts).1 (finds_clear _ _ _ _ _ _ _ _ l)

    -- the number of columns fits 16 bits
    pub plain_fits : {n : ℕ} → n ≡ columns_in cells h → n < 65536
    plain_fits e = omega (arith, e, asked.accepted.columns_few)

    pub plain_turns : {n : ℕ} {page : Result Turn Refusal} → n ≡ columns_in cells h
        → page ≡ Ok (read_turn (finished_bookmark (range_of way) (column_at n)) w.found w.looks (lent columns' shifts'))
        → AlongPages cells h theme (Moved way) b (lent columns shifts) page (lent columns' shifts')
    unfolding along_page
    plain_turns e r =
        record {
          pages =
              search_turns (rows_of_plain cells h theme (Moved way) b (lent columns shifts)) way (score_of cells h) theme (starts way (score_of cells h) theme) b columns shifts
              asked.room asked.same_room (left_plain way (score_of cells h) theme b (rw (score_length cells h) asked.marked)) l
              (e ∙ sym (score_length cells h)) r;
        }

-- a page of the tune as it is written is one of the call of all ways
pub written_along : {cells : List ℕ} {h : ℕ} {theme : List ℕ} {b : Bookmark} {buffers : Lent} {answer : Result Turn Refusal} {after : Lent}
    → WrittenPages cells h theme b buffers answer after → AlongPages cells h theme Written b buffers answer after
unfolding along_page written_page
written_along p = record { pages = p.pages }

-- ---- quick

module _ (cells : List ℕ) (h : ℕ) (theme : List ℕ) (way : Way) (b : Bookmark) (sets table columns : List ℕ) (shifts : List ℤ) {table' columns' : List ℕ} {shifts' : List ℤ} where
  pub quick_away : {e : Refusal} → QuickWalks cells h theme way b sets table columns shifts (Err e) table' columns' shifts'
      → QuickAlongPages cells h theme way b sets table (lent columns shifts) (Err e) table' (lent columns' shifts')
  unfolding quick_along_page quick_table quick_starts
  quick_away l =
      record {
        pages = search_away (rows_of_quick cells h theme way b sets table (lent columns shifts)) way (score_of cells h) theme (quick_starts word_bits way (score_of cells h) theme (theme_table word_bits theme) sets) b columns shifts l.finds;
        fills_table = l.fills_table;
      }

  module _ {w : Walked} (l : QuickWalks cells h theme way b sets table columns shifts (Ok w) table' columns' shifts') where
    asked_quick : QuickAsks cells h theme way b sets table columns shifts
    asked_quick = (quick_clear cells h theme way b sets table columns shifts).1 (finds_clear _ _ _ _ _ _ _ _ l.finds)

    pub quick_fits : {n : ℕ} → n ≡ columns_in cells h → n < 65536
    quick_fits e = omega (arith, e, asked_quick.plain.accepted.columns_few)

    pub quick_turns : {n : ℕ} {page : Result Turn Refusal} → n ≡ columns_in cells h
        → page ≡ Ok (read_turn (finished_bookmark (range_of way) (column_at n)) w.found w.looks (lent columns' shifts'))
        → QuickAlongPages cells h theme way b sets table (lent columns shifts) page table' (lent columns' shifts')
    unfolding quick_along_page quick_table quick_starts
    quick_turns e r =
        let asks = asked_quick.plain in
        record {
          pages =
              search_turns (rows_of_quick cells h theme way b sets table (lent columns shifts)) way (score_of cells h) theme (quick_starts word_bits way (score_of cells h) theme (theme_table word_bits theme) sets) b columns shifts asks.room asks.same_room
              (left_quick way (score_of cells h) theme b (rw (score_length cells h) asks.marked) word_bits (theme_table word_bits theme) sets) l.finds (e ∙ sym (score_length cells h)) r;
          fills_table = l.fills_table;
        }
