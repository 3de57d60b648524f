-- The theorems about whole lists and whole calls, on which the three demands rest (`demands/specs/Demands`): calls are total
-- and refuse exactly as the table says; what is listed is true; everything true is listed, once and in order, page by page.
--
-- What is turned away (demand 1), in `PlainCall` and `QuickCall`: a call turns a page exactly where it is asked right
-- (`plain_turned`, `quick_turned`); otherwise it gives exactly the first refusal of its rows that applies, with its number and
-- place (`plain_refused`, `quick_refused`), and nothing lent is written (`plain_kept`, `quick_kept`). `Rows` has the rows as
-- plain facts (3, 5 and 7 are plain themselves). The contracts leave one answer and one state of the buffers (`plain_unique`,
-- `quick_unique`). An accepted quick call leaves the theme's table (`quick_fills`). One page, here: `plain_page_lem` and
-- `quick_page_lem`, the first r pairs at or after the bookmark, what stays behind them, and where it goes on. What is listed
-- (demand 3), here: `plain_lists` and `quick_lists`, page after page from the first bookmark, at any room and whatever the
-- buffers held; `own_lists` with the score's own sets. That the list holds exactly the pairs of the definition, in order and
-- each once, is `Listed`. What is listed is true (demand 2): `plain_true` and `quick_true` of `Truths`. Looks, here: those of a
-- whole list and of a page are at most `most_looks` (`all_looks_le` and `candidate_looks_le`, `plain_page_le`, `quick_page_le`;
-- of an answer, `plain_looks_le` and `quick_looks_le` of `Truths`), which fits 32 bits (`most_fits`); `quick_same` of `Quicker`
-- says that with the score's own sets a quick page is the plain page with no more looks. Assumes nothing.
use mathlib.Core.Path.{◌≡◌, refl, subst}
use mathlib.Core.List.{List, []}
use Prim.Native.Nat.{ℕ, ◌+◌, ◌-◌, ◌^◌, ◌≤◌, ◌<◌}
use native.Mathlib.Nat.{le_trans}
use native.Mathlib.Omega.{arith}
use lib.ListN.{length, get_or}
use Rattle.theory.specs.Lists.{count}
use Rattle.theory.proofs.Looks.{sum_none}
use Rattle.score.specs.Limits.{table_words}
use Rattle.score.specs.Score.{columns_in, score_of, heard_of}
use Rattle.score.specs.Sets.{sets}
use Rattle.score.proofs.Columns.{score_length, column_le}
use Rattle.ways.specs.declared.way.Way.{Way}
use Rattle.ways.specs.declared.way.AnyWay.{AnyWay}
use Rattle.ways.specs.declared.way.AnyWay.TheVariants.{Moved, Written}
use Rattle.ways.specs.declared.bookmark.Pair.{Pair}
use Rattle.ways.specs.declared.bookmark.Bookmark.{Bookmark}
use Rattle.ways.specs.Way.{range_of, range_as}
use Rattle.ways.specs.Bookmarks.{first_bookmark}
use Rattle.asking.specs.Limits.{most_notes}
use Rattle.asking.specs.Asking.{Accepted, AcceptedSets, InRange, PlainAsks}
use Rattle.filter.specs.Limits.{word_bits}
use Rattle.filter.specs.Table.{theme_table}
use Rattle.paging.specs.Lent.{Lent, Room}
use Rattle.paging.specs.Search.{all_looks, spent}
use Rattle.paging.specs.Page.{Leaf}
use Rattle.paging.specs.OnePage.{PageOf}
use Rattle.paging.specs.Listing.{Lists}
use Rattle.paging.proofs.Fewer.{only_looks}
use Rattle.paging.proofs.Readings.{search_lists}
use Rattle.paging.proofs.OnePages.{call_page, page_within}
use Rattle.walking.proofs.LookBound.{most_lt, sum_looks_le, sum_looks_none}
use Rattle.search.specs.Pairs.{plain_search, candidate_of, quick_search, pairs, search_as, pairs_as}
use Rattle.search.specs.Page.{plain_page, quick_page}
use Rattle.search.specs.WholeList.{plain_looks, candidate_looks, most_looks, candidate_pairs}
use Rattle.search.proofs.Numbers.{heard_few, heard_long}
use Rattle.search.proofs.Searches.{plain_calls, quick_calls}
use Rattle.search.proofs.Quicker.{quick_pairs, own_sets, own_pairs}

-- ---- looks: of a whole list and of a page at most `most_looks`, which fits 32 bits

module _ (cells : List ℕ) (h : ℕ) (theme : List ℕ) where
  abbrev heards : List (List ℕ)
  heards = heard_of (score_of cells h)

  long : (k : ℕ) → length (get_or heards k []) ≤ h
  long = heard_long (score_of cells h) h (column_le (columns_in cells h) h cells)

  pub most_fits : Accepted most_notes cells h theme → most_looks cells h theme < 2 ^ 32
  most_fits a =
      most_lt (length heards) h (length theme) (omega (arith, heard_few (score_of cells h), score_length cells h, a.columns_few)) a.tracks_few a.notes_some
      a.notes_few

  -- as the tune is written, none
  pub all_looks_le : (way : AnyWay) → plain_looks way (score_of cells h) theme ≤ most_looks cells h theme
  all_looks_le (Moved way) = sum_looks_le way heards theme h long
  all_looks_le Written = omega (arith, sum_none (count 1 (length heards + 1 - length theme)))

  -- none where the theme has more notes than there are columns with a pitch
  pub all_looks_none : (way : Way) → length heards < length theme → plain_looks (Moved way) (score_of cells h) theme ≡ 0
  all_looks_none way l = sum_looks_none way heards theme h long l

  -- of a page
  pub plain_page_le : (way : AnyWay) (b : Bookmark) (r : ℕ) → spent (search_as way (score_of cells h) theme) r b ≤ most_looks cells h theme
  plain_page_le way b r = le_trans (page_within (search_as way (score_of cells h) theme) r b) (all_looks_le way)

  module _ (way : Way) where
    -- by any table and any sets
    pub quick_looks_less : (w : ℕ) (table lent : List ℕ) → all_looks (quick_search w way (score_of cells h) theme table lent) ≤ plain_looks (Moved way) (score_of cells h) theme
    quick_looks_less w table lent = only_looks (λ s. candidate_of w (score_of cells h) table lent (length theme) s.column) (plain_search way (score_of cells h) theme)

    pub candidate_looks_le : (lent : List ℕ) → candidate_looks way (score_of cells h) theme lent ≤ plain_looks (Moved way) (score_of cells h) theme
    candidate_looks_le lent = quick_looks_less word_bits (theme_table word_bits theme) lent

    pub quick_page_le : (b : Bookmark) (r w : ℕ) (table lent : List ℕ) → spent (quick_search w way (score_of cells h) theme table lent) r b ≤ most_looks cells h theme
    quick_page_le b r w table lent =
        le_trans (page_within (quick_search w way (score_of cells h) theme table lent) r b) (le_trans (quick_looks_less w table lent) (all_looks_le (Moved way)))

-- ---- demand 3

module _ (cells : List ℕ) (h : ℕ) (theme : List ℕ) (a : Accepted most_notes cells h theme) (r : ℕ) (room : 1 ≤ r) where
  -- plain: all pairs, of any way
  pub plain_lists : (way : AnyWay)
      → Lists (plain_page cells h theme way) r (first_bookmark (range_as way)) (pairs_as way (score_of cells h) theme) (plain_looks way (score_of cells h) theme)
  plain_lists way = search_lists (plain_calls cells h theme way a r room)

module _ (cells : List ℕ) (h : ℕ) (theme : List ℕ) (way : Way) (a : Accepted most_notes cells h theme) (r : ℕ) (room : 1 ≤ r) where
  -- quick, with sets of any score, and at each call any table of 4,096 places: the pairs at candidates
  module _ (lent : List ℕ) (s : AcceptedSets cells h lent) (table : Bookmark → Lent → List ℕ) (long : (b : Bookmark) (buffers : Lent) → length (table b buffers) ≡ table_words) where
    pub quick_lists : Lists (λ b buffers. quick_page cells h theme way b lent (table b buffers) buffers) r (first_bookmark (range_of way))
        (candidate_pairs way (score_of cells h) theme lent) (candidate_looks way (score_of cells h) theme lent)
    quick_lists =
        subst
        (λ (list : List Pair). Lists (λ b buffers. quick_page cells h theme way b lent (table b buffers) buffers) r (first_bookmark (range_of way)) list
        (candidate_looks way (score_of cells h) theme lent))
        (quick_pairs way (score_of cells h) theme lent) (search_lists (quick_calls cells h theme way a r room lent s table long))

  -- with the score's own sets: all pairs
  pub own_lists : (table : Bookmark → Lent → List ℕ) → ((b : Bookmark) (buffers : Lent) → length (table b buffers) ≡ table_words)
      → Lists (λ b buffers. quick_page cells h theme way b (sets (score_of cells h)) (table b buffers) buffers) r (first_bookmark (range_of way))
      (pairs way (score_of cells h) theme) (candidate_looks way (score_of cells h) theme (sets (score_of cells h)))
  own_lists table long = rw (← own_pairs cells h theme way a) (quick_lists (sets (score_of cells h)) own_sets table long)

-- ---- one page: the first r pairs at or after the bookmark

module _ (cells : List ℕ) (h : ℕ) (theme : List ℕ) (way : AnyWay) (b : Bookmark) (buffers : Lent) (a : PlainAsks cells h theme way b buffers.columns buffers.shifts) where
  in_score : InRange (range_as way) (length (score_of cells h)) b
  in_score = rw (score_length cells h) a.marked

  of_room : Room (length buffers.columns) buffers
  of_room = record { of_columns = refl; of_shifts = a.same_room }

  -- the looks of a page of the plain search
  abbrev pub plain_spent : ℕ
  plain_spent = spent (search_as way (score_of cells h) theme) (length buffers.columns) b

  pub plain_page_lem : PageOf (pairs_as way (score_of cells h) theme) (range_as way) (columns_in cells h) plain_spent b buffers (plain_page cells h theme way b buffers)
  plain_page_lem =
      subst (λ (n : ℕ). PageOf (pairs_as way (score_of cells h) theme) (range_as way) n plain_spent b buffers (plain_page cells h theme way b buffers))
      (score_length cells h)
      (call_page (plain_calls cells h theme way a.accepted (length buffers.columns) a.room) b in_score buffers of_room)

module _ (cells : List ℕ) (h : ℕ) (theme : List ℕ) (way : Way) (b : Bookmark) (buffers : Lent)
    (a : PlainAsks cells h theme (Moved way) b buffers.columns buffers.shifts) where
  -- and of the quick search by these sets
  abbrev pub quick_spent : (lent : List ℕ) → ℕ
  quick_spent lent = spent (quick_search word_bits way (score_of cells h) theme (theme_table word_bits theme) lent) (length buffers.columns) b

  pub quick_page_lem : (lent table : List ℕ) → AcceptedSets cells h lent → length table ≡ table_words
      → PageOf (candidate_pairs way (score_of cells h) theme lent) (range_of way) (columns_in cells h) (quick_spent lent) b buffers
      (quick_page cells h theme way b lent table buffers)
  quick_page_lem lent table s e =
      let page : Leaf = quick_page cells h theme way b lent table buffers in
      subst (λ (n : ℕ). PageOf (candidate_pairs way (score_of cells h) theme lent) (range_of way) n (quick_spent lent) b buffers page) (score_length cells h)
      (subst (λ (list : List Pair). PageOf list (range_of way) (length (score_of cells h)) (quick_spent lent) b buffers page)
      (quick_pairs way (score_of cells h) theme lent)
      (call_page (quick_calls cells h theme way a.accepted (length buffers.columns) a.room lent s (λ b buffers. table) (λ b buffers. e)) b
      (in_score cells h theme (Moved way) b buffers a) buffers (of_room cells h theme (Moved way) b buffers a)))
