-- A row of the table does not apply exactly where what it asks for is there: row by row, as plain facts, and then all the
-- rows of a call. Assumes nothing.
use mathlib.Core.Path.{◌≡◌, refl}
use mathlib.Core.Bool.{Bool, false, not, ◌||◌}
use mathlib.Core.Logic.{◌↔◌}
use mathlib.Core.List.{List, ◌++◌}
use Prim.Native.Nat.{ℕ, zero, suc, ◌+◌, ◌-◌, ◌%◌, ◌≤◌}
use native.Mathlib.Omega.{arith}
use lib.Dec.{eqb, ltb}
use lib.IntN.{ℤ, pos, ◌+ℤ◌}
use lib.ListN.{length}
use lib.Signed.{lt_z, ◌≤ℤ◌}
use borrow.Author.Tests.{eq-eqb, ne_eqb, eqb-true, eqb-false, le-ltb, ltb-false, not-false}
use Rattle.score.specs.Limits.{most_tracks, most_columns, table_words}
use Rattle.score.specs.Score.{columns_in}
use Rattle.score.specs.Refusals.{Row, row1, row2, row6}
use Rattle.ways.specs.declared.way.Way.{Way}
use Rattle.ways.specs.declared.way.AnyWay.{AnyWay}
use Rattle.ways.specs.declared.way.AnyWay.TheVariants.{Moved}
use Rattle.ways.specs.declared.bookmark.Bookmark.{Bookmark}
use Rattle.ways.specs.Way.{Range, range_of, range_as}
use Rattle.asking.specs.Limits.{most_notes}
use Rattle.asking.specs.Refusals.{row4, row8, row9, row10, request_rows, sets_rows, page_rows, plain_rows, quick_rows}
use Rattle.asking.specs.Asking.{Accepted, AcceptedSets, InRange, PageAsks, PlainAsks, QuickAsks}
use Rattle.score.proofs.Judged.{Clear, clear_append, clear_split}
use Rattle.ways.proofs.Coding.{neither, not_over_z}

-- ---- tests that fail

not_over : (a b : ℕ) → (ltb a b ≡ false) ↔ (b ≤ a)
not_over a b = (ltb-false a b, le-ltb a b)

not_zero : (n : ℕ) → (eqb n 0 ≡ false) ↔ (1 ≤ n)
not_zero zero = (λ e. absurd (eqb-false 0 0 e refl), λ h. absurd (omega arith))
not_zero (suc n) = (λ e. omega arith, λ h. ne_eqb (suc n) 0 (λ e. omega arith))

equal : (a b : ℕ) → (not (eqb a b) ≡ false) ↔ (a ≡ b)
equal a b = (λ e. eqb-true a b (not-false (eqb a b) e), λ e. rw (eq-eqb a b e))

-- ---- row by row; rows 3, 5 and 7 say themselves that some entry is bad

pub row1_clear : (h : ℕ) → ((row1 h).applies ≡ false) ↔ ((1 ≤ h) × (h ≤ most_tracks))
row1_clear h = neither (eqb h 0) (ltb most_tracks h) (not_zero h) (not_over most_tracks h)

pub row2_clear : (cells : List ℕ) (h : ℕ) → ((row2 cells h).applies ≡ false) ↔ (((length cells % h ≡ 0) × (1 ≤ columns_in cells h)) × (columns_in cells h ≤ most_columns))
row2_clear cells h =
    neither (not (eqb (length cells % h) 0) || eqb (columns_in cells h) 0) (ltb most_columns (columns_in cells h))
    (neither (not (eqb (length cells % h) 0)) (eqb (columns_in cells h) 0) (equal (length cells % h) 0) (not_zero (columns_in cells h))) (not_over most_columns (columns_in cells h))

pub row4_clear : (most : ℕ) (theme : List ℕ) → ((row4 most theme).applies ≡ false) ↔ ((2 ≤ length theme) × (length theme ≤ most))
row4_clear most theme = neither (ltb (length theme) 2) (ltb most (length theme)) (not_over (length theme) 2) (not_over most (length theme))

pub row6_clear : (cells : List ℕ) (h : ℕ) (sets : List ℕ) → ((row6 cells h sets).applies ≡ false) ↔ (length sets ≡ columns_in cells h - 1)
row6_clear cells h sets = equal (length sets) (columns_in cells h - 1)

pub row8_clear : (table : List ℕ) → ((row8 (length table)).applies ≡ false) ↔ (length table ≡ table_words)
row8_clear table = equal (length table) table_words

pub row9_clear : (columns : List ℕ) (shifts : List ℤ) → ((row9 (length columns) (length shifts)).applies ≡ false) ↔ ((1 ≤ length columns) × (length shifts ≡ length columns))
row9_clear columns shifts =
    neither (eqb (length columns) 0) (not (eqb (length shifts) (length columns))) (not_zero (length columns)) (equal (length shifts) (length columns))

module _ (range : Range) (n : ℕ) (b : Bookmark) where
  abbrev column_out : Bool
  column_out = eqb b.column.0 0 || ltb (n + 1) b.column.0

  column_in : (column_out ≡ false) ↔ ((1 ≤ b.column.0) × (b.column.0 ≤ n + 1))
  column_in = neither (eqb b.column.0 0) (ltb (n + 1) b.column.0) (not_zero b.column.0) (not_over (n + 1) b.column.0)

  shift_in : ((row10 range n b).applies ≡ false)
      ↔ ((((1 ≤ b.column.0) × (b.column.0 ≤ n + 1)) × (range.lowest ≤ℤ b.shift)) × (b.shift ≤ℤ (range.highest +ℤ pos 1)))
  shift_in =
      neither (column_out || lt_z b.shift range.lowest) (lt_z (range.highest +ℤ pos 1) b.shift)
      (neither column_out (lt_z b.shift range.lowest) column_in (not_over_z b.shift range.lowest)) (not_over_z (range.highest +ℤ pos 1) b.shift)

  pub row10_clear : ((row10 range n b).applies ≡ false) ↔ InRange range n b
  row10_clear = (
    λ e. let f = shift_in.0 e in record { from_first = f.0.0.0; to_end = f.0.0.1; not_below = f.0.1; not_above = f.1 },
    λ i. shift_in.1 (((i.from_first, i.to_end), i.not_below), i.not_above),
  )

-- ---- the rows of a call

module _ (most : ℕ) (cells : List ℕ) (h : ℕ) (theme : List ℕ) where
  pub accepted_clear : Accepted most cells h theme ↔ Clear (request_rows most cells h theme)
  accepted_clear = (of, to)
    where
      of : Accepted most cells h theme → Clear (request_rows most cells h theme)
      of a = (
        (row1_clear h).1 (a.tracks_some, a.tracks_few),
        (
          (row2_clear cells h).1 ((a.columns_whole, a.columns_some), a.columns_few),
          (a.cells_good, ((row4_clear most theme).1 (a.notes_some, a.notes_few), (a.notes_good, tt))),
        ),
      )

      to : Clear (request_rows most cells h theme) → Accepted most cells h theme
      to c =
          let tracks = (row1_clear h).0 c.0 in
          let columns = (row2_clear cells h).0 c.1.0 in
          let notes = (row4_clear most theme).0 c.1.1.1.0 in
          record {
            tracks_some = tracks.0;
            tracks_few = tracks.1;
            columns_whole = columns.0.0;
            columns_some = columns.0.1;
            columns_few = columns.1;
            cells_good = c.1.1.0;
            notes_some = notes.0;
            notes_few = notes.1;
            notes_good = c.1.1.1.1.0;
          }

pub sets_clear : (cells : List ℕ) (h : ℕ) (sets table : List ℕ) → (AcceptedSets cells h sets × (length table ≡ table_words)) ↔ Clear (sets_rows cells h sets (length table))
sets_clear cells h sets table = (
  λ a. ((row6_clear cells h sets).1 a.0.one_less, (a.0.sets_good, ((row8_clear table).1 a.1, tt))),
  λ c. (record { one_less = (row6_clear cells h sets).0 c.0; sets_good = c.1.0 }, (row8_clear table).0 c.1.1.0),
)

module _ (range : Range) (n : ℕ) (b : Bookmark) (columns : List ℕ) (shifts : List ℤ) where
  pub page_clear : ((1 ≤ length columns) × (length shifts ≡ length columns) × InRange range n b) ↔ Clear (page_rows range n b (length columns) (length shifts))
  page_clear = (
    λ a. ((row9_clear columns shifts).1 (a.0, a.1), ((row10_clear range n b).1 a.2, tt)),
    λ c. let r = (row9_clear columns shifts).0 c.0 in (r.0, r.1, (row10_clear range n b).0 c.1.0),
  )

-- ---- a call is asked right exactly where none of its rows applies

module _ (cells : List ℕ) (h : ℕ) (theme : List ℕ) (way : AnyWay) (b : Bookmark) (columns : List ℕ) (shifts : List ℤ) where
  abbrev request : List Row
  request = request_rows most_notes cells h theme

  abbrev page : List Row
  page = page_rows (range_as way) (columns_in cells h) b (length columns) (length shifts)

  abbrev PageClear : Type 0
  PageClear = (1 ≤ length columns) × (length shifts ≡ length columns) × InRange (range_as way) (columns_in cells h) b

  page_right : PageClear ↔ Clear page
  page_right = page_clear (range_as way) (columns_in cells h) b columns shifts

  page_asks : {most : ℕ} → Accepted most cells h theme → PageClear → PageAsks most cells h theme way b columns shifts
  page_asks a p = record { accepted = a; room = p.0; same_room = p.1; marked = p.2 }

  pub plain_clear : PlainAsks cells h theme way b columns shifts ↔ Clear (plain_rows cells h theme way b columns shifts)
  plain_clear = (
    λ a. clear_append request page ((accepted_clear most_notes cells h theme).0 a.accepted) (page_right.0 (a.room, a.same_room, a.marked)),
    λ c. let d = clear_split request page c in page_asks ((accepted_clear most_notes cells h theme).1 d.0) (page_right.1 d.1),
  )

module _ (cells : List ℕ) (h : ℕ) (theme : List ℕ) (way : Way) (b : Bookmark) (sets table columns : List ℕ) (shifts : List ℤ) where
  abbrev asked : List Row
  asked = request_rows most_notes cells h theme

  abbrev lent : List Row
  lent = sets_rows cells h sets (length table)

  abbrev after : List Row
  after = page_rows (range_of way) (columns_in cells h) b (length columns) (length shifts)

  pub quick_clear : QuickAsks cells h theme way b sets table columns shifts ↔ Clear (quick_rows cells h theme way b sets table columns shifts)
  quick_clear = (
    λ a. clear_append asked (lent ++ after) ((accepted_clear most_notes cells h theme).0 a.plain.accepted)
        (clear_append lent after ((sets_clear cells h sets table).0 (a.with_sets, a.table_long))
        ((page_right cells h theme (Moved way) b columns shifts).0 (a.plain.room, a.plain.same_room, a.plain.marked))),
    λ c. let d = clear_split asked (lent ++ after) c in
        let e = clear_split lent after d.1 in
        let s = (sets_clear cells h sets table).1 e.0 in
        record {
          plain = page_asks cells h theme (Moved way) b columns shifts ((accepted_clear most_notes cells h theme).1 d.0) ((page_right cells h theme (Moved way) b columns shifts).1 e.1);
          with_sets = s.0;
          table_long = s.1;
        },
  )
