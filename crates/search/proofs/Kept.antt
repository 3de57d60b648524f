-- A score without its empty columns, as the cells of those with a pitch one after another: it is cut into the same columns
-- (`kept_score`), and with the same theme it is accepted (`kept_accepted`). A bookmark among those columns is in range
-- (`among_range`) and leaves the pairs that the score's leaves (`among_same`). Assumes nothing.
use mathlib.Core.Path.{◌≡◌, refl, sym, ap, ap₂, ◌∙◌, subst}
use mathlib.Core.Bool.{Bool, true, false, cond, ◌&&◌, ◌||◌, true≢false}
use mathlib.Core.List.{List, [], ◌∷◌, ◌++◌}
use Prim.Native.Nat.{ℕ, zero, suc, ◌+◌, ◌-◌, ◌*◌, ◌/◌, ◌≤◌, ◌<◌}
use native.Mathlib.Nat.{suc-mul, zero-mul, mul-le-mul_right, mul-div_cancel, div-add-mod'}
use native.Mathlib.Decide.{dec_lt}
use native.Mathlib.Omega.{arith}
use lib.Dec.{T, leb, ltb, eqb}
use lib.IntN.{ℤ, pos, ◌+ℤ◌}
use lib.ListN.{length, get_or, take, drop, length-append}
use lib.Seq.{take-append_seam, drop-append_seam}
use lib.Signed.{le_z, ◌≤ℤ◌}
use borrow.Author.Tests.{lt-ltb, le-ltb, eq-eqb, ne_eqb, leb-true, leb-false}
use Rattle.theory.specs.Lists.{some, first, join}
use Rattle.theory.proofs.Lists.{first_le, first_before, first_there}
use Rattle.score.specs.Score.{cut, columns_in, score_of, heard_of, heard_from, number_of}
use Rattle.score.specs.Refusals.{bad_cell}
use Rattle.score.proofs.Columns.{cut_at, columns_whole, column_length, score_length}
use Rattle.score.proofs.Heard.{heard_length, number_at, number_rises}
use Rattle.ways.specs.declared.bookmark.Pair.{Pair}
use Rattle.ways.specs.declared.bookmark.Bookmark.{Bookmark}
use Rattle.ways.specs.Way.{Range}
use Rattle.ways.specs.Bookmarks.{first_bookmark}
use Rattle.asking.specs.Asking.{Accepted, InRange}
use Rattle.paging.specs.Order.{at_or_after}
use Rattle.paging.specs.Search.{Narrow, renamed}
use Rattle.paging.proofs.Bookmarks.{first_range}
use Rattle.search.specs.Along.{among}
use Rattle.search.proofs.Numbers.{heard_few}

-- ---- columns of h cells, one after another

-- each column has h cells
abbrev Even : (h : ℕ) (columns : List (List ℕ)) → Type 0
Even h columns = (k : ℕ) → k < length columns → length (get_or columns k []) ≡ h

even_tail : (h : ℕ) (c : List ℕ) (columns : List (List ℕ)) → Even h (c ∷ columns) → Even h columns
even_tail h c columns f k l = f (suc k) (omega arith)

pub join_length : (h : ℕ) (columns : List (List ℕ)) → Even h columns → length (join columns) ≡ length columns * h
join_length h [] f = sym (zero-mul h)
join_length h (c ∷ columns) f =
    omega (arith, length-append c (join columns), join_length h columns (even_tail h c columns f), f 0 (omega arith), suc-mul (length columns) h)

join_cut : (h : ℕ) (columns : List (List ℕ)) → Even h columns → cut (length columns) h (join columns) ≡ columns
join_cut h [] f = refl
join_cut h (c ∷ columns) f =
    let e : h ≡ length c = sym (f 0 (omega arith)) in
    ap₂ {C = List (List ℕ)} (λ (a : List ℕ) (s : List (List ℕ)). a ∷ s)
    (ap (λ (n : ℕ). take n (c ++ join columns)) e ∙ take-append_seam c (join columns))
    (ap (cut (length columns) h) (ap (λ (n : ℕ). drop n (c ++ join columns)) e ∙ drop-append_seam c (join columns))
    ∙ join_cut h columns (even_tail h c columns f))

-- ---- no entry that fails a test, in parts

module _ (test : ℕ → Bool) where
  none_cons : (x : ℕ) (xs : List ℕ) → some test (x ∷ xs) ≡ false → (test x ≡ false) × (some test xs ≡ false)
  none_cons x xs e = step (test x) refl e
    where
      step : (t : Bool) → test x ≡ t → cond t true (some test xs) ≡ false → (t ≡ false) × (some test xs ≡ false)
      step true f e = absurd (true≢false e)
      step false f e = (refl, e)

  none_take : (n : ℕ) (xs : List ℕ) → some test xs ≡ false → some test (take n xs) ≡ false
  none_take zero xs e = refl
  none_take (suc n) [] e = refl
  none_take (suc n) (x ∷ xs) e = let f = none_cons x xs e in rw f.0 (none_take n xs f.1)

  none_drop : (n : ℕ) (xs : List ℕ) → some test xs ≡ false → some test (drop n xs) ≡ false
  none_drop zero xs e = e
  none_drop (suc n) [] e = e
  none_drop (suc n) (x ∷ xs) e = none_drop n xs (none_cons x xs e).1

  none_append : (xs ys : List ℕ) → some test xs ≡ false → some test ys ≡ false → some test (xs ++ ys) ≡ false
  none_append [] ys e f = f
  none_append (x ∷ xs) ys e f = let g = none_cons x xs e in rw g.0 (none_append xs ys g.1 f)

  none_join : (columns : List (List ℕ)) → ((k : ℕ) → k < length columns → some test (get_or columns k []) ≡ false) → some test (join columns) ≡ false
  none_join [] f = refl
  none_join (c ∷ columns) f = none_append c (join columns) (f 0 (omega arith)) (none_join columns (λ k l. f (suc k) (omega arith)))

-- ---- the columns with a pitch of an accepted score

module _ (most : ℕ) (cells : List ℕ) (h : ℕ) (theme : List ℕ) (a : Accepted most cells h theme) where
  abbrev score : List (List ℕ)
  score = score_of cells h

  abbrev heards : List (List ℕ)
  heards = heard_of score

  abbrev kept : List ℕ
  kept = join heards

  -- a column with a pitch is one of the score
  of_score : (P : List ℕ → Type 0) → ((k : ℕ) → k < columns_in cells h → P (get_or score k [])) → (i : ℕ) → i < length heards → P (get_or heards i [])
  of_score P f i l =
      let n = number_at 1 score i l in
      subst P n.named (f (get_or (heard_from 1 score) i 0 - 1) (omega (arith, n.not_before, n.within, score_length cells h)))

  pub even : (i : ℕ) → i < length heards → length (get_or heards i []) ≡ h
  even =
      of_score (λ c. length c ≡ h)
      (λ k l. column_length (columns_in cells h) h cells k l
      (let b : k + 1 ≤ columns_in cells h = omega arith in omega (arith, columns_whole cells h a.columns_whole, mul-le-mul_right h b)))

  clean : (i : ℕ) → i < length heards → some bad_cell (get_or heards i []) ≡ false
  clean =
      of_score (λ c. some bad_cell c ≡ false)
      (λ k l. subst (λ (c : List ℕ). some bad_cell c ≡ false) (sym (cut_at (columns_in cells h) h cells k l))
      (none_take bad_cell h (drop (k * h) cells) (none_drop bad_cell (k * h) cells a.cells_good)))

  pub kept_length : length kept ≡ length heards * h
  kept_length = join_length h heards even

  pub kept_columns : columns_in kept h ≡ length heards
  kept_columns = ap (λ (n : ℕ). n / h) kept_length ∙ mul-div_cancel (length heards) a.tracks_some

  pub kept_score : score_of kept h ≡ heards
  kept_score = ap (λ (n : ℕ). cut n h kept) kept_columns ∙ join_cut h heards even

  pub kept_accepted : 1 ≤ length heards → Accepted most kept h theme
  kept_accepted some =
      record {
        tracks_some = a.tracks_some;
        tracks_few = a.tracks_few;
        columns_whole = omega (arith, div-add-mod' (length kept) h, ap (λ (n : ℕ). n * h) kept_columns, kept_length);
        columns_some = omega (arith, kept_columns);
        columns_few = omega (arith, kept_columns, heard_few score, score_length cells h, a.columns_few);
        cells_good = none_join bad_cell heards clean;
        notes_some = a.notes_some;
        notes_few = a.notes_few;
        notes_good = a.notes_good;
      }

-- ---- a bookmark among the columns with a pitch

le_z_true : {a b : ℤ} → a ≤ℤ b → le_z a b ≡ true
le_z_true {a} {b} l = step (le_z a b) l.le
  where
    step : (t : Bool) → T t → t ≡ true
    step true u = refl
    step false u = absurd u

module _ (range : Range) (narrow : Narrow range) (score : List (List ℕ)) (b : Bookmark) where
  abbrev numbers : List ℕ
  numbers = heard_from 1 score

  abbrev after : ℕ → Bool
  after k = leb b.column.0 k

  -- how many of the numbers come before its column
  abbrev at : ℕ
  at = first after numbers

  pub among_range : InRange range (length score) b → InRange range (length (heard_of score)) (among range numbers b)
  among_range i =
      record {
        from_first = omega arith;
        to_end = omega (arith, first_le after numbers, heard_length 1 score);
        not_below = step_below (eqb (get_or numbers at 0) b.column.0);
        not_above = step_above (eqb (get_or numbers at 0) b.column.0);
      }
    where
      lowest_in : InRange range 0 (first_bookmark range)
      lowest_in = first_range narrow 0

      step_below : (t : Bool) → range.lowest ≤ℤ cond t b.shift range.lowest
      step_below true = i.not_below
      step_below false = lowest_in.not_below

      step_above : (t : Bool) → cond t b.shift range.lowest ≤ℤ (range.highest +ℤ pos 1)
      step_above true = i.not_above
      step_above false = lowest_in.not_above

  -- a pair of the i-th column with a pitch comes before the one where it comes before the other
  pub among_same : (pair : Pair) → 1 ≤ pair.column.0 → pair.column.0 ≤ length (heard_of score) → range.lowest ≤ℤ pair.shift
      → at_or_after b (renamed (number_of score) pair) ≡ at_or_after (among range numbers b) pair
  among_same pair low high above = pick (dec_lt (pair.column.0 - 1) at) (dec_lt at (pair.column.0 - 1))
    where
      i : ℕ
      i = pair.column.0

      x : ℕ
      x = number_of score i

      j : ℕ
      j = b.column.0

      c : ℤ
      c = (among range numbers b).shift

      pick : Dec (i - 1 < at) → Dec (at < i - 1)
          → (ltb j x || eqb j x && le_z b.shift pair.shift) ≡ (ltb (at + 1) i || eqb (at + 1) i && le_z c pair.shift)
      pick (yes l) e =
          let below : x < j = leb-false j x (first_before after numbers 0 (i - 1) l) in
          rw (le-ltb j x (omega arith), ne_eqb j x (λ z. omega arith), le-ltb (at + 1) i (omega arith), ne_eqb (at + 1) i (λ z. omega arith))
      pick (no l) (no g) = same (dec_lt j x)
        where
          e : i - 1 ≡ at
          e = omega arith

          here : get_or numbers at 0 ≡ x
          here = ap (λ (k : ℕ). get_or numbers k 0) (sym e)

          not_before : j ≤ x
          not_before = leb-true j x (rw here at (first_there after numbers 0 (omega (arith, e, heard_length 1 score))))

          same : Dec (j < x) → (ltb j x || eqb j x && le_z b.shift pair.shift) ≡ (ltb (at + 1) i || eqb (at + 1) i && le_z c pair.shift)
          same (no f) =
              let k : x ≡ j = omega (arith, not_before) in
              rw (here, eq-eqb x j k, le-ltb j x (omega arith), eq-eqb j x (sym k), le-ltb (at + 1) i (omega arith), eq-eqb (at + 1) i (omega arith))
          same (yes f) =
              rw (here, ne_eqb x j (λ z. omega arith), lt-ltb j x (omega arith), le-ltb (at + 1) i (omega arith), eq-eqb (at + 1) i (omega arith), le_z_true above)
      pick (no l) (yes g) =
          let k : at < length numbers = omega (arith, heard_length 1 score) in
          let from : j ≤ get_or numbers at 0 = leb-true j (get_or numbers at 0) (first_there after numbers 0 k) in
          let up : get_or numbers at 0 < x = number_rises 1 score at (i - 1) (omega arith) (omega arith) in
          rw (lt-ltb j x (omega arith), lt-ltb (at + 1) i (omega arith))
