-- Empty columns looked for: columns by one and by four, where those that are left
-- settle the answer (`Left`), columns that begin with two rests, as an empty one does (`begins_none`), and the cells of one track,
-- where a column is a cell (`one_track`). Assumes nothing.
use mathlib.Core.Path.{◌≡◌, refl, sym, ap, ap₂, ◌∙◌}
use mathlib.Core.Bool.{Bool, true, false, cond, not, ◌&&◌, ◌||◌}
use mathlib.Core.List.{List, [], ◌∷◌}
use Prim.Native.Nat.{ℕ, zero, suc, ◌+◌, ◌-◌, ◌*◌, ◌≤◌, ◌<◌}
use native.Mathlib.Nat.{add-zero, zero-add, suc-add, sub-zero, add-mul, one-mul, zero-mul, suc-mul}
use native.Mathlib.Nat.{mul-le-mul_right, div-add-mod', div-one, not-suc-le-zero, le_of_suc-le-suc}
use native.Mathlib.Omega.{arith}
use lib.Dec.{leb, ltb}
use lib.ListN.{length, get_or, take, drop, length-drop}
use lib.Seq.{drop-drop, get_or-drop}
use borrow.Author.Tests.{lt-leb, le-leb, leb-true, leb-false, lt-ltb, le-ltb, ltb-false}
use Rattle.theory.specs.Lists.{some}
use Rattle.theory.proofs.Scans.{Flagged, flagged_more, flagged_end}
use Rattle.theory.proofs.Lists.{some_at, some_none, none_some}
use Rattle.score.specs.Limits.{highest_pitch}
use Rattle.score.specs.Score.{cut, columns_in, score_of, heard, has_empty}
use Rattle.score.proofs.Columns.{cut_length, column_length}
use Rattle.passing.specs.Passing.{rests_first}

abbrev pub is_pitch : ℕ → Bool
is_pitch cell = leb cell highest_pitch

abbrev pub no_pitch : ℕ → Bool
no_pitch cell = ltb highest_pitch cell

-- ---- the cells of a column

-- what is no pitch is none
pub no_pitch_not : (cell : ℕ) → not (no_pitch cell) ≡ is_pitch cell
no_pitch_not cell = step (is_pitch cell) refl
  where
    step : (t : Bool) → is_pitch cell ≡ t → not (no_pitch cell) ≡ t
    step true e = rw (le-ltb highest_pitch cell (leb-true cell highest_pitch e))
    step false e = rw (lt-ltb highest_pitch cell (leb-false cell highest_pitch e))

module _ (column : List ℕ) where
  -- a pitch is found
  heard_at : (i : ℕ) → i < length column → get_or column i 0 ≤ highest_pitch → false ≡ not (heard column)
  heard_at i h p = rw (some_at is_pitch column 0 i h (le-leb _ _ p))

  pub heard_here : {i : ℕ} → Flagged is_pitch column i false → i < length column → get_or column i 0 ≤ highest_pitch → false ≡ not (heard column)
  heard_here {i} f h p = heard_at i h p

  -- or none
  pub rest_more : {i : ℕ} → Flagged is_pitch column i false → i < length column → highest_pitch < get_or column i 0 → Flagged is_pitch column (i + 1) false
  rest_more f h p = flagged_more is_pitch column 0 f h (sym (lt-leb _ _ p))

  pub empty_end : {i : ℕ} → Flagged is_pitch column i false → length column ≤ i → true ≡ not (heard column)
  empty_end f h = ap not (flagged_end is_pitch column f h)

-- ---- the columns from a place on

abbrev is_empty : List ℕ → Bool
is_empty column = not (heard column)

-- the first or one of the others, grouped in two ways
either : (t x y : Bool) → cond t true (cond x true y) ≡ cond (cond t true x) true y
either true x y = refl
either false x y = refl

module _ (cells : List ℕ) (h : ℕ) where
  next : (test : List ℕ → Bool) (m at : ℕ)
      → some test (cut (suc m) h (drop at cells)) ≡ cond (test (take h (drop at cells))) true (some test (cut m h (drop (at + h) cells)))
  next test m at = ap (λ (l : List ℕ). cond (test (take h (drop at cells))) true (some test (cut m h l))) (drop-drop h at cells)

  -- one of m columns is empty
  abbrev empty_from : (at m : ℕ) → Bool
  empty_from at m = has_empty (cut m h (drop at cells))

  parts : (m left at : ℕ) → empty_from at (m + left) ≡ cond (empty_from at m) true (empty_from (at + m * h) left)
  parts zero left at = rw (zero-add, zero-mul, add-zero)
  parts (suc m) left at =
      let e : at + h + m * h ≡ at + suc m * h = omega (arith, suc-mul m h) in
      ap (empty_from at) (suc-add m left)
      ∙ next is_empty (m + left) at
      ∙ ap (cond (is_empty (take h (drop at cells))) true) (parts m left (at + h))
      ∙ either (is_empty (take h (drop at cells))) (empty_from (at + h) m) (empty_from (at + h + m * h) left)
      ∙ ap₂ (λ (x y : Bool). cond x true y) (sym (next is_empty m at)) (ap (λ (p : ℕ). empty_from p left) e)

  -- of many columns from base on, those that are left from a place on settle the answer
  pub record Left (base many at left : ℕ) : Type 0 where
    pub room : at + left * h ≤ length cells
    pub same : empty_from at left ≡ empty_from base many

  pub left_start : (base many : ℕ) → base + many * h ≤ length cells → Left base many base many
  left_start base many l = record { room = l; same = refl }

  module _ {base many at left : ℕ} (f : Left base many at left) where
    pub left_room : (m : ℕ) → m ≤ left → at + m * h ≤ length cells
    left_room m l = omega (arith, f.room, mul-le-mul_right h l)

    pub left_end : left ≤ 0 → false ≡ empty_from base many
    left_end l = let e : left ≡ 0 = omega arith in sym (ap (empty_from at) e) ∙ f.same

    -- m columns are asked together
    module _ (m : ℕ) (l : m ≤ left) {t : Bool} (e : t ≡ empty_from at m) where
      answer : {b : Bool} → t ≡ b → cond b true (empty_from (at + m * h) (left - m)) ≡ empty_from base many
      answer y =
          let s : m + (left - m) ≡ left = omega arith in
          ap (λ (b : Bool). cond b true (empty_from (at + m * h) (left - m))) (sym y ∙ e) ∙ sym (parts m (left - m) at) ∙ ap (empty_from at) s ∙ f.same

      pub left_found : t ≡ true → true ≡ empty_from base many
      left_found y = answer y

      pub left_passed : t ≡ false → Left base many (at + m * h) (left - m)
      left_passed y =
          let s : m + (left - m) ≡ left = omega arith in
          record { room = omega (arith, f.room, add-mul m (left - m) h, ap (λ (n : ℕ). n * h) s); same = answer y }

  -- k of many columns are passed, one after the other, and these cells are left
  pub record Ones (base many k : ℕ) (left : List ℕ) : Type 0 where
    pub at : ℕ
    pub starts : left ≡ drop at cells
    pub settles : Left base many at (many - k)

  pub ones_start : (base many : ℕ) {left : List ℕ} → left ≡ drop base cells → base + many * h ≤ length cells → Ones base many 0 left
  ones_start base many e l = record { at = base; starts = e; settles = rw (sub-zero many) (left_start base many l) }

  module _ {base many k : ℕ} {left : List ℕ} (f : Ones base many k left) where
    pub ones_end : many ≤ k → false ≡ empty_from base many
    ones_end l = left_end f.settles (omega arith)

    module _ (l : k < many) where
      pub ones_room : h ≤ length left
      ones_room = omega (arith, ap length f.starts, length-drop f.at cells, left_room f.settles 1 (omega arith), one-mul h)

      module _ {t : Bool} {column : List ℕ} (c : column ≡ take h left) (e : t ≡ not (heard column)) where
        here : t ≡ empty_from f.at 1
        here = e ∙ ap is_empty (c ∙ ap (take h) f.starts) ∙ only (is_empty (take h (drop f.at cells)))
          where
            only : (b : Bool) → b ≡ cond b true false
            only true = refl
            only false = refl

        pub ones_found : t ≡ true → true ≡ empty_from base many
        ones_found y = left_found f.settles 1 (omega arith) here y

        pub ones_passed : {rest : List ℕ} → rest ≡ drop h left → t ≡ false → Ones base many (k + 1) rest
        ones_passed r y =
            let s : many - k - 1 ≡ many - (k + 1) = omega arith in
            record {
              at = f.at + h;
              starts = r ∙ ap (drop h) f.starts ∙ drop-drop h f.at cells;
              settles = rw (one-mul h, s) at (left_passed f.settles 1 (omega arith) here y);
            }

-- ---- columns that begin with two rests

-- one that does not is heard
pub begins_heard : (column : List ℕ) → 1 < length column → rests_first column ≡ false → false ≡ not (heard column)
begins_heard column h e = step (no_pitch (get_or column 0 0)) refl e
  where
    step : (b : Bool) → no_pitch (get_or column 0 0) ≡ b → (b && no_pitch (get_or column 1 0)) ≡ false → false ≡ not (heard column)
    step false f e = heard_at column 0 (omega arith) (ltb-false _ _ f)
    step true f e = heard_at column 1 h (ltb-false _ _ e)

-- the cells after the second do not matter
begins_take : (h : ℕ) (cells : List ℕ) → 1 < h → rests_first (take h cells) ≡ rests_first cells
begins_take zero cells l = absurd (not-suc-le-zero l)
begins_take (suc zero) cells l = absurd (not-suc-le-zero (le_of_suc-le-suc l))
begins_take (suc (suc h)) [] l = refl
begins_take (suc (suc h)) (a ∷ []) l = refl
begins_take (suc (suc h)) (a ∷ b ∷ cells) l = refl

-- where none of m columns does, none is empty
begins_none : (m h : ℕ) (cells : List ℕ) → 1 < h → m * h ≤ length cells → some rests_first (cut m h cells) ≡ false → has_empty (cut m h cells) ≡ false
begins_none m h cells l room e = none_some is_empty (cut m h cells) [] each
  where
    each : (i : ℕ) → i < length (cut m h cells) → is_empty (get_or (cut m h cells) i []) ≡ false
    each i b =
        let below : i + 1 ≤ m = omega (arith, cut_length m h cells) in
        let fits : (i + 1) * h ≤ length cells = omega (arith, mul-le-mul_right h below) in
        let long : 1 < length (get_or (cut m h cells) i []) = omega (arith, column_length m h cells i (omega arith) fits) in
        sym (begins_heard (get_or (cut m h cells) i []) long (some_none rests_first (cut m h cells) [] e i b))

-- two cells from a place on
pub begins_at : (cells : List ℕ) (at : ℕ) → (no_pitch (get_or cells at 0) && no_pitch (get_or cells (at + 1) 0)) ≡ rests_first (drop at cells)
begins_at cells at = rw (get_or-drop at cells 0 0, get_or-drop at cells 1 0, add-zero)

-- four columns
module _ (cells : List ℕ) {h : ℕ} (l : 1 < h) where
  begins_next : (m at : ℕ)
      → some rests_first (cut (suc m) h (drop at cells)) ≡ cond (rests_first (drop at cells)) true (some rests_first (cut m h (drop (at + h) cells)))
  begins_next m at =
      next cells h rests_first m at ∙ ap (λ (b : Bool). cond b true (some rests_first (cut m h (drop (at + h) cells)))) (begins_take h (drop at cells) l)

  pub begins_four : (base : ℕ) {a b c d : Bool}
      → a ≡ rests_first (drop base cells)
      → b ≡ rests_first (drop (base + h) cells)
      → c ≡ rests_first (drop (base + h + h) cells)
      → d ≡ rests_first (drop (base + h + h + h) cells)
      → (((a || b) || c) || d) ≡ some rests_first (cut 4 h (drop base cells))
  begins_four base {a} {b} {c} {d} ea eb ec ed =
      step a b c d ∙ sym (rw (begins_next 3 base, begins_next 2 (base + h), begins_next 1 (base + h + h), begins_next 0 (base + h + h + h), ea, eb, ec, ed))
    where
      step : (a b c d : Bool) → (((a || b) || c) || d) ≡ cond a true (cond b true (cond c true (cond d true false)))
      step true b c d = refl
      step false true c d = refl
      step false false true d = refl
      step false false false true = refl
      step false false false false = refl

-- ---- four columns after four

module _ (cells : List ℕ) (h : ℕ) where
  -- all columns are left
  pub fours_start : {n : ℕ} → n ≡ columns_in cells h → Left cells h 0 (columns_in cells h) 0 n
  fours_start e = rw e (left_start cells h 0 (columns_in cells h) (omega (arith, div-add-mod' (length cells) h)))

  -- none of four is empty, since none begins with two rests
  pub fours_none : {base many at left : ℕ} {t : Bool}
      → Left cells h base many at left
      → 1 < h
      → 3 < left
      → t ≡ some rests_first (cut 4 h (drop at cells))
      → t ≡ false
      → false ≡ has_empty (cut 4 h (drop at cells))
  fours_none {at = at} f l m e y =
      let room : 4 * h ≤ length (drop at cells) = omega (arith, length-drop at cells, left_room cells h f 4 m) in
      sym (begins_none 4 h (drop at cells) l room (sym e ∙ y))

-- ---- one track

-- a cell alone is empty where it is no pitch
alone : (cell : ℕ) → no_pitch cell ≡ not (heard (cell ∷ []))
alone cell = step (is_pitch cell) refl
  where
    step : (b : Bool) → is_pitch cell ≡ b → no_pitch cell ≡ not (cond b true false)
    step true e = le-ltb highest_pitch cell (leb-true cell highest_pitch e)
    step false e = lt-ltb highest_pitch cell (leb-false cell highest_pitch e)

cells_alone : (cells : List ℕ) → some no_pitch cells ≡ has_empty (cut (length cells) 1 cells)
cells_alone [] = refl
cells_alone (cell ∷ cells) = rw (alone cell, cells_alone cells)

pub one_track : (cells : List ℕ) {h : ℕ} → h ≡ 1 → some no_pitch cells ≡ has_empty (score_of cells h)
one_track cells e = rw (e, div-one) (cells_alone cells)
