-- A walk along the columns lists where the theme stands. After the columns before k, counted from 0, it has decided the starts
-- of which the last note stands before k, and listed those at which the theme stands (`Along`). One column more decides one
-- start more, or none yet (`along_hit`, `along_miss`); and where the columns end, or the room, the page is listed
-- (`along_end`, `along_full`). Assumes nothing.
use mathlib.Core.Path.{◌≡◌, refl, sym, ap, ◌∙◌}
use mathlib.Core.Bool.{Bool, true, false}
use mathlib.Core.Logic.{◌↔◌}
use mathlib.Core.List.{List, [], ◌∷◌, ◌++◌, map, map-append, append-nil}
use Prim.Native.Nat.{ℕ, suc, ◌+◌, ◌-◌, ◌*◌, ◌%◌, ◌^◌, ◌≤◌, ◌<◌, zero-le}
use native.Mathlib.Nat.{mod-eq_of_lt, suc-mul, mul-le-mul_right}
use native.Mathlib.Decide.{dec_le}
use native.Mathlib.Omega.{arith}
use lib.Dec.{eqb}
use lib.IntN.{ℤ, pos}
use lib.ListN.{length, set, take, length-append, length-map}
use lib.Seq.{take_all, take-append_seam}
use borrow.Author.Tests.{eqb-true, eqb-false}
use Rattle.theory.specs.Lists.{over, count}
use Rattle.theory.specs.Pages.{hits}
use Rattle.theory.specs.Bits.{bit}
use Rattle.theory.specs.Register.{step, reg_from}
use Rattle.theory.proofs.Lists.{count_append, over_more, over_length}
use Rattle.theory.proofs.Pages.{page_take, hits_append}
use Rattle.theory.proofs.Register.{Diagonal, reg_from_none, reg_from_turn, reg_from_iff}
use Rattle.score.specs.Score.{columns_in, score_of}
use Rattle.score.proofs.Columns.{score_length}
use Rattle.filter.specs.Limits.{word_bits}
use Rattle.written.specs.Written.{stands_at}
use Rattle.written.specs.Words.{word_at}
use Rattle.written.specs.Walk.{Walkable, shown_from, ListsFrom}
use Rattle.written.proofs.Standing.{diagonal_stands}

-- ---- which starts are decided

-- of the columns behind the first `from`, those at which a theme of m notes stands that ends before k, counted from 0
abbrev pub decided : (score : List (List ℕ)) (theme : List ℕ) (from k : ℕ) → List ℕ
decided score theme from k = hits (stands_at score theme) (count (from + 1) (k + 1 - (length theme + from)))

module _ (score : List (List ℕ)) (theme : List ℕ) (from k : ℕ) where
  -- the theme has no room yet before column k + 1
  decided_early : k + 1 < length theme + from → decided score theme from (k + 1) ≡ decided score theme from k
  decided_early h =
      let a : k + 1 + 1 - (length theme + from) ≡ 0 = omega arith in
      let b : k + 1 - (length theme + from) ≡ 0 = omega arith in
      rw (a, b)

  -- it has, and one start more is decided
  decided_more : length theme + from ≤ k + 1 → {j : ℕ} → j ≡ k + 2 - length theme
      → decided score theme from (k + 1) ≡ decided score theme from k ++ hits (stands_at score theme) (j ∷ [])
  decided_more h {j} e =
      let a : k + 1 + 1 - (length theme + from) ≡ k + 1 - (length theme + from) + 1 = omega arith in
      let b : from + 1 + (k + 1 - (length theme + from)) ≡ j = omega arith in
      rw (a, count_append (from + 1) (k + 1 - (length theme + from)) 1, hits_append (stands_at score theme) (count (from + 1) (k + 1 - (length theme + from))) (count (from + 1 + (k + 1 - (length theme + from))) 1), b)

-- ---- what the loop keeps

pub record Along (cells : List ℕ) (h : ℕ) (theme : List ℕ) (from : ℕ) (columns₀ : List ℕ) (shifts₀ : List ℤ)
    (columns : List ℕ) (shifts : List ℤ) (register k found : ℕ) : Type 0 where
  pub on : from ≤ k
  pub runs : register ≡ reg_from word_bits (word_at word_bits cells h theme) from k
  pub counted : found ≡ length (decided (score_of cells h) theme from k)
  pub to_end : k + 1 - (length theme + from) ≤ columns_in cells h + 1 - (length theme + from)
  pub few : found ≤ length columns₀
  pub in_columns : columns ≡ over columns₀ (decided (score_of cells h) theme from k)
  pub in_shifts : shifts ≡ over shifts₀ (map (λ j. pos 0) (decided (score_of cells h) theme from k))

module _ {cells : List ℕ} {h : ℕ} {theme : List ℕ} {from : ℕ} {columns₀ : List ℕ} {shifts₀ : List ℤ}
    (w : Walkable cells h theme from columns₀ shifts₀) where
  abbrev score : List (List ℕ)
  score = score_of cells h

  pub along_start : Along cells h theme from columns₀ shifts₀ columns₀ shifts₀ (2 ^ word_bits - 1) from 0
  along_start =
      let none : from + 1 - (length theme + from) ≡ 0 = omega (arith, w.notes) in
      record {
        on = omega arith;
        runs = sym (reg_from_none word_bits (word_at word_bits cells h theme) from);
        counted = rw none;
        to_end = omega (arith, none);
        few = zero-le;
        in_columns = rw none;
        in_shifts = rw none;
      }

  -- a column of the score is a part of its cells
  pub column_part : {k : ℕ} → k < columns_in cells h → k * h + h ≤ length cells
  column_part {k} l = omega (arith, suc-mul k h, mul-le-mul_right {m = suc k} {n = columns_in cells h} h l, w.whole)

  module _ {columns : List ℕ} {shifts : List ℤ} {register k found : ℕ} (a : Along cells h theme from columns₀ shifts₀ columns shifts register k found) where
    -- the buffers keep their length
    pub along_columns : length columns ≡ length columns₀
    along_columns = ap length a.in_columns ∙ over_length columns₀ (decided score theme from k) (omega (arith, a.counted, a.few))

    pub along_shifts : length shifts ≡ length shifts₀
    along_shifts =
        ap length a.in_shifts
        ∙ over_length shifts₀ (map (λ j. pos 0) (decided score theme from k))
        (omega (arith, length-map (decided score theme from k) (λ (j : ℕ). pos 0), a.counted, a.few, w.same_room))

    -- those left out where the columns end, or the room
    abbrev left : ℕ
    left = columns_in cells h + 1 - (length theme + from) - (k + 1 - (length theme + from))

    abbrev rest : List ℕ
    rest = hits (stands_at score theme) (count (from + 1 + (k + 1 - (length theme + from))) left)

    whole : hits (stands_at score theme) (count (from + 1) (length score + 1 - (length theme + from))) ≡ decided score theme from k ++ rest
    whole =
        let f : length score + 1 - (length theme + from) ≡ k + 1 - (length theme + from) + left = omega (arith, score_length cells h, a.to_end) in
        rw (f, count_append (from + 1) (k + 1 - (length theme + from)) left, hits_append (stands_at score theme) (count (from + 1) (k + 1 - (length theme + from))) (count (from + 1 + (k + 1 - (length theme + from))) left))

    lists : take (length columns₀) (decided score theme from k ++ rest) ≡ decided score theme from k
        → ListsFrom cells h theme from columns₀ shifts₀ found columns shifts
    lists front = record { counted = rw page a.counted; in_columns = rw page a.in_columns; in_shifts = rw page a.in_shifts }
      where
        page : shown_from score theme from (length columns₀) ≡ decided score theme from k
        page = page_take (stands_at score theme) (length columns₀) (count (from + 1) (length score + 1 - (length theme + from))) ∙ ap (take (length columns₀)) whole ∙ front

    -- the columns end, or the room: the page is listed
    pub along_end : columns_in cells h ≤ k → ListsFrom cells h theme from columns₀ shifts₀ found columns shifts
    along_end end =
        let z : left ≡ 0 = omega arith in
        lists (rw (z, append-nil) (take_all (length columns₀) (decided score theme from k) (omega (arith, a.few, a.counted))))

    pub along_full : found ≡ length columns₀ → ListsFrom cells h theme from columns₀ shifts₀ found columns shifts
    along_full full =
        let r : length columns₀ ≡ length (decided score theme from k) = omega (arith, full, a.counted) in
        lists (rw r (take-append_seam (decided score theme from k) rest))

    -- one column more
    module _ (more : k < columns_in cells h) {register' : ℕ} (e : register' ≡ step word_bits register (word_at word_bits cells h theme k))
        {marked : Bool} (d : marked ≡ eqb (bit register' ((length theme - 1) % word_bits)) 0) where
      runs_on : register' ≡ reg_from word_bits (word_at word_bits cells h theme) from (k + 1)
      runs_on = reg_from_turn word_bits (word_at word_bits cells h theme) from k a.on a.runs e

      -- the mark says that the theme has just ended
      mark : marked ≡ eqb (bit (reg_from word_bits (word_at word_bits cells h theme) from (k + 1)) (length theme - 1)) 0
      mark = d ∙ ap (λ (q : ℕ). eqb (bit register' q) 0) (mod-eq_of_lt (omega (arith, w.notes, w.notes_most))) ∙ ap (λ (r : ℕ). eqb (bit r (length theme - 1)) 0) runs_on

      means : (bit (reg_from word_bits (word_at word_bits cells h theme) from (k + 1)) (length theme - 1) ≡ 0)
          ↔ ((from + (length theme - 1) ≤ k) × Diagonal (word_at word_bits cells h theme) (k - (length theme - 1)) (length theme - 1))
      means = reg_from_iff word_bits (word_at word_bits cells h theme) from (length theme - 1) k (omega (arith, w.notes, w.notes_most)) a.on

      stands_there : from + (length theme - 1) ≤ k
          → Diagonal (word_at word_bits cells h theme) (k - (length theme - 1)) (length theme - 1) ↔ (stands_at score theme (k - (length theme - 1) + 1) ≡ true)
      stands_there l =
          diagonal_stands word_bits cells h theme (omega (arith, w.notes)) w.notes_most w.sung (k - (length theme - 1)) (omega (arith, more, w.notes, l))

      -- it has: the start is behind the first m - 1 columns, and is listed
      pub hit_fits : marked ≡ true → length theme + from ≤ k + 1
      hit_fits t = omega (arith, (means.0 (eqb-true _ 0 (sym mark ∙ t))).0, w.notes)

      pub along_hit : marked ≡ true → found < length columns₀ → {j : ℕ} → j ≡ k + 2 - length theme
          → Along cells h theme from columns₀ shifts₀ (set columns found j) (set shifts found (pos 0)) register' (k + 1) (found + 1)
      along_hit t room {j} is =
          let l = hit_fits t in
          let at : k - (length theme - 1) + 1 ≡ j = omega (arith, l, w.notes) in
          let there : stands_at score theme j ≡ true = rw at at ((stands_there (omega (arith, l, w.notes))).0 (means.0 (eqb-true _ 0 (sym mark ∙ t))).1) in
          let new : decided score theme from (k + 1) ≡ decided score theme from k ++ (j ∷ []) = rw there at (decided_more score theme from k l is) in
          record {
            on = omega (arith, a.on);
            runs = runs_on;
            counted = rw new (omega (arith, a.counted, length-append (decided score theme from k) (j ∷ [])));
            to_end = omega (arith, more);
            few = omega (arith, room);
            in_columns = rw (new, a.in_columns) (over_more columns₀ (decided score theme from k) 0 found j (sym a.counted) room);
            in_shifts =
                rw (new, map-append (λ (i : ℕ). pos 0) (decided score theme from k) (j ∷ []), a.in_shifts)
                (over_more shifts₀ (map (λ i. pos 0) (decided score theme from k)) (pos 0) found (pos 0)
                (length-map (decided score theme from k) (λ (i : ℕ). pos 0) ∙ sym a.counted) (omega (arith, room, w.same_room)));
          }

      pub along_miss : marked ≡ false → Along cells h theme from columns₀ shifts₀ columns shifts register' (k + 1) found
      along_miss t = pick (dec_le (length theme + from) (k + 1))
        where
          false_of : (b : Bool) → (b ≡ true → ⊥) → b ≡ false
          false_of true n = absurd (n refl)
          false_of false n = refl

          same : decided score theme from (k + 1) ≡ decided score theme from k → Along cells h theme from columns₀ shifts₀ columns shifts register' (k + 1) found
          same e =
              record {
                on = omega (arith, a.on);
                runs = runs_on;
                counted = rw e a.counted;
                to_end = omega (arith, more);
                few = a.few;
                in_columns = rw e a.in_columns;
                in_shifts = rw e a.in_shifts;
              }

          pick : Dec (length theme + from ≤ k + 1) → Along cells h theme from columns₀ shifts₀ columns shifts register' (k + 1) found
          pick (no l) = same (decided_early score theme from k (omega arith))
          pick (yes l) =
              let j = k + 2 - length theme in
              let at : k - (length theme - 1) + 1 ≡ j = omega (arith, l, w.notes) in
              let low : from + (length theme - 1) ≤ k = omega (arith, l, w.notes) in
              let not : stands_at score theme j ≡ false =
              false_of (stands_at score theme j) (λ y. eqb-false _ 0 (sym mark ∙ t) (means.1 (low, (stands_there low).1 (rw at y)))) in
              same (rw (not, append-nil) at (decided_more score theme from k l refl))
