-- How many looks a search takes: over a whole list at most (n - m + 1) * h * (m - 1) where m <= n, else none; so for a
-- score and a theme within the limits they are below 2 ^ 32. The idea: a start takes at most m - 1 looks, and a column has
-- at most one start for each of its cells. Assumes nothing.
use mathlib.Core.Path.{◌≡◌, refl}
use mathlib.Core.Bool.{Bool, true, false, cond}
use mathlib.Core.List.{List, [], ◌∷◌, ◌++◌, map}
use Prim.Native.Nat.{ℕ, suc, ◌+◌, ◌-◌, ◌*◌, ◌%◌, ◌^◌, ◌≤◌, ◌<◌, zero-le}
use native.Mathlib.Nat.{le_refl, le_trans, mul-le-mul, mul-le-mul_right, suc-mul}
use native.Mathlib.Omega.{arith}
use lib.Dec.{leb, eqb}
use lib.ListN.{length, get_or, drop, length-append, length-map, length-drop}
use borrow.Author.Tests.{leb-true, eqb-true, ne_eqb}
use Rattle.theory.specs.Lists.{count, sum}
use Rattle.theory.specs.Pages.{hits}
use Rattle.theory.proofs.Counts.{hits_some, count_once}
use Rattle.theory.proofs.Looks.{sum_le}
use Rattle.score.specs.declared.quantities.Pitch.{Pitch}
use Rattle.score.specs.Limits.{most_tracks, most_columns}
use Rattle.asking.specs.Limits.{most_notes}
use Rattle.score.specs.Score.{pitch, pitches, column_at, columns_from}
use Rattle.ways.specs.declared.way.Way.{Way}
use Rattle.ways.specs.declared.way.Way.TheVariants.{Exact, Octave}
use Rattle.ways.specs.Way.{holds}
use Rattle.score.specs.Score.{note}
use Rattle.walking.specs.Starts.{Place, place, codes, starts_in, starts, looked, looks}

-- ---- a start

looked_le : (way : Way) (code : ℕ) (notes : List ℕ) (columns : List (List ℕ)) → looked way code notes columns ≤ length notes
looked_le way code [] columns = zero-le
looked_le way code (p ∷ notes) columns = step (holds way code (pitch p) (get_or columns 0 [])) (looked_le way code notes (drop 1 columns))
  where
    step : (b : Bool) → looked way code notes (drop 1 columns) ≤ length notes → suc (cond b (looked way code notes (drop 1 columns)) 0) ≤ suc (length notes)
    step true h = omega arith
    step false h = omega arith

pub looks_le : (way : Way) (score : List (List ℕ)) (theme : List ℕ) (s : Place) → looks way score theme s ≤ length theme - 1
unfolding looks
looks_le way score theme s =
    omega (arith, looked_le way s.code (drop 1 theme) (drop 1 (columns_from score (column_at s.column))), length-drop 1 theme)

-- ---- the starts of a column

pitches_le : (column : List ℕ) → length (pitches column) ≤ length column
pitches_le [] = le_refl 0
pitches_le (cell ∷ cells) = step (leb cell 127) (pitches_le cells)
  where
    step : (b : Bool) → length (pitches cells) ≤ length cells → length (cond b (pitch cell ∷ pitches cells) (pitches cells)) ≤ suc (length cells)
    step true h = omega arith
    step false h = omega arith

-- a pitch of the column stands at one code at most
pub codes_le : (way : Way) (p : Pitch) (column : List ℕ) → length (codes way p column 0) ≤ length column
unfolding holds
codes_le Exact p column = omega (arith, pitches_le column, hits_some (λ t code. eqb (t.0 + 127) (p.0 + code)) (pitches column) (count 0 255) once)
  where
    once : (t : Pitch) → length (hits (λ code. eqb (t.0 + 127) (p.0 + code)) (count 0 255)) ≤ 1
    once t = count_once (λ code. eqb (t.0 + 127) (p.0 + code)) 0 255 (λ x y l u e. ne_eqb (t.0 + 127) (p.0 + y) (λ d. omega (arith, eqb-true (t.0 + 127) (p.0 + x) e)))
codes_le Octave p column = omega (arith, pitches_le column, hits_some (λ t code. eqb (t.0 % 12) ((p.0 + code) % 12)) (pitches column) (count 0 12) once)
  where
    once : (t : Pitch) → length (hits (λ code. eqb (t.0 % 12) ((p.0 + code) % 12)) (count 0 12)) ≤ 1
    once t = count_once (λ code. eqb (t.0 % 12) ((p.0 + code) % 12)) 0 12 (λ x y l u e. ne_eqb (t.0 % 12) ((p.0 + y) % 12) (λ d. omega (arith, eqb-true (t.0 % 12) ((p.0 + x) % 12) e)))

-- ---- the starts of a score

starts_in_le : (way : Way) (p : Pitch) (m j h : ℕ) (columns : List (List ℕ)) → ((k : ℕ) → length (get_or columns k []) ≤ h)
    → length (starts_in way p m j columns) ≤ (length columns + 1 - m) * h
starts_in_le way p m j h [] w = zero-le
starts_in_le way p m j h (c ∷ columns) w = step (leb m (suc (length columns))) refl (starts_in_le way p m (suc j) h columns (λ k. w (suc k)))
  where
    step : (b : Bool) → leb m (suc (length columns)) ≡ b → length (starts_in way p m (suc j) columns) ≤ (length columns + 1 - m) * h
        → length (cond b (map (place j) (codes way p c 0)) [] ++ starts_in way p m (suc j) columns) ≤ (suc (length columns) + 1 - m) * h
    step true e ih =
        let l : m ≤ suc (length columns) = leb-true m (suc (length columns)) e in
        let s : suc (length columns) + 1 - m ≡ suc (length columns + 1 - m) = omega arith in
        rw (s, suc-mul (length columns + 1 - m) h)
        (omega (
          arith,
          ih,
          length-append (map (place j) (codes way p c 0)) (starts_in way p m (suc j) columns),
          length-map (codes way p c 0) (place j),
          codes_le way p c,
          w 0,
        ))
    step false e ih = le_trans ih (mul-le-mul_right h (omega arith))

pub starts_le : (way : Way) (score : List (List ℕ)) (theme : List ℕ) (h : ℕ) → ((k : ℕ) → length (get_or score k []) ≤ h)
    → length (starts way score theme) ≤ (length score + 1 - length theme) * h
starts_le way score theme h w = starts_in_le way (note theme 1) (length theme) 1 h score w

-- within the limits such a product is below 2 ^ 32
pub most_lt : (n h m : ℕ) → n ≤ most_columns → h ≤ most_tracks → 2 ≤ m → m ≤ most_notes → (n + 1 - m) * h * (m - 1) < 2 ^ 32
most_lt n h m n≤ h≤ m≥ m≤ =
    omega (
      arith,
      mul-le-mul
          {n₁ = (n + 1 - m) * h}
          {m₁ = m - 1}
          {n₂ = (most_columns - 1) * most_tracks}
          {m₂ = most_notes - 1}
          (mul-le-mul {n₁ = n + 1 - m} {m₁ = h} {n₂ = most_columns - 1} {m₂ = most_tracks} (omega arith) h≤)
          (omega arith),
    )

-- ---- the looks of all starts, and of those that pass a test; and of a page, from any bookmark

module _ (way : Way) (score : List (List ℕ)) (theme : List ℕ) (h : ℕ) (wide : (k : ℕ) → length (get_or score k []) ≤ h) where
  pub sum_looks_le : sum (map (looks way score theme) (starts way score theme)) ≤ (length score + 1 - length theme) * h * (length theme - 1)
  sum_looks_le =
      le_trans
      (sum_le (looks way score theme) (length theme - 1) (looks_le way score theme) (starts way score theme))
      (mul-le-mul_right (length theme - 1) (starts_le way score theme h wide))

  -- none where the theme is longer than the score
  pub sum_looks_none : length score < length theme → sum (map (looks way score theme) (starts way score theme)) ≡ 0
  sum_looks_none l =
      let e : length score + 1 - length theme ≡ 0 = omega arith in
      let z : sum (map (looks way score theme) (starts way score theme)) ≤ 0 * h * (length theme - 1) = rw e at sum_looks_le in
      omega (arith, z)
