-- A score cut into its columns: how many there are, and which cells each has. The idea: a column more is h cells more
-- dropped. Assumes nothing.
use mathlib.Core.Path.{◌≡◌, refl, sym, ap, ap₂, ◌∙◌}
use mathlib.Core.List.{List, []}
use Prim.Native.Nat.{ℕ, zero, suc, ◌+◌, ◌-◌, ◌*◌, ◌%◌, ◌≤◌, ◌<◌}
use native.Mathlib.Nat.{zero-mul, suc-mul, one-mul, add-mul, sub-zero, suc-sub-suc, add-sub_cancel_left, mul-le-mul_right}
use native.Mathlib.Nat.{not-suc-le-zero, le_of_suc-le-suc, div-add-mod'}
use native.Mathlib.Decide.{dec_lt}
use native.Mathlib.Omega.{arith}
use lib.ListN.{length, get_or, take, drop, length-take, length-drop, get_or-eq_default}
use lib.Seq.{drop-drop, length-take-le}
use Rattle.score.specs.Score.{cut, columns_in, score_of}

pub cut_length : (n h : ℕ) (cells : List ℕ) → length (cut n h cells) ≡ n
cut_length zero h cells = refl
cut_length (suc n) h cells = ap suc (cut_length n h (drop h cells))

-- a column more is h cells more
drop_column : (k h : ℕ) (cells : List ℕ) → drop (k * h) (drop h cells) ≡ drop (suc k * h) cells
drop_column k h cells =
    let e : h + k * h ≡ suc k * h = omega (arith, suc-mul k h) in
    drop-drop (k * h) h cells ∙ ap (λ (n : ℕ). drop n cells) e

pub cut_at : (n h : ℕ) (cells : List ℕ) (k : ℕ) → k < n → get_or (cut n h cells) k [] ≡ take h (drop (k * h) cells)
cut_at zero h cells k l = absurd (not-suc-le-zero l)
cut_at (suc n) h cells zero l = rw zero-mul
cut_at (suc n) h cells (suc k) l = cut_at n h (drop h cells) k (le_of_suc-le-suc l) ∙ ap (take h) (drop_column k h cells)

pub cut_drop : (n h : ℕ) (cells : List ℕ) (j : ℕ) → j ≤ n → drop j (cut n h cells) ≡ cut (n - j) h (drop (j * h) cells)
cut_drop n h cells zero l = rw (zero-mul, sub-zero)
cut_drop zero h cells (suc j) l = absurd (not-suc-le-zero l)
cut_drop (suc n) h cells (suc j) l =
    rw suc-sub-suc (cut_drop n h (drop h cells) j (le_of_suc-le-suc l) ∙ ap (cut (n - j) h) (drop_column j h cells))

-- each column has at most h cells, and h where the cells reach so far
pub column_le : (n h : ℕ) (cells : List ℕ) (k : ℕ) → length (get_or (cut n h cells) k []) ≤ h
column_le n h cells k = pick (dec_lt k n)
  where
    pick : Dec (k < n) → length (get_or (cut n h cells) k []) ≤ h
    pick (yes l) = omega (arith, ap length (cut_at n h cells k l), length-take h (drop (k * h) cells))
    pick (no l) =
        let g : length (cut n h cells) ≤ k = omega (arith, cut_length n h cells) in
        omega (arith, ap length (get_or-eq_default (cut n h cells) [] g))

pub column_length : (n h : ℕ) (cells : List ℕ) (k : ℕ) → k < n → (k + 1) * h ≤ length cells → length (get_or (cut n h cells) k []) ≡ h
column_length n h cells k l m =
    let room : h ≤ length (drop (k * h) cells) = omega (arith, length-drop (k * h) cells, add-mul k 1 h, one-mul h) in
    ap length (cut_at n h cells k l) ∙ length-take-le h (drop (k * h) cells) room

-- ---- the columns of a whole score

pub columns_whole : (cells : List ℕ) (h : ℕ) → length cells % h ≡ 0 → columns_in cells h * h ≡ length cells
columns_whole cells h e = omega (arith, div-add-mod' (length cells) h)

pub score_length : (cells : List ℕ) (h : ℕ) → length (score_of cells h) ≡ columns_in cells h
score_length cells h = cut_length (columns_in cells h) h cells

-- ---- a column, by where it begins

module _ (cells : List ℕ) (h : ℕ) where
  -- column k, from 0, begins at base, and lies within the cells
  pub next_starts : (k base : ℕ) → base ≡ k * h → base + h ≡ (k + 1) * h
  next_starts k base e = omega (arith, add-mul k 1 h, one-mul h)

  pub column_room : (k base : ℕ) → base ≡ k * h → k < columns_in cells h → base + h ≤ length cells
  column_room k base e l =
      let below : k + 1 ≤ columns_in cells h = omega arith in
      omega (arith, next_starts k base e, mul-le-mul_right h below, div-add-mod' (length cells) h)

  pub column_cells : (k base : ℕ) → base ≡ k * h → k < columns_in cells h → take (base + h - base) (drop base cells) ≡ get_or (score_of cells h) k []
  column_cells k base e l =
      ap₂ (λ (a b : ℕ). take a (drop b cells)) (add-sub_cancel_left base h) e ∙ sym (cut_at (columns_in cells h) h cells k l)
