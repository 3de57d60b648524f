-- How the numbers of the columns that are sought are found: those found, with those of the columns that are left, are all of them
-- (`Seeking`). Assumes nothing.
use mathlib.Core.Path.{◌≡◌, refl, sym, ap, ◌∙◌}
use mathlib.Core.Bool.{Bool, true, false, not}
use mathlib.Core.List.{List, [], ◌∷◌, ◌++◌, append-nil}
use Prim.Native.Nat.{ℕ, ◌+◌, ◌-◌, ◌*◌, ◌≤◌, ◌<◌, zero-le}
use native.Mathlib.Omega.{arith}
use lib.ListN.{length, get_or, take, drop, set, replicate, length-set, length-append, drop_of_length-le}
use lib.Seq.{take_all, take-append_seam}
use borrow.Author.Tests.{not-true, not-false}
use Rattle.theory.specs.Lists.{over}
use Rattle.theory.proofs.Lists.{over_more}
use Rattle.score.specs.Score.{columns_in, score_of, heard}
use Rattle.score.proofs.Columns.{score_length, column_cells}
use Rattle.score.proofs.Heard.{numbers_take, numbers_skip}
use Rattle.seeking.specs.Limits.{most_sought}
use Rattle.seeking.specs.Sought.{numbers_behind, sought_behind}

abbrev zeros : List ℕ
zeros = replicate most_sought 0

pub record Seeking (cells : List ℕ) (h passed : ℕ) (numbers : List ℕ) (k q : ℕ) : Type 0 where
  pub named : List ℕ
  pub so_far : numbers ≡ over zeros named
  pub left : named ++ numbers_behind (score_of cells h) k ≡ numbers_behind (score_of cells h) passed
  pub many : length named ≡ q
  pub room : q ≤ most_sought
  pub long : length numbers ≡ most_sought

pub found_start : (cells : List ℕ) (h passed : ℕ) → Seeking cells h passed zeros passed 0
found_start cells h passed = record { named = []; so_far = refl; left = refl; many = refl; room = zero-le; long = refl }

module _ (cells : List ℕ) (h passed : ℕ) {numbers : List ℕ} {k q : ℕ} (f : Seeking cells h passed numbers k q) where
  abbrev score : List (List ℕ)
  score = score_of cells h

  module _ (l : k < columns_in cells h) where
    within : k < length score
    within = omega (arith, score_length cells h)

    module _ {b : Bool} (e : b ≡ not (heard (take (k * h + h - k * h) (drop (k * h) cells)))) where
      here : b ≡ not (heard (get_or score k []))
      here = e ∙ ap (λ (c : List ℕ). not (heard c)) (column_cells cells h k (k * h) refl l)

      pub found_skip : not b ≡ false → Seeking cells h passed numbers (k + 1) q
      found_skip z =
          let g : heard (get_or score k []) ≡ false = not-true _ (sym here ∙ not-false b z) in
          record {
            named = f.named;
            so_far = f.so_far;
            left = ap (λ (s : List ℕ). f.named ++ s) (numbers_skip score k within g) ∙ f.left;
            many = f.many;
            room = f.room;
            long = f.long;
          }

      pub found_take : q < most_sought → not b ≡ true → Seeking cells h passed (set numbers q (k + 1)) (k + 1) (q + 1)
      found_take r z =
          let g : heard (get_or score k []) ≡ true = not-false _ (sym here ∙ not-true b z) in
          record {
            named = f.named ++ ((k + 1) ∷ []);
            so_far = ap (λ (d : List ℕ). set d q (k + 1)) f.so_far ∙ over_more zeros f.named 0 q (k + 1) f.many r;
            left = numbers_take score k within f.named g ∙ f.left;
            many = length-append f.named ((k + 1) ∷ []) ∙ ap (λ (m : ℕ). m + 1) f.many;
            room = omega arith;
            long = length-set numbers q (k + 1) ∙ f.long;
          }

  -- all columns are gone through
  pub found_end : {n : ℕ} → n ≡ columns_in cells h → n ≤ k → numbers ≡ sought_behind score passed
  unfolding sought_behind
  found_end {n} e past =
      let none : drop k score ≡ [] = drop_of_length-le score (omega (arith, score_length cells h)) in
      let all : f.named ≡ numbers_behind score passed = sym (append-nil f.named) ∙ (rw none at f.left) in
      f.so_far
      ∙ ap (over zeros) (sym (take_all most_sought f.named (omega (arith, f.many, f.room))) ∙ ap (take most_sought) all)

  -- or as many are found as are sought
  pub found_full : most_sought ≤ q → numbers ≡ sought_behind score passed
  unfolding sought_behind
  found_full r =
      let full : most_sought ≡ length f.named = omega (arith, f.many, f.room) in
      f.so_far
      ∙ ap (over zeros)
      (sym (take-append_seam f.named (numbers_behind score k))
      ∙ ap (λ (n : ℕ). take n (f.named ++ numbers_behind score k)) (sym full)
      ∙ ap (take most_sought) f.left)
