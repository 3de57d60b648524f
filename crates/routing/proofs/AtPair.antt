-- Whether a pair is listed, as the code goes: its shift, its column, its notes; and of a written pair first whether the shift is 0.
-- Assumes nothing.
use mathlib.Core.Path.{◌≡◌, refl, sym, ap, ◌∙◌}
use mathlib.Core.Bool.{Bool, true, false, not, ◌&&◌, false≢true}
use mathlib.Core.Logic.{◌⊎◌, inl, inr}
use mathlib.Core.List.{List, []}
use Prim.Native.Nat.{ℕ, ◌+◌, ◌-◌, ◌*◌, ◌≤◌, ◌<◌}
use native.Mathlib.Omega.{arith}
use lib.Dec.{ltb}
use lib.IntN.{pos}
use lib.ListN.{length, take, drop, get_or-eq_default}
use borrow.Author.Tests.{lt-ltb, ltb-true}
use Rattle.theory.proofs.Either.{both_left}
use Rattle.score.specs.Score.{column_at, column, columns_in, score_of, heard, onward}
use Rattle.score.proofs.Columns.{score_length, column_cells}
use Rattle.ways.specs.declared.way.Way.{Way}
use Rattle.ways.specs.declared.way.Way.TheVariants.{Exact}
use Rattle.ways.specs.declared.way.AnyWay.TheVariants.{Written}
use Rattle.ways.specs.declared.bookmark.Pair.{Pair}
use Rattle.ways.specs.Way.{code_of}
use Rattle.ways.specs.Codes.{no_shift, outside, code_given}
use Rattle.ways.proofs.Coding.{code_of_shift}
use Rattle.routing.specs.Routing.{held_along, is_listed_by, is_listed}
use Rattle.routing.specs.TrackSets.{holders_along, holders_at, FoundTracks}

-- ---- the column

twice : (b : Bool) → not (not b) ≡ b
twice true = refl
twice false = refl

module _ (cells : List ℕ) (h j : ℕ) where
  abbrev here : Bool
  here = ltb 0 j && heard (column (score_of cells h) (column_at j))

  -- it is 0, or above the last
  pub heard_outside : {n : ℕ} → n ≡ columns_in cells h → (j ≡ 0) ⊎ ((j ≡ 0 → ⊥) × (n < j)) → false ≡ here
  heard_outside {n} e (inl o) = rw o
  heard_outside {n} e (inr (z, l)) =
      let past : length (score_of cells h) ≤ j - 1 = omega (arith, l, e, score_length cells h) in
      rw (lt-ltb 0 j (omega (arith, l)), get_or-eq_default (score_of cells h) [] {n = j - 1} past)

  -- it is one of the score's
  module _ {n : ℕ} (e : n ≡ columns_in cells h) (t : (j ≡ 0 → ⊥) × (j ≤ n)) where
    within : (0 < j) × (j - 1 < columns_in cells h)
    within = let some = t.0 in let l = t.1 in (omega arith, omega arith)

    pub heard_inside : {b : Bool} → b ≡ not (heard (take ((j - 1) * h + h - (j - 1) * h) (drop ((j - 1) * h) cells))) → not b ≡ here
    heard_inside {b} g =
        let same = column_cells cells h (j - 1) ((j - 1) * h) refl within.1 in
        let own : not b ≡ heard (column (score_of cells h) (column_at j)) = ap not (g ∙ ap (λ (c : List ℕ). not (heard c)) same) ∙ twice _ in
        rw (lt-ltb 0 j within.0) own

-- a column that has a pitch is not 0
pub column_some : (j : ℕ) (b : Bool) → (ltb 0 j && b) ≡ true → 0 < j
column_some j b e = ltb-true 0 j (both_left (ltb 0 j) b e)

-- ---- by shift, column and notes

-- a pair that is not listed
pub held_none : {said : Bool} {found lent sets : List ℕ} → said ≡ false → FoundTracks said found lent false sets
held_none s = record { told = sym s; found_all = λ w. absurd (false≢true w) }

module _ (way : Way) (score : List (List ℕ)) (theme : List ℕ) (pair : Pair) where
  pub by_shift : no_shift way pair.shift ≡ true → is_listed_by way score theme pair ≡ false
  by_shift e = rw e

  module _ (shift : no_shift way pair.shift ≡ false) where
    pub by_column : (ltb 0 pair.column.0 && heard (column score pair.column)) ≡ false → is_listed_by way score theme pair ≡ false
    by_column e = rw (shift, e)

    pub by_notes : (ltb 0 pair.column.0 && heard (column score pair.column)) ≡ true → {code : ℕ} → code ≡ code_given way pair.shift
        → {lent sets : List ℕ} {all : Bool}
        → FoundTracks (held_along way code theme (onward score pair.column)) (holders_along way code theme (onward score pair.column))
        lent all sets
        → FoundTracks (is_listed_by way score theme pair) (holders_at way score theme pair) lent all sets
    by_notes e {code} c {lent} {sets} {all} a =
        let own : code ≡ code_of way pair.shift = c ∙ code_of_shift way pair.shift shift in
        rw (shift, e) (rw own at a)

-- ---- a written pair

module _ (score : List (List ℕ)) (theme : List ℕ) (pair : Pair) where
  pub written_shift : outside pair.shift (pos 0) (pos 0) ≡ true → is_listed Written score theme pair ≡ false
  written_shift e = rw e

  pub written_exact : outside pair.shift (pos 0) (pos 0) ≡ false → {lent sets : List ℕ} {all : Bool}
      → FoundTracks (is_listed_by Exact score theme pair) (holders_at Exact score theme pair) lent all sets
      → FoundTracks (is_listed Written score theme pair) (holders_at Exact score theme pair) lent all sets
  written_exact e a = rw e a
