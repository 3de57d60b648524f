-- A score without an empty column has the pairs that it had: a pair stands exactly where each note is in the column after the one
-- before (`full_stands`). The idea: the columns with a pitch from column j on are then the columns from column j on. Assumes nothing.
use mathlib.Core.Path.{◌≡◌, sym, ap, ◌∙◌, subst}
use mathlib.Core.Bool.{false}
use mathlib.Core.Logic.{◌↔◌}
use mathlib.Core.List.{List, []}
use Prim.Native.Nat.{ℕ, ◌+◌, ◌-◌, ◌≤◌}
use native.Mathlib.Omega.{arith}
use lib.ListN.{length, get_or, length-drop}
use lib.Seq.{get_or-drop}
use Rattle.score.specs.Score.{column_at, column, has_empty, columns_from, onward, note}
use Rattle.score.proofs.Heard.{full_heard, full_drop, full_at}
use Rattle.ways.specs.declared.way.Way.{Way}
use Rattle.ways.specs.declared.bookmark.Pair.{Pair}
use Rattle.ways.specs.Way.{Holds}
use Rattle.search.specs.Definition.{Stands, StandsNext}

module _ (way : Way) (score : List (List ℕ)) (theme : List ℕ) (full : has_empty score ≡ false) (some : 1 ≤ length theme) (pair : Pair) where
  abbrev j : ℕ
  j = pair.column.0

  all_on : onward score pair.column ≡ columns_from score pair.column
  all_on = full_heard (columns_from score pair.column) (full_drop (j - 1) score full)

  -- the i-th column from column j on
  same_column : (i : ℕ) → 1 ≤ i → 1 ≤ j → get_or (onward score pair.column) (i - 1) [] ≡ column score (column_at (j + i - 1))
  same_column i low first =
      let e : j - 1 + (i - 1) ≡ j + i - 1 - 1 = omega arith in
      ap (λ (s : List (List ℕ)). get_or s (i - 1) []) all_on ∙ get_or-drop (j - 1) score (i - 1) [] ∙ ap (λ (k : ℕ). get_or score k []) e

  pub full_stands : Stands way score theme pair ↔ StandsNext way score theme pair
  full_stands = (there, back)
    where
      there : Stands way score theme pair → StandsNext way score theme pair
      there s =
          record {
            from_first = s.from_first;
            to_last = omega (arith, s.from_first, some, rw all_on at s.to_last, length-drop (j - 1) score);
            not_below = s.not_below;
            not_above = s.not_above;
            each_note = λ i low high. subst (λ (c : List ℕ). Holds way c (note theme i) pair.shift) (same_column i low s.from_first) (s.each_note i low high);
          }

      back : StandsNext way score theme pair → Stands way score theme pair
      back s =
          record {
            from_first = s.from_first;
            with_pitch = full_at score full (j - 1) (omega (arith, s.from_first, s.to_last, some));
            to_last = rw all_on (omega (arith, s.from_first, s.to_last, length-drop (j - 1) score));
            not_below = s.not_below;
            not_above = s.not_above;
            each_note = λ i low high. subst (λ (c : List ℕ). Holds way c (note theme i) pair.shift) (sym (same_column i low s.from_first)) (s.each_note i low high);
          }
