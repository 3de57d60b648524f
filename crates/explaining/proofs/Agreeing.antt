-- What is said of the notes rests on their columns alone, and what is said of the intervals on the numbers of these alone
-- (`notes_agree`, `tracks_agree`, `sifted_agree`); so at a column that fits, what is computed by the numbers that are sought is
-- what the definition says (`columns_same`, `sifted_same`). Assumes nothing.
use mathlib.Core.Path.{◌≡◌, ap, ap₂, ◌∙◌}
use mathlib.Core.Bool.{cond, not}
use mathlib.Core.List.{List, []}
use Prim.Native.Nat.{ℕ, ◌+◌, ◌-◌, ◌≤◌, ◌<◌}
use native.Mathlib.Omega.{arith}
use lib.Dec.{ltb, eqb}
use lib.ListN.{length, get_or}
use Rattle.theory.specs.Bits.{bit}
use Rattle.theory.specs.Lists.{over}
use Rattle.theory.proofs.Lists.{count_map_agree}
use Rattle.theory.proofs.Lowest.{first_agree}
use Rattle.score.specs.declared.quantities.Column.{Column}
use Rattle.score.specs.Score.{column_at, column, onward, note}
use Rattle.ways.specs.declared.way.Way.{Way}
use Rattle.ways.specs.Way.{holds}
use Rattle.filter.specs.Table.{theme_interval}
use Rattle.seeking.specs.Limits.{most_sought}
use Rattle.seeking.specs.Sought.{numbers_on, sought}
use Rattle.seeking.specs.Track.{lowest_track}
use Rattle.seeking.proofs.Numbers.{sought_at, number_named}
use Rattle.explaining.specs.declared.answer.Reason.TheVariants.{Listed}
use Rattle.explaining.specs.declared.answer.Sifted.TheVariants.{Kept, Dismissed}
use Rattle.explaining.specs.Explaining.{no_tracks, Fitting, failed, held, notes_say, notes_tracks, sifted_by}
use Rattle.explaining.specs.Inner.{column_by}

-- ---- the notes

module _ (way : Way) (code : ℕ) (theme : List ℕ) (f g : ℕ → List ℕ) (same : (i : ℕ) → 1 ≤ i → i < 1 + length theme → f i ≡ g i) where
  held_agree : held way code theme f ≡ held way code theme g
  held_agree = first_agree _ _ 1 (length theme) (λ i a b. ap (λ (c : List ℕ). not (holds way code (note theme i) c)) (same i a b))

  pub notes_agree : notes_say way code theme f ≡ notes_say way code theme g
  notes_agree = ap (λ (k : ℕ). cond (ltb k (length theme)) (failed way code (note theme (k + 1)) (k + 1)) Listed) held_agree

  pub tracks_agree : notes_tracks way code theme f ≡ notes_tracks way code theme g
  tracks_agree =
      ap₂ (λ (k : ℕ) (l : List ℕ). cond (ltb k (length theme)) no_tracks l) held_agree
      (ap (λ (l : List ℕ). over no_tracks l)
      (count_map_agree _ _ 1 (length theme) (λ i a b. ap (λ (c : List ℕ). lowest_track way code (note theme i) c) (same i a b))))

-- ---- the intervals

pub sifted_agree : (theme sets ns ms : List ℕ) → ((i : ℕ) → i < length theme → get_or ns i 0 ≡ get_or ms i 0)
    → sifted_by theme sets ns ≡ sifted_by theme sets ms
sifted_agree theme sets ns ms same =
    ap (λ (k : ℕ). cond (ltb k (length theme - 1)) (Dismissed (record { number = k + 1; size = theme_interval theme k })) Kept)
    (first_agree _ _ 1 (length theme - 1)
    (λ i a b. ap (λ (n : ℕ). eqb (bit (get_or sets (n - 1) 0) (theme_interval theme (i - 1)).0) 1) (same (i - 1) (omega arith))))

-- ---- at a column that fits

module _ (score : List (List ℕ)) (theme : List ℕ) (j : Column) (few : length theme ≤ most_sought) (p : Fitting score theme j) where
  sought_same : (i : ℕ) → i < length theme → get_or (sought score j) i 0 ≡ get_or (numbers_on score j) i 0
  sought_same i l = sought_at score j i (omega arith) (omega (arith, p.to_last))

  pub columns_same : (i : ℕ) → 1 ≤ i → i < 1 + length theme → column_by score (sought score j) i ≡ get_or (onward score j) (i - 1) []
  columns_same i a b =
      ap (λ (n : ℕ). column score (column_at n)) (sought_same (i - 1) (omega arith))
      ∙ (number_named score j (i - 1) (omega (arith, p.to_last))).named

  pub sifted_same : (sets : List ℕ) → sifted_by theme sets (sought score j) ≡ sifted_by theme sets (numbers_on score j)
  sifted_same sets = sifted_agree theme sets (sought score j) (numbers_on score j) sought_same
