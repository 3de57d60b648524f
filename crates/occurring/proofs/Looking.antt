-- How a lacking interval is looked for: after the first i intervals, the flag says whether one of them is lacking. Assumes
-- nothing.
use mathlib.Core.Path.{◌≡◌, sym, ap, ◌∙◌}
use mathlib.Core.Bool.{Bool, false, ◌||◌}
use mathlib.Core.List.{List}
use Prim.Native.Nat.{ℕ, ◌+◌, ◌-◌, ◌/◌, ◌^◌, ◌≤◌, ◌<◌}
use native.Mathlib.Omega.{arith}
use lib.Bits.{bit_and}
use lib.Dec.{eqb}
use lib.ListN.{length, get_or}
use Rattle.theory.specs.Bits.{bit}
use Rattle.theory.specs.Lists.{count}
use Rattle.theory.proofs.Lists.{count_at, count_length}
use Rattle.theory.proofs.Masks.{shr_and_one}
use Rattle.theory.proofs.Scans.{Flagged, flagged_start, flagged_more, flagged_end}
use Rattle.score.specs.declared.quantities.Pitch.{Pitch}
use Rattle.score.specs.declared.quantities.Interval.{Interval}
use Rattle.score.specs.Score.{pitch}
use Rattle.score.specs.Sets.{interval}
use Rattle.score.proofs.Intervals.{interval_lt}
use Rattle.filter.specs.Table.{theme_interval}
use Rattle.occurring.specs.Occurring.{lacking}

-- an interval is the number of a bit
pub interval_bit : (x y : Pitch) {d : Interval} → d ≡ interval x y → d.0 < 16
interval_bit x y e = omega (arith, ap (λ (d : Interval). d.0) e, interval_lt x y)

module _ (theme : List ℕ) (set : ℕ) where
  abbrev test : ℕ → Bool
  test i = eqb (bit set (theme_interval theme i).0) 1

  abbrev places : List ℕ
  places = count 0 (length theme - 1)

  -- i intervals are passed
  pub record Looked (i : ℕ) (flag : Bool) : Type 0 where
    pub flagged : Flagged test places i flag

  pub looked_start : Looked 0 false
  looked_start = record { flagged = flagged_start test places }

  pub looked_more : {i : ℕ} {flag : Bool} {d : Interval} → Looked i flag → i + 1 < length theme
      → d ≡ interval (pitch (get_or theme i 0)) (pitch (get_or theme (i + 1) 0)) → Looked (i + 1) (flag || eqb (bit_and (set / 2 ^ d.0) 1) 1)
  looked_more {i} {flag} {d} l h e =
      let at : get_or places i 0 ≡ i = count_at 0 (length theme - 1) i 0 (omega arith) ∙ omega arith in
      let earlier : i + 1 - 1 ≡ i = omega arith in
      let later : i + 2 - 1 ≡ i + 1 = omega arith in
      let own : theme_interval theme i ≡ d = rw (earlier, later) (sym e) in
      let tested : eqb (bit_and (set / 2 ^ d.0) 1) 1 ≡ test (get_or places i 0) =
      ap (λ (x : ℕ). eqb x 1) (shr_and_one set d.0) ∙ ap (λ (x : Interval). eqb (bit set x.0) 1) (sym own) ∙ ap test (sym at) in
      record { flagged = flagged_more test places 0 l.flagged (omega (arith, count_length 0 (length theme - 1))) tested }

  pub looked_end : {i : ℕ} {flag : Bool} → Looked i flag → length theme ≤ i + 1 → flag ≡ lacking theme set
  looked_end l h = flagged_end test places l.flagged (omega (arith, count_length 0 (length theme - 1)))
