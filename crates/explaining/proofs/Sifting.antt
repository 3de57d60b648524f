-- The loop over the intervals of a theme finds the first that the set of its column lacks (`Sifting`); and what that makes of the
-- column. Assumes nothing.
use mathlib.Core.Path.{◌≡◌, sym, ap, ◌∙◌}
use mathlib.Core.List.{List}
use Prim.Native.Nat.{ℕ, ◌+◌, ◌-◌, ◌/◌, ◌^◌, ◌≤◌, ◌<◌}
use native.Mathlib.Omega.{arith}
use lib.Bits.{bit_and}
use lib.Dec.{eqb}
use lib.ListN.{length, get_or}
use borrow.Author.Tests.{eq-eqb, ne_eqb, lt-ltb, le-ltb}
use Rattle.theory.specs.Bits.{bit}
use Rattle.theory.specs.Lists.{count}
use Rattle.theory.proofs.Lists.{first_le, count_at, count_length}
use Rattle.theory.proofs.Masks.{shr_and_one}
use Rattle.score.specs.declared.quantities.Pitch.{Pitch}
use Rattle.score.specs.declared.quantities.Interval.{Interval}
use Rattle.score.specs.Score.{pitch}
use Rattle.score.specs.Sets.{interval}
use Rattle.score.proofs.Intervals.{interval_lt}
use Rattle.filter.specs.Table.{theme_interval}
use Rattle.seeking.proofs.Descending.{Descended, descended_start, descended_took, descended_passed, descended_end}
use Rattle.explaining.specs.declared.answer.Sifted.TheVariants.{Kept, Dismissed}
use Rattle.explaining.specs.Explaining.{lacks, had, sifted_by}

-- an interval is the number of a bit
pub interval_bit : (x y : Pitch) {d : Interval} → d ≡ interval x y → d.0 < 16
interval_bit x y e = omega (arith, ap (λ (d : Interval). d.0) e, interval_lt x y)

-- interval k + 1 of the theme, from the two notes
interval_of : (theme : List ℕ) (k : ℕ) → theme_interval theme k ≡ interval (pitch (get_or theme k 0)) (pitch (get_or theme (k + 1) 0))
interval_of theme k =
    let a : k + 1 - 1 ≡ k = omega arith in
    let b : k + 2 - 1 ≡ k + 1 = omega arith in
    rw (a, b)

module _ (theme sets numbers : List ℕ) where
  -- of the intervals behind the first i, r is the first that is lacking
  pub record Sifting (i r : ℕ) : Type 0 where
    pub descended : Descended (lacks theme sets numbers) (count 1 (length theme - 1)) i r

  pub sifting_start : Sifting (length theme - 1) (length theme - 1)
  sifting_start = record { descended = descended_start _ _ (sym (count_length 1 (length theme - 1))) }

  pub sifting_within : {i r : ℕ} → Sifting i r → i ≤ length theme - 1
  sifting_within s = omega (arith, s.descended.within, count_length 1 (length theme - 1))

  module _ {i r : ℕ} (s : Sifting i r) (h : 0 < i) {d : Interval}
      (e : d ≡ interval (pitch (get_or theme (i - 1) 0)) (pitch (get_or theme (i - 1 + 1) 0))) where
    abbrev set : ℕ
    set = get_or sets (get_or numbers (i - 1) 0 - 1) 0

    place : get_or (count 1 (length theme - 1)) (i - 1) 0 ≡ i
    place = count_at 1 (length theme - 1) (i - 1) 0 (omega (arith, sifting_within s)) ∙ omega arith

    own : theme_interval theme (i - 1) ≡ d
    own = interval_of theme (i - 1) ∙ sym e

    tells : lacks theme sets numbers (get_or (count 1 (length theme - 1)) (i - 1) 0) ≡ eqb (bit_and (set / 2 ^ d.0) 1) 1
    tells =
        ap (lacks theme sets numbers) place
        ∙ ap (λ (x : Interval). eqb (bit set x.0) 1) own
        ∙ ap (λ (x : ℕ). eqb x 1) (sym (shr_and_one set d.0))

    pub interval_lacks : bit_and (set / 2 ^ d.0) 1 ≡ 1 → Sifting (i - 1) (i - 1)
    interval_lacks z = record { descended = descended_took _ _ s.descended h 0 (tells ∙ eq-eqb _ _ z) }

    pub interval_there : (bit_and (set / 2 ^ d.0) 1 ≡ 1 → ⊥) → Sifting (i - 1) r
    interval_there z = record { descended = descended_passed _ _ s.descended h 0 (tells ∙ ne_eqb _ _ z) }

  pub sifting_end : {i r : ℕ} → Sifting i r → i ≤ 0 → r ≡ had theme sets numbers
  sifting_end s h = descended_end _ _ s.descended h

  pub had_le : had theme sets numbers ≤ length theme - 1
  had_le = omega (arith, first_le (lacks theme sets numbers) (count 1 (length theme - 1)), count_length 1 (length theme - 1))

  -- ---- what that makes of the column

  module _ {k : ℕ} (e : k ≡ had theme sets numbers) where
    pub sift_dismissed : k + 1 < length theme → {d : Interval} → d ≡ interval (pitch (get_or theme k 0)) (pitch (get_or theme (k + 1) 0))
        → Dismissed (record { number = k + 1; size = d }) ≡ sifted_by theme sets numbers
    sift_dismissed h {d} f =
        let l : had theme sets numbers < length theme - 1 = omega (arith, e, h) in
        rw (lt-ltb _ _ l, ← e) (ap (λ (x : Interval). Dismissed (record { number = k + 1; size = x })) (f ∙ sym (interval_of theme k)))

    pub sift_kept : length theme ≤ k + 1 → Kept ≡ sifted_by theme sets numbers
    sift_kept h =
        let l : length theme - 1 ≤ had theme sets numbers = omega (arith, e, h) in
        rw (le-ltb _ _ l)
