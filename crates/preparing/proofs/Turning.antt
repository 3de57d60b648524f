-- The set of two columns by their class sets, and the loop that finds it. From a pitch of class k, interval q reaches the
-- class (k + q) mod 12, which is bit q of the later class set turned down by k. Assumes nothing.
use mathlib.Core.Path.{◌≡◌, refl, sym, ap, ◌∙◌, subst}
use mathlib.Core.Bool.{Bool, true, false, cond, true≢false}
use mathlib.Core.List.{List}
use Prim.Native.Nat.{ℕ, ◌+◌, ◌-◌, ◌*◌, ◌/◌, ◌%◌, ◌^◌, ◌≤◌, ◌<◌, zero-le, min, max}
use native.Mathlib.Nat.{mod-lt, zero-lt-suc}
use native.Mathlib.Decide.{dec_lt}
use native.Mathlib.Omega.{arith}
use lib.Bits.{bit_or, bit_and, bit_xor, and_mask, xor_add_and}
use Rattle.theory.specs.Bits.{bit}
use Rattle.theory.proofs.Bits.{bit_lt, bit_or_lem, bit_shr, bit_shl, bit_shl_low, bit_mod, bit_high, bit_not, bit_ext}
use Rattle.score.specs.Sets.{semitones, Apart, apart, interval_set}
use Rattle.preparing.specs.Classes.{class_set, SetOf}
use Rattle.preparing.proofs.ClassSets.{present, class_lt, class_in, in_class}
use Rattle.score.proofs.IntervalSets.{apart_true, true_apart, set_number, set_lt}
use Rattle.score.proofs.Intervals.{interval_from, interval_mod}
use Rattle.preparing.proofs.Most.{most, most_nil, most_more, most_ge, most_one, most_lt}

-- ---- what is reached

-- 1 where class j is there, and from it the interval q reaches a class that is there
abbrev pub meet : (earlier later q j : ℕ) → ℕ
meet earlier later q j = min (bit earlier j) (bit later ((j + q) % 12))

meet_lt : (earlier later q j : ℕ) → meet earlier later q j < 2
meet_lt earlier later q j = omega (arith, bit_lt earlier j)

module _ (a b : List ℕ) (q : ℕ) (h : q < 12) where
  abbrev f : ℕ → ℕ
  f = meet (class_set a) (class_set b) q

  -- two pitches that are q apart meet, and where two classes meet there are such pitches
  apart_met : Apart a b (semitones q) → 1 ≤ most f 0 12
  apart_met p =
      let j = p.x.0 % 12 in
      let to : (j + q) % 12 ≡ p.y.0 % 12 = omega (arith, interval_mod p.far) in
      omega (arith, in_class a p.here, in_class b p.next, ap (bit (class_set b)) to, most_ge f 0 12 j zero-le (omega arith))

  met_apart : most f 0 12 ≡ 1 → Apart a b (semitones q)
  met_apart e =
      let m = most_one f 0 12 e in
      let j = m.0 in
      let here : bit (class_set a) j ≡ 1 = omega (arith, m.2, bit_lt (class_set a) j) in
      let next : bit (class_set b) ((j + q) % 12) ≡ 1 = omega (arith, m.2, bit_lt (class_set b) ((j + q) % 12)) in
      let x = class_in a j (omega (arith, m.1)) here in
      let y = class_in b ((j + q) % 12) (omega arith) next in
      record { x = x.0; y = y.0; here = x.1; next = y.1; far = interval_from x.0 y.0 (semitones q) h (omega (arith, x.2, y.2)) }

  met : most f 0 12 ≡ present (apart a b q)
  met = step (apart a b q) refl (most_lt f 0 12 (meet_lt (class_set a) (class_set b) q))
    where
      none : Dec (0 < most f 0 12) → apart a b q ≡ false → most f 0 12 < 2 → most f 0 12 ≡ 0
      none (yes m) e l = absurd (true≢false (sym (true_apart a b (semitones q) (met_apart (omega arith))) ∙ e))
      none (no m) e l = omega arith

      step : (t : Bool) → apart a b q ≡ t → most f 0 12 < 2 → most f 0 12 ≡ present t
      step true e l = omega (arith, apart_met (apart_true a b (semitones q) e))
      step false e l = none (dec_lt 0 (most f 0 12)) e l

-- ---- twelve bits turned down by k, in a word of w bits: what falls out below comes in above

pub turned_bit : (w later k q : ℕ) → 12 ≤ w → later < 4096 → k < 12 → q < 12
    → max (bit (later / 2 ^ k) q) (bit (later * 2 ^ (12 - k) % 2 ^ w) q) ≡ bit later ((k + q) % 12)
turned_bit w later k q wide h l m =
    omega (arith, bit_shr later k q, bit_mod (later * 2 ^ (12 - k)) q w (omega arith), pick (dec_lt (k + q) 12))
  where
    pick : Dec (k + q < 12) → max (bit later (k + q)) (bit (later * 2 ^ (12 - k)) q) ≡ bit later ((k + q) % 12)
    pick (yes n) =
        let e : (k + q) % 12 ≡ k + q = omega arith in
        rw e (omega (arith, bit_shl_low later (12 - k) q (omega arith)))
    pick (no n) =
        let e : (k + q) % 12 ≡ q - (12 - k) = omega arith in
        let f : 12 - k + (q - (12 - k)) ≡ q = omega arith in
        let up : bit (later * 2 ^ (12 - k)) q ≡ bit later (q - (12 - k)) = subst (λ (n : ℕ). bit (later * 2 ^ (12 - k)) n ≡ bit later (q - (12 - k))) f (bit_shl later (12 - k) (q - (12 - k))) in
        rw e (omega (arith, up, bit_high later (k + q) 12 h (omega arith)))

-- ---- the twelve bits that are not reached, `(x & 4095) ^ 4095`: a set has a 0 for each interval that is

others : (x : ℕ) → bit_xor (bit_and x 4095) 4095 ≡ 4095 - x % 4096
others x =
    omega (arith, mod-lt x (zero-lt-suc 4095), and_mask x 12, and_mask (bit_and x 4095) 12, xor_add_and (bit_and x 4095) 4095)

others_lt : (x : ℕ) → bit_xor (bit_and x 4095) 4095 < 4096
others_lt x = omega (arith, others x)

others_bit : (x q : ℕ) → q < 12 → bit (bit_xor (bit_and x 4095) 4095) q ≡ 1 - bit x q
others_bit x q h =
    ap (λ (n : ℕ). bit n q) (others x)
    ∙ bit_not (x % 2 ^ 12) q 12 (mod-lt x (zero-lt-suc 4095)) h ∙ ap (λ (n : ℕ). 1 - n) (bit_mod x q 12 h)

-- ---- the classes below k are gone through

pub record Turning (earlier later k reached : ℕ) : Type 0 where
  pub within : k ≤ 12
  pub left : later < 4096 → (q : ℕ) → q < 12 → max (bit reached q) (most (meet earlier later q) k (12 - k)) ≡ most (meet earlier later q) 0 12

module _ (earlier later : ℕ) where
  pub turning_start : Turning earlier later 0 0
  turning_start = record { within = zero-le; left = λ n q h. omega (arith, bit_high 0 q 0 (omega arith) zero-le) }

  module _ {k reached : ℕ} (t : Turning earlier later k reached) (h : k < 12) where
    more : (q : ℕ) → most (meet earlier later q) k (12 - k) ≡ max (meet earlier later q k) (most (meet earlier later q) (k + 1) (12 - (k + 1)))
    more q =
        let e : 12 - k - 1 ≡ 12 - (k + 1) = omega arith in
        most_more (meet earlier later q) k (12 - k) (omega arith) ∙ ap (λ (n : ℕ). max (meet earlier later q k) (most (meet earlier later q) (k + 1) n)) e

    pub turning_skip : bit earlier k ≡ 0 → Turning earlier later (k + 1) reached
    turning_skip e = record { within = omega arith; left = λ n q l. omega (arith, more q, t.left n q l) }

    pub turning_take : bit earlier k ≡ 1 → Turning earlier later (k + 1) (bit_or reached (bit_or (later / 2 ^ k) (later * 2 ^ (12 - k) % 2 ^ 16)))
    turning_take e = record { within = omega arith; left = λ n q l. omega (arith, more q, t.left n q l, turned n q l) }
      where
        low : ℕ
        low = later / 2 ^ k

        high : ℕ
        high = later * 2 ^ (12 - k) % 2 ^ 16

        turned : later < 4096 → (q : ℕ) → q < 12 → bit (bit_or reached (bit_or low high)) q ≡ max (bit reached q) (meet earlier later q k)
        turned n q l =
            omega (arith, bit_or_lem reached (bit_or low high) q, bit_or_lem low high q, turned_bit 16 later k q (omega arith) n h l, bit_lt later ((k + q) % 12))

  module _ {k reached : ℕ} (t : Turning earlier later k reached) (h : 12 ≤ k) where
    all_reached : later < 4096 → (q : ℕ) → q < 12 → bit reached q ≡ most (meet earlier later q) 0 12
    all_reached n q l =
        let z : 12 - k ≡ 0 = omega arith in
        omega (arith, t.left n q l, ap (most (meet earlier later q) k) z, most_nil (meet earlier later q) k)

    pub turning_end : SetOf earlier later (bit_xor (bit_and reached 4095) 4095)
    turning_end =
        record {
          of_columns = λ a b e f. bit_ext 12 (bit_xor (bit_and reached 4095) 4095) (interval_set a b) (others_lt reached) (set_lt a b) (λ q l.
              others_bit reached q l ∙ ap (λ (n : ℕ). 1 - n) (all_reached (rw f (class_lt b)) q l ∙ rw (e, f) (met a b q l)) ∙ flip (apart a b q)
              ∙ sym (set_number a b q l));
        }
      where
        flip : (s : Bool) → 1 - present s ≡ cond s 0 1
        flip true = refl
        flip false = refl
