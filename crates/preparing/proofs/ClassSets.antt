-- The class set of a column: its bits, and a loop that gathers them (`Gathered`). The idea: what is gathered, or-ed with
-- what the cells left have, stays the same. Last, the table of class bits (`Tabled`). Assumes nothing.
use mathlib.Core.Path.{◌≡◌, refl, sym, ap, ◌∙◌}
use mathlib.Core.Bool.{Bool, true, false, cond}
use mathlib.Core.List.{List, ◌∷◌, Memᴰ as In}
use Prim.Native.Nat.{ℕ, ◌+◌, ◌*◌, ◌%◌, ◌^◌, ◌≤◌, ◌<◌, zero-le, max}
use native.Mathlib.Nat.{mod-lt, zero-lt-suc, not-suc-le-zero}
use native.Mathlib.Numerals.{add-one}
use native.Mathlib.Decide.{dec_lt}
use native.Mathlib.Omega.{arith}
use lib.Bits.{bit_or, or_lt, or_zero_r}
use lib.Dec.{leb, eqb}
use lib.ListN.{length, get_or, set, drop, replicate, drop_of_length-le, length-set, length-replicate, get_or-replicate}
use lib.Pow.{pow-lt}
use lib.Seq.{drop-cons, get_or-set_other}
use borrow.Author.Tests.{le-leb, lt-leb, leb-true, leb-false, eq-eqb, eqb-true, eqb-false}
use Rattle.theory.specs.Bits.{bit}
use Rattle.theory.proofs.Bits.{bit_lt, bit_high, bit_number, number_lt, number_unique}
use Rattle.theory.proofs.Lists.{some_in, in_some, stored_more}
use Rattle.theory.proofs.Masks.{put_same, put_other, one_shl}
use Rattle.score.specs.declared.quantities.Pitch.{Pitch}
use Rattle.score.specs.Score.{pitches}
use Rattle.preparing.specs.Classes.{class_bit, ClassBits, has_class, class_set}

-- the bit for a test: 1 where it is passed
abbrev pub present : Bool → ℕ
present t = cond t 1 0

pub present_lt : (t : Bool) → present t < 2
present_lt true = omega arith
present_lt false = omega arith

pub class_bit_lem : (column : List ℕ) (q : ℕ) → q < 12 → bit (class_set column) q ≡ present (has_class column q)
unfolding class_set
class_bit_lem column q h = bit_number 12 (λ k. present (has_class column k)) (λ k. present_lt (has_class column k)) q h

pub class_lt : (column : List ℕ) → class_set column < 4096
unfolding class_set
class_lt column = number_lt 12 (λ k. present (has_class column k)) (λ k. present_lt (has_class column k))

-- a bit is 1 where a pitch of that class is there
pub in_class : (column : List ℕ) {t : Pitch} → In t (pitches column) → bit (class_set column) (t.0 % 12) ≡ 1
in_class column {t} m =
    class_bit_lem column (t.0 % 12) (mod-lt t.0 (zero-lt-suc 11))
    ∙ ap present (in_some (λ p. eqb (p.0 % 12) (t.0 % 12)) (pitches column) m (eq-eqb (t.0 % 12) (t.0 % 12) refl))

pub class_in : (column : List ℕ) (k : ℕ) → k < 12 → bit (class_set column) k ≡ 1 → (t : Pitch) × In t (pitches column) × (t.0 % 12 ≡ k)
class_in column k h e = step (has_class column k) refl (sym (class_bit_lem column k h) ∙ e)
  where
    step : (b : Bool) → has_class column k ≡ b → present b ≡ 1 → (t : Pitch) × In t (pitches column) × (t.0 % 12 ≡ k)
    step true m e =
        let found = some_in (λ p. eqb (p.0 % 12) k) (pitches column) m in
        (found.0, found.1, eqb-true (found.0.0 % 12) k found.2)
    step false m e = absurd (omega arith)

-- a pitch more, and a rest more
class_pitch : (cell : ℕ) (cells : List ℕ) (k : ℕ) → cell ≤ 127 → has_class (cell ∷ cells) k ≡ cond (eqb (cell % 12) k) true (has_class cells k)
class_pitch cell cells k h = rw (le-leb cell 127 h)

class_rest : (cell : ℕ) (cells : List ℕ) (k : ℕ) → 127 < cell → has_class (cell ∷ cells) k ≡ has_class cells k
class_rest cell cells k h = rw (lt-leb cell 127 h)

-- ---- i cells are gone through, and the mask has their classes

pub record Gathered (column : List ℕ) (i mask : ℕ) : Type 0 where
  pub within : i ≤ length column
  pub small : mask < 4096
  pub left : (q : ℕ) → q < 12 → max (bit mask q) (present (has_class (drop i column) q)) ≡ present (has_class column q)

module _ (column : List ℕ) where
  pub gathered_start : Gathered column 0 0
  gathered_start = record { within = zero-le; small = omega arith; left = λ q h. omega (arith, bit_high 0 q 0 (omega arith) zero-le) }

  module _ {i mask : ℕ} (g : Gathered column i mask) (h : i < length column) where
    cells_left : drop i column ≡ get_or column i 0 ∷ drop (i + 1) column
    cells_left = rw add-one (drop-cons column i 0 h)

    pub gathered_rest : 127 < get_or column i 0 → Gathered column (i + 1) mask
    gathered_rest n =
        record {
          within = omega arith;
          small = g.small;
          left = λ q l. rw (cells_left, class_rest (get_or column i 0) (drop (i + 1) column) q n) at (g.left q l);
        }

    gathered_pitch : get_or column i 0 ≤ 127 → Gathered column (i + 1) (bit_or mask (2 ^ (get_or column i 0 % 12)))
    gathered_pitch n =
        record {
          within = omega arith;
          small = or_lt 12 mask (2 ^ d) g.small (pow-lt (mod-lt (get_or column i 0) (zero-lt-suc 11)));
          left = λ q l. step q (eqb d q) refl (rw (cells_left, class_pitch (get_or column i 0) (drop (i + 1) column) q n) at (g.left q l));
        }
      where
        d : ℕ
        d = get_or column i 0 % 12

        step : (q : ℕ) (t : Bool) → eqb d q ≡ t
            → max (bit mask q) (present (cond t true (has_class (drop (i + 1) column) q))) ≡ present (has_class column q)
            → max (bit (bit_or mask (2 ^ d)) q) (present (has_class (drop (i + 1) column) q)) ≡ present (has_class column q)
        step q true e k =
            let b : bit (bit_or mask (2 ^ d)) q ≡ 1 = ap (λ (n : ℕ). bit (bit_or mask (2 ^ d)) n) (sym (eqb-true d q e)) ∙ put_same mask d in
            omega (arith, bit_lt mask q, present_lt (has_class (drop (i + 1) column) q))
        step q false e k = rw (put_other mask d q (eqb-false d q e)) k

    -- as code writes the bit of a class
    pub gathered_shl : get_or column i 0 ≤ 127 → Gathered column (i + 1) (bit_or mask (1 * 2 ^ (get_or column i 0 % 12) % 2 ^ 16))
    gathered_shl n = rw (one_shl (get_or column i 0 % 12) 16 (omega arith)) (gathered_pitch n)

    gathered_bit : Gathered column (i + 1) (bit_or mask (class_bit (get_or column i 0)))
    gathered_bit = pick (leb (get_or column i 0) 127) refl
      where
        pick : (t : Bool) → leb (get_or column i 0) 127 ≡ t → Gathered column (i + 1) (bit_or mask (cond t (2 ^ (get_or column i 0 % 12)) 0))
        pick true e = gathered_pitch (leb-true _ _ e)
        pick false e = rw or_zero_r (gathered_rest (leb-false _ _ e))

    -- as a table has it
    pub gathered_look : {bits : List ℕ} → ClassBits bits → get_or column i 0 < 256 → Gathered column (i + 1) (bit_or mask (get_or bits (get_or column i 0) 0))
    gathered_look b l = rw (b.at (get_or column i 0) l) gathered_bit

  pub gathered_end : {i mask : ℕ} → Gathered column i mask → length column ≤ i → mask ≡ class_set column
  unfolding class_set
  gathered_end {i} {mask} g h =
      number_unique 12 (λ k. present (has_class column k)) (λ k. present_lt (has_class column k)) mask g.small
      (λ q l. let e = rw (drop_of_length-le column h) at (g.left q l) in omega (arith, e))

-- ---- a table of class bits, made from the front; what is not made yet is 0

pub record Tabled (bits : List ℕ) (cell : ℕ) : Type 0 where
  pub within : cell ≤ 128
  pub long : length bits ≡ 256
  pub made : (k : ℕ) → k < cell → get_or bits k 0 ≡ 2 ^ (k % 12)
  pub left : (k : ℕ) → k < 256 → cell ≤ k → get_or bits k 0 ≡ 0

pub tabled_start : Tabled (replicate {A = ℕ} 256 0) 0
tabled_start =
    record {
      within = zero-le;
      long = length-replicate {A = ℕ} 256 0;
      made = λ k h. absurd (not-suc-le-zero h);
      left = λ k l h. get_or-replicate {A = ℕ} 256 k 0 0 l;
    }

pub tabled_more : {bits : List ℕ} {cell : ℕ} → Tabled bits cell → cell ≤ 127 → Tabled (set bits cell (1 * 2 ^ (cell % 12) % 2 ^ 16)) (cell + 1)
tabled_more {bits} {cell} t h =
    record {
      within = omega arith;
      long = length-set bits cell v ∙ t.long;
      made = stored_more (λ (k x : ℕ). x ≡ 2 ^ (k % 12)) bits cell v 0 t.made (omega (arith, t.long)) (one_shl (cell % 12) 16 (omega arith));
      left = λ k l m. get_or-set_other bits cell k v 0 (λ e. omega arith) ∙ t.left k l (omega arith);
    }
  where
    v : ℕ
    v = 1 * 2 ^ (cell % 12) % 2 ^ 16

pub tabled_end : {bits : List ℕ} {cell : ℕ} → Tabled bits cell → 127 < cell → ClassBits bits
tabled_end {bits} {cell} t h = record { at = λ k l. pick k l (dec_lt 127 k) }
  where
    pick : (k : ℕ) → k < 256 → Dec (127 < k) → get_or bits k 0 ≡ class_bit k
    pick k l (yes m) = rw (lt-leb k 127 m) (t.left k l (omega (arith, t.within)))
    pick k l (no m) = let n : k ≤ 127 = omega arith in rw (le-leb k 127 n) (t.made k (omega arith))
