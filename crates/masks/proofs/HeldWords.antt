-- The bits of words: of a column, of the starts at which it holds a note, and of a word that was moved. Moved by a note, the word of a column
-- has the starts at which it holds the note (`moved_held`). Assumes nothing.
use mathlib.Core.Path.{◌≡◌, ap, ◌∙◌}
use mathlib.Core.Bool.{Bool, true, false, cond}
use mathlib.Core.List.{List}
use Prim.Native.Nat.{ℕ, ◌+◌, ◌-◌, ◌*◌, ◌/◌, ◌%◌, ◌^◌, ◌≤◌, ◌<◌, max}
use native.Mathlib.Nat.{mod-lt, zero-lt-suc, add_comm}
use native.Mathlib.Decide.{dec_le}
use native.Mathlib.Omega.{arith}
use lib.Bits.{bit_or}
use lib.Dec.{eqb, leb}
use lib.Pow.{ones_lt, pow_pos}
use borrow.Author.Tests.{le-leb, lt-leb, eq-eqb, ne_eqb}
use Rattle.theory.specs.Bits.{bit, number}
use Rattle.theory.proofs.Bits.{bit_lt, bit_or_lem, bit_shr, bit_mod, bit_high, bit_number, number_lt, number_unique, number_same}
use Rattle.score.specs.declared.quantities.Pitch.{Pitch}
use Rattle.preparing.proofs.ClassSets.{present, present_lt}
use Rattle.preparing.proofs.Turning.{turned_bit}
use Rattle.ways.specs.declared.way.Way.{Way}
use Rattle.ways.specs.declared.way.Way.TheVariants.{Exact, Octave}
use Rattle.ways.specs.Way.{holds}
use Rattle.ways.proofs.Holding.{holds_exact, holds_below, holds_above, holds_octave}
use Rattle.masks.specs.Masks.{value, width, has, column_word, low_code, held_word, all_starts, turned_word, shifted_word, moved_word}
use Rattle.masks.proofs.Halves.{value_few, value_full}

pub width_le : (way : Way) → width way ≤ 128
width_le Exact = omega arith
width_le Octave = omega arith

-- ---- the word of a column

module _ (way : Way) (column : List ℕ) where
  pub word_lt : column_word way column < 2 ^ width way
  unfolding column_word
  word_lt = number_lt (width way) (λ i. present (has way column i)) (λ i. present_lt (has way column i))

  pub word_bit_lem : (i : ℕ) → i < width way → bit (column_word way column) i ≡ present (has way column i)
  unfolding column_word
  word_bit_lem = bit_number (width way) (λ i. present (has way column i)) (λ i. present_lt (has way column i))

-- ---- the starts at which it holds a note

-- a test by its bit
bit_test : (b : Bool) (n : ℕ) → n ≡ present b → eqb n 1 ≡ b
bit_test true n e = eq-eqb n 1 e
bit_test false n e = ne_eqb n 1 (λ f. omega (arith, e, f))

module _ (way : Way) (first p : Pitch) (column : List ℕ) where
  pub held_lt : held_word way first p column < 2 ^ width way
  unfolding held_word
  held_lt = number_lt (width way) (λ i. present (holds way (low_code way first + i) p column)) (λ i. present_lt (holds way (low_code way first + i) p column))

  pub held_bit : (i : ℕ) → i < width way → eqb (bit (held_word way first p column) i) 1 ≡ holds way (low_code way first + i) p column
  unfolding held_word
  held_bit i k =
      bit_test (holds way (low_code way first + i) p column) (bit (held_word way first p column) i)
      (bit_number (width way) (λ j. present (holds way (low_code way first + j) p column)) (λ j. present_lt (holds way (low_code way first + j) p column)) i k)

-- ---- every start

pub all_lt : (way : Way) → all_starts way < 2 ^ width way
unfolding all_starts
all_lt way = ones_lt (width way)

-- as code has them
pub all_exact : value (2 ^ 64 - 1) (2 ^ 64 - 1) ≡ all_starts Exact
unfolding all_starts
all_exact = value_full

pub all_octave : value 4095 0 ≡ all_starts Octave
unfolding all_starts
all_octave = value_few 4095

-- ---- moved by a note

pub turned_lt : (d x : ℕ) → turned_word d x < 2 ^ 12
unfolding turned_word
turned_lt d x = mod-lt _ (pow_pos 12)

-- a bit that is turned comes from d above, or from 12 - d below
pub turned_bits : (d x i : ℕ) → i < 12 → bit (turned_word d x) i ≡ max (bit x (d + i)) (bit (x * 2 ^ (12 - d)) i)
unfolding turned_word
turned_bits d x i k =
    bit_mod (bit_or (x / 2 ^ d) (x * 2 ^ (12 - d))) i 12 k ∙ bit_or_lem (x / 2 ^ d) (x * 2 ^ (12 - d)) i
    ∙ ap (λ (n : ℕ). max n (bit (x * 2 ^ (12 - d)) i)) (bit_shr x d i)

-- which is one bit, where there are twelve
turned_is : (d x : ℕ) → d < 12 → x < 2 ^ 12 → turned_word d x ≡ number 12 (λ i. bit x ((i + d) % 12))
turned_is d x l h =
    number_unique 12 (λ i. bit x ((i + d) % 12)) (λ i. bit_lt x ((i + d) % 12)) (turned_word d x) (turned_lt d x)
    (λ i k.
    turned_bits d x i k ∙ rw (← bit_shr x d i, ← bit_mod (x * 2 ^ (12 - d)) i 12 k) (turned_bit 12 x d i (omega arith) h l k)
    ∙ ap (λ (n : ℕ). bit x (n % 12)) (add_comm d i))

module _ (first p : Pitch) (column : List ℕ) where
  -- the pitch that is sought from the i-th start lies i + p - first up, or there is none
  shifted : first.0 ≤ 127 → (i : ℕ)
      → cond (leb first.0 (i + p.0)) (bit (column_word Exact column) (i + p.0 - first.0)) 0 ≡ present (holds Exact (127 - first.0 + i) p column)
  shifted f i = sides (dec_le first.0 (i + p.0)) (dec_le (i + p.0 - first.0) 127)
    where
      sides : Dec (first.0 ≤ i + p.0) → Dec (i + p.0 - first.0 ≤ 127)
          → cond (leb first.0 (i + p.0)) (bit (column_word Exact column) (i + p.0 - first.0)) 0 ≡ present (holds Exact (127 - first.0 + i) p column)
      sides (yes l) (yes m) =
          let e : i + p.0 - first.0 ≡ p.0 + (127 - first.0 + i) - 127 = omega arith in
          rw (le-leb first.0 (i + p.0) l, holds_exact (127 - first.0 + i) p column (omega arith), ← e)
          (word_bit_lem Exact column (i + p.0 - first.0) (omega arith))
      sides (yes l) (no m) =
          rw (le-leb first.0 (i + p.0) l, ← holds_above (127 - first.0 + i) p column (omega arith))
          (bit_high (column_word Exact column) (i + p.0 - first.0) 128 (word_lt Exact column) (omega arith))
      sides (no l) m =
          let b : i + p.0 < first.0 = omega arith in
          rw (lt-leb first.0 (i + p.0) b, ← holds_below (127 - first.0 + i) p column (omega arith))

  -- the class that is sought
  round : (i : ℕ) → bit (column_word Octave column) ((i + p.0 % 12) % 12) ≡ present (holds Octave (0 + i) p column)
  round i =
      let e : (i + p.0 % 12) % 12 ≡ (p.0 + (0 + i)) % 12 = omega arith in
      rw (holds_octave (0 + i) p column, e) (word_bit_lem Octave column ((p.0 + (0 + i)) % 12) (mod-lt (p.0 + (0 + i)) (zero-lt-suc 11)))

pub moved_held : (way : Way) (first p : Pitch) (column : List ℕ) → first.0 ≤ 127 → moved_word way first p (column_word way column) ≡ held_word way first p column
unfolding shifted_word held_word
moved_held Exact first p column f = number_same 128 _ _ (shifted first p column f)
moved_held Octave first p column f =
    turned_is (p.0 % 12) (column_word Octave column) (mod-lt p.0 (zero-lt-suc 11)) (word_lt Octave column) ∙ number_same 12 _ _ (round first p column)

-- so what a note moves a column's word to says where the column holds the note
pub moved_word_lem : (way : Way) (first p : Pitch) (column : List ℕ) {x y : ℕ} → x ≡ column_word way column → y ≡ moved_word way first p x → first.0 ≤ 127
    → y ≡ held_word way first p column
moved_word_lem way first p column e f h = f ∙ rw e (moved_held way first p column h)
