-- What the loop that writes marked codes keeps: those written so far and those that are still marked are all that were marked.
-- Then what is written in two parts, and what is not written. Assumes nothing.
use mathlib.Core.Path.{◌≡◌, refl, sym, ap, ◌∙◌}
use mathlib.Core.Bool.{Bool, true, false, ◌&&◌}
use mathlib.Core.List.{List, [], ◌∷◌, ◌++◌, map, map-append, append_assoc, append-nil}
use Prim.Native.Nat.{ℕ, zero, suc, ◌+◌, ◌-◌, ◌*◌, ◌%◌, ◌^◌, ◌≤◌, ◌<◌, min}
use native.Mathlib.Decide.{dec_le}
use native.Mathlib.Omega.{arith}
use lib.Bits.{bit_or}
use lib.Count.{ones, count_trailing_zeros}
use lib.Dec.{leb}
use lib.IntN.{ℤ}
use lib.ListN.{length, set, length-append, length-map, length-set}
use lib.Pow.{pow_pos}
use lib.Seq.{sets}
use borrow.Author.Tests.{leb-true, leb-false, le-leb, lt-leb}
use Rattle.theory.specs.Marks.{marks}
use Rattle.theory.proofs.Marks.{marks_zero, marks_ones, Lowest, marks_lowest}
use Rattle.theory.proofs.Masks.{one_shl}
use Rattle.theory.proofs.Lists.{sets_more, sets_append}
use Rattle.score.specs.declared.quantities.Pitch.{Pitch}
use Rattle.ways.specs.declared.way.Way.{Way}
use Rattle.ways.specs.Way.{shift_of}
use Rattle.masks.specs.Masks.{value, low_code}
use Rattle.masks.proofs.Halves.{Halves, value_lt, value_ones, value_none, marks_value}
use Rattle.hits.specs.Writing.{codes_of, word_codes, fitting, Puts}
use Rattle.hits.proofs.Fitting.{fitting_nil, fitting_all, fitting_none, fitting_cond, puts_nil, codes_none, codes_length, word_codes_lem, word_none}

pub record Putting (way : Way) (j from half first : ℕ) (columns₀ : List ℕ) (shifts₀ : List ℤ) (columns : List ℕ) (shifts : List ℤ) (left at : ℕ) : Type 0 where
  pub out : List ℕ
  pub split : out ++ marks 64 first left ≡ marks 64 first half
  pub counted : at ≡ from + length out
  pub in_columns : columns ≡ sets columns₀ from (map (λ c. j) out)
  pub in_shifts : shifts ≡ sets shifts₀ from (map (shift_of way) out)
  pub whole : half < 2 ^ 64
  pub small : left < 2 ^ 64
  pub long : length columns ≡ length columns₀
  pub long_shifts : length shifts ≡ length shifts₀

-- both buffers have room for so many from a place on
pub record Room (n at a b : ℕ) : Type 0 where
  pub in_columns : at + n ≤ a
  pub in_shifts : at + n ≤ b

module _ {way : Way} {j from half first : ℕ} {columns₀ : List ℕ} {shifts₀ : List ℤ} where
  pub put_start : half < 2 ^ 64 → Putting way j from half first columns₀ shifts₀ columns₀ shifts₀ half from
  put_start h =
      record { out = []; split = refl; counted = omega arith; in_columns = refl; in_shifts = refl; whole = h; small = h; long = refl; long_shifts = refl }

  module _ {columns : List ℕ} {shifts : List ℤ} {left at : ℕ} (t : Putting way j from half first columns₀ shifts₀ columns shifts left at) where
    pub put_end : left ≡ 0 → Puts way j (marks 64 first half) from columns₀ shifts₀ at columns shifts
    put_end z =
        let e : t.out ≡ marks 64 first half = sym (append-nil t.out) ∙ rw (z, marks_zero 64 first) at t.split in
        record { count = rw (← e) t.counted; in_columns = rw (← e) t.in_columns; in_shifts = rw (← e) t.in_shifts }

    module _ (n : left ≡ 0 → ⊥) where
      lowest : Lowest 64 first left
      lowest = marks_lowest 64 first left (some left n) t.small
        where
          some : (x : ℕ) → (x ≡ 0 → ⊥) → 0 < x
          some zero n = absurd (n refl)
          some (suc x) n = omega arith

      -- there is room for one more, where there is room for all
      pub put_room : from + ones half ≤ length columns₀ → from + ones half ≤ length shifts₀ → Room 1 at (length columns) (length shifts)
      put_room p q =
          let a : length (marks 64 first half) ≡ ones half = marks_ones 64 first half t.whole in
          let b : length (t.out ++ marks 64 first left) ≡ length (marks 64 first half) = ap length t.split in
          let c : length (marks 64 first left) ≡ suc (length (marks 64 first (left - 2 ^ count_trailing_zeros 64 left))) = ap length lowest.splits in
          let r : at + 1 ≤ from + ones half = omega (arith, a, b, c, length-append t.out (marks 64 first left), t.counted) in
          record { in_columns = omega (arith, t.long); in_shifts = omega (arith, t.long_shifts) }

      pub put_within : count_trailing_zeros 64 left < 64
      put_within = lowest.within

      pub put_there : 1 * 2 ^ count_trailing_zeros 64 left % 2 ^ 64 ≤ left
      put_there = rw (one_shl (count_trailing_zeros 64 left) 64 put_within) lowest.there

      pub put_less : left - 1 * 2 ^ count_trailing_zeros 64 left % 2 ^ 64 < left
      put_less = rw (one_shl (count_trailing_zeros 64 left) 64 put_within) (omega (arith, lowest.there, pow_pos (count_trailing_zeros 64 left)))

      pub put_turn : (c : ℤ) → c ≡ shift_of way (first + count_trailing_zeros 64 left)
          → Putting way j from half first columns₀ shifts₀ (set columns at j) (set shifts at c) (left - 1 * 2 ^ count_trailing_zeros 64 left % 2 ^ 64) (at + 1)
      put_turn c e =
          rw (one_shl (count_trailing_zeros 64 left) 64 put_within)
          (record {
            out = t.out ++ ((first + count_trailing_zeros 64 left) ∷ []);
            split = append_assoc t.out ((first + count_trailing_zeros 64 left) ∷ []) (marks 64 first (left - 2 ^ count_trailing_zeros 64 left)) ∙ ap (λ (l : List ℕ). t.out ++ l) (sym lowest.splits) ∙ t.split;
            counted = omega (arith, t.counted, length-append t.out ((first + count_trailing_zeros 64 left) ∷ []));
            in_columns = rw (t.in_columns, map-append) (sets_more columns₀ from (map (λ c. j) t.out) j at (t.counted ∙ ap (λ (i : ℕ). from + i) (sym (length-map t.out _))));
            in_shifts = rw (e, t.in_shifts, map-append) (sets_more shifts₀ from (map (shift_of way) t.out) (shift_of way (first + count_trailing_zeros 64 left)) at (t.counted ∙ ap (λ (i : ℕ). from + i) (sym (length-map t.out _))));
            whole = t.whole;
            small = omega (arith, t.small);
            long = length-set columns at j ∙ t.long;
            long_shifts = length-set shifts at c ∙ t.long_shifts;
          })

-- some codes, and then others behind them
pub puts_both : (way : Way) (j : ℕ) (some more : List ℕ) (at : ℕ) (columns : List ℕ) (shifts : List ℤ) (middle : ℕ) (columns₁ : List ℕ) (shifts₁ : List ℤ)
    → Puts way j some at columns shifts middle columns₁ shifts₁ → (end : ℕ) (columns₂ : List ℕ) (shifts₂ : List ℤ)
    → Puts way j more middle columns₁ shifts₁ end columns₂ shifts₂ → Puts way j (some ++ more) at columns shifts end columns₂ shifts₂
puts_both way j some more at columns shifts middle columns₁ shifts₁ p end columns₂ shifts₂ r =
    record {
      count = omega (arith, p.count, r.count, length-append some more);
      in_columns =
          r.in_columns ∙ rw p.in_columns (sets_append (map (λ c. j) some) columns at middle (map (λ c. j) more) (p.count ∙ ap (λ (n : ℕ). at + n) (sym (length-map some _))))
          ∙ ap (sets columns at) (sym (map-append (λ c. j) some more));
      in_shifts =
          r.in_shifts ∙ rw p.in_shifts (sets_append (map (shift_of way) some) shifts at middle (map (shift_of way) more) (p.count ∙ ap (λ (n : ℕ). at + n) (sym (length-map some _))))
          ∙ ap (sets shifts at) (sym (map-append (shift_of way) some more));
    }

-- ---- a word, where it fits and where not

-- both buffers have room where the shorter one has it
module _ (n at a b : ℕ) {least : ℕ} (e : least ≡ min a b) {fits : Bool} (f : fits ≡ leb (at + n) least) where
  pub room_both : fits ≡ true → Room n at a b
  room_both y = let l = leb-true (at + n) least (sym f ∙ y) in record { in_columns = omega (arith, e, l); in_shifts = omega (arith, e, l) }

  pub room_none : fits ≡ false → (leb (at + n) a && leb (at + n) b) ≡ false
  room_none y = pick (dec_le (at + n) a)
    where
      l : least < at + n
      l = leb-false (at + n) least (sym f ∙ y)

      pick : Dec (at + n ≤ a) → (leb (at + n) a && leb (at + n) b) ≡ false
      pick (yes h) = rw (le-leb (at + n) a h, lt-leb (at + n) b (omega (arith, e, l, h)))
      pick (no h) = rw (lt-leb (at + n) a (omega arith))

module _ (way : Way) (j : ℕ) (first : Pitch) (low high at : ℕ) (columns : List ℕ) (shifts : List ℤ) (h : Halves low high) where
  abbrev word : ℕ
  word = value low high

  pub put_no_mark : bit_or low high ≡ 0 → Puts way j (fitting (word_codes way first word) at columns shifts) at columns shifts at columns shifts
  put_no_mark e =
      puts_nil at columns shifts way j _
      (fitting_cond at columns shifts (codes_of way first word) (leb first.0 127) (rw (value_none low high h e, codes_none way first) (fitting_nil at columns shifts)))

  pub put_no_pitch : 127 < first.0 → Puts way j (fitting (word_codes way first word) at columns shifts) at columns shifts at columns shifts
  put_no_pitch l = puts_nil at columns shifts way j _ (rw (word_none way first word l) (fitting_nil at columns shifts))

  -- as many as the halves have ones
  many : length (codes_of way first word) ≡ ones low + ones high
  many = codes_length way first word (value_lt low high h) ∙ sym (value_ones low high h)

  pub put_no_room : (leb (at + (ones low + ones high)) (length columns) && leb (at + (ones low + ones high)) (length shifts)) ≡ false
      → Puts way j (fitting (word_codes way first word) at columns shifts) at columns shifts at columns shifts
  put_no_room e =
      puts_nil at columns shifts way j _
      (fitting_cond at columns shifts (codes_of way first word) (leb first.0 127) (fitting_none at columns shifts (codes_of way first word) (rw many e)))

  -- what the lower half marks is written, and behind it what the upper marks
  pub put_all : first.0 ≤ 127 → Room (ones low + ones high) at (length columns) (length shifts) → (code : ℕ) → code ≡ low_code way first
      → (middle : ℕ) (columns₁ : List ℕ) (shifts₁ : List ℤ) → Puts way j (marks 64 code low) at columns shifts middle columns₁ shifts₁
      → (at' : ℕ) (columns' : List ℕ) (shifts' : List ℤ) → Puts way j (marks 64 (code + 64) high) middle columns₁ shifts₁ at' columns' shifts'
      → Puts way j (fitting (word_codes way first word) at columns shifts) at columns shifts at' columns' shifts'
  put_all f r code e middle columns₁ shifts₁ s at' columns' shifts' t =
      rw (
        word_codes_lem way first word f,
        fitting_all at columns shifts (codes_of way first word) (omega (arith, many, r.in_columns)) (omega (arith, many, r.in_shifts)),
        marks_value low high h (low_code way first),
        ← e,
      )
      (puts_both way j (marks 64 code low) (marks 64 (code + 64) high) at columns shifts middle columns₁ shifts₁ s at' columns' shifts' t)
