-- One number orders the pairs: a column and a code as column * 256 + code. A place is at or after a bookmark by that number exactly where
-- its pair is, by column and then by shift (`key_order`); and of pairs whose shifts are -127 to 127 the earlier has the lower number
-- (`before_key`). The idea: shifts are ordered as their codes, and a code is below 256. Assumes nothing.
use mathlib.Core.Path.{◌≡◌, refl, sym, ap, ◌∙◌, subst}
use mathlib.Core.Bool.{Bool, true, false, not, ◌&&◌, ◌||◌}
use mathlib.Core.Logic.{⊎_elim, inl, inr}
use Prim.Native.Nat.{ℕ, ◌+◌, ◌*◌, ◌≤◌, ◌<◌}
use native.Mathlib.Nat.{eq-or-lt_of_le}
use native.Mathlib.Omega.{arith}
use lib.Dec.{T, leb, ltb, eqb, ltb→lt}
use lib.IntN.{ℤ, pos, negsuc, ◌+ℤ◌}
use lib.Signed.{le_z, lt_z, ◌≤ℤ◌, ◌<ℤ◌}
use borrow.Author.Tests.{le-leb, lt-leb, leb-true, leb-false, ltb-true, ltb-false, eqb-true, eqb-false}
use Rattle.theory.proofs.Integers.{not_leb, not_le_z}
use Rattle.score.specs.Score.{column_at}
use Rattle.ways.specs.declared.way.Way.{Way}
use Rattle.ways.specs.declared.way.Way.TheVariants.{Exact, Octave}
use Rattle.ways.specs.declared.bookmark.Pair.{Pair}
use Rattle.ways.specs.declared.bookmark.Bookmark.{Bookmark}
use Rattle.ways.specs.Way.{lowest, highest, span, shift_of, code_of}
use Rattle.ways.specs.Bookmarks.{key_of}
use Rattle.ways.proofs.Shifts.{shift_code, shift_rises, code_le, code_lt}
use Rattle.paging.specs.Order.{Before, at_or_after}

-- every code is below 256, and so is a bookmark's, which may be the span itself
pub span_lt : (way : Way) → span way < 256
span_lt Exact = omega arith
span_lt Octave = omega arith

-- ---- shifts are ordered as their codes

not_both : (a b : ℤ) → T (lt_z a b) → T (lt_z b a) → ⊥
not_both (pos a) (pos b) h k = let l : a < b = ltb→lt a b h in let m : b < a = ltb→lt b a k in omega arith
not_both (pos a) (negsuc b) h k = h
not_both (negsuc a) (pos b) h k = k
not_both (negsuc a) (negsuc b) h k = let l : b < a = ltb→lt b a h in let m : a < b = ltb→lt a b k in omega arith

shift_order : (way : Way) (x y : ℕ) → lt_z (shift_of way x) (shift_of way y) ≡ ltb x y
shift_order way x y = step (ltb x y) (lt_z (shift_of way x) (shift_of way y)) refl refl
  where
    step : (t u : Bool) → ltb x y ≡ t → lt_z (shift_of way x) (shift_of way y) ≡ u → u ≡ t
    step true true e f = refl
    step true false e f = absurd (subst T f (shift_rises way (ltb-true x y e)).lt)
    step false true e f =
        let h : T (lt_z (shift_of way x) (shift_of way y)) = subst T (sym f) tt in
        ⊎_elim
        (λ (q : y ≡ x). let k : T (lt_z (shift_of way x) (shift_of way x)) = rw q at h in absurd (not_both (shift_of way x) (shift_of way x) k k))
        (λ (q : y < x). absurd (not_both (shift_of way x) (shift_of way y) h (shift_rises way q).lt)) (eq-or-lt_of_le (ltb-false x y e))
    step false false e f = refl

code_order : (way : Way) (x y : ℕ) → le_z (shift_of way x) (shift_of way y) ≡ leb x y
code_order way x y = not_le_z (shift_of way x) (shift_of way y) ∙ ap not (shift_order way y x) ∙ sym (not_leb x y)

-- ---- a place and a bookmark

module _ (way : Way) (b : Bookmark) (low : lowest way ≤ℤ b.shift) (high : b.shift ≤ℤ (highest way +ℤ pos 1)) (j x : ℕ) (small : x < 256) where
  abbrev key : ℕ
  key = j * 256 + x

  mark_small : code_of way b.shift ≤ 255
  mark_small = omega (arith, code_le way b.shift low high, span_lt way)

  same_column : b.column.0 ≡ j → leb (key_of way b) key ≡ leb (code_of way b.shift) x
  same_column q = go (leb (code_of way b.shift) x) refl
    where
      go : (t : Bool) → leb (code_of way b.shift) x ≡ t → leb (key_of way b) key ≡ t
      go true e = le-leb (key_of way b) key (omega (arith, q, leb-true (code_of way b.shift) x e))
      go false e = lt-leb (key_of way b) key (omega (arith, q, leb-false (code_of way b.shift) x e))

  pub key_order : leb (key_of way b) (j * 256 + x) ≡ at_or_after b (record { column = column_at j; shift = shift_of way x })
  key_order = step (ltb b.column.0 j) (eqb b.column.0 j) refl refl
    where
      step : (t u : Bool) → ltb b.column.0 j ≡ t → eqb b.column.0 j ≡ u → leb (key_of way b) key ≡ (t || u && le_z b.shift (shift_of way x))
      step true u e g = le-leb (key_of way b) key (omega (arith, mark_small, ltb-true b.column.0 j e))
      step false true e g =
          let q : b.column.0 ≡ j = eqb-true b.column.0 j g in
          same_column q ∙ sym (code_order way (code_of way b.shift) x) ∙ ap (λ (z : ℤ). le_z z (shift_of way x)) (shift_code way b.shift low)
      step false false e g =
          let h : j ≤ b.column.0 = ltb-false b.column.0 j e in
          ⊎_elim (λ (q : j ≡ b.column.0). absurd (eqb-false b.column.0 j g (sym q)))
          (λ (q : j < b.column.0). lt-leb (key_of way b) key (omega (arith, small, q))) (eq-or-lt_of_le h)

-- ---- pairs whose shifts are those of the widest range, -127 to 127

abbrev pub pair_key : Pair → ℕ
pair_key pair = pair.column.0 * 256 + code_of Exact pair.shift

pub record Near (pair : Pair) : Type 0 where
  pub not_below : negsuc 126 ≤ℤ pair.shift
  pub not_above : pair.shift ≤ℤ pos 127

pub code_small : {pair : Pair} → Near pair → code_of Exact pair.shift < 255
code_small {pair} n = code_lt Exact pair.shift n.not_below n.not_above

pub pair_order : (b : Bookmark) → negsuc 126 ≤ℤ b.shift → b.shift ≤ℤ pos 128 → (pair : Pair) → Near pair → leb (key_of Exact b) (pair_key pair) ≡ at_or_after b pair
pair_order b low high pair n =
    key_order Exact b low high pair.column.0 (code_of Exact pair.shift) (omega (arith, code_small n))
    ∙ ap (λ (z : ℤ). at_or_after b (record { column = pair.column; shift = z })) (shift_code Exact pair.shift n.not_below)

pub before_key : (p q : Pair) → Near p → Near q → Before p q → pair_key p < pair_key q
before_key p q m n (inl e) = omega (arith, e, code_small m)
before_key p q m n (inr e) = omega (arith, e.0, codes)
  where
    codes : code_of Exact p.shift < code_of Exact q.shift
    codes =
        let s : shift_of Exact (code_of Exact p.shift) ≡ p.shift = shift_code Exact p.shift m.not_below in
        let t : shift_of Exact (code_of Exact q.shift) ≡ q.shift = shift_code Exact q.shift n.not_below in
        let e : ltb (code_of Exact p.shift) (code_of Exact q.shift) ≡ lt_z p.shift q.shift =
        sym (shift_order Exact (code_of Exact p.shift) (code_of Exact q.shift)) ∙ rw (s, t) in
        ltb→lt (code_of Exact p.shift) (code_of Exact q.shift) (subst T (sym e) q_after.lt)
      where
        q_after : p.shift <ℤ q.shift
        q_after = e.1
