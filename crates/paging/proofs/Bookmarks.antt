-- The bookmarks that a page returns: each is in range, and the one after a pair has the next number. Over any range within -127 to 127.
-- Assumes nothing.
use mathlib.Core.Path.{◌≡◌, refl, sym, ap, ◌∙◌, subst}
use mathlib.Core.Bool.{Bool, true, false, not}
use mathlib.Core.Logic.{⊎_elim}
use Prim.Native.Nat.{ℕ, suc, ◌+◌, ◌<◌}
use native.Mathlib.Nat.{le_refl, eq-or-lt_of_le}
use native.Mathlib.Omega.{arith}
use lib.Dec.{T}
use lib.IntN.{ℤ, pos, negsuc, neg_ℤ, ◌+ℤ◌, ◌-ℤ◌, +ℤ_one, suc_ℤ-+ℤ}
use lib.Signed.{le_z, lt_z, ◌≤ℤ◌, ◌<ℤ◌, lt_z_yes, lt_z_no, ≤ℤ_refl, <ℤ-≤ℤ_trans, clash_ℤ}
use borrow.Author.Tests.{lt-ltb, le-ltb, eq-eqb}
use Rattle.theory.proofs.Integers.{leℤ_trans, one_more_le, le_one_more}
use Rattle.score.specs.Score.{column_at}
use Rattle.ways.specs.declared.way.Way.{Way}
use Rattle.ways.specs.declared.way.Way.TheVariants.{Exact, Octave}
use Rattle.ways.specs.declared.bookmark.Pair.{Pair}
use Rattle.ways.specs.declared.bookmark.Bookmark.{Bookmark}
use Rattle.ways.specs.Way.{Range, shift_of, code_of}
use Rattle.ways.specs.Bookmarks.{first_bookmark, after_pair, finished_bookmark, key_of}
use Rattle.ways.proofs.Shifts.{code_shift, shift_code}
use Rattle.asking.specs.Asking.{InRange}
use Rattle.paging.specs.Order.{Within, at_or_after}
use Rattle.paging.specs.Search.{Narrow}
use Rattle.paging.specs.OnePage.{raised}
use Rattle.paging.proofs.Keys.{Near, pair_key}

-- ---- the shift one higher

pub shift_next : (way : Way) (code : ℕ) → shift_of way code +ℤ pos 1 ≡ shift_of way (suc code)
shift_next Exact code = +ℤ_one (pos code -ℤ pos 127) ∙ sym (suc_ℤ-+ℤ (pos code) (neg_ℤ (pos 127)))
shift_next Octave code = +ℤ_one (pos code)

-- it is far below the highest number of 16 bits
near_fits : {pair : Pair} → Near pair → lt_z pair.shift (pos 32767) ≡ true
near_fits {pair} n = step (lt_z pair.shift (pos 32767)) refl
  where
    far : pos 127 <ℤ pos 32767
    far = lt_z_yes tt

    step : (t : Bool) → lt_z pair.shift (pos 32767) ≡ t → t ≡ true
    step true e = refl
    step false e = clash_ℤ (<ℤ-≤ℤ_trans far (lt_z_no {a = pair.shift} (subst (λ (b : Bool). T (not b)) (sym e) tt))) n.not_above

pub after_raised : {pair : Pair} → Near pair → after_pair pair ≡ raised pair
after_raised n = rw (near_fits n)

pub after_key : {pair : Pair} → Near pair → key_of Exact (after_pair pair) ≡ suc (pair_key pair)
after_key {pair} n =
    let e : shift_of Exact (code_of Exact pair.shift) ≡ pair.shift = shift_code Exact pair.shift n.not_below in
    let k : code_of Exact (pair.shift +ℤ pos 1) ≡ suc (code_of Exact pair.shift) =
    ap (λ (z : ℤ). code_of Exact (z +ℤ pos 1)) (sym e) ∙ ap (code_of Exact) (shift_next Exact (code_of Exact pair.shift))
    ∙ code_shift Exact (suc (code_of Exact pair.shift)) in
    ap (key_of Exact) (after_raised n) ∙ omega (arith, k)

-- ---- in range

module _ {range : Range} (narrow : Narrow range) where
  pub within_near : {n : ℕ} {pair : Pair} → Within range n pair → Near pair
  within_near {pair = pair} w =
      record {
        not_below = leℤ_trans (negsuc 126) range.lowest pair.shift narrow.not_below w.not_below;
        not_above = leℤ_trans pair.shift range.highest (pos 127) w.not_above narrow.not_above;
      }

  pub mark_below : {n : ℕ} {b : Bookmark} → InRange range n b → negsuc 126 ≤ℤ b.shift
  mark_below {b = b} i = leℤ_trans (negsuc 126) range.lowest b.shift narrow.not_below i.not_below

  pub mark_above : {n : ℕ} {b : Bookmark} → InRange range n b → b.shift ≤ℤ pos 128
  mark_above {b = b} i = leℤ_trans b.shift (range.highest +ℤ pos 1) (pos 128) i.not_above (one_more_le narrow.not_above)

  pub after_range : {n : ℕ} {pair : Pair} → Within range n pair → InRange range n (after_pair pair)
  after_range w =
      rw (after_raised (within_near w))
      (record {
        from_first = w.from_first;
        to_end = omega (arith, w.to_last);
        not_below = le_one_more w.not_below;
        not_above = one_more_le w.not_above;
      })

  pub first_range : (n : ℕ) → InRange range n (first_bookmark range)
  first_range n =
      record { from_first = le_refl 1; to_end = omega arith; not_below = ≤ℤ_refl range.lowest; not_above = le_one_more narrow.some }

  -- (n + 1, lowest shift)
  pub finished_range : (n : ℕ) → n < 65535 → InRange range n (finished_bookmark range (column_at n))
  finished_range n h =
      rw (lt-ltb n 65535 h)
      (record { from_first = omega arith; to_end = le_refl (n + 1); not_below = ≤ℤ_refl range.lowest; not_above = le_one_more narrow.some })

-- ---- every pair stands at or after the first bookmark

holds_true : (b : Bool) → T b → b ≡ true
holds_true true h = refl
holds_true false h = absurd h

pub after_first : {range : Range} {n : ℕ} {pair : Pair} → Within range n pair → at_or_after (first_bookmark range) pair ≡ true
after_first {range} {n} {pair} w =
    ⊎_elim
    (λ (q : 1 ≡ pair.column.0). rw (le-ltb 1 pair.column.0 (omega (arith, q)), eq-eqb 1 pair.column.0 q)
    (holds_true (le_z range.lowest pair.shift) w.not_below.le))
    (λ (q : 1 < pair.column.0). rw (lt-ltb 1 pair.column.0 q)) (eq-or-lt_of_le w.from_first)
