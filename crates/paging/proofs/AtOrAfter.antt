-- From a bookmark on: a pair stands at or after a bookmark exactly where it does not come before it in the order of pairs
-- (`after_iff`). So what a page goes through from a bookmark on is exactly the starts of the search whose pairs do not come
-- before it (`left_exactly`), in order (`left_ordered`). Assumes nothing.
use mathlib.Core.Path.{◌≡◌, refl, sym, ◌∙◌, subst}
use mathlib.Core.Bool.{Bool, true, false, not, ◌&&◌, ◌||◌, true≢false}
use mathlib.Core.Logic.{inl, inr, ◌↔◌, ⊎_elim}
use mathlib.Core.List.{map, Memᴰ as In}
use Prim.Native.Nat.{◌<◌}
use native.Mathlib.Nat.{eq-or-lt_of_le}
use native.Mathlib.Omega.{arith}
use lib.Dec.{T, ltb, eqb}
use lib.Signed.{le_z, lt_z, ◌<ℤ◌, le_z_yes, lt_z_yes, clash_ℤ}
use borrow.Author.Tests.{ltb-true, ltb-false, eqb-true, eqb-false}
use Rattle.theory.proofs.Integers.{not_le_z}
use Rattle.theory.proofs.Members.{in_hits, hits_in}
use Rattle.ways.specs.declared.bookmark.Pair.{Pair}
use Rattle.ways.specs.declared.bookmark.Bookmark.{Bookmark}
use Rattle.paging.specs.Order.{Before, Ordered, marked_pair, at_or_after}
use Rattle.paging.specs.Search.{Search, left}
use Rattle.paging.proofs.Orders.{ordered_hits}

module _ (b : Bookmark) (pair : Pair) where
  -- of shifts
  shift_clash : le_z b.shift pair.shift ≡ true → pair.shift <ℤ b.shift → ⊥
  shift_clash e l = clash_ℤ l (le_z_yes (subst T (sym e) tt))

  shift_less : le_z b.shift pair.shift ≡ false → pair.shift <ℤ b.shift
  shift_less e = lt_z_yes (step (lt_z pair.shift b.shift) (sym (not_le_z b.shift pair.shift) ∙ e))
    where
      step : (t : Bool) → not t ≡ false → T t
      step true p = tt
      step false p = absurd (true≢false p)

  pub after_iff : (at_or_after b pair ≡ true) ↔ (Before pair (marked_pair b) → ⊥)
  after_iff = (
    there (ltb b.column.0 pair.column.0) (eqb b.column.0 pair.column.0) refl refl,
    back (ltb b.column.0 pair.column.0) (eqb b.column.0 pair.column.0) (le_z b.shift pair.shift) refl refl
        refl,
  )
    where
      there : (t u : Bool) → ltb b.column.0 pair.column.0 ≡ t → eqb b.column.0 pair.column.0 ≡ u
          → (t || u && le_z b.shift pair.shift) ≡ true → Before pair (marked_pair b) → ⊥
      there true u p q e (inl l) = omega (arith, ltb-true b.column.0 pair.column.0 p)
      there true u p q e (inr l) = omega (arith, ltb-true b.column.0 pair.column.0 p, l.0)
      there false true p q e (inl l) = omega (arith, eqb-true b.column.0 pair.column.0 q)
      there false true p q e (inr l) = shift_clash e l.1
      there false false p q e l = true≢false (sym e)

      back : (t u v : Bool) → ltb b.column.0 pair.column.0 ≡ t → eqb b.column.0 pair.column.0 ≡ u
          → le_z b.shift pair.shift ≡ v
          → (Before pair (marked_pair b) → ⊥) → (t || u && v) ≡ true
      back true u v p q r f = refl
      back false true true p q r f = refl
      back false true false p q r f = absurd (f (inr (sym (eqb-true b.column.0 pair.column.0 q), shift_less r)))
      back false false v p q r f =
          ⊎_elim (λ (e : pair.column.0 ≡ b.column.0). absurd (eqb-false b.column.0 pair.column.0 q (sym e)))
          (λ (l : pair.column.0 < b.column.0). absurd (f (inl l)))
          (eq-or-lt_of_le (ltb-false b.column.0 pair.column.0 p))

-- ---- the starts that a page goes through

module _ {Start : Type 0} (S : Search Start) (b : Bookmark) where
  pub left_exactly : (s : Start) → In s (left S b) ↔ (In s S.starts × (Before (S.shown s) (marked_pair b) → ⊥))
  left_exactly s = (
    λ m. let d = in_hits (λ s. at_or_after b (S.shown s)) S.starts m in (d.0, (after_iff b (S.shown s)).0 d.1),
    λ m. hits_in (λ s. at_or_after b (S.shown s)) S.starts m.0 ((after_iff b (S.shown s)).1 m.1),
  )

  pub left_ordered : Ordered (map S.shown S.starts) → Ordered (map S.shown (left S b))
  left_ordered o = ordered_hits (λ s. at_or_after b (S.shown s)) S.shown S.starts o
