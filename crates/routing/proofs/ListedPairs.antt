-- A pair is listed exactly where it stands (`listed_stands`): what is computed of it is the published definition, for all ways.
-- The idea: the notes are held along the columns where each is held in its own (`held_along_lem`), and code and shift tell the same.
-- Assumes nothing.
use mathlib.Core.Path.{◌≡◌, refl, sym, ap, subst}
use mathlib.Core.Bool.{Bool, true, false, not, ◌&&◌, false≢true}
use mathlib.Core.Logic.{◌↔◌}
use mathlib.Core.List.{List, [], ◌∷◌}
use Prim.Native.Nat.{ℕ, zero, suc, ◌+◌, ◌-◌, ◌≤◌, ◌<◌, zero-le, suc-le-suc}
use native.Mathlib.Nat.{not-suc-le-zero, le_of_suc-le-suc}
use native.Mathlib.Omega.{arith}
use lib.Dec.{ltb, leb→le}
use lib.IntN.{ℤ, pos, negsuc}
use lib.Signed.{lt_z, ◌≤ℤ◌}
use lib.ListN.{length, get_or}
use borrow.Author.Tests.{lt-ltb, ltb-true, not-true}
use Rattle.theory.proofs.Either.{both_left, both_right}
use Rattle.score.specs.Score.{pitch, column, heard, onward, note}
use Rattle.ways.specs.declared.way.Way.{Way}
use Rattle.ways.specs.declared.way.Way.TheVariants.{Exact}
use Rattle.ways.specs.declared.way.AnyWay.{AnyWay}
use Rattle.ways.specs.declared.way.AnyWay.TheVariants.{Moved, Written}
use Rattle.ways.specs.declared.bookmark.Pair.{Pair}
use Rattle.ways.specs.Way.{Holds, code_of, holds}
use Rattle.ways.specs.Codes.{no_shift, outside}
use Rattle.ways.proofs.Coding.{neither, not_over_z, is_shift}
use Rattle.ways.proofs.Shifts.{shift_code}
use Rattle.ways.proofs.Holding.{holds_true, true_holds}
use Rattle.search.specs.Definition.{Stands, StandsAs}
use Rattle.routing.specs.Route.{way_as}
use Rattle.routing.specs.Routing.{held_along, is_listed_by, is_listed}

-- ---- two tests, and a test that fails

both : (a b : Bool) → a ≡ true → b ≡ true → (a && b) ≡ true
both a b p q = rw (p, q)

fails_not : (t : Bool) → t ≡ false → not t ≡ true
fails_not t e = rw e

-- ---- the notes along the columns

-- there is a column for each note, and it holds it
pub record HeldEach (way : Way) (code : ℕ) (theme : List ℕ) (columns : List (List ℕ)) : Type 0 where
  pub room : length theme ≤ length columns
  pub each : (i : ℕ) → i < length theme → holds way code (pitch (get_or theme i 0)) (get_or columns i []) ≡ true

module _ (way : Way) (code : ℕ) where
  along_each : (theme : List ℕ) (columns : List (List ℕ))
      → held_along way code theme columns ≡ true → HeldEach way code theme columns
  unfolding held_along
  along_each [] columns e = record { room = zero-le; each = λ i l. absurd (not-suc-le-zero l) }
  along_each (p ∷ theme) [] e = absurd (false≢true e)
  along_each (p ∷ theme) (c ∷ columns) e =
      let here = both_left (holds way code (pitch p) c) (held_along way code theme columns) e in
      let rest = along_each theme columns (both_right (holds way code (pitch p) c) (held_along way code theme columns) e) in
      record { room = suc-le-suc rest.room; each = λ i l. at here rest i l }
    where
      at : holds way code (pitch p) c ≡ true → HeldEach way code theme columns → (i : ℕ) → i < suc (length theme)
          → holds way code (pitch (get_or (p ∷ theme) i 0)) (get_or (c ∷ columns) i []) ≡ true
      at here rest zero l = here
      at here rest (suc i) l = rest.each i (le_of_suc-le-suc l)

  each_along : (theme : List ℕ) (columns : List (List ℕ))
      → HeldEach way code theme columns → held_along way code theme columns ≡ true
  unfolding held_along
  each_along [] columns h = refl
  each_along (p ∷ theme) [] h = absurd (not-suc-le-zero h.room)
  each_along (p ∷ theme) (c ∷ columns) h =
      both (holds way code (pitch p) c) (held_along way code theme columns) (h.each 0 (omega arith))
      (each_along theme columns (record { room = le_of_suc-le-suc h.room; each = λ i l. h.each (suc i) (suc-le-suc l) }))

  pub held_along_lem : (theme : List ℕ) (columns : List (List ℕ))
      → (held_along way code theme columns ≡ true) ↔ HeldEach way code theme columns
  held_along_lem theme columns = (along_each theme columns, each_along theme columns)

-- ---- a pair of a way that moves the theme

module _ (way : Way) (score : List (List ℕ)) (theme : List ℕ) (pair : Pair) where
  abbrev c : ℤ
  c = pair.shift

  abbrev code : ℕ
  code = code_of way c

  abbrev columns : List (List ℕ)
  columns = onward score pair.column

  abbrev shifted : Bool
  shifted = not (no_shift way c)

  abbrev counted : Bool
  counted = ltb 0 pair.column.0

  abbrev sounds : Bool
  sounds = heard (column score pair.column)

  -- what is asked before the notes: shift and column
  abbrev front : Bool
  front = shifted && (counted && sounds)

  pub by_along : is_listed_by way score theme pair ≡ true → held_along way code theme columns ≡ true
  by_along e = both_right front (held_along way code theme columns) e

  by_stands : is_listed_by way score theme pair ≡ true → Stands way score theme pair
  by_stands e =
      let f : front ≡ true = both_left front (held_along way code theme columns) e in
      let there : (counted && sounds) ≡ true = both_right shifted (counted && sounds) f in
      let r = (is_shift way c).0 (not-true (no_shift way c) (both_left shifted (counted && sounds) f)) in
      let h = (held_along_lem way code theme columns).0 (by_along e) in
      record {
        from_first = ltb-true 0 pair.column.0 (both_left counted sounds there);
        with_pitch = both_right counted sounds there;
        to_last = h.room;
        not_below = r.0;
        not_above = r.1;
        each_note = λ i low high. subst (Holds way (get_or columns (i - 1) []) (note theme i)) (shift_code way c r.0)
            (holds_true way code (note theme i) (get_or columns (i - 1) []) (h.each (i - 1) (omega arith)));
      }

  stands_by : Stands way score theme pair → is_listed_by way score theme pair ≡ true
  stands_by s =
      let moves : shifted ≡ true = fails_not (no_shift way c) ((is_shift way c).1 (s.not_below, s.not_above)) in
      let there : (counted && sounds) ≡ true = both counted sounds (lt-ltb 0 pair.column.0 s.from_first) s.with_pitch in
      both front (held_along way code theme columns) (both shifted (counted && sounds) moves there)
      ((held_along_lem way code theme columns).1 (record { room = s.to_last; each = each }))
    where
      each : (i : ℕ) → i < length theme → holds way code (pitch (get_or theme i 0)) (get_or columns i []) ≡ true
      each i l =
          let e : i + 1 - 1 ≡ i = omega arith in
          true_holds way code (pitch (get_or theme i 0)) (get_or columns i [])
          (subst (Holds way (get_or columns i []) (pitch (get_or theme i 0))) (sym (shift_code way c s.not_below))
          (rw e at (s.each_note (i + 1) (omega arith) (omega arith))))

  pub is_listed_by_lem : (is_listed_by way score theme pair ≡ true) ↔ Stands way score theme pair
  is_listed_by_lem = (by_stands, stands_by)

-- ---- of all ways

-- 0 alone is neither below nor above 0
zero_only : (z : ℤ) → pos 0 ≤ℤ z → z ≤ℤ pos 0 → z ≡ pos 0
zero_only (pos n) low high = let e : n ≡ 0 = omega (arith, leb→le n 0 high.le) in ap pos e
zero_only (negsuc n) low high = absurd low.le

is_zero : (z : ℤ) → (outside z (pos 0) (pos 0) ≡ false) ↔ (z ≡ pos 0)
is_zero z =
    let r = neither (lt_z z (pos 0)) (lt_z (pos 0) z) (not_over_z z (pos 0)) (not_over_z (pos 0) z) in
    (λ e. zero_only z (r.0 e).0 (r.0 e).1, λ e. rw e)

-- a listed pair is listed by the way in which its notes are held
pub is_listed_held : (way : AnyWay) (score : List (List ℕ)) (theme : List ℕ) (pair : Pair) → is_listed way score theme pair ≡ true
    → is_listed_by (way_as way) score theme pair ≡ true
is_listed_held (Moved way) score theme pair e = e
is_listed_held Written score theme pair e =
    both_right (not (outside pair.shift (pos 0) (pos 0))) (is_listed_by Exact score theme pair) e

pub is_listed_stands : (way : AnyWay) (score : List (List ℕ)) (theme : List ℕ) (pair : Pair)
    → (is_listed way score theme pair ≡ true) ↔ StandsAs way score theme pair
is_listed_stands (Moved way) score theme pair = is_listed_by_lem way score theme pair
is_listed_stands Written score theme pair =
    let off : Bool = outside pair.shift (pos 0) (pos 0) in
    let by : Bool = is_listed_by Exact score theme pair in
    let s = is_listed_by_lem Exact score theme pair in
    let z = is_zero pair.shift in (
      λ e. (s.0 (both_right (not off) by e), z.0 (not-true off (both_left (not off) by e))),
      λ h. both (not off) by (fails_not off (z.1 h.1)) (s.1 h.0),
    )
