-- The search of the tune as it is written is a right search: its columns show pairs in order, each of the score and with shift
-- 0. And where a column is listed, each note is a pitch of its column (`listed_each`, `each_listed`). Assumes nothing.
use mathlib.Core.Path.{◌≡◌, refl, sym, ap, subst}
use mathlib.Core.Logic.{inl}
use mathlib.Core.List.Memᴰ
use mathlib.Core.List.{List, map, Memᴰ as In}
use Prim.Native.Nat.{ℕ, zero, suc, ◌+◌, ◌-◌, ◌≤◌, ◌<◌}
use native.Mathlib.Omega.{arith}
use lib.IntN.{pos}
use lib.ListN.{length}
use lib.Signed.{le_z_yes}
use Rattle.theory.specs.Lists.{count}
use Rattle.theory.specs.Pages.{hits}
use Rattle.theory.proofs.Members.{in_count, count_in, in_hits, hits_in}
use Rattle.score.specs.Score.{column_at, columns_from}
use Rattle.ways.specs.declared.bookmark.Pair.{Pair}
use Rattle.paging.specs.Order.{Ordered, none, one, more}
use Rattle.paging.specs.Search.{Right, listed}
use Rattle.paging.proofs.Orders.{ordered_hits}
use Rattle.written.specs.Written.{stands_at, written_search}
use Rattle.written.proofs.Standing.{Each, stands_each, each_stands}

-- a column as a pair
abbrev pub as_pair : ℕ → Pair
as_pair j = record { column = column_at j; shift = pos 0 }

pub count_ordered : (a n : ℕ) → Ordered (map as_pair (count a n))
count_ordered a zero = none
count_ordered a (suc zero) = one
count_ordered a (suc (suc n)) = let l : a < suc a = omega arith in more (inl l) (count_ordered (suc a) (suc n))

module _ (score : List (List ℕ)) (theme : List ℕ) where
  pub written_right : 2 ≤ length theme → length score < 65535 → Right (written_search score theme)
  written_right notes few =
      record {
        ordered = count_ordered 1 (length score + 1 - length theme);
        each = λ j m. let t = in_count 1 (length score + 1 - length theme) m in
            record { from_first = t.0; to_last = omega (arith, t.1); not_below = le_z_yes tt; not_above = le_z_yes tt };
        narrow = record { not_below = le_z_yes tt; some = le_z_yes tt; not_above = le_z_yes tt };
        few = few;
      }

  -- ---- what is listed

  pub written_ordered : Ordered (listed (written_search score theme))
  written_ordered =
      ordered_hits (stands_at score theme) as_pair (count 1 (length score + 1 - length theme)) (count_ordered 1 (length score + 1 - length theme))

  -- a column from which on the theme has room, and in which, and behind it, each note is a pitch
  pub record Sounding (pair : Pair) : Type 0 where
    pub from_first : 1 ≤ pair.column.0
    pub to_last : pair.column.0 + length theme ≤ length score + 1
    pub untouched : pair.shift ≡ pos 0
    pub each : Each theme (columns_from score pair.column)

  pub listed_each : {pair : Pair} → In pair (listed (written_search score theme)) → Sounding pair
  listed_each {pair} m =
      let f = Memᴰ.of_map as_pair (hits (stands_at score theme) (count 1 (length score + 1 - length theme))) m in
      let g = in_hits (stands_at score theme) (count 1 (length score + 1 - length theme)) f.1 in
      let t = in_count 1 (length score + 1 - length theme) g.0 in
      subst Sounding f.2 (record { from_first = t.0; to_last = omega (arith, t.1); untouched = refl; each = stands_each score theme f.0 g.1 })

  pub each_listed : {pair : Pair} → 1 ≤ length theme → Sounding pair → In pair (listed (written_search score theme))
  each_listed {pair} some s =
      let j = pair.column.0 in
      let e : as_pair j ≡ pair = ap {B = Pair} (λ c. record { column = pair.column; shift = c }) (sym s.untouched) in
      Memᴰ.cast (sym e)
      (Memᴰ.map as_pair
      (hits_in (stands_at score theme) (count 1 (length score + 1 - length theme))
      (count_in 1 (length score + 1 - length theme) j s.from_first (omega (arith, s.to_last))) (each_stands score theme j s.each)))
