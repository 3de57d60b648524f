-- One start: what is no hit, a code above 255 and a hit without room are not written, and any other hit is. Assumes nothing.
use mathlib.Core.Path.{◌≡◌}
use mathlib.Core.Bool.{Bool, true, false, ◌&&◌, and-false}
use mathlib.Core.List.{List, [], ◌∷◌}
use Prim.Native.Nat.{ℕ, ◌+◌, ◌≤◌, ◌<◌}
use native.Mathlib.Omega.{arith}
use lib.Dec.{leb}
use lib.IntN.{ℤ}
use lib.ListN.{length, set}
use borrow.Author.Tests.{le-leb, lt-leb}
use Rattle.ways.specs.declared.way.Way.{Way}
use Rattle.ways.specs.Way.{shift_of}
use Rattle.hits.specs.Writing.{start_codes, fitting, Puts}
use Rattle.hits.proofs.Fitting.{fitting_nil, fitting_all, fitting_none, fitting_cond, puts_nil}

module _ (way : Way) (j at : ℕ) (columns : List ℕ) (shifts : List ℤ) (code : ℕ) (hit : Bool) where
  pub keep_miss : hit ≡ false → Puts way j (fitting (start_codes hit code) at columns shifts) at columns shifts at columns shifts
  keep_miss e = puts_nil at columns shifts way j _ (rw e (fitting_nil at columns shifts))

  pub keep_high : 255 < code → Puts way j (fitting (start_codes hit code) at columns shifts) at columns shifts at columns shifts
  keep_high h = puts_nil at columns shifts way j _ (rw (lt-leb code 255 h, and-false hit) (fitting_nil at columns shifts))

  no_room : (leb (at + 1) (length columns) && leb (at + 1) (length shifts)) ≡ false → Puts way j (fitting (start_codes hit code) at columns shifts) at columns shifts at columns shifts
  no_room e = puts_nil at columns shifts way j _ (fitting_cond at columns shifts (code ∷ []) (hit && leb code 255) (fitting_none at columns shifts (code ∷ []) e))

  pub keep_columns : length columns ≤ at → Puts way j (fitting (start_codes hit code) at columns shifts) at columns shifts at columns shifts
  keep_columns h = let l : length columns < at + 1 = omega arith in no_room (rw (lt-leb (at + 1) (length columns) l))

  pub keep_shifts : length shifts ≤ at → Puts way j (fitting (start_codes hit code) at columns shifts) at columns shifts at columns shifts
  keep_shifts h = let l : length shifts < at + 1 = omega arith in no_room (rw (lt-leb (at + 1) (length shifts) l, and-false (leb (at + 1) (length columns))))

  pub keep_hit : (c : ℤ) → c ≡ shift_of way code → hit ≡ true → code ≤ 255 → at < length columns → at < length shifts
      → Puts way j (fitting (start_codes hit code) at columns shifts) at columns shifts (at + 1) (set columns at j) (set shifts at c)
  keep_hit c d e small a b =
      let f : fitting (start_codes hit code) at columns shifts ≡ code ∷ [] =
      rw (e, le-leb code 255 small) (fitting_all at columns shifts (code ∷ []) (omega arith) (omega arith)) in
      record { count = rw f; in_columns = rw f; in_shifts = rw (f, d) }
