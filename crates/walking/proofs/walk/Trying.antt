-- What the loop along a list of columns keeps: of the starts of the listed columns those before column i are tried. Laws: start; stands (what
-- trying column i asks for); bound, turn (it is tried); end, full. Assumes nothing.
use mathlib.Core.Path.{◌≡◌, sym, ap, ◌∙◌}
use mathlib.Core.Bool.{Bool, true, false, cond}
use mathlib.Core.List.{List, [], ◌∷◌, ◌++◌}
use Prim.Native.Nat.{ℕ, zero, suc, ◌+◌, ◌-◌, ◌≤◌, ◌<◌, zero-le}
use native.Mathlib.Omega.{arith}
use lib.Dec.{eqb}
use lib.IntN.{ℤ}
use lib.ListN.{length, get_or, drop}
use lib.Seq.{drop-cons, drop-nil}
use Rattle.theory.specs.Pages.{page_looks}
use Rattle.score.specs.Score.{column_at}
use Rattle.ways.specs.declared.way.Way.{Way}
use Rattle.ways.specs.Way.{span}
use Rattle.walking.specs.declared.walked.Spot.{Spot}
use Rattle.walking.specs.Starts.{Place, hit, looks}
use Rattle.walking.specs.Walk.{Fits, column_starts, at_column, list_starts, Stands, Tries}
use Rattle.walking.proofs.Taking.{Taking, take_start, take_few, take_part, take_end, take_full}

drop_none : {A : Type 0} (n : ℕ) (l : List A) → length l ≤ n → drop n l ≡ []
drop_none n [] h = drop-nil n
drop_none zero (x ∷ l) h = absurd (omega arith)
drop_none (suc n) (x ∷ l) h = drop_none n l (omega arith)

-- of the starts of the listed columns those before column i are tried
pub record Trying (way : Way) (score : List (List ℕ)) (theme : List ℕ) (spot : Spot) (list : List ℕ) (columns₀ : List ℕ) (shifts₀ : List ℤ)
    (columns : List ℕ) (shifts : List ℤ) (at spent i : ℕ) : Type 0 where
  pub taking : Taking way score theme (list_starts way score theme spot.column.0 spot.code list) spot.found columns₀ shifts₀
      columns shifts (list_starts way score theme spot.column.0 spot.code (drop i list)) at spent

pub along_start : (way : Way) (score : List (List ℕ)) (theme : List ℕ) (spot : Spot) (list : List ℕ) (columns : List ℕ) (shifts : List ℤ)
    → spot.found ≤ length columns → length shifts ≡ length columns → Trying way score theme spot list columns shifts columns shifts spot.found 0 0
along_start way score theme spot list columns shifts a b = record { taking = take_start _ _ _ _ _ _ _ a b }

module _ (way : Way) (score : List (List ℕ)) (theme : List ℕ) (spot : Spot) (list : List ℕ) (columns₀ : List ℕ) (shifts₀ : List ℤ)
    (columns : List ℕ) (shifts : List ℤ) (at spent i : ℕ) where
  abbrev all : List Place
  all = list_starts way score theme spot.column.0 spot.code list

  abbrev left : ℕ → List Place
  left k = list_starts way score theme spot.column.0 spot.code (drop k list)

  module _ (r : Trying way score theme spot list columns₀ shifts₀ columns shifts at spent i) where
    t : Taking way score theme all spot.found columns₀ shifts₀ columns shifts (left i) at spent
    t = r.taking

    -- what trying the column asks for
    pub along_stands : (n m : ℕ) → Fits n m (get_or list i 0) → spot.code ≤ span way → (next : Spot) → next ≡ at_column spot (column_at (get_or list i 0)) at
        → Stands way n m next columns shifts
    along_stands n m fits low next e =
        rw e
        record {
          fits = fits;
          low = below (eqb spot.column.0 (get_or list i 0));
          room = omega (arith, t.room, t.long);
          same_room = t.long_shifts
              ∙ sym t.long;
        }
      where
        below : (b : Bool) → cond b spot.code 0 ≤ span way
        below true = low
        below false = zero-le

    -- no column is left, or no room
    pub along_end : length list ≤ i → Tries way score theme all spot.found columns₀ shifts₀ at spent columns shifts
    along_end h = take_end _ _ _ _ _ _ _ _ _ _ _ _ t (ap (list_starts way score theme spot.column.0 spot.code) (drop_none i list h))

    pub along_full : length columns ≤ at → Tries way score theme all spot.found columns₀ shifts₀ at spent columns shifts
    along_full = take_full _ _ _ _ _ _ _ _ _ _ _ _ t

    module _ (q : i < length list) (next : Spot) (e : next ≡ at_column spot (column_at (get_or list i 0)) at) where
      -- the column's starts and those of the columns behind it
      parts : left i ≡ column_starts way score theme next.column.0 next.code ++ left (i + 1)
      parts = let z : suc i ≡ i + 1 = omega arith in rw (e, ← z) (ap (list_starts way score theme spot.column.0 spot.code) (drop-cons list i 0 q))

      ready : Taking way score theme all spot.found columns₀ shifts₀ columns shifts
          (column_starts way score theme next.column.0 next.code ++ left (i + 1)) at spent
      ready = rw parts at t

      module _ (at' costs : ℕ) (columns' : List ℕ) (shifts' : List ℤ)
          (tries : Tries way score theme (column_starts way score theme next.column.0 next.code)
          next.found columns shifts at' costs columns' shifts') where
        here : Tries way score theme (column_starts way score theme next.column.0 next.code) at columns shifts at' costs columns' shifts'
        here = let z : next.found ≡ at = ap (λ (s : Spot). s.found) e in rw z at tries

        pub along_bound : (most : ℕ) → page_looks (hit way score theme) (looks way score theme) (length columns₀ - spot.found) all < most → spent + costs < most
        along_bound most few =
            omega (arith, take_few _ _ _ _ _ _ _ _ _ _ _ (column_starts way score theme next.column.0 next.code) (left (i + 1)) ready, here.costs)

        pub along_turn : Trying way score theme spot list columns₀ shifts₀ columns' shifts' at' (spent + costs) (i + 1)
        along_turn =
            record {
              taking =
                  take_part _ _ _ _ _ _ _ _ _ _ _ (column_starts way score theme next.column.0 next.code)
                  (left (i + 1)) ready at' costs columns' shifts' here;
            }
