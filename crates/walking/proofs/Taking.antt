-- What the loops of a walk keep: of the page over the starts `whole`, written from the place `found` on, `out` was found so far and the
-- starts `rest` are left. Laws: start; few (the looks of a part are among those of the whole); part (a part of the rest is tried); over.
-- What is tried from the first place on is a walk. Assumes nothing.
use mathlib.Core.Path.{◌≡◌, refl, sym, ap, ◌∙◌}
use mathlib.Core.List.{List, [], ◌++◌, map-append}
use Prim.Native.Nat.{ℕ, ◌+◌, ◌-◌, ◌≤◌}
use native.Mathlib.Omega.{arith}
use lib.IntN.{ℤ, pos}
use lib.ListN.{length, length-append, length-map}
use lib.Seq.{sets, length-sets}
use Rattle.theory.specs.Pages.{page_hits, page_looks}
use Rattle.theory.proofs.Lists.{sets_append, over_sets}
use Rattle.theory.proofs.Going.{Going, Made, page_le, looks_append, going_start, going_part, going_full, going_end}
use Rattle.ways.specs.declared.way.Way.{Way}
use Rattle.ways.specs.Way.{shift_of}
use Rattle.walking.specs.Starts.{Place, hit, looks}
use Rattle.walking.specs.Found.{columns_of, shifts_of}
use Rattle.walking.specs.Walk.{Tries, Walks}

pub record Taking (way : Way) (score : List (List ℕ)) (theme : List ℕ) (whole : List Place) (found : ℕ) (columns₀ : List ℕ) (shifts₀ : List ℤ)
    (columns : List ℕ) (shifts : List ℤ) (rest : List Place) (at spent : ℕ) : Type 0 where
  pub out : List Place
  pub going : Going (hit way score theme) (looks way score theme) (length columns₀ - found) whole out spent (length columns₀ - at) rest
  pub counted : at ≡ found + length out
  pub in_columns : columns ≡ sets columns₀ found (columns_of out)
  pub in_shifts : shifts ≡ sets shifts₀ found (shifts_of way out)
  pub long : length columns ≡ length columns₀
  pub long_shifts : length shifts ≡ length columns₀
  pub room : at ≤ length columns₀

module _ (way : Way) (score : List (List ℕ)) (theme : List ℕ) (whole : List Place) (found : ℕ) (columns₀ : List ℕ) (shifts₀ : List ℤ) where
  pub take_start : found ≤ length columns₀ → length shifts₀ ≡ length columns₀
      → Taking way score theme whole found columns₀ shifts₀ columns₀ shifts₀ whole found 0
  take_start a b =
      record {
        out = [];
        going = going_start _ _ _ _;
        counted = omega arith;
        in_columns = refl;
        in_shifts = refl;
        long = refl;
        long_shifts = b;
        room = a;
      }

  module _ (columns : List ℕ) (shifts : List ℤ) (at spent : ℕ) where
    module _ (C T : List Place) (t : Taking way score theme whole found columns₀ shifts₀ columns shifts (C ++ T) at spent) where
      pub take_few : spent + page_looks (hit way score theme) (looks way score theme) (length columns - at) C
          ≤ page_looks (hit way score theme) (looks way score theme) (length columns₀ - found) whole
      take_few = rw t.long (omega (arith, t.going.paid, looks_append (hit way score theme) (looks way score theme) (length columns₀ - at) C T))

      pub take_part : (at' costs : ℕ) (columns' : List ℕ) (shifts' : List ℤ) → Tries way score theme C at columns shifts at' costs columns' shifts'
          → Taking way score theme whole found columns₀ shifts₀ columns' shifts' T at' (spent + costs)
      take_part at' costs columns' shifts' tries =
          let tried : List Place = page_hits (hit way score theme) (length columns₀ - at) C in
          let count : at' ≡ at + length tried = rw t.long at tries.count in
          let left : length columns₀ - at' ≡ length columns₀ - at - length tried = omega (arith, count) in
          let paid : costs ≡ page_looks (hit way score theme) (looks way score theme) (length columns₀ - at) C = rw t.long at tries.costs in
          let few = page_le (hit way score theme) (length columns₀ - at) C in
          record {
            out = t.out ++ tried;
            going = rw (left, paid) (going_part _ _ _ _ C T t.going);
            counted = omega (arith, length-append t.out tried, t.counted, count);
            in_columns =
                (rw t.long at tries.in_columns) ∙ rw (t.in_columns, map-append)
                (sets_append (columns_of t.out) columns₀ found at (columns_of tried) (t.counted ∙ ap (λ (i : ℕ). found + i) (sym (length-map t.out _))));
            in_shifts =
                (rw t.long at tries.in_shifts) ∙ rw (t.in_shifts, map-append)
                (sets_append (shifts_of way t.out) shifts₀ found at (shifts_of way tried)
                (t.counted ∙ ap (λ (i : ℕ). found + i) (sym (length-map t.out _))));
            long = (simp length-sets at (ap length tries.in_columns)) ∙ t.long;
            long_shifts = (simp length-sets at (ap length tries.in_shifts)) ∙ t.long_shifts;
            room = omega (arith, count, few, t.room);
          }

    module _ (rest : List Place) (t : Taking way score theme whole found columns₀ shifts₀ columns shifts rest at spent) where
      done : Made (hit way score theme) (looks way score theme) (length columns₀ - found) whole t.out spent
          → Tries way score theme whole found columns₀ shifts₀ at spent columns shifts
      done g =
          record { count = rw g.got t.counted; costs = sym g.paid; in_columns = rw g.got t.in_columns; in_shifts = rw g.got t.in_shifts }

      -- no start is left, or no room
      pub take_end : rest ≡ [] → Tries way score theme whole found columns₀ shifts₀ at spent columns shifts
      take_end e = done (going_end _ _ _ _ (rw e at t.going))

      pub take_full : length columns ≤ at → Tries way score theme whole found columns₀ shifts₀ at spent columns shifts
      take_full h =
          let z : length columns₀ - at ≡ 0 = omega (arith, t.long) in
          done (going_full _ _ _ _ (rw z at t.going))

-- what is tried from the first place on is a walk
pub tries_walks : (way : Way) (score : List (List ℕ)) (theme : List ℕ) (whole : List Place) (columns : List ℕ) (shifts : List ℤ) (found spent : ℕ)
    (columns' : List ℕ) (shifts' : List ℤ)
    → length shifts ≡ length columns → Tries way score theme whole 0 columns shifts found spent columns' shifts'
    → Walks way score theme whole columns shifts found spent columns' shifts'
tries_walks way score theme whole columns shifts found spent columns' shifts' same t =
    let z : length columns - 0 ≡ length columns = omega arith in
    let tried : List Place = page_hits (hit way score theme) (length columns) whole in
    let few = page_le (hit way score theme) (length columns) whole in
    record {
      count = (rw z at t.count) ∙ omega arith;
      costs = rw z at t.costs;
      in_columns = (rw z at t.in_columns) ∙ over_sets columns [] 0 (columns_of tried) 0 refl (omega (arith, length-map tried (λ s. s.column), few));
      in_shifts =
          (rw z at t.in_shifts) ∙ over_sets shifts [] (pos 0) (shifts_of way tried) 0 refl
          (omega (arith, same, length-map tried (λ s. shift_of way s.code), few));
    }
